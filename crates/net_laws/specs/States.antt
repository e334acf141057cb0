-- What a net holds, and what its calls make of it. Assumes nothing.
use Rattle.std.specs.Prelude.{ℕ, ◌+◌, List, [], ◌∷◌, ◌++◌, take, Some, None, Option}
use Rattle.forest.specs.declared.Edge.{Edge}
use Rattle.forest.specs.Edges.{edge}
use Rattle.space.specs.declared.spot.Spot.{Spot}
use Rattle.tree_laws.specs.declared.Row.{Row}

-- The spots of the nodes, pins first and then Steiner points; how many of them are pins; the allowance p/q, if one is set; the edges of
-- the seed; and the rows of the tree, if one stands.
pub record State : Type 0 where
  pub spots : List Spot
  pub pins : ℕ
  pub allowance : Option (ℕ × ℕ)
  pub edges : List Edge
  pub tree : Option (List Row)

-- A new net.
abbrev pub fresh : State
fresh = record { spots = []; pins = 0; allowance = None; edges = []; tree = None }

-- Without Steiner points, edges and tree.
abbrev pub unseeded : State → State
unseeded n = record { spots = take n.pins n.spots; pins = n.pins; allowance = n.allowance; edges = []; tree = None }

abbrev pub with_pin : State → Spot → State
with_pin n z = record { spots = take n.pins n.spots ++ z ∷ []; pins = n.pins + 1; allowance = n.allowance; edges = []; tree = None }

abbrev pub with_allowance : State → (p q : ℕ) → State
with_allowance n p q = record { spots = n.spots; pins = n.pins; allowance = Some (p, q); edges = n.edges; tree = None }

abbrev pub with_point : State → Spot → State
with_point n z = record { spots = n.spots ++ z ∷ []; pins = n.pins; allowance = n.allowance; edges = n.edges; tree = None }

abbrev pub with_edge : State → (a b l : ℕ) → State
with_edge n a b l = record { spots = n.spots; pins = n.pins; allowance = n.allowance; edges = n.edges ++ edge a b l ∷ []; tree = None }

-- With the edges E in place of Steiner points and edges.
abbrev pub with_seed : State → List Edge → State
with_seed n E = record { spots = take n.pins n.spots; pins = n.pins; allowance = n.allowance; edges = E; tree = None }

abbrev pub with_tree : State → List Row → State
with_tree n rows = record { spots = n.spots; pins = n.pins; allowance = n.allowance; edges = n.edges; tree = Some rows }
