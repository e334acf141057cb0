-- Paths of different nodes along edges, and what makes edges a tree on the nodes below n. Assumes nothing.
use Rattle.std.specs.Prelude.{◌≡◌, ℕ, ◌<◌, List, [], ◌∷◌}
use Rattle.order.specs.Firsts.{Among}
use Rattle.forest.specs.declared.Edge.{Edge}
use Rattle.forest.specs.Edges.{Near}

-- The nodes of a way from u to v: it starts at u, ends at v, and goes along an edge from each node to the next.
pub data NodeWay (E : List Edge) : (u v : ℕ) → List ℕ → Type 0 where
  stay : {u : ℕ} → NodeWay E u u (u ∷ [])
  go : {u x v l : ℕ} {ns : List ℕ} → Near E u x l → NodeWay E x v ns → NodeWay E u v (u ∷ ns)

-- No node stands in the list twice.
abbrev pub Different : List ℕ → Type 0
Different [] = Unit {0}
Different (x ∷ xs) = (Among x xs → ⊥) × Different xs

-- A path from u to v: a way that comes to no node twice.
pub record NodePath (E : List Edge) (u v : ℕ) (ns : List ℕ) : Type 0 where
  pub way : NodeWay E u v ns
  pub different : Different ns

-- Between any two nodes below n there is one path and no other.
abbrev pub IsTree : (n : ℕ) → List Edge → Type 0
IsTree n E = (u v : ℕ) → u < n → v < n → (ns : List ℕ) × NodePath E u v ns × ((ms : List ℕ) → NodePath E u v ms → ms ≡ ns)
