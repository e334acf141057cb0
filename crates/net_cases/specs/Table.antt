-- The worked cases of every layer, as one table. A row says what a layer below the net answers, or what a new net answers to the calls that are
-- made on it. Assumes nothing.
use Rattle.std.specs.Prelude.{ℕ, List, [], ◌∷◌, ◌++◌, map, pos, negsuc}
use Rattle.space.specs.declared.spot.Spot.{Spot}
use Rattle.built_spaces.specs.contracts.plane.PlaneJoining.TheImpl as planeJoining
use Rattle.built_spaces.specs.contracts.plane.PlaneSpace.TheImpl as planeSpace
use Rattle.tree_laws.specs.declared.Row.{Row}
use Rattle.net_laws.specs.Geometry.{Geometry}
use Rattle.net_laws.specs.States.{fresh}
use Rattle.net_laws.specs.Spaces.{joining, wiring}
use Rattle.net_laws.specs.declared.call.Call.TheVariants.{Pin, Span, Straight}
use Rattle.net_laws.specs.declared.call.JoinCall.TheVariants.{Wire, Joined}
use Rattle.cases.specs.Table.{Fact as Below, Holds as HoldsBelow, table as below, at, corner, fork, lift_ghosts, origin, over_plane, plane, square, square_seed}
use Rattle.net_cases.specs.Calls.{Ending, CallsFollow, Step, answers, pins_from, refused, seed, seeded, step, tree}

-- What plane, and a lift of that price over plane, mean to a net.
abbrev pub on_plane : Geometry
on_plane = joining planeSpace.ghosts planeJoining.ghosts plane

abbrev pub on_lift : (price : ℕ) → Geometry
on_lift price = wiring lift_ghosts (over_plane price)

-- A row of the table.
pub data Fact : Type 0 where
  -- a space, the spanning seed or the walk answers so
  layer_answers : (fact : Below) → Fact
  -- a new net in that space, asked by these calls in this order, answers so to each, and this is left
  net_answers : (W : Geometry) (steps : List Step) (left : Ending) → Fact

abbrev pub Holds : Fact → Type 0
Holds (layer_answers fact) = HoldsBelow fact
Holds (net_answers W steps left) = CallsFollow W fresh steps left

abbrev pub row : (parent : ℕ) → Spot → (length : ℕ) → Row
row u z l = record { parent = u; spot = z; length = l }

-- Their straight trees, and the joined tree of the four.
abbrev pub corner_rows : List Row
corner_rows = row 0 origin 0 ∷ (row 2 (at (pos 5) (pos 5) (pos 0)) 5 ∷ (row 0 (at (pos 5) (pos 0) (pos 0)) 5 ∷ []))

abbrev pub fork_rows : List Row
fork_rows =
    row 0 origin 0 ∷ (row 0 (at (negsuc 5) (pos 0) (pos 0)) 6 ∷ (row 0 (at (pos 4) (pos 3) (pos 0)) 7 ∷ (row 0 (at (pos 5) (pos 1) (pos 0)) 6 ∷ [])))

abbrev pub fork_joined : List Row
fork_joined =
    row 0 origin 0
    ∷ (row 0 (at (negsuc 5) (pos 0) (pos 0)) 6
    ∷ (row 4 (at (pos 4) (pos 3) (pos 0)) 2
    ∷ (row 4 (at (pos 5) (pos 1) (pos 0)) 1
    ∷ (row 0 (at (pos 4) (pos 1) (pos 0)) 5
    ∷ []))))

-- The square's straight tree where no pin is a breakpoint, and where pin 3 is.
abbrev pub square_rows : List Row
square_rows =
    row 0 origin 0 ∷ (row 0 (at (pos 6) (pos 0) (pos 0)) 6 ∷ (row 1 (at (pos 6) (pos 6) (pos 0)) 6 ∷ (row 2 (at (pos 0) (pos 6) (pos 0)) 6 ∷ [])))

abbrev pub square_broken : List Row
square_broken =
    row 0 origin 0 ∷ (row 0 (at (pos 6) (pos 0) (pos 0)) 6 ∷ (row 1 (at (pos 6) (pos 6) (pos 0)) 6 ∷ (row 0 (at (pos 0) (pos 6) (pos 0)) 6 ∷ [])))

-- The rows about a net's calls.
abbrev pub nets : List Fact
nets =
    net_answers on_plane (seeded corner 0 1 (10 ∷ (5 ∷ [])) (step (Wire Straight) (answers 10) ∷ [])) (tree corner_rows)
    ∷ (net_answers on_plane (seeded fork 0 1 (6 ∷ (13 ∷ (3 ∷ []))) (step (Wire Straight) (answers 19) ∷ [])) (tree fork_rows)
    ∷ (net_answers on_plane (seeded fork 0 1 (6 ∷ (13 ∷ (3 ∷ []))) (step Joined (answers 14) ∷ [])) (tree fork_joined)
    ∷ (net_answers (on_lift 6400000) (step (Wire (Pin origin)) (answers 0) ∷ []) (seed [])
    ∷ (net_answers (on_lift 6400001) (step (Wire (Pin origin)) (refused 1) ∷ []) (seed [])
    ∷ (net_answers on_plane (seeded square 2 1 (6 ∷ (6 ∷ (6 ∷ []))) (step (Wire Straight) (answers 18) ∷ [])) (tree square_rows)
    ∷ (net_answers on_plane (seeded square 199 100 (6 ∷ (6 ∷ (6 ∷ []))) (step (Wire Straight) (answers 18) ∷ [])) (tree square_broken)
    ∷ (net_answers on_plane (pins_from 0 square ++ step (Wire Span) (answers 18) ∷ []) (seed square_seed)
    ∷ [])))))))

-- Every row: those of the layers below, then those about a net's calls.
abbrev pub table : List Fact
table = map layer_answers below ++ nets
