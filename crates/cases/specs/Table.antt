-- The worked cases, as one table. Each row says what a call of the engine answers; the answers are read from the
-- meaning of the spaces as they are implemented, which is what their calls are proved to answer. Assumes nothing.
use Rattle.std.specs.Prelude.{◌≡◌, ℕ, zero, suc, ◌-◌, ◌<◌, Bool, true, false, ◌&&◌, List, [], ◌∷◌, ◌++◌, length, ℤ, pos, negsuc, Some, Ok, Option, Result, nat_le, slice_index_or}
use Rattle.forest.specs.Edges.{Sound, edge}
use Rattle.forest.specs.Growth.{Grows}
use Rattle.forest.specs.Rooted.{Forest}
use Rattle.forest.specs.declared.Edge.{Edge}
use Rattle.seed.specs.declared.store.SeedFault.{SeedFault}
use Rattle.seed.specs.declared.store.Seed.{Seed}
use Rattle.space.specs.Laws.{answered}
use Rattle.space.specs.declared.TheConstants.{LONGEST}
use Rattle.space.specs.declared.Space.{Ghosts}
use Rattle.built_spaces.specs.declared.air.Air.{Air}
use Rattle.built_spaces.specs.declared.lift.Lift.{Lift}
use Rattle.built_spaces.specs.declared.plane.Plane.{Plane}
use Rattle.space.specs.declared.spot.Spot.{Spot}
use Rattle.built_spaces.specs.contracts.air.AirSpace.TheImpl as airSpace
use Rattle.built_spaces.specs.contracts.lift.LiftSpace.TheImpl as liftSpace
use Rattle.built_spaces.specs.contracts.plane.Plane as planeType
use Rattle.built_spaces.specs.contracts.plane.PlaneJoining.TheImpl as planeJoining
use Rattle.built_spaces.specs.contracts.plane.PlaneSpace.TheImpl as planeSpace
use Rattle.span.specs.Grown.{Grown}
use Rattle.span.specs.Lengths.{Pinned, pin_distance}
use Rattle.span_laws.specs.Spanning.{SpanningSeed}
use Rattle.walk.specs.Walked.{Walked}
use Rattle.walk_laws.specs.Walk.{Mark, Rules, Marks, blank, home, hung, start, walk}

abbrev pub plane : Plane
plane = record {}

abbrev pub air : Air
air = record {}

abbrev pub over_plane : ℕ → Lift Plane
over_plane price = record { below = plane; price = price }

abbrev pub lift_ghosts : Ghosts (Lift Plane)
lift_ghosts = liftSpace.ghosts planeType.the_row planeSpace.ghosts planeSpace.dict

abbrev pub at : ℤ → ℤ → ℤ → Spot
at x y level = record { x = x; y = y; level = level }

-- What the distance call answers.
abbrev pub distance : {X : Type 0} → Ghosts X → X → Spot → Spot → Option ℕ
distance G s a b = answered (G.admitted s a && G.admitted s b) (G.between s a b)

-- What plane's meet call answers.
abbrev pub plane_meet : Spot → Spot → Spot → Option Spot
plane_meet o a b =
    answered ((planeSpace.ghosts).admitted plane o && (planeSpace.ghosts).admitted plane a && (planeSpace.ghosts).admitted plane b) ((planeJoining.ghosts).meeting plane o a b)

-- A row of the table.
pub data Fact : Type 0 where
  -- seen from o, plane's meet of a and b is z
  plane_meets : (o a b z : Spot) → Fact
  -- in the air, a and b are d apart
  air_measures : (a b : Spot) (d : ℕ) → Fact
  -- under a lift of that price over plane, a and b are d apart
  lift_measures : (price : ℕ) (a b : Spot) (d : ℕ) → Fact
  -- whether a lift of that price over plane is at most 100,000,000 wide
  lift_fits : (price : ℕ) (answer : Bool) → Fact
  -- on plane, the spanning seed of the pins takes these edges in this order, and its wire is w
  plane_spans : (pins : List Spot) (edges : List Edge) (w : ℕ) → Fact
  -- on plane, with a seed that joins each pin with the next and the allowance p/q, the walk leaves these marks at the pins
  plane_walks : (pins : List Spot) (p q : ℕ) (marks : List Mark) → Fact

-- The pins are such as a net can have, the edges are their spanning seed, and whatever seed it had before, the call for the spanning
-- seed answers the wire w and leaves these edges.
pub record PlaneSpans (pins : List Spot) (edges : List Edge) (w : ℕ) : Type 0 where
  pub pinned : Pinned planeSpace.ghosts plane pins
  pub spans : SpanningSeed (length pins) (pin_distance planeSpace.ghosts plane pins) edges
  pub call : (t₀ t : Seed) (r : Result ℕ SeedFault) → Grown planeSpace.ghosts plane pins t₀ r t → (r ≡ Ok w) × (t.edges ≡ edges)

-- The edges 0-1, 1-2, .. up to the node k, with d as the length of an edge.
abbrev pub chain : (ℕ → ℕ → ℕ) → (k : ℕ) → List Edge
chain d zero = []
chain d (suc k) = chain d k ++ edge k (suc k) (d k (suc k)) ∷ []

-- The allowance p/q and the direct distances of the pins.
abbrev pub rules : List Spot → (p q : ℕ) → Rules
rules pins p q = record { p = p; q = q; pins = length pins; direct = pin_distance planeSpace.ghosts plane pins 0 }

-- A seed takes the edges of the chain; they are seen from the driver as a forest, over which the walk leaves the marks; and so does the call
-- that walks.
pub record PlaneWalks (pins : List Spot) (p q : ℕ) (marks : List Mark) : Type 0 where
  pub seed : Sound (length pins) (chain (pin_distance planeSpace.ghosts plane pins) (length pins - 1))
  pub seen : (F : Forest) × Grows (chain (pin_distance planeSpace.ghosts plane pins) (length pins - 1)) 0 0 0 F
  pub walked : (F : Forest) → Grows (chain (pin_distance planeSpace.ghosts plane pins) (length pins - 1)) 0 0 0 F → (v : ℕ) → v < length pins → walk (rules pins p q) 0 F start v ≡ slice_index_or marks v blank
  pub call : (S : Marks) → Walked (rules pins p q) (length pins) (chain (pin_distance planeSpace.ghosts plane pins) (length pins - 1)) S → (v : ℕ) → v < length pins → S v ≡ slice_index_or marks v blank

abbrev pub Holds : Fact → Type 0
Holds (plane_meets o a b z) = plane_meet o a b ≡ Some z
Holds (air_measures a b d) = distance airSpace.ghosts air a b ≡ Some d
Holds (lift_measures price a b d) = distance lift_ghosts (over_plane price) a b ≡ Some d
Holds (plane_spans pins edges w) = PlaneSpans pins edges w
Holds (plane_walks pins p q marks) = PlaneWalks pins p q marks
Holds (lift_fits price answer) = nat_le (lift_ghosts.width (over_plane price)) LONGEST ≡ answer

abbrev pub origin : Spot
origin = at (pos 0) (pos 0) (pos 0)

-- The corners of a square, in the order in which they are entered.
abbrev pub square : List Spot
square = origin ∷ (at (pos 6) (pos 0) (pos 0) ∷ (at (pos 6) (pos 6) (pos 0) ∷ (at (pos 0) (pos 6) (pos 0) ∷ [])))

abbrev pub square_seed : List Edge
square_seed = edge 0 1 6 ∷ (edge 0 3 6 ∷ (edge 1 2 6 ∷ []))

-- Three pins of which the last lies on the way to the second, and four of which the last two lie close together.
abbrev pub corner : List Spot
corner = origin ∷ (at (pos 5) (pos 5) (pos 0) ∷ (at (pos 5) (pos 0) (pos 0) ∷ []))

abbrev pub fork : List Spot
fork = origin ∷ (at (negsuc 5) (pos 0) (pos 0) ∷ (at (pos 4) (pos 3) (pos 0) ∷ (at (pos 5) (pos 1) (pos 0) ∷ [])))

abbrev pub table : List Fact
table =
    plane_meets origin (at (pos 4) (pos 3) (pos 0)) (at (pos 5) (pos 1) (pos 0)) (at (pos 4) (pos 1) (pos 0))
    ∷ (plane_meets origin (at (negsuc 5) (pos 0) (pos 0)) (at (pos 4) (pos 1) (pos 0)) origin
    ∷ (air_measures origin (at (pos 1) (pos 1) (pos 0)) 2
    ∷ (air_measures origin (at (pos 3) (pos 4) (pos 0)) 5
    ∷ (air_measures origin (at (pos 2) (pos 3) (pos 0)) 4
    ∷ (lift_measures 40 origin (at (pos 3) (pos 4) (pos 2)) 87
    ∷ (lift_fits 6400000 true
    ∷ (lift_fits 6400001 false
    ∷ (plane_spans square square_seed 18
    ∷ (plane_walks square 2 1 (home ∷ hung 0 6 6 false ∷ hung 1 6 12 false ∷ hung 2 6 18 false ∷ [])
    ∷ (plane_walks square 199 100 (home ∷ hung 0 6 6 false ∷ hung 1 6 12 false ∷ hung 2 6 6 true ∷ [])
    ∷ (plane_walks corner 0 1 (home ∷ hung 2 5 10 false ∷ hung 1 5 5 true ∷ [])
    ∷ (plane_walks fork 0 1 (home ∷ hung 0 6 6 false ∷ hung 1 13 7 true ∷ hung 2 3 6 true ∷ [])
    ∷ []))))))))))))
