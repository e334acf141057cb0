-- What a space of the code means to a net, its answers made total, and what ties a net to its space. Assumes nothing.
use Rattle.std.specs.Prelude.{◌≡◌, ℕ, ◌<◌, ◌≤◌, min, Bool, true, ◌&&◌, List, length, Some, ◌≢◌}
use Rattle.forest.specs.Edges.{Sound}
use Rattle.forest.specs.declared.Edge.{Edge}
use Rattle.order.specs.Firsts.{Among}
use Rattle.space.specs.Laws.{Meets, Metric}
use Rattle.space.specs.declared.TheConstants.{LONGEST}
use Rattle.space.specs.Totals.{capped, met}
use Rattle.space.specs.declared.Joining.{Ghosts as JoinGhosts}
use Rattle.space.specs.declared.Space.{Ghosts}
use Rattle.space.specs.declared.spot.Spot.{Spot}
use Rattle.space.specs.Spots.{spot_of}
use Rattle.tree_laws.specs.Trees.{RowTree, row_length, row_spot, up}
use Rattle.tree_laws.specs.declared.Row.{Row}
use Rattle.walk_laws.specs.Walk.{LawfulAllowance}
use Rattle.net_laws.specs.Geometry.{Geometry}
use Rattle.net_laws.specs.States.{State}

-- A wiring space; it has no meet, and no call asks for one.
abbrev pub wiring : {X : Type 0} → Ghosts X → X → Geometry
wiring G s = record { admitted = G.admitted s; width = G.width s; between = G.between s; meeting = λ o a b. o }

-- A joining space.
abbrev pub joining : {X : Type 0} → Ghosts X → JoinGhosts X → X → Geometry
joining G J s = record { admitted = G.admitted s; width = G.width s; between = G.between s; meeting = J.meeting s }

-- The laws, owed where the space is at most LONGEST wide.
pub record Keeps (W : Geometry) : Type 0 where
  pub metric : W.width ≤ LONGEST → Metric W.admitted W.width W.between
  pub meets : W.width ≤ LONGEST → Meets W.admitted W.between W.meeting

-- What the calls of a space answer, made total.
abbrev pub made_total : Geometry → Geometry
made_total W =
    record { admitted = W.admitted; width = W.width; between = capped W.admitted W.between; meeting = met W.admitted W.meeting }

-- The rows of a tree over the nodes of two pins or more: the nodes come first, every spot is admitted, and every length is the distance from the parent.
pub record Placed (admits : Spot → Bool) (d : Spot → Spot → ℕ) (n : State) (rows : List Row) : Type 0 where
  pub two : 2 ≤ n.pins
  pub tree : RowTree rows
  pub more : length n.spots ≤ length rows
  pub spots : (k : ℕ) → k < length n.spots → row_spot rows k ≡ spot_of n.spots k
  pub admitted : (k : ℕ) → k < length rows → admits (row_spot rows k) ≡ true
  pub lengths : (k : ℕ) → k < length rows → (k ≢ 0) → row_length rows k ≡ d (row_spot rows (up rows k)) (row_spot rows k)

-- What ties a net to a space that admits these spots, is this wide and has this distance: a net with nodes lies in a space that owes the laws,
-- its spots are admitted, its pins are at least 1 apart, and the lengths of its edges and rows are the space's distances. (That the allowance
-- is within its limits, and that no edge closes a loop, is said here too.)
pub record Tied (admits : Spot → Bool) (width : ℕ) (d : Spot → Spot → ℕ) (n : State) : Type 0 where
  pub narrow : 0 < length n.spots → width ≤ LONGEST
  pub pins : n.pins ≤ length n.spots
  pub allowed : (p q : ℕ) → n.allowance ≡ Some (p, q) → LawfulAllowance p q
  pub admitted : (k : ℕ) → k < length n.spots → admits (spot_of n.spots k) ≡ true
  pub apart : (u v : ℕ) → u < n.pins → v < n.pins → (u ≢ v) → 1 ≤ d (spot_of n.spots u) (spot_of n.spots v)
  pub edges : Sound (length n.spots) n.edges
  pub lengths : (e : Edge) → Among e n.edges → e.length ≡ d (spot_of n.spots e.a) (spot_of n.spots e.b)
  pub rows : (rows : List Row) → n.tree ≡ Some rows → Placed admits d n rows

-- The net is tied to its space.
abbrev pub TiedToSpace : {X : Type 0} → Ghosts X → X → State → Type 0
TiedToSpace G s n = Tied (G.admitted s) (G.width s) (G.between s) n
