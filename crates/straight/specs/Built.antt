-- What building a straight tree answers. `d` is the distance of two spots. Assumes nothing.
use Rattle.std.specs.Prelude.{◌≡◌, ℕ, ◌+◌, ◌*◌, ◌<◌, ◌≤◌, true, List, length, Some, None, Option}
use Rattle.space.specs.Spots.{spot_of}
use Rattle.space.specs.declared.TheConstants.{LONGEST}
use Rattle.order.specs.Firsts.{Among}
use Rattle.space.specs.declared.Space.{Ghosts}
use Rattle.space.specs.declared.spot.Spot.{Spot}
pub use Rattle.space.specs.Spots.{origin}
use Rattle.forest.specs.declared.Edge.{Edge}
use Rattle.seed.specs.declared.store.Seed.{Seed}
use Rattle.walk_laws.specs.Walk.{Rules}
use Rattle.walk_laws.specs.Walk as laws
use Rattle.walk.specs.Walked.{Walked}
use Rattle.tree_laws.specs.declared.Row.{Row}
use Rattle.tree_laws.specs.Trees.{path_length, wire_of}
use Rattle.tree.specs.declared.table.Tree.{Tree}
use Rattle.tree_laws.specs.Distances.{Measured}
use Rattle.space.specs.Totals.{capped_distance}
use Rattle.build_laws.specs.Straight.{Straight, breakpoints, net_rules, straight}

-- The rows are the straight tree of the walk by the rules R over the edges E, with all that this keeps; `found` are its breakpoints and w
-- its wire.
pub record StraightBy (R : Rules) (place : ℕ → Spot) (n : ℕ) (E : List Edge) (found : List ℕ) (w : ℕ) (built : List Row) : Type 0 where
  pub marks : laws.Marks
  pub walked : Walked R n E marks
  pub rows : built ≡ straight R marks place n
  pub keeps : Straight R n walked.planted.forest marks built
  pub broken : found ≡ breakpoints marks n
  pub wire : w ≡ wire_of built

abbrev pub Straightened : (Spot → Spot → ℕ) → List Spot → (p q pins n : ℕ) → List Edge → List ℕ → ℕ → List Row → Type 0
Straightened d spots p q pins n E found w built = StraightBy (net_rules d spots pins p q) (spot_of spots) n E found w built

-- Spots and edges in a space that keeps the laws: every spot is admitted, and the length of every edge is the distance of its ends.
pub record MeasuredSeed {X : Type 0} (G : Ghosts X) (s : X) (spots : List Spot) (E : List Edge) : Type 0 where
  pub narrow : G.width s ≤ LONGEST
  pub admitted : (k : ℕ) → k < length spots → G.admitted s (spot_of spots k) ≡ true
  pub edges : (e : Edge) → Among e E → e.length ≡ G.between s (spot_of spots e.a) (spot_of spots e.b)

-- What holds of the space's own distances then: the tree is the straight one by them, its rows are measured, every sink's path is within
-- its allowance, and the path of every breakpoint is its distance from the driver.
pub record Measures {X : Type 0} (G : Ghosts X) (s : X) (spots : List Spot) (p q pins n : ℕ) (E : List Edge) (found : List ℕ) (w : ℕ) (built : List Row) : Type 0 where
  pub straightened : Straightened (G.between s) spots p q pins n E found w built
  pub measured : Measured G s built
  pub allowed : (v : ℕ) → 0 < v → v < pins → v < n → q * path_length built v ≤ (p + q) * G.between s (spot_of spots 0) (spot_of spots v)
  pub breakpoints : (v : ℕ) → Among v found → path_length built v ≡ G.between s (spot_of spots 0) (spot_of spots v)

-- The seed is a tree, and there is one spot for each of its nodes.
abbrev pub Matches : Seed → List Spot → Type 0
Matches seed spots = (length seed.edges + 1 ≡ seed.nodes) × (seed.nodes ≡ length spots)

-- Asked to build the straight tree of the seed in place of the tree t₀, the answer is r and the tree is t then. `before` are the
-- breakpoints of the tree that was built last, and `found` those that stand listed then.
abbrev pub Answer : {X : Type 0} → Ghosts X → X → (t₀ : Tree) → (before : List ℕ) → List Spot → (p q pins : ℕ) → Seed → (found : List ℕ) → Option ℕ → (t : Tree) → Type 0
Answer G s t₀ before spots p q pins seed found None t = (Matches seed spots → ⊥) × (t ≡ t₀) × (found ≡ before)
Answer G s t₀ before spots p q pins seed found (Some w) t =
    Matches seed spots
    × Straightened (capped_distance G s) spots p q pins seed.nodes seed.edges found w t.rows
    × (MeasuredSeed G s spots seed.edges → Measures G s spots p q pins seed.nodes seed.edges found w t.rows)
