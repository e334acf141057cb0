-- Joining a group of rows on the driver, step by step, and what the call answers. `d` is the distance of two spots, and `j o a b` the meet of a
-- and b seen from o. Assumes nothing.
use Rattle.std.specs.Prelude.{◌≡◌, ℕ, ◌+◌, ◌<◌, ◌≤◌, Bool, true, false, List, length, Some, None, Option, slice_index}
use Rattle.order.specs.Firsts.{Among}
use Rattle.space.specs.declared.Space.{Ghosts}
use Rattle.space.specs.declared.Joining.{Ghosts as JoinGhosts}
use Rattle.space.specs.declared.spot.Spot.{Spot}
use Rattle.tree_laws.specs.declared.Row.{Row}
use Rattle.tree_laws.specs.Trees.{Child, OnePath, wire_of}
use Rattle.tree.specs.declared.table.Tree.{Tree}
use Rattle.tree.specs.declared.table.TheConstants.{ROWS}
use Rattle.tree_laws.specs.Distances.{Measured}
use Rattle.space.specs.Totals.{meet_or_start, capped_distance}
use Rattle.build_laws.specs.Joining.{Joins, JoinedKeeps, PairOf, far_of}
use Rattle.build_laws.specs.declared.pair.Pair.{Pair}
use Rattle.joined.specs.Pairs.{FirstPairs}

-- ---- what can be joined

-- Each number is below the next.
abbrev pub Rising : List ℕ → Type 0
Rising group = (i : ℕ) → i + 1 < length group → slice_index group i < slice_index group (i + 1)

-- Each member is a row.
abbrev pub Rows : List Row → List ℕ → Type 0
Rows rows group = (g : ℕ) → Among g group → g < length rows

-- Each member is a row on the driver.
abbrev pub AllHang : List Row → List ℕ → Type 0
AllHang rows group = (g : ℕ) → Among g group → Child rows 0 g

-- The members are rows on the driver, in rising order, and there is room for a new row for each.
pub record Joinable (rows : List Row) (group : List ℕ) : Type 0 where
  pub rising : Rising group
  pub hung : AllHang rows group
  pub room : length rows + length group ≤ ROWS

-- ---- the answer

-- Measured rows are joined by the space's own distances and meets: a tree, every path as it was, no more wire, and measured again.
pub record Own {X : Type 0} (G : Ghosts X) (J : JoinGhosts X) (s : X) (rows : List Row) (group : List ℕ) (after : List Row) : Type 0 where
  pub joins : Joins (G.between s) (J.meeting s) rows group after
  pub kept : JoinedKeeps (G.between s) (J.meeting s) rows after
  pub measured : Measured G s after

-- The group was joined, and the wire is w then.
pub record GroupJoined {X : Type 0} (G : Ghosts X) (J : JoinGhosts X) (s : X) (rows : List Row) (group : List ℕ) (w : ℕ) (after : List Row) : Type 0 where
  pub joinable : Joinable rows group
  pub joins : Joins (capped_distance G s) (meet_or_start G J s) rows group after
  pub wire : w ≡ wire_of after
  pub tree : (k : ℕ) → k < length after → OnePath after k
  pub own : Measured G s rows → Own G J s rows group after

-- Asked to join the group on the tree t₀, the answer is r, and the tree is t then.
abbrev pub JoinedBy : {X : Type 0} → Ghosts X → JoinGhosts X → X → (t₀ : Tree) → List ℕ → Option ℕ → (t : Tree) → Type 0
JoinedBy G J s t₀ group None t = (Joinable t₀.rows group → ⊥) × (t ≡ t₀)
JoinedBy G J s t₀ group (Some w) t = GroupJoined G J s t₀.rows group w t.rows

-- ---- the steps

module _ (d : Spot → Spot → ℕ) (j : Spot → Spot → Spot → Spot) where
  -- The group can be joined, and F holds the first pair of each member.
  pub record JoiningState (rows : List Row) (group : List ℕ) (F : List Pair) : Type 0 where
    pub hung : (g : ℕ) → Among g group → Child rows 0 g
    pub rising : Rising group
    pub room : length rows + length group ≤ ROWS
    pub few : length F < length rows
    pub firsts : FirstPairs d j rows group F

  -- Asked for one step, the answer is r: every meet of two members is 0 from the driver, or the first pair was joined.
  abbrev pub Stepped : List Row → List ℕ → Bool → (after : List Row) → (left : List ℕ) → List Pair → Type 0
  Stepped rows group false after left F = (after ≡ rows) × ((a b : ℕ) → PairOf d j group a b → far_of d j rows a b ≡ 0)
  Stepped rows group true after left F =
      JoiningState after left F × (length left + 1 ≤ length group) × ((end : List Row) → Joins d j after left end → Joins d j rows group end)
