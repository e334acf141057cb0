-- The meet of two children of a row, put between it and both. Assumes nothing.
use Rattle.std.specs.Prelude.{◌≡◌, ℕ, ◌<◌, List, length, Some, None, Option}
use Rattle.space.specs.declared.Space.{Ghosts}
use Rattle.space.specs.declared.Joining.{Ghosts as JoinGhosts}
use Rattle.space.specs.declared.spot.Spot.{Spot}
use Rattle.tree_laws.specs.declared.Row.{Row}
use Rattle.space.specs.Totals.{meet_or_start, capped_distance}
use Rattle.tree_laws.specs.Trees.{Child, between, row_spot}
use Rattle.tree.specs.declared.table.Tree.{Tree}
use Rattle.tree.specs.declared.table.TheConstants.{ROWS}

-- a and b are two different children of v, and there is room for another row.
pub record Insertable (rows : List Row) (v a b : ℕ) : Type 0 where
  pub first : Child rows v a
  pub second : Child rows v b
  pub other : a ≡ b → ⊥
  pub room : length rows < ROWS

-- The rows with z between v and both a and b, where `d` is how far apart two spots are.
abbrev pub with_spot : List Row → (Spot → Spot → ℕ) → (z : Spot) → (v a b : ℕ) → List Row
with_spot rows d z v a b = between rows v z (d (row_spot rows v) z) a (d z (row_spot rows a)) b (d z (row_spot rows b))

-- The rows with the meet of a and b between v and both; `j o a b` is where the ways from o to a and to b part.
abbrev pub with_meet : List Row → (Spot → Spot → ℕ) → (Spot → Spot → Spot → Spot) → (v a b : ℕ) → List Row
with_meet rows d j v a b = with_spot rows d (j (row_spot rows v) (row_spot rows a) (row_spot rows b)) v a b

-- Asked to put the meet of a and b between v and both, the answer is r, and the tree t₀ is t then.
abbrev pub MeetInserted : {X : Type 0} → Ghosts X → JoinGhosts X → X → (t₀ : Tree) → (v a b : ℕ) → Option ℕ → (t : Tree) → Type 0
MeetInserted G J s t₀ v a b None t = (Insertable t₀.rows v a b → ⊥) × (t ≡ t₀)
MeetInserted G J s t₀ v a b (Some k) t =
    Insertable t₀.rows v a b × (k ≡ length t₀.rows) × (t.rows ≡ with_meet t₀.rows (capped_distance G s) (meet_or_start G J s) v a b)
