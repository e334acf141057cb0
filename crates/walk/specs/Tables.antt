-- What the calls of a walk answer, which nodes are breakpoints, and rows that are made fresh. Assumes nothing.
use Rattle.std.specs.Prelude.{◌≡◌, ℕ, ◌<◌, ◌≤◌, cond, ◌⊎◌, List, [], ◌∷◌, ◌++◌, length, Some, None, Option, nat_lt, slice_index, slice_index_or}
use Rattle.space.specs.declared.TheConstants.{LONGEST}
use Rattle.seed.specs.declared.store.TheConstants.{NODES}
use Rattle.walk_laws.specs.Walk as laws
use Rattle.walk.specs.declared.row.Mark.{Mark}
use Rattle.walk.specs.declared.row.NodeRow.{NodeRow}
use Rattle.walk.specs.declared.table.Walk.{Walk}
use Rattle.walk.specs.Marks.{directs, fresh_mark, fresh_row, idle, unmarked}

-- The walk w, asked for one more row with the direct distance d, answers r and is u then.
abbrev pub NodeRowAdded : (w : Walk) (d : ℕ) → Option ℕ → (u : Walk) → Type 0
NodeRowAdded w d None u = ((NODES ≤ length w.marks) ⊎ (LONGEST < d)) × (u ≡ w)
NodeRowAdded w d (Some k) u =
    (length w.marks < NODES)
    × (d ≤ LONGEST)
    × (k ≡ length w.marks)
    × (u.marks ≡ w.marks ++ fresh_mark k ∷ [])
    × (u.directs ≡ w.directs ++ d ∷ [])

-- Every row is fresh, with the direct distance that it had.
pub record Renewed (rows rows' : List NodeRow) : Type 0 where
  pub count : length rows' ≡ length rows
  pub each : (k : ℕ) → k < length rows → slice_index_or rows' k idle ≡ fresh_row k (directs rows k)

-- The mark and the direct distance of the node k, if there is one.
abbrev pub mark_at : List Mark → ℕ → Option Mark
mark_at marks k = cond (nat_lt k (length marks)) (Some (slice_index_or marks k unmarked)) None

abbrev pub direct_at : List ℕ → ℕ → Option ℕ
direct_at directs k = cond (nat_lt k (length directs)) (Some (slice_index directs k)) None

-- One for a breakpoint.
abbrev pub break_at : laws.Marks → ℕ → ℕ
break_at S v = cond (S v).broken 1 0
