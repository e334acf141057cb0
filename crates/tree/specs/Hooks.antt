-- What a call for the best hook move answers, and what it does to the tree. `d u v` is how far apart the rows u and v are. Assumes nothing.
use Rattle.std.specs.Prelude.{◌≡◌, ℕ, ◌+◌, ◌<◌, ◌≤◌, List, length, Some, None, Option}
use Rattle.order.specs.Bests.{BestOf}
use Rattle.space.specs.declared.Space.{Ghosts}
use Rattle.tree_laws.specs.declared.Row.{Row}
use Rattle.tree_laws.specs.declared.hook.Hook.{Hook}
use Rattle.tree_laws.specs.Distances.{Settled, capped_row_distance, row_distance}
use Rattle.tree_laws.specs.Hooks.{HookMove, hook_before}
use Rattle.tree_laws.specs.Trees.{OnePath, hang, path_length, wire_of}
use Rattle.tree.specs.declared.table.Tree.{Tree}

-- ---- the answer

-- The best move was made and saves w.
pub record HookMade (rows : List Row) (d : ℕ → ℕ → ℕ) (w : ℕ) (after : List Row) : Type 0 where
  pub move : Hook
  pub best : BestOf hook_before (HookMove rows d) (Some move)
  pub saving : move.saving ≡ w
  pub hung : after ≡ hang rows move.v move.u (d move.u move.v)
  pub wire : wire_of after + w ≡ wire_of rows
  pub paths : (k : ℕ) → k < length rows → path_length after k ≤ path_length rows k
  pub tree : (k : ℕ) → k < length after → OnePath after k

-- Asked to make the best hook move on the tree t₀, the answer is r, and the tree is t then. The move is the best by the space's own
-- distances wherever the rows are such as a net can have.
abbrev pub Hooked : {X : Type 0} → Ghosts X → X → (t₀ : Tree) → Option ℕ → (t : Tree) → Type 0
Hooked G s t₀ None t =
    BestOf hook_before (HookMove t₀.rows (capped_row_distance G s t₀.rows)) None
    × (Settled G s t₀.rows → BestOf hook_before (HookMove t₀.rows (row_distance G s t₀.rows)) None)
    × (t ≡ t₀)
Hooked G s t₀ (Some w) t =
    HookMade t₀.rows (capped_row_distance G s t₀.rows) w t.rows
    × (Settled G s t₀.rows → HookMade t₀.rows (row_distance G s t₀.rows) w t.rows × Settled G s t.rows)
