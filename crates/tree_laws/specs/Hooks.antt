-- The hook move: what it is, what it saves, and which is the best. `d u v` is how far apart the rows u and v are. Assumes nothing.
use Rattle.std.specs.Prelude.{◌≡◌, ℕ, ◌+◌, ◌<◌, ◌≤◌, Bool, List, nat_lt}
use Rattle.std.proofs.Common.{ap, ◌∙◌}
use Rattle.order.specs.Orders.{Order, then_by}
use Rattle.order.specs.Lexical.{by_lower, greater_then, lower_then, no_ties}
use Rattle.tree_laws.specs.declared.Row.{Row}
use Rattle.tree_laws.specs.declared.hook.Hook.{Hook}
use Rattle.tree_laws.specs.Trees.{MayHang, row_length, path_length}

-- The greater saving first, then the lower v, then the lower u.
abbrev pub hook_before : (a b : Hook) → Bool
hook_before a b = then_by b.saving a.saving (then_by a.v b.v (nat_lt a.u b.u))

-- A move hangs v on u, which is neither v nor under v, and no path grows. It saves the old length of v minus the new, 1 or more.
pub record HookMove (rows : List Row) (d : ℕ → ℕ → ℕ) (m : Hook) : Type 0 where
  pub hangs : MayHang rows m.v m.u
  pub path : path_length rows m.u + d m.u m.v ≤ path_length rows m.v
  pub saves : m.saving + d m.u m.v ≡ row_length rows m.v
  pub counts : 0 < m.saving

-- ---- the order

abbrev hooked : ℕ → ℕ → ℕ → Hook
hooked s v u = record { saving = s; v = v; u = u }

same_hook : (a b : Hook) → a.saving ≡ b.saving → a.v ≡ b.v → a.u ≡ b.u → a ≡ b
same_hook a b p q r =
    ap (λ x. hooked x a.v a.u) p ∙ ap (λ x. hooked b.saving x a.u) q ∙ ap (λ x. hooked b.saving b.v x) r

-- The order of moves is total, so one alone is the best.
pub hook_order : Order hook_before
hook_order =
    no_ties (greater_then (λ (m : Hook). m.saving) (lower_then (λ (m : Hook). m.v) (by_lower (λ (m : Hook). m.u))))
    (λ a b t. same_hook a b t.0 t.1.0 t.1.1)
