-- The first moves of rows, where each saves no less than one found before: they decide the best of all. Assumes nothing.
use Rattle.std.proofs.Common.{◌≡◌, ℕ, ◌<◌, ◌≤◌, false, ◌⊎◌, List, [], ◌∷◌, ◌++◌, Some, None, sym, ap, ◌∙◌, subst, ⊎_elim, arith}
use Rattle.std.proofs.lemmas.Bool.{cases_lt}
use Rattle.order.specs.Bests.{BestOf}
use Rattle.order.specs.Firsts.{Among}
use Rattle.order.specs.Firsts.Among.{here}
use Rattle.order.specs.Lexical.{then_above}
use Rattle.order.proofs.Finding.{among_left, among_right, never_itself}
use Rattle.tree_laws.specs.declared.Row.{Row}
use Rattle.tree_laws.specs.declared.hook.Hook.{Hook}
use Rattle.tree_laws.specs.Hooks.{HookMove, hook_before, hook_order}

-- a move of the same rows that saves as much is not before
pub same_move : (m n : Hook) → n.saving ≡ m.saving → n.v ≡ m.v → n.u ≡ m.u → hook_before n m ≡ false
same_move m n s v u =
    let a : n ≡ m = ap (λ x. hooked x n.v n.u) s ∙ ap (λ x. hooked m.saving x n.u) v ∙ ap (λ x. hooked m.saving m.v x) u in
    let P : Hook → Type 0 = λ x. hook_before x m ≡ false in
    subst P (sym a) (never_itself hook_order m)
  where
    hooked : ℕ → ℕ → ℕ → Hook
    hooked s v u = record { saving = s; v = v; u = u }

module _ (rows : List Row) (d : ℕ → ℕ → ℕ) (F : List Hook) (floor : ℕ) (low : (floor ≡ 1) ⊎ ((w : Hook) × Among w F × (w.saving ≡ floor))) where
  -- a move that saves less than the floor has one before it
  low_beaten : (m : Hook) → HookMove rows d m → m.saving < floor → (w : Hook) × Among w F × (hook_before m w ≡ false)
  low_beaten m p l =
      ⊎_elim
      (λ (z : floor ≡ 1). absurd (omega (arith, p.counts, l, z)))
      (λ (x : (w : Hook) × Among w F × (w.saving ≡ floor)). (x.0, x.1, then_above x.0.saving m.saving _ (omega (arith, l, x.2))))
      low

  -- the moves of a row that has none which saves the floor
  pub none_done : (v : ℕ) → BestOf hook_before (λ m. HookMove rows d m × (m.v ≡ v) × (floor ≤ m.saving)) None → (m : Hook) → HookMove rows d m → m.v ≡ v → (w : Hook) × Among w F × (hook_before m w ≡ false)
  none_done v none m p e =
      ⊎_elim
      (λ (l : m.saving < floor). low_beaten m p l)
      (λ (h : floor ≤ m.saving). absurd (none m (p, e, h)))
      (cases_lt m.saving floor)

  -- the moves of a row whose first that saves the floor is found
  pub some_done : (v : ℕ) (x : Hook) → BestOf hook_before (λ m. HookMove rows d m × (m.v ≡ v) × (floor ≤ m.saving)) (Some x) → (m : Hook) → HookMove rows d m → m.v ≡ v → (w : Hook) × Among w (F ++ x ∷ []) × (hook_before m w ≡ false)
  some_done v x best m p e =
      ⊎_elim
      (λ (l : m.saving < floor). let b = low_beaten m p l in (b.0, among_left F (x ∷ []) b.1, b.2))
      (λ (h : floor ≤ m.saving). (x, among_right F (x ∷ []) here, best.1 m (p, e, h)))
      (cases_lt m.saving floor)

-- what has one before it has one still, when another is found
pub done_more : (F : List Hook) (x m : Hook) → (w : Hook) × Among w F × (hook_before m w ≡ false) → (w : Hook) × Among w (F ++ x ∷ []) × (hook_before m w ≡ false)
done_more F x m (w, a, b) = (w, among_left F (x ∷ []) a, b)
