use Rattle.std.proofs.Common.{◌≡◌, ℕ, ◌<◌, ◌/◌, true, false, List, length, nat_lt, ap, refl, subst, ⊎_elim, arith}
use Rattle.std.proofs.lemmas.Bool.{cases_Bool}
use Rattle.order.specs.Bests.{Decides}
use Rattle.order.specs.Firsts.{FirstOf}
use Rattle.order.proofs.Deciding.{decides_first}
use Rattle.tree_laws.specs.declared.hook.Hook.{Hook}
use Rattle.tree_laws.specs.Hooks.{hook_before, hook_order}
use Rattle.tree_laws.specs.Trees.{row_length}
use Rattle.tree.specs.Searches.{Done, HookMoveIn}
use Rattle.tree.proofs.Halves.{halves}
use Rattle.tree.proofs.refining.HookSearch.best.Goals as goal

pub returns : goal.returns
returns g c =
    let q = c.args.self.now in
    let rows = q.table.now.rows in
    let f = c.look-2.new.moves in
    let half = c.longest-half.result / 2 in
    let done : (k : ℕ) → k < length rows → Done g.S.Space q f.firsts.items k = λ k h.
    ⊎_elim
    (λ (long : nat_lt half (row_length rows k) ≡ true). c.look-2.ensures.looked.kept k (c.look.ensures.looked.rows k h long))
    (λ (short : nat_lt half (row_length rows k) ≡ false). c.look-2.ensures.looked.rows k h short)
    (cases_Bool (nat_lt half (row_length rows k))) in
    let all : Decides hook_before (HookMoveIn g.S.Space q) f.firsts.items = record {
      within = c.look-2.ensures.found.within;
      beaten = λ m p. done m.v p.hangs.row m p refl;
    } in
    let F : List Hook → Type 0 = λ xs. FirstOf hook_before xs c.first.result in
    decides_first hook_order (HookMoveIn g.S.Space q) f.firsts.items c.first.result all (subst F c.as_slice.ensures.value c.first.ensures.first)

pub look-requires-clause-room : goal.look-requires-clause-room
look-requires-clause-room g c =
    let t = c.args.self.now.table.now in
    omega (arith, ap (length {A = Hook}) c.clear.ensures.items, halves t.rows (c.longest-half.result / 2) (length t.rows), t.few)

pub look-requires-2-clause-room : goal.look-requires-2-clause-room
look-requires-2-clause-room g c =
    let t = c.args.self.now.table.now in
    omega (arith, c.look.ensures.few, ap (length {A = Hook}) c.clear.ensures.items, halves t.rows (c.longest-half.result / 2) (length t.rows), t.few)
