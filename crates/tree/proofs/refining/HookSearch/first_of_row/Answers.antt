use Rattle.std.proofs.Common.{List, slice_index, refl, subst}
use Rattle.order.specs.Firsts.{FirstOf}
use Rattle.order.proofs.Deciding.{found_best}
use Rattle.tree_laws.specs.declared.hook.Hook.{Hook}
use Rattle.tree_laws.specs.Hooks.{hook_before, hook_order}
use Rattle.tree.specs.declared.refining.Hanging.{Hanging}
use Rattle.tree.specs.Searches.{HookMoveAt, HookMoveOf}
use Rattle.tree.proofs.refining.HookSearch.first_of_row.Goals as goal

pub returns-clause-best : goal.returns-clause-best
returns-clause-best g c =
    let q = c.args.self.now in
    let row = c.at-row.result in
    let of : Hanging = record { v = c.args.v; spot = row.spot; length = row.length; path = slice_index q.paths.now c.args.v; floor = c.args.floor } in
    let F : List Hook → Type 0 = λ xs. FirstOf hook_before xs c.first.result in
    found_best (HookMoveAt g.S.Space q of) (HookMoveOf g.S.Space q c.args.v c.args.floor) hook_order c.first.result c.list.ensures.found (subst F c.as_slice.ensures.value c.first.ensures.first)
    (λ u m h p. p.0)
    (λ m p. (m.u, p.0.hangs.parent, (p, refl)))
    (λ u r h b. b)
