use Rattle.std.proofs.Common.{◌≡◌, ℕ, ◌∙◌, List, length, refl, add-one, subst, arith}
use Rattle.order.specs.Bests.{BestOf, Found}
use Rattle.order.specs.Bests.Found.{start, skips, finds}
use Rattle.tree_laws.specs.declared.hook.Hook.{Hook}
use Rattle.tree_laws.specs.Hooks.{hook_before}
use Rattle.tree.specs.Searches.{HookMoveAt}
use Rattle.tree.proofs.refining.HookSearch.list.Goals as goal
use Rattle.tree.proofs.refining.HookSearch.list.Goals.{in-Some, in_default}

pub loop-u-init : goal.loop-u-init
loop-u-init g c = rw c.clear.ensures.items (start, omega (arith, c.clear.ensures.len), refl)

pub loop-u-preserved : goal.loop-u-preserved
loop-u-preserved g c =
    let (found, few, room) = c.loop-u.invariant in
    rw add-one (elim c.match-weigh.branch [
      | in-Some w ↦
          rw w.moves-is (rw w.push_reserved.ensures.items (
            finds found w.in-Some.ensures,
            omega (arith, few, w.push_reserved.ensures.len),
            w.push_reserved.ensures.capacity ∙ room,
          ))
      | in_default w ↦ rw w.moves-is (skips found w.in_default.ensures, omega (arith, few), room)
    ])

pub returns-clause-found : goal.returns-clause-found
returns-clause-found g c =
    let F : ℕ → Type 0 = λ n. Found (λ u r. BestOf hook_before (HookMoveAt g.S.Space c.args.self.now c.args.of u) r) n c.loop-u.moves.items in
    let all : c.loop-u.u ≡ length c.args.self.now.table.now.rows = omega (arith, c.loop-u-test.false, c.len-u-end.ensures) in
    subst F all c.loop-u.invariant.0
