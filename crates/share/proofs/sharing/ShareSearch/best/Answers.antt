use Rattle.std.proofs.Common.{ℕ, List, Some, None, Option, refl, add-one, subst, arith}
use Rattle.order.proofs.Deciding.{decides_first, found_best}
use Rattle.order.specs.Bests.{BestOf}
use Rattle.order.specs.Bests.Found.{start, skips, finds}
use Rattle.order.specs.Firsts.{FirstOf}
use Rattle.tree_laws.specs.declared.share.Share.{Share}
use Rattle.tree_laws.specs.Shares.{share_before, share_order}
use Rattle.share.specs.Searches.{ShareMoveIn, ShareMoveOf}
use Rattle.share.proofs.sharing.ShareSearch.best.Goals as goal
use Rattle.share.proofs.sharing.ShareSearch.best.Goals.{in-Some, in_default}

pub loop-b-init : goal.loop-b-init
loop-b-init g c = rw c.clear.ensures.items (start, omega (arith, c.clear.ensures.len))

pub loop-b-preserved : goal.loop-b-preserved
loop-b-preserved g c =
    let (found, few) = c.loop-b.invariant in
    let P = ShareMoveOf g.S.Space g.S.Joining c.args.self.now c.loop-b.b in
    let best : (r : Option Share) → FirstOf share_before c.as_slice.result.now r → BestOf share_before P r = λ r f.
    let F : List Share → Type 0 = λ xs. FirstOf share_before xs r in
    decides_first share_order P _ r c.list.ensures.decides (subst F c.as_slice.ensures.value f) in
    rw add-one (elim c.match-first.branch [
      | in-Some w ↦
          rw w.moves-is (rw w.push_reserved.ensures.items (
            finds found (best (Some w.in-Some.share) w.in-Some.ensures.first),
            omega (arith, few, w.push_reserved.ensures.len),
          ))
      | in_default w ↦ rw w.moves-is (skips found (best None w.in_default.ensures.first), omega (arith, few))
    ])

pub returns : goal.returns
returns g c =
    let q = c.args.self.now in
    let F : List Share → Type 0 = λ xs. FirstOf share_before xs c.first-2.result in
    found_best (ShareMoveOf g.S.Space g.S.Joining q) (ShareMoveIn g.S.Space g.S.Joining q) share_order c.first-2.result c.loop-b.invariant.0 (subst F c.as_slice-2.ensures.value c.first-2.ensures.first)
    (λ b m h p. p.0)
    (λ m p. (m.b, omega (arith, p.second.row, c.loop-b-test.false, c.len-b-end.ensures), (p, refl)))
    (λ b r h k. k)
