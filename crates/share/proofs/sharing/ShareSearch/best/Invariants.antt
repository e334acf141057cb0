use Rattle.std.proofs.Common.{◌≤◌, vec_len}
use Rattle.order.specs.Bests.{BestOf, Found}
use Rattle.tree_laws.specs.Shares.{share_before}
use Rattle.share.specs.Searches.{ShareMoveOf}
use Rattle.share.proofs.sharing.ShareSearch.best.Given as goal

-- the first moves of the rows passed are found
abbrev pub invariant-loop-b : goal.invariant-loop-b
invariant-loop-b g l =
    Found (λ b r. BestOf share_before (ShareMoveOf g.S.Space g.S.Joining l.self b) r) l.b l.moves.firsts.items
    × (vec_len l.moves.firsts ≤ l.b)
