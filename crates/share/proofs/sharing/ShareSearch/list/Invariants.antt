use Rattle.std.proofs.Common.{◌≡◌, ℕ, ◌+◌, ◌<◌, ◌≤◌, vec_capacity, vec_len, ◌≢◌}
use Rattle.order.specs.Bests.{Decides}
use Rattle.tree_laws.specs.Shares.{share_before}
use Rattle.tree_laws.specs.Trees.{up}
use Rattle.share.specs.Searches.{ShareMoveOf}
use Rattle.share.proofs.sharing.ShareSearch.list.Given as goal

abbrev pub decreases-loop-a : goal.decreases-loop-a
decreases-loop-a g l = l.a

-- the moves with the siblings from b down to a are listed
abbrev pub invariant-loop-a : goal.invariant-loop-a
invariant-loop-a g l =
    Decides share_before (λ m. ShareMoveOf g.S.Space g.S.Joining l.self l.b m × (l.a < m.a)) l.moves.items
    × (vec_len l.moves + l.a ≤ l.b)
    × ((l.a ≢ 0) → up l.self.table.now.rows l.a ≡ up l.self.table.now.rows l.b)
    × (vec_capacity l.moves ≡ vec_capacity l.initial.moves)
