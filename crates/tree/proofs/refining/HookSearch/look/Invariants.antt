use Rattle.std.proofs.Common.{◌≡◌, ℕ, ◌+◌, ◌<◌, ◌≤◌, nat_lt, vec_len}
use Rattle.tree_laws.specs.Trees.{row_length}
use Rattle.tree.specs.Searches.{Done, Firsts, looked_at}
use Rattle.tree.proofs.refining.HookSearch.look.Given as goal

-- the rows passed that are meant were looked at
abbrev pub invariant-loop-v : goal.invariant-loop-v
invariant-loop-v g l =
    Firsts g.S.Space l.self l.moves.firsts.items l.moves.floor
    × ((k : ℕ) → k < l.v → nat_lt l.half (row_length l.self.table.now.rows k) ≡ l.long → Done g.S.Space l.self l.moves.firsts.items k)
    × ((k : ℕ) → Done g.S.Space l.self l.initial.moves.firsts.items k → Done g.S.Space l.self l.moves.firsts.items k)
    × (vec_len l.moves.firsts ≤ vec_len l.initial.moves.firsts + looked_at l.self.table.now.rows l.half l.long l.v)
