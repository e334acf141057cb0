use Rattle.std.proofs.Common.{◌≡◌, ◌≤◌, length, take}
use Rattle.reply.specs.Texts.{rows_in, rows_text}
use Rattle.job.proofs.tabling.table_size.Given as goal

-- the lines of the rows so far take `size` bytes
abbrev pub invariant-loop-k : goal.invariant-loop-k
invariant-loop-k g l = (l.size ≡ length (rows_text 0 (take l.k (rows_in l.net.state.tree)))) × (l.size ≤ l.room)
