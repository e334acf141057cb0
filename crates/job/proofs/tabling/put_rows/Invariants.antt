use Rattle.std.proofs.Common.{◌≡◌, ◌+◌, ◌*◌, ◌≤◌, length, take}
use Rattle.job.specs.Places.{put_at}
use Rattle.reply.specs.Texts.{rows_in, rows_text}
use Rattle.job.proofs.tabling.put_rows.Given as goal

-- the lines of the rows so far stand at the place
abbrev pub invariant-loop-k : goal.invariant-loop-k
invariant-loop-k g l =
    let lines = rows_text 0 (take l.k (rows_in l.net.state.tree)) in
    (l.end ≡ l.at + length lines) × (l.out ≡ put_at l.fn.out l.at lines) × (l.end ≤ l.at + l.k * 128)
