use Rattle.std.proofs.Common.{length}
use Rattle.job.proofs.Going.{Going}
use Rattle.job.proofs.running.run_lines.Given as goal

abbrev pub invariant-loop-line : goal.invariant-loop-line
invariant-loop-line g l = Going 2 (g.A.Answerer.stage l.initial.answerer) (g.A.Answerer.stage l.answerer) l.job l.rest l.initial.out l.out l.lines l.bytes

abbrev pub decreases-loop-line : goal.decreases-loop-line
decreases-loop-line g l = length l.rest
