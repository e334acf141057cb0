use Rattle.job.specs.Stages.Stage.{before}
use Rattle.job.proofs.Going.{begins, ends}
use Rattle.job.proofs.starting.run.Goals as goal

pub returns-in_default-clause-ran : goal.returns-in_default-clause-ran
returns-in_default-clause-ran c =
    let job = c.args.job.now in
    let old = c.args.out.now in
    (before, ends 1 before job old tt before job old 0 0 (begins 1 before job old) c.in_default.ensures.none)
