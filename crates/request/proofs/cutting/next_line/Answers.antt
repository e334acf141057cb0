use Rattle.std.proofs.Common.{◌+◌, add-one, length, arith}
use Rattle.std.proofs.lemmas.Slice.{between_to_end}
use Rattle.request.proofs.Lining.{at_end, whole_line}
use Rattle.request.proofs.cutting.next_line.Goals as goal

pub returns-in-Some-clause-some : goal.returns-in-Some-clause-some
returns-in-Some-clause-some c =
    let job = c.args.job.now in
    let (below, here, before) = c.in-Some.ensures.found in
    rw (between_to_end job (c.in-Some.i + 1) (length job) (omega arith), add-one) (at_end job c.in-Some.i below here before)

pub returns-in-None-clause-some : goal.returns-in-None-clause-some
returns-in-None-clause-some c = whole_line c.args.job.now (omega arith) c.in-None.ensures.none
