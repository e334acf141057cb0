use Rattle.std.proofs.Common.{◌+◌, add-one, length, arith}
use Rattle.std.proofs.lemmas.Slice.{between_to_end}
use Rattle.request.proofs.Parting.{at_comma, no_comma}
use Rattle.request.proofs.cutting.first_field.Goals as goal

pub returns-in-Some : goal.returns-in-Some
returns-in-Some c =
    let line = c.args.line.now in
    let (below, here, before) = c.in-Some.ensures.found in
    rw (between_to_end line (c.in-Some.i + 1) (length line) (omega arith), add-one) (at_comma line c.in-Some.i below here before)

pub returns-in-None : goal.returns-in-None
returns-in-None c = no_comma c.args.line.now c.in-None.ensures.none
