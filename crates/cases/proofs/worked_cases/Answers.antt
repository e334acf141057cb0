use Rattle.std.proofs.Common.{refl}
use Rattle.cases.proofs.Rows.{rows}
use Rattle.cases.proofs.worked_cases.Goals as goal

pub returns : goal.returns
returns c = record { every = rows; count = refl; limits = (refl, refl) }
