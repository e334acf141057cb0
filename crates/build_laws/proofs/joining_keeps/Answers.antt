use Rattle.build_laws.proofs.Joined.{joining_keeps_lem}
use Rattle.build_laws.proofs.joining_keeps.Goals as goal

pub returns : goal.returns
returns c = record { keeps = joining_keeps_lem }
