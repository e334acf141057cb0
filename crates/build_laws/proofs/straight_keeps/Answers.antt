use Rattle.build_laws.proofs.Building.{straight_of}
use Rattle.build_laws.proofs.straight_keeps.Goals as goal

pub returns : goal.returns
returns c = record { keeps = straight_of }
