use Rattle.walk_laws.proofs.walk_keeps.Goals as goal
use Rattle.walk_laws.proofs.Keeps.{walk_keeps_lem}

pub returns : goal.returns
returns c = record { guarantee = walk_keeps_lem }
