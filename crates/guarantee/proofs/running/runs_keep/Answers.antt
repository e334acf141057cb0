use Rattle.net_laws.proofs.Keeping.{runs_keep}
use Rattle.guarantee.proofs.running.runs_keep.Goals as goal

pub returns : goal.returns
returns c = runs_keep
