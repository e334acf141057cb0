use Rattle.tree_laws.proofs.Ways.{hung}
use Rattle.tree.proofs.table.Tree.path.Goals as goal

pub returns-clause-way : goal.returns-clause-way
returns-clause-way c = hung c.args.self.now.tree c.args.k
