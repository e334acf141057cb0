use Rattle.std.proofs.Common.{rules}
use Rattle.tree.proofs.Tabled.{wire_fits}
use Rattle.tree.proofs.table.Tree.wire.Goals as goal

pub sum-requires-clause-fits : goal.sum-requires-clause-fits
sum-requires-clause-fits c = let h = wire_fits c.args.self.now in search rules
