use Rattle.std.proofs.Common.{arith}
use Rattle.cases.specs.Table.{table as below}
use Rattle.net_cases.specs.Table.{nets as net_rows}
use Rattle.net_cases.proofs.Nets.{nets}
use Rattle.net_cases.proofs.Rows.{rows}
use Rattle.net_cases.proofs.worked_cases.Goals as goal

pub returns : goal.returns
returns c = record { every = rows below net_rows c.worked_cases.ensures.every nets; count = omega (arith, c.worked_cases.ensures.count) }
