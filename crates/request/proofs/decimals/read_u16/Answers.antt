use Rattle.std.proofs.Common.{◌^◌, arith}
use Rattle.request.proofs.Numerals.{narrowed}
use Rattle.request.proofs.decimals.read_u16.Goals as goal

pub returns : goal.returns
returns c =
    let (small, text) = c.in_ok-n.ensures in
    rw c.ok.ensures.value (narrowed (2 ^ 16) c.in_ok-n.n c.args.text.now c.try_from.result (omega arith) small text c.try_from.ensures)
