use Rattle.std.proofs.Common.{arith}
use Rattle.seed.proofs.Listing.{least_there, none_left, none_there}
use Rattle.seed.proofs.ends.Ends.least.Goals as goal

pub returns-then-end-v : goal.returns-then-end-v
returns-then-end-v c E h =
    let s = c.args.self.now in
    none_there s.rises h c.args.v c.args.from c.args.next _ c.begin-begin.result c.loop-i.i (omega arith) c.begin-begin.ensures.parts (omega arith) c.loop-i.invariant c.index-end.result.now (omega arith) c.index-end.ensures c.if-end-v.true

pub returns-then-end-from : goal.returns-then-end-from
returns-then-end-from c E h =
    let s = c.args.self.now in
    least_there s.rises h c.args.v c.args.from c.args.next _ c.begin-begin.result c.loop-i.i (omega arith) c.begin-begin.ensures.parts (omega arith) c.loop-i.invariant c.index-end.result.now (omega arith) c.index-end.ensures c.if-end-v.false c.if-end-from.true

pub returns : goal.returns
returns c E h =
    let s = c.args.self.now in
    none_left s.rises h c.args.v c.args.from c.args.next _ c.begin-begin.result c.loop-i.i (omega arith) c.begin-begin.ensures.parts (omega arith) c.loop-i.invariant (omega arith)
