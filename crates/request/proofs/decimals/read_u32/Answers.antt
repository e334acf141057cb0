use Rattle.std.proofs.Common.{arith, rules}
use Rattle.request.specs.Decimals.{Begins}
use Rattle.request.proofs.Numerals.{begins_not, utf8_not, read_below}
use Rattle.request.proofs.decimals.read_u32.Goals as goal

pub returns-then-not-begins : goal.returns-then-not-begins
returns-then-not-begins c = λ n l e. begins_not n c.args.text.now (omega arith) (λ p. let yes = c.begins.ensures.1 p in (cc)) e

pub returns-in-Err : goal.returns-in-Err
returns-in-Err c = λ n l e. utf8_not n c.args.text.now (omega arith) c.in-Err.ensures.cases.0 e

pub returns-in-Ok : goal.returns-in-Ok
returns-in-Ok c =
    let lead : Begins c.args.text.now = c.begins.ensures.0 (search rules) in
    rw c.ok.ensures.value (read_below 32 c.args.text.now c.parse.result (omega arith) lead (rw c.in-Ok.ensures.cases.0 at c.parse.ensures.value.0))
