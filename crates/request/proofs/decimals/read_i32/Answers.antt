use Rattle.std.proofs.Common.{arith, rules}
use Rattle.request.specs.Decimals.{BeginsSigned}
use Rattle.request.proofs.Numerals.{begins_signed_not, utf8_signed_not, read_signed}
use Rattle.request.proofs.decimals.read_i32.Goals as goal

pub returns-then-not-begins_signed : goal.returns-then-not-begins_signed
returns-then-not-begins_signed c = λ z f e. begins_signed_not z c.args.text.now (omega (arith, f)) (λ p. let yes = c.begins_signed.ensures.1 p in (cc)) e

pub returns-in-Err : goal.returns-in-Err
returns-in-Err c = λ z f e. utf8_signed_not z c.args.text.now (omega (arith, f)) c.in-Err.ensures.cases.0 e

pub returns-in-Ok : goal.returns-in-Ok
returns-in-Ok c =
    let lead : BeginsSigned c.args.text.now = c.begins_signed.ensures.0 (search rules) in
    rw c.ok.ensures.value (read_signed c.args.text.now c.parse.result lead (rw c.in-Ok.ensures.cases.0 at c.parse.ensures.value.0))
