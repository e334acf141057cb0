use Rattle.picture.proofs.Rows.{first_number, no_comma}
use Rattle.picture.proofs.answer.number_first.Goals as goal

pub returns-in_err-first : goal.returns-in_err-first
returns-in_err-first c = rw c.from_residual.ensures (no_comma c.args.text.now _ c.split_once.ensures.cases c.in_err-first.was)

pub returns-in_err-number : goal.returns-in_err-number
returns-in_err-number c =
    rw c.from_residual-in_err-number.ensures
    (λ n rest l. c.in_err-number.ensures n (first_number c.args.text.now _ c.in_ok-first.first c.in_ok-first.rest c.split_once.ensures.cases c.in_ok-first.was n rest l))
