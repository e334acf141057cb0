use Rattle.input.proofs.Cuts.{no_slash, ratio_over, ratio_under}
use Rattle.input.proofs.numbers.ratio.Goals as goal

pub returns-in_err-first : goal.returns-in_err-first
returns-in_err-first c = rw c.from_residual.ensures (no_slash c.args.text.now _ c.split_once.ensures.cases c.in_err-first.was)

pub returns-in_err-p : goal.returns-in_err-p
returns-in_err-p c =
    rw c.from_residual-in_err-p.ensures
    (λ x l. c.in_err-p.ensures x.0 (ratio_over c.args.text.now _ c.in_ok-first.first c.in_ok-first.second c.split_once.ensures.cases c.in_ok-first.was x l))

pub returns-in_err-q : goal.returns-in_err-q
returns-in_err-q c =
    rw c.from_residual-in_err-q.ensures
    (λ x l. c.in_err-q.ensures x.1 (ratio_under c.args.text.now _ c.in_ok-first.first c.in_ok-first.second c.split_once.ensures.cases c.in_ok-first.was x l))
