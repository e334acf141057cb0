use Rattle.std.proofs.Common.{rules}
use Rattle.std.proofs.lemmas.Result.{err_from_is_err_and}
use Rattle.space.proofs.Cuts.{no_comma, no_second_comma, cut_twice}
use Rattle.space.proofs.spot.SpotFromStr.from_str.Goals as goal

pub returns-in_err-first : goal.returns-in_err-first
returns-in_err-first c =
    rw (err_from_is_err_and c.from_residual.result c.from_residual.ensures.1).1
    (no_comma c.args.line.now _ c.split_once.ensures.cases c.in_err-first.ensures.ok_part)

pub returns-in_err-second : goal.returns-in_err-second
returns-in_err-second c =
    rw (err_from_is_err_and c.from_residual-in_err-second.result c.from_residual-in_err-second.ensures.1).1
    (no_second_comma c.args.line.now _ c.in_ok-first.first c.in_ok-first.rest c.split_once.ensures.cases c.in_ok-first.ensures.ok_part _ c.split_once-2.ensures.cases c.in_err-second.ensures.ok_part)

pub returns-in_err-x : goal.returns-in_err-x
returns-in_err-x c =
    let pieces = cut_twice c.args.line.now _ _ c.in_ok-first.first c.in_ok-first.rest c.in_ok-second.second c.in_ok-second.third c.split_once.ensures.cases c.in_ok-first.ensures.ok_part c.split_once-2.ensures.cases c.in_ok-second.ensures.ok_part in
    rw (err_from_is_err_and c.from_residual-in_err-x.result c.from_residual-in_err-x.ensures.1).1
    (λ s l. let w = (pieces.numbers s l).x in c.in_err-x.ensures.value.0 (w.digits, w.fits))

pub returns-in_err-y : goal.returns-in_err-y
returns-in_err-y c =
    let pieces = cut_twice c.args.line.now _ _ c.in_ok-first.first c.in_ok-first.rest c.in_ok-second.second c.in_ok-second.third c.split_once.ensures.cases c.in_ok-first.ensures.ok_part c.split_once-2.ensures.cases c.in_ok-second.ensures.ok_part in
    rw (err_from_is_err_and c.from_residual-in_err-y.result c.from_residual-in_err-y.ensures.1).1
    (λ s l. let w = (pieces.numbers s l).y in c.in_err-y.ensures.value.0 (w.digits, w.fits))

pub returns-in_err-level : goal.returns-in_err-level
returns-in_err-level c =
    let pieces = cut_twice c.args.line.now _ _ c.in_ok-first.first c.in_ok-first.rest c.in_ok-second.second c.in_ok-second.third c.split_once.ensures.cases c.in_ok-first.ensures.ok_part c.split_once-2.ensures.cases c.in_ok-second.ensures.ok_part in
    rw (err_from_is_err_and c.from_residual-in_err-level.result c.from_residual-in_err-level.ensures.1).1
    (λ s l. let w = (pieces.numbers s l).level in c.in_err-level.ensures.value.0 (w.digits, w.fits))

pub returns : goal.returns
returns c =
    let pieces = cut_twice c.args.line.now _ _ c.in_ok-first.first c.in_ok-first.rest c.in_ok-second.second c.in_ok-second.third c.split_once.ensures.cases c.in_ok-first.ensures.ok_part c.split_once-2.ensures.cases c.in_ok-second.ensures.ok_part in
    pieces.line _ (record { x = search rules; y = search rules; level = search rules })
