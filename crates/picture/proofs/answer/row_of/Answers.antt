use Rattle.picture.proofs.Rows.{fifth, fourth, last, second, third}
use Rattle.picture.proofs.answer.row_of.Goals as goal

pub returns-in_err-number : goal.returns-in_err-number
returns-in_err-number c = rw c.from_residual.ensures (λ n r l. c.in_err-number.ensures _ _ l.number)

pub returns-in_err-parent : goal.returns-in_err-parent
returns-in_err-parent c = rw c.from_residual-in_err-parent.ensures (λ n r l. c.in_err-parent.ensures _ _ (second _ n r l _ _ c.in_ok-number.ensures))

pub returns-in_err-x : goal.returns-in_err-x
returns-in_err-x c = rw c.from_residual-in_err-x.ensures (λ n r l. c.in_err-x.ensures _ _ (third _ n r l _ _ c.in_ok-number.ensures _ _ c.in_ok-parent.ensures))

pub returns-in_err-y : goal.returns-in_err-y
returns-in_err-y c =
    rw c.from_residual-in_err-y.ensures
    (λ n r l. c.in_err-y.ensures _ _ (fourth _ n r l _ _ c.in_ok-number.ensures _ _ c.in_ok-parent.ensures _ _ c.in_ok-x.ensures))

pub returns-in_err-level : goal.returns-in_err-level
returns-in_err-level c =
    rw c.from_residual-in_err-level.ensures
    (λ n r l. c.in_err-level.ensures _ _ (fifth _ n r l _ _ c.in_ok-number.ensures _ _ c.in_ok-parent.ensures _ _ c.in_ok-x.ensures _ _ c.in_ok-y.ensures))

pub returns-in_err-length : goal.returns-in_err-length
returns-in_err-length c =
    rw c.from_residual-in_err-length.ensures
    (λ n r l. c.in_err-length.ensures _ (last _ n r l _ _ c.in_ok-number.ensures _ _ c.in_ok-parent.ensures _ _ c.in_ok-x.ensures _ _ c.in_ok-y.ensures _ _ c.in_ok-level.ensures))
