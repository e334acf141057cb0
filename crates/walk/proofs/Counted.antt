-- Breakpoints counted along the rows. Assumes nothing.
use Rattle.std.proofs.Common.{◌≡◌, ℕ, zero, suc, ◌+◌, cond, List, ◌∷◌, length, count_by, refl, arith}
use Rattle.std.proofs.lemmas.List.Recursion.{is_sum_by}
use Rattle.walk_laws.specs.Promise.{sum_to}
use Rattle.walk.specs.declared.row.Mark.{Mark}
use Rattle.walk.specs.declared.row.NodeRow.{NodeRow}
use Rattle.walk.specs.Marks.{marks_of}
use Rattle.walk.specs.Tables.{break_at}
use Rattle.walk.specs.WalkValue.{marks_in}

-- A sum by its first part and the others.
sum_first : (f : ℕ → ℕ) (n : ℕ) → sum_to f (suc n) ≡ f 0 + sum_to (λ k. f (suc k)) n
sum_first f zero = omega arith
sum_first f (suc n) = omega (arith, sum_first f n)

abbrev pub breaks : List Mark → ℕ
breaks marks = sum_to (break_at (marks_of marks)) (length marks)

pub breaks_counted : (rows : List NodeRow) → breaks (marks_in rows) ≡ count_by (λ (r : NodeRow). r.mark.broken) rows
breaks_counted rows =
    is_sum_by (λ (rs : List NodeRow). breaks (marks_in rs)) (λ r. cond r.mark.broken 1 0) refl
    (λ r rest. sum_first (break_at (marks_of (marks_in (r ∷ rest)))) (length (marks_in rest))) rows
