-- What callers see of the rows. Assumes nothing.
use Rattle.std.proofs.Common.{◌≡◌, ℕ, zero, suc, List, [], ◌∷◌, ◌++◌, length, take, drop, sym, refl, ap, ◌∙◌, slice_index}
use Rattle.std.proofs.Math.Seq.{take-append_seam}
use Rattle.std.proofs.lemmas.List.{ext_get_or, length-map}
use mathlib.Core.Path.{fun_ext}
use Rattle.walk.specs.declared.row.NodeRow.{NodeRow}
use Rattle.walk.specs.Marks.{directs, marks, marks_of}
use Rattle.walk.specs.Walked.{DirectsKept}
use Rattle.walk.specs.WalkValue.{direct_in, directs_in, marks_in}

mark_in : (rows : List NodeRow) (k : ℕ) → marks rows k ≡ marks_of (marks_in rows) k
mark_in [] k = refl
mark_in (r ∷ rows) zero = refl
mark_in (r ∷ rows) (suc k) = mark_in rows k

pub marks_seen : (rows : List NodeRow) → marks rows ≡ marks_of (marks_in rows)
marks_seen rows = fun_ext (mark_in rows)

pub directs_seen : (rows : List NodeRow) → directs rows ≡ slice_index (directs_in rows)
directs_seen rows = fun_ext (direct_in rows)

-- Direct distances that are kept are the same list.
pub kept_seen : (rows rows' : List NodeRow) → DirectsKept rows rows' → directs_in rows' ≡ directs_in rows
kept_seen rows rows' d =
    ext_get_or 0 (directs_in rows') (directs_in rows)
    (length-map rows' (λ r. r.direct) ∙ d.count ∙ sym (length-map rows (λ r. r.direct)))
    (λ k h. sym (direct_in rows' k) ∙ d.direct k ∙ direct_in rows k)

-- Rows that are written over all n rows are the rows then.
pub written : (n : ℕ) (rows old : List NodeRow) → length rows ≡ n → take n (rows ++ drop (length rows) old) ≡ rows
written n rows old h =
    ap (λ k. take k (rows ++ drop (length rows) old)) (sym h) ∙ take-append_seam rows (drop (length rows) old)
