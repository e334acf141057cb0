-- The lines of rows, one after the other.
use Rattle.std.proofs.Common.{◌≡◌, ℕ, zero, suc, ◌+◌, ◌<◌, ◌≤◌, List, [], ◌∷◌, ◌++◌, length, take, drop, refl, sym, ap, ◌∙◌, append_assoc, arith}
use Rattle.std.proofs.lemmas.List.{append-nil, length-append, length-take-le, take_more}
use Rattle.tree_laws.specs.Trees.{blank, row_of}
use Rattle.tree_laws.specs.declared.Row.{Row}
use Rattle.reply.specs.Texts.{row_text, rows_text}

rows_more : (i : ℕ) (xs ys : List Row) → rows_text i (xs ++ ys) ≡ rows_text i xs ++ rows_text (i + length xs) ys
rows_more i [] ys = ap (λ k. rows_text k ys) (omega arith)
rows_more i (x ∷ xs) ys =
    ap (λ t. row_text i x ++ t) (rows_more (suc i) xs ys ∙ ap (λ k. rows_text (suc i) xs ++ rows_text k ys) (omega arith))
    ∙ sym (append_assoc (row_text i x) (rows_text (suc i) xs) (rows_text (i + suc (length xs)) ys))

pub row_more : (rows : List Row) (k : ℕ) → k < length rows → rows_text 0 (take (k + 1) rows) ≡ rows_text 0 (take k rows) ++ row_text k (row_of rows k)
row_more rows k h =
    let r = row_of rows k in
    let long : length (take k rows) ≡ k = length-take-le k rows (omega arith) in
    ap (rows_text 0) (take_more rows k blank h)
    ∙ rows_more 0 (take k rows) (r ∷ [])
    ∙ ap (λ i. rows_text 0 (take k rows) ++ rows_text i (r ∷ [])) (omega (arith, long))
    ∙ ap (λ t. rows_text 0 (take k rows) ++ t) (append-nil (row_text k r))

split : (k : ℕ) (rows : List Row) → take k rows ++ drop k rows ≡ rows
split zero rows = refl
split (suc k) [] = refl
split (suc k) (r ∷ rows) = ap (λ rs. r ∷ rs) (split k rows)

-- The lines of some are no more than those of all.
pub part : (rows : List Row) (k : ℕ) → length (rows_text 0 (take k rows)) ≤ length (rows_text 0 rows)
part rows k =
    let xs = take k rows in
    let ys = drop k rows in
    let whole : rows_text 0 rows ≡ rows_text 0 xs ++ rows_text (0 + length xs) ys = ap (rows_text 0) (sym (split k rows)) ∙ rows_more 0 xs ys in
    omega (arith, ap length whole, length-append (rows_text 0 xs) (rows_text (0 + length xs) ys))
