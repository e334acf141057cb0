-- A line that begins with the word of one kind of answer says no other. Assumes nothing.
use Rattle.std.proofs.Common.{◌≡◌, ℕ, List, ◌∷◌, ◌++◌, Option, get_or, ap, sym, ◌∙◌, subst, codes, arith}
use Rattle.picture.specs.declared.row.DrawnRow.{DrawnRow}
use Rattle.picture.specs.declared.answer.AnswerLine.{AnswerLine}
use Rattle.picture.specs.declared.answer.AnswerLine.TheVariants as answer
use Rattle.picture.specs.AnswerLine.{AcceptedFields, RowFields, Says}

first_bytes : (a b : ℕ) (xs ys : List ℕ) → a ∷ xs ≡ b ∷ ys → a ≡ b
first_bytes a b xs ys e = ap (λ (l : List ℕ). get_or l 0 0) e

pub no_row : (bs rest : List ℕ) → bs ≡ codes "N," ++ rest → ((n : ℕ) (r : DrawnRow) → RowFields rest n r → ⊥) → (a : AnswerLine) → Says bs a → ⊥
no_row bs rest e none (answer.Row n r) s =
    let same : s.rest ≡ rest = cc in
    none n r (subst (λ (t : List ℕ). RowFields t n r) same s.holds)
no_row bs rest e none (answer.Accepted l v) s = let first : 78 ≡ 111 = first_bytes 78 111 _ _ (sym e ∙ s.parted) in omega (arith, first)
no_row bs rest e none answer.Refused s = let first : 78 ≡ 110 = first_bytes 78 110 _ _ (sym e ∙ s.parted) in omega (arith, first)

pub no_call : (bs rest : List ℕ) → bs ≡ codes "ok," ++ rest → ((l : ℕ) (v : Option ℕ) → AcceptedFields rest l v → ⊥) → (a : AnswerLine) → Says bs a → ⊥
no_call bs rest e none (answer.Accepted l v) s =
    let same : s.rest ≡ rest = cc in
    none l v (subst (λ (t : List ℕ). AcceptedFields t l v) same s.holds)
no_call bs rest e none (answer.Row n r) s = let first : 111 ≡ 78 = first_bytes 111 78 _ _ (sym e ∙ s.parted) in omega (arith, first)
no_call bs rest e none answer.Refused s = let first : 111 ≡ 110 = first_bytes 111 110 _ _ (sym e ∙ s.parted) in omega (arith, first)
