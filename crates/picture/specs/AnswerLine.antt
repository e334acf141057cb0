-- The lines of answers as text. Assumes nothing.
use Rattle.std.specs.Prelude.{◌≡◌, ◌==◌, ℕ, ℤ, ◌^◌, ◌<◌, List, ◌∷◌, ◌++◌, Option, codes}
use Rattle.std.specs.List.{after_first, before_first}
use Rattle.std.specs.Str.Parse.{IsNumeral, without_leading_plus, digits_value}
use Rattle.space.specs.Lines.{Parsed, Writes}
use Rattle.picture.specs.declared.answer.AnswerLine.{AnswerLine}
use Rattle.picture.specs.declared.answer.AnswerLine.TheVariants as answer
use Rattle.picture.specs.declared.row.DrawnRow.{DrawnRow}

-- The bytes write the number n: one decimal digit or more, with or without a plus before them, in unsigned 64 bits.
pub record WritesNumber (bs : List ℕ) (n : ℕ) : Type 0 where
  pub digits : IsNumeral 10 (without_leading_plus bs)
  pub fits : digits_value 10 (without_leading_plus bs) < 2 ^ 64
  pub is : n ≡ digits_value 10 (without_leading_plus bs)

-- The bytes write the number n, a comma (44) and the rest.
pub record NumberFirst (bs : List ℕ) (n : ℕ) (rest : List ℕ) : Type 0 where
  pub first : List ℕ
  pub parted : bs ≡ first ++ (44 ∷ rest)
  pub number : WritesNumber first n

-- The same for a number with a minus or without, in signed 32 bits.
pub record SignedFirst (bs : List ℕ) (z : ℤ) (rest : List ℕ) : Type 0 where
  pub first : List ℕ
  pub parted : bs ≡ first ++ (44 ∷ rest)
  pub number : Writes first z

-- The bytes write a row's number and the row, `number,parent,x,y,level,length`, and nothing else.
pub record RowFields (bs : List ℕ) (n : ℕ) (r : DrawnRow) : Type 0 where
  pub after_number : List ℕ
  pub after_parent : List ℕ
  pub after_x : List ℕ
  pub after_y : List ℕ
  pub after_level : List ℕ
  pub number : NumberFirst bs n after_number
  pub parent : NumberFirst after_number r.parent after_parent
  pub x : SignedFirst after_parent r.spot.x after_x
  pub y : SignedFirst after_x r.spot.y after_y
  pub level : SignedFirst after_y r.spot.level after_level
  pub length : WritesNumber after_level r.length

-- The bytes write the number of a line, and after a comma the value, if there is one; what follows a further comma is not read.
pub record AcceptedFields (bs : List ℕ) (l : ℕ) (v : Option ℕ) : Type 0 where
  pub line : WritesNumber (before_first (λ b. b == 44) bs) l
  pub value : Parsed WritesNumber (before_first (λ b. b == 44) (after_first (λ b. b == 44) bs)) v

-- The bytes are a word and what holds of the rest.
pub record After (word bs : List ℕ) (P : List ℕ → Type 0) : Type 0 where
  pub rest : List ℕ
  pub parted : bs ≡ word ++ rest
  pub holds : P rest

-- What a line of answers says: a row, an accepted call, or a refusal, of which only the word is read.
abbrev pub Says : List ℕ → AnswerLine → Type 0
Says bs (answer.Row n r) = After (codes "N,") bs (λ rest. RowFields rest n r)
Says bs (answer.Accepted l v) = After (codes "ok,") bs (λ rest. AcceptedFields rest l v)
Says bs answer.Refused = After (codes "no,") bs (λ rest. Unit {0})
