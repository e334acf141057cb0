-- A spot as a line of text: three decimal numbers parted by commas. Assumes nothing.
use Rattle.std.specs.Prelude.{◌≡◌, ℕ, List, ◌∷◌, ◌++◌, ℤ, Some, None, Option, FitsSigned}
use Rattle.std.specs.Int.{w32}
use Rattle.std.specs.Str.Parse.{IsNumeral, without_leading_sign, signed_digits_value}
use Rattle.space.specs.declared.spot.Spot.{Spot}

-- The bytes write the number z: one decimal digit or more, with or without a sign before them, in signed 32 bits.
pub record Writes (bs : List ℕ) (z : ℤ) : Type 0 where
  pub digits : IsNumeral 10 (without_leading_sign bs)
  pub fits : FitsSigned w32 (signed_digits_value 10 bs)
  pub is : z ≡ signed_digits_value 10 bs

-- The three texts write the numbers of the spot.
pub record Numbers (first second third : List ℕ) (s : Spot) : Type 0 where
  pub x : Writes first s.x
  pub y : Writes second s.y
  pub level : Writes third s.level

-- The bytes are the three numbers of the spot, with a comma (44) after the first and the second.
pub record SpotLine (bs : List ℕ) (s : Spot) : Type 0 where
  pub first : List ℕ
  pub second : List ℕ
  pub third : List ℕ
  pub parted : bs ≡ first ++ (44 ∷ (second ++ (44 ∷ third)))
  pub numbers : Numbers first second third s

-- The answer of a reader: what the bytes stand for, and nothing exactly when they stand for nothing.
abbrev pub Parsed : {X : Type 0} → (List ℕ → X → Type 0) → List ℕ → Option X → Type 0
Parsed {X} Means bs None = (x : X) → Means bs x → ⊥
Parsed Means bs (Some x) = Means bs x
