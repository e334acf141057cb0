-- The numbers of a price and of a ratio as text. Assumes nothing.
use Rattle.std.specs.Prelude.{◌≡◌, ℕ, ◌^◌, ◌<◌, List, ◌∷◌, ◌++◌}
use Rattle.std.specs.Str.Parse.{IsNumeral, without_leading_plus, digits_value}

-- The bytes write the number n: one decimal digit or more, with or without a plus before them, in unsigned 32 bits.
pub record WritesNatural (bs : List ℕ) (n : ℕ) : Type 0 where
  pub digits : IsNumeral 10 (without_leading_plus bs)
  pub fits : digits_value 10 (without_leading_plus bs) < 2 ^ 32
  pub is : n ≡ digits_value 10 (without_leading_plus bs)

-- The bytes are two such numbers with a slash (47) between them.
pub record Ratio (bs : List ℕ) (x : ℕ × ℕ) : Type 0 where
  pub first : List ℕ
  pub second : List ℕ
  pub parted : bs ≡ first ++ (47 ∷ second)
  pub over : WritesNatural first x.0
  pub under : WritesNatural second x.1
