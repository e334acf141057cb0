-- What the arguments of a program say. Assumes nothing.
use Rattle.std.specs.Prelude.{◌≡◌, ℕ, ◌⊎◌, List, Some, None, Option}
use Rattle.walk_laws.specs.Walk.{LawfulAllowance}
use Rattle.input.specs.Numbers.{Ratio, WritesNatural}
use Rattle.input.specs.declared.arguments.BadArgument.{BadArgument}
use Rattle.input.specs.declared.arguments.BadArgument.TheVariants.{Allowance, Price}

-- The text, if there is one, writes the price n; without one the price is 40.
abbrev pub Costs : Option (List ℕ) → ℕ → Type 0
Costs None n = n ≡ 40
Costs (Some bs) n = WritesNatural bs n

-- The text, if there is one, writes p/q; without one the ratio is 1/4.
abbrev pub Says : Option (List ℕ) → (p q : ℕ) → Type 0
Says None p q = (p ≡ 1) × (q ≡ 4)
Says (Some bs) p q = Ratio bs (p, q)

-- The text writes no ratio, or one that is no allowance.
abbrev pub Unlawful : Option (List ℕ) → Type 0
Unlawful t =
    ((p q : ℕ) → Says t p q → ⊥) ⊎ ((p : ℕ) × (q : ℕ) × Says t p q × (LawfulAllowance p q → ⊥))

-- Why the texts are refused: the first writes no price; or it does, and the second says no allowance.
abbrev pub Refuses : (price ratio : Option (List ℕ)) → BadArgument → Type 0
Refuses t u Price = (n : ℕ) → Costs t n → ⊥
Refuses t u Allowance = ((n : ℕ) × Costs t n) × Unlawful u
