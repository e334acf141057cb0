-- Numbers as job text has them: decimal, with no plus, no leading zero and no minus before 0. Assumes nothing.
use Rattle.std.specs.Prelude.{◌≡◌, ◌≢◌, ℕ, ℤ, ◌<◌, List, Option, Some, None, decimal, length, slice_index}
use Rattle.std.specs.Fmt.{signed_decimal}
use Rattle.std.specs.Int.RustNames.{FitsSigned}
use Rattle.std.specs.Int.{w32}

-- A text begins as a number does: with no plus (43), and with a zero (48) only alone.
abbrev pub Begins : List ℕ → Type 0
Begins text = (slice_index text 0 ≢ 43) × (slice_index text 0 ≡ 48 → length text ≡ 1)

-- A text begins as a signed number does: as a number, and with no zero behind a minus (45).
abbrev pub BeginsSigned : List ℕ → Type 0
BeginsSigned text = Begins text × (slice_index text 0 ≡ 45 → slice_index text 1 ≢ 48)

-- A number below the bound is read exactly from its own text, and nothing exactly from a text that is none's.
abbrev pub ReadsBelow : ℕ → Option ℕ → List ℕ → Type 0
ReadsBelow bound (Some n) text = (n < bound) × (text ≡ decimal n)
ReadsBelow bound None text = (n : ℕ) → n < bound → text ≡ decimal n → ⊥

-- The same of a signed number of 32 bits.
abbrev pub ReadsSigned : Option ℤ → List ℕ → Type 0
ReadsSigned (Some z) text = FitsSigned w32 z × (text ≡ signed_decimal z)
ReadsSigned None text = (z : ℤ) → FitsSigned w32 z → text ≡ signed_decimal z → ⊥
