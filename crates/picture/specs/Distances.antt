-- Distances of whole numbers. Assumes nothing.
use Rattle.std.specs.Prelude.{ℕ, ℤ, ◌-ℤ◌}
use Rattle.std.specs.Int.RustNames.{unsigned_abs}

-- How far it is from a to b.
abbrev pub apart : ℤ → ℤ → ℕ
apart a b = unsigned_abs (b -ℤ a)
