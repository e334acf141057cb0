-- The letter that a refusal is printed with. Assumes nothing.
use Rattle.std.specs.Prelude.{ℕ}
use Rattle.net_laws.specs.declared.fault.Layer.{Layer}
use Rattle.net_laws.specs.declared.fault.Layer.TheVariants.{Net, Space}

-- 's' for the space, 'n' for the net.
abbrev pub letter_of : Layer → ℕ
letter_of Space = 115
letter_of Net = 110
