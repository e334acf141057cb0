-- How far apart the pins of a net are in their space, and what holds while their spanning seed grows. Assumes nothing.
use Rattle.std.specs.Prelude.{ℕ, List, length}
use Rattle.space.specs.declared.Space.{Ghosts}
use Rattle.seed.specs.declared.store.Seed.{Seed}
use Rattle.span_laws.specs.declared.link.Link.{Link}
use Rattle.span.specs.Grown.{Growing}
use Rattle.span.specs.Lengths.{lengths}
use Rattle.span.specs.declared.pins.Pins.{Pins}

abbrev pub lengths_of : {X : Type 0} {G : Ghosts X} → Pins X G → ℕ → ℕ → ℕ
lengths_of {X} {G} pins = lengths G pins.space.now pins.spots.now

-- The seed t is on its way to the spanning seed of the pins, and F are the first links of the pins outside.
abbrev pub GrowingBy : {X : Type 0} {G : Ghosts X} → Pins X G → (t : Seed) → (F : List Link) → Type 0
GrowingBy pins t F = Growing (length pins.spots.now) (lengths_of pins) t F
