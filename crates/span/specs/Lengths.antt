-- How far apart two pins are for the spanning seed, and pins that a net can have. Assumes nothing.
use Rattle.std.specs.Prelude.{◌≡◌, ℕ, ◌<◌, ◌≤◌, true, List, length, ◌≢◌}
use Rattle.space.specs.Totals.{edge_length}
use Rattle.space.specs.declared.TheConstants.{LONGEST}
use Rattle.space.specs.Spots.{spot_of}
use Rattle.space.specs.declared.Space.{Ghosts}
use Rattle.space.specs.declared.spot.Spot.{Spot}

-- The distance between two pins.
abbrev pub pin_distance : {X : Type 0} → Ghosts X → X → List Spot → ℕ → ℕ → ℕ
pin_distance G s pins u v = G.between s (spot_of pins u) (spot_of pins v)

abbrev pub lengths : {X : Type 0} → Ghosts X → X → List Spot → ℕ → ℕ → ℕ
lengths G s pins u v = edge_length G s (spot_of pins u) (spot_of pins v)

-- Pins in a space that owes the laws: each is admitted, and any two are at least 1 apart.
pub record Pinned {X : Type 0} (G : Ghosts X) (s : X) (pins : List Spot) : Type 0 where
  pub narrow : G.width s ≤ LONGEST
  pub admitted : (v : ℕ) → v < length pins → G.admitted s (spot_of pins v) ≡ true
  pub apart : (u v : ℕ) → u < length pins → v < length pins → (u ≢ v) → 1 ≤ pin_distance G s pins u v
