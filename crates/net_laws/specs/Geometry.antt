-- What a space means to a net. Assumes nothing.
use Rattle.std.specs.Prelude.{ℕ, Bool}
use Rattle.space.specs.declared.spot.Spot.{Spot}

-- Which spots it admits, how wide it is, the distance of two spots, and the meet of a and b seen from o.
pub record Geometry : Type 0 where
  pub admitted : Spot → Bool
  pub width : ℕ
  pub between : Spot → Spot → ℕ
  pub meeting : Spot → Spot → Spot → Spot
