-- Spots in a list, and a spot as text. Assumes nothing.
use Rattle.std.specs.Prelude.{ℕ, List, ◌++◌, ◌∷◌, ℤ, pos, slice_index_or}
use Rattle.std.specs.Fmt.{signed_decimal}
use Rattle.space.specs.declared.spot.Spot.{Spot}

-- The spot on level 0 with x and y 0.
abbrev pub origin : Spot
origin = record { x = pos 0; y = pos 0; level = pos 0 }

-- The spot moved to another level.
abbrev pub spot_at_level : Spot → ℤ → Spot
spot_at_level s n = record { x = s.x; y = s.y; level = n }

-- The spot at the place k, and the origin where there is none.
abbrev pub spot_of : List Spot → ℕ → Spot
spot_of spots k = slice_index_or spots k origin

-- The three numbers in decimal, with a comma (44) after the first and the second.
abbrev pub spot_text : Spot → List ℕ
spot_text s = signed_decimal s.x ++ 44 ∷ signed_decimal s.y ++ 44 ∷ signed_decimal s.level
