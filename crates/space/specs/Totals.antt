-- Distances and meets made total: what stands where a space has none, and how far a distance is counted. Assumes nothing.
use Rattle.std.specs.Prelude.{ℕ, min, max, Bool, ◌&&◌}
use Rattle.std.specs.Option.{unwrap_or}
use Rattle.space.specs.Laws.{answered}
use Rattle.space.specs.declared.Joining.{Ghosts as JoinGhosts}
use Rattle.space.specs.declared.Space.{Ghosts}
use Rattle.space.specs.declared.TheConstants.{LONGEST}
use Rattle.space.specs.declared.spot.Spot.{Spot}

-- A distance, at most LONGEST; 0 where there is none.
abbrev pub capped : (admitted : Spot → Bool) (between : Spot → Spot → ℕ) → Spot → Spot → ℕ
capped admitted between a b = min LONGEST (unwrap_or (answered (admitted a && admitted b) (between a b)) 0)

-- A meet of a and b seen from o; o where there is none.
abbrev pub met : (admitted : Spot → Bool) (meeting : Spot → Spot → Spot → Spot) → Spot → Spot → Spot → Spot
met admitted meeting o a b = unwrap_or (answered (admitted o && admitted a && admitted b) (meeting o a b)) o

-- The same in a space.
abbrev pub capped_distance : {X : Type 0} → Ghosts X → X → Spot → Spot → ℕ
capped_distance G s = capped (G.admitted s) (G.between s)

abbrev pub meet_or_start : {X : Type 0} → Ghosts X → JoinGhosts X → X → Spot → Spot → Spot → Spot
meet_or_start G J s = met (G.admitted s) (J.meeting s)

-- The distance as the length of an edge, which is 1 or more.
abbrev pub edge_length : {X : Type 0} → Ghosts X → X → Spot → Spot → ℕ
edge_length G s a b = max 1 (capped_distance G s a b)
