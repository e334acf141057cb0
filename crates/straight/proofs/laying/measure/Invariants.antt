use Rattle.std.proofs.Common.{◌≡◌, length, map, take}
use Rattle.space.specs.Totals.{capped_distance}
use Rattle.space.specs.Spots.{spot_of}
use Rattle.straight.proofs.laying.measure.Given as goal

-- there is a row for each of the spots passed, with its distance
abbrev pub invariant-loop-spot : goal.invariant-loop-spot
invariant-loop-spot g l =
    (l.walk.directs ≡ map (capped_distance g.S.Space l.space (spot_of l.spots 0)) (take l.spot-index l.spots))
    × (length l.walk.marks ≡ l.spot-index)
