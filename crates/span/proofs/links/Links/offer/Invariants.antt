use Rattle.std.proofs.Common.{◌≡◌, ◌++◌, ◌<◌, length, map, take, drop}
use Rattle.std.specs.List.{All}
use Rattle.span.specs.Measured.{lengths_of}
use Rattle.span.specs.Growth.{offered_link}
use Rattle.span.proofs.links.Links.offer.Given as goal

abbrev pub invariant-loop-old : goal.invariant-loop-old
invariant-loop-old g l =
    (l.old-items ≡ map (offered_link (lengths_of l.pins) l.u) (take l.old-index l.initial.old-items) ++ drop l.old-index l.initial.old-items)
    × All (λ x. x.v < length l.pins.spots.now) l.old-items
