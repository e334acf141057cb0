use Rattle.std.proofs.Common.{◌≡◌, ◌+◌, length}
use Rattle.span.specs.Grown.{Growing}
use Rattle.span.specs.Measured.{lengths_of}
use Rattle.span.proofs.growing.Spanner.grow.Given as goal

abbrev pub invariant-loop : goal.invariant-loop
invariant-loop g l =
    Growing (length l.pins.spots.now) (lengths_of l.pins) l.seed l.self.links.outside.items
    × (length l.seed.edges + 1 ≡ l.counter)
