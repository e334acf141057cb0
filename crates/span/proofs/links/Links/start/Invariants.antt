use Rattle.std.proofs.Common.{◌≡◌, ◌+◌, ◌≤◌, max, length, vec_len, vec_items, vec_capacity}
use Rattle.span.specs.Measured.{lengths_of}
use Rattle.span.specs.Growth.{fan}
use Rattle.span.proofs.links.Links.start.Given as goal

abbrev pub invariant-loop-v : goal.invariant-loop-v
invariant-loop-v g l =
    (vec_items l.self.outside ≡ fan (lengths_of l.pins) (vec_len l.self.outside))
    × (vec_len l.self.outside + 1 ≡ l.v)
    × (l.v ≤ max 1 (length l.pins.spots.now))
    × (vec_capacity l.self.outside ≡ vec_capacity l.initial.self.outside)
