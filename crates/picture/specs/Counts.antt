-- Pins, Steiner points and the kinds of rows. Assumes nothing.
use Rattle.std.specs.Prelude.{ℕ, ◌+◌, min, if◌then◌else◌, nat_eq, nat_lt}
use Rattle.picture.specs.declared.counts.Counts.{Counts}
use Rattle.picture.specs.declared.counts.Kind.{Kind}
use Rattle.picture.specs.declared.counts.Kind.TheVariants as kind
use Rattle.picture.specs.declared.job.JobLine.{JobLine}
use Rattle.picture.specs.declared.job.JobLine.TheVariants.{Net, Pin, Steiner, Seed, Change, Worst, Table, Other}

-- One more, as far as 64 bits go.
abbrev pub one_more : ℕ → ℕ
one_more n = min (n + 1) 18446744073709551615

-- The counts after an accepted call: a pin drops the Steiner points, and so does a new seed.
abbrev pub counts_after : JobLine → Counts → Counts
counts_after (Net _) c = record { pins = 0; points = 0 }
counts_after Pin c = record { pins = one_more c.pins; points = 0 }
counts_after Steiner c = record { pins = c.pins; points = one_more c.points }
counts_after Seed c = record { pins = c.pins; points = 0 }
counts_after Change c = c
counts_after Worst c = c
counts_after Table c = c
counts_after Other c = c

-- Row 0 is the driver; then come the other pins, the Steiner points, and the rows where wires part.
abbrev pub kind_of : Counts → ℕ → Kind
kind_of c n =
    if nat_eq n 0 then kind.Driver else
    (if nat_lt n c.pins then kind.Pin else
    (if nat_lt n (c.pins + c.points) then kind.Steiner else kind.Meet))
