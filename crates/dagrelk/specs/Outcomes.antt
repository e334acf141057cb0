-- What C is told of a run. Assumes nothing.
use Rattle.std.specs.Prelude.{◌≡◌, ◌⊎◌, ℕ, Bool, true, false, List}
use Rattle.job.specs.Jobs.{AsksNet, JobRan}
use Rattle.dagrelk.specs.declared.DagrelkOutcome.{DagrelkOutcome}

abbrev pub stop_of : (stopped : Bool) → ℕ
stop_of true = 1
stop_of false = 0

-- There was memory, and the job was run; or there was none for the net that its first line asks for, and nothing was done.
abbrev pub RanForC : (job old new : List ℕ) → DagrelkOutcome → Type 0
RanForC job old new c =
    ((b : Bool) × (c.stop ≡ stop_of b) × JobRan job old new (record { lines = c.lines; bytes = c.bytes; stopped = b }))
    ⊎ (AsksNet job × (c.stop ≡ 2) × (c.lines ≡ 0) × (c.bytes ≡ 0) × (new ≡ old))
