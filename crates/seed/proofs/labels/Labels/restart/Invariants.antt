use Rattle.std.proofs.Common.{◌≡◌, [], length}
use Rattle.seed.specs.Labelled.{Labelled}
use Rattle.seed.proofs.labels.Labels.restart.Given as goal

-- the nodes added so far, each with its own number
abbrev pub invariant-loop : goal.invariant-loop
invariant-loop l = (length l.self.of.items ≡ l.counter) × Labelled [] l.self.of.items
