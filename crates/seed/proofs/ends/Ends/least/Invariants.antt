use Rattle.std.proofs.Common.{◌≡◌, ℕ, ◌<◌, ◌≤◌, get_or}
use Rattle.seed.specs.declared.end.End.{End}
use Rattle.seed.proofs.ends.Ends.least.Given as goal

-- the ends passed lead to the node that is left out
abbrev pub invariant-loop-i : goal.invariant-loop-i
invariant-loop-i l = (k : ℕ) (d : End) → l.begin ≤ k → k < l.i → (get_or l.self.sorted.items k d).across ≡ l.from
