use Rattle.std.proofs.Common.{◌≡◌, ℕ, ◌<◌, ◌≤◌, cond, eqb, get_or}
use Rattle.seed.proofs.labels.Labels.join.Given as goal

-- the nodes passed have their new labels, and the others their old ones
abbrev pub invariant-loop-label : goal.invariant-loop-label
invariant-loop-label l =
    ((k : ℕ) → k < l.label-index → get_or l.label-items k 0 ≡ cond (eqb (get_or l.initial.label-items k 0) l.from) l.to (get_or l.initial.label-items k 0))
    × ((k : ℕ) → l.label-index ≤ k → get_or l.label-items k 0 ≡ get_or l.initial.label-items k 0)
