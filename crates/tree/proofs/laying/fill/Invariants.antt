use Rattle.std.proofs.Common.{◌≡◌, take, vec_items, vec_capacity}
use Rattle.tree.proofs.laying.fill.Given as goal

-- the rows passed are laid
abbrev pub invariant-loop-k : goal.invariant-loop-k
invariant-loop-k g l =
    (vec_items l.rows ≡ take l.k (g.R.TreeRows.tree l.source).rows)
    × (vec_capacity l.rows ≡ vec_capacity l.initial.rows)
