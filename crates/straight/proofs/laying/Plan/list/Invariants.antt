use Rattle.std.proofs.Common.{◌≡◌, ◌≤◌, vec_items, vec_len, vec_capacity}
use Rattle.walk.specs.Marks.{marks_of}
use Rattle.build_laws.specs.Straight.{breakpoints}
use Rattle.straight.proofs.laying.Plan.list.Given as goal

-- the breakpoints among the nodes passed are listed
abbrev pub invariant-loop-v : goal.invariant-loop-v
invariant-loop-v l =
    (vec_items l.broken ≡ breakpoints (marks_of l.self.walk.now.marks) l.v)
    × (vec_len l.broken ≤ l.v)
    × (vec_capacity l.broken ≡ vec_capacity l.initial.broken)
