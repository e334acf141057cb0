use Rattle.std.proofs.Common.{List}
use Rattle.order.specs.Bests.{Found}
use Rattle.order.specs.Firsts.{FirstOf}
use Rattle.search.proofs.first_found.Given as goal

-- the first so far is that of the candidates found so far
abbrev pub invariant-loop-i : goal.invariant-loop-i
invariant-loop-i g l = (xs : List g.row.C.Denot) × Found (goal.F-post g l.find) l.i xs × FirstOf g.C.Rank.before xs l.first
