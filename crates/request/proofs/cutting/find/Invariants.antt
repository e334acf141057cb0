use Rattle.request.specs.Lines.{Lacks}
use Rattle.request.proofs.cutting.find.Given as goal

abbrev pub invariant-loop-i : goal.invariant-loop-i
invariant-loop-i l = Lacks l.byte l.text l.i
