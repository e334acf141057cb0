use Rattle.std.proofs.Common.{map}
use Rattle.std.specs.Map.Iter.{deref}
use Rattle.picture.proofs.Boxes.{Boxed}
use Rattle.picture.proofs.table.DrawnTable.frame.Given as goal

-- the rows so far lie in the box
abbrev pub invariant-loop-row : goal.invariant-loop-row
invariant-loop-row l = Boxed l.frame (map deref l.yielded)
