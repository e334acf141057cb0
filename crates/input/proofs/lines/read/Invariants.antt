use Rattle.std.proofs.Common.{◌≤◌, vec_items}
use Rattle.input.proofs.Lining.{Upto}
use Rattle.input.proofs.lines.read.Given as goal

-- no entry so far is past the line that is read
abbrev pub invariant-loop-text : goal.invariant-loop-text
invariant-loop-text l = Upto (vec_items l.entries) l.line × (l.line ≤ 18446744073709551615)
