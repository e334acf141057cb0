use Rattle.std.proofs.Common.{◌≡◌, ◌++◌, map, take, length}
use Rattle.request.specs.Lines.{fields_of, fields_behind}
use Rattle.request.proofs.cutting.cut.Given as goal

abbrev pub invariant-loop-count : goal.invariant-loop-count
invariant-loop-count l = (length l.fields ≡ 5) × (map (λ f. f.now) (take l.count l.fields) ++ fields_behind l.rest ≡ fields_of l.line)
