use Rattle.std.proofs.Common.{◌≡◌, ◌++◌, ◌≤◌, map, take, length, sym, ap, ◌∙◌, arith}
use Rattle.std.proofs.lemmas.List.{length-map, length-set, length-take-le}
use Rattle.request.specs.Lines.{fields_of, fields_behind}
use Rattle.request.proofs.Parting.{stored, first_parts, all_parts}
use Rattle.request.proofs.cutting.cut.Goals as goal

pub loop-count-preserved : goal.loop-count-preserved
loop-count-preserved c =
    let fs = c.loop-count.fields in
    let k = c.loop-count.count in
    let x = c.first_field.result.0 in (
      length-set fs k x ∙ c.loop-count.invariant.0,
      stored fs k x (fields_behind c.first_field.result.1) (omega arith)
          ∙ ap (λ ys. map (λ f. f.now) (take k fs) ++ ys) (sym c.first_field.ensures)
          ∙ rw c.in-Some.is at c.loop-count.invariant.1,
    )

pub returns-in_default-clause-parts : goal.returns-in_default-clause-parts
returns-in_default-clause-parts c =
    let fs = c.loop-count.fields in
    let k = c.loop-count.count in
    let here : k ≤ length fs = omega arith in
    all_parts (map (λ f. f.now) (take k fs)) (fields_of c.args.line.now) 5 (rw c.in_default.is at c.loop-count.invariant.1) (simp (length-map, length-take-le) (omega arith))

pub returns-clause-parts : goal.returns-clause-parts
returns-clause-parts c =
    let fs = c.loop-count.fields in
    let k : c.loop-count.count ≡ 5 = omega (arith, c.loop-count-test.false, c.loop-count.auto.count-end) in
    let here : 5 ≤ length fs = omega arith in
    first_parts (map (λ f. f.now) (take 5 fs)) (fields_behind c.loop-count.rest) (fields_of c.args.line.now) 5 (rw k at c.loop-count.invariant.1) (simp (length-map, length-take-le))
