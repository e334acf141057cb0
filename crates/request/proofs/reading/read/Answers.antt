use Rattle.std.proofs.Common.{ℕ, List, take, subst, arith, length-take}
use Rattle.request.specs.Lines.{fields_of}
use Rattle.request.specs.Requests.{Reads, ReadsFields}
use Rattle.request.proofs.Few.{few, reads}
use Rattle.request.proofs.Once.{in_read, read_in, reads_only}
use Rattle.request.proofs.reading.read.Goals as goal

pub slice_bounds-fields-end-2 : goal.slice_bounds-fields-end-2
slice_bounds-fields-end-2 c = omega (arith, c.cut-count.ensures.few, c.cut-count.ensures.places)

pub slice_bounds-read_fields-end : goal.slice_bounds-read_fields-end
slice_bounds-read_fields-end c =
    omega (arith, c.cut-count.ensures.few, c.cut-count.ensures.places, length-take c.cut-count.result c.cut-count.new.fields)

pub returns : goal.returns
returns c =
    let line = c.args.line.now in
    let r = c.read_fields.result in
    let P : List (List ℕ) → Type 0 = λ fs. ReadsFields fs r in
    let seen : ReadsFields (take 5 (fields_of line)) r = subst P c.cut-count.ensures.parts c.read_fields.ensures in
    let is : Reads line r = reads line r (omega arith) (few (fields_of line) r seen) in
    record { reads = is; only = reads_only line r is; taken = (read_in line r is, in_read line r is) }
