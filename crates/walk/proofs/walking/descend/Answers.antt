use Rattle.std.proofs.Common.{◌+◌, List, sym, ap, ◌∙◌, subst, slice_index_or, slice_set}
use Rattle.walk.specs.declared.row.NodeRow.{NodeRow}
use Rattle.walk.specs.Marks.{Gone, idle}
use Rattle.walk.proofs.Marked.{gone_rows, stepped}
use Rattle.walk.proofs.walking.descend.Goals as goal

pub enter-requires-clause-room : goal.enter-requires-clause-room
enter-requires-clause-room c e h = c.requires.room e (sym (ap (λ S. (S c.args.u).est) c.relax.ensures.after) ∙ h)

pub returns : goal.returns
returns c =
    let R = c.args.rules in
    let v = c.args.v in
    let u = c.args.u in
    let rows1 = c.relax.new.rows in
    let P : NodeRow → Type 0 =
    λ z. let rows2 : List NodeRow = slice_set rows1 u z in
    Gone R.allowance.p R.allowance.q R.pins v u c.args.l c.args.rows.now (slice_set rows2 v (stepped (slice_index_or rows2 v idle) (u + 1))) in
    subst P (sym c.enter.ensures.place)
    (gone_rows R.allowance.p R.allowance.q R.pins v u c.args.l c.args.rows.now rows1 c.enter.new.self.mark c.requires.near c.requires.far
    c.requires.apart c.relax.ensures.after c.relax.ensures.places c.enter.ensures.mark)
