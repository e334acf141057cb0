use Rattle.std.proofs.Common.{◌≡◌, sym, subst, slice_index_or, slice_set}
use Rattle.walk_laws.specs.Walk.{relax}
use Rattle.walk.specs.declared.row.NodeRow.{NodeRow}
use Rattle.walk.specs.Marks.{idle, marks, placed}
use Rattle.walk.proofs.Marked.{relax_present}
use Rattle.walk.proofs.walking.relax.Goals as goal

pub returns-clause-after : goal.returns-clause-after
returns-clause-after c =
    let rows = c.args.rows.now in
    let v = c.args.v in
    let old : NodeRow = slice_index_or rows v idle in
    let P : NodeRow → Type 0 = λ z. marks (slice_set rows v z) ≡ relax c.args.u v c.args.l (marks rows) in
    subst P (sym c.offer.ensures.place) (relax_present rows c.args.u v c.args.l c.in-Some.e (placed c.offer.new.self.mark old) c.requires.far c.in-Some.is c.offer.ensures.mark)
