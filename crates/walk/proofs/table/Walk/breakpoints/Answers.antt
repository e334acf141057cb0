use Rattle.std.proofs.Common.{◌≡◌, List, count_by, sym, ◌∙◌, subst, rules}
use Rattle.std.proofs.iter.runs.Made.{chains}
use Rattle.walk.specs.declared.row.NodeRow.{NodeRow}
use Rattle.walk.specs.WalkValue.{WalkValue}
use Rattle.walk.proofs.Counted.{breaks, breaks_counted}
use Rattle.walk.proofs.table.Walk.breakpoints.Goals as goal

pub returns : goal.returns
returns c =
    let rows : List NodeRow = c.self.inside.rows.items in
    let all : c.count.result ≡ count_by (λ (r : NodeRow). r.mark.broken) rows = search (rules, chains) in
    let P : WalkValue → Type 0 = λ w. c.count.result ≡ breaks w.marks in
    subst P c.self.view_is (all ∙ sym (breaks_counted rows))
