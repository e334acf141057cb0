use Rattle.std.proofs.Common.{◌≡◌, map, rules, List, subst}
use Rattle.std.specs.Map.Iter.{deref}
use Rattle.std.specs.BTreeMap.{values}
use Rattle.std.proofs.lemmas.List.{map_push}
use Rattle.std.proofs.lemmas.Map.Iter.{iter_end}
use Rattle.picture.specs.declared.row.DrawnRow.{DrawnRow}
use Rattle.picture.proofs.Boxes.{Boxed, boxed_push}
use Rattle.picture.proofs.table.DrawnTable.frame.Goals as goal

pub loop-row-preserved : goal.loop-row-preserved
loop-row-preserved c = rw map_push (boxed_push _ _ _ _ c.loop-row.invariant c.around.ensures.holds c.around.ensures.keeps c.around.ensures.least)

pub returns : goal.returns
returns c =
    let all : map deref c.loop-row.yielded ≡ values c.args.self.now.rows = search (rules, iter_end) in
    subst (λ (rows : List DrawnRow). Boxed c.loop-row.frame rows) all c.loop-row.invariant
