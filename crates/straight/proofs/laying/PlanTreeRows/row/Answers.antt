use Rattle.std.proofs.Common.{◌≡◌, ◌<◌, length, sym, ◌∙◌, ap, arith}
use Rattle.space.specs.Spots.{spot_of}
use Rattle.walk.specs.Marks.{marks_of}
use Rattle.build_laws.proofs.Building.{straight_length, straight_row_lem}
use Rattle.build_laws.specs.Straight.{straight_row}
use Rattle.walk.specs.declared.row.Mark.{Mark}
use Rattle.straight.specs.Laying.{laying_rules}
use Rattle.straight.proofs.Rows.{row_broken, row_driver, row_hung, row_is}
use Rattle.straight.proofs.laying.PlanTreeRows.row.Goals as goal
use Rattle.straight.proofs.laying.PlanTreeRows.row.Goals.{then-v-eq0, else-v-eq0+then-mark, else-v-eq0+else-mark}

pub returns : goal.returns
returns c h =
    let plan = c.args.self.now in
    let w = plan.walk.now in
    let spots = plan.spots.now in
    let R = laying_rules w.directs in
    let S = marks_of w.marks in
    let place = spot_of spots in
    let v = c.args.v in
    let n = length spots in
    let less : v < n = omega (arith, h, straight_length R S place n) in
    let is = row_is place v (straight_row R S place v) c.if-v-eq0.parent c.spot_of.result c.spot_of.ensures in
    let S-broken : c.mark-mark.result.broken ≡ (S v).broken = ap (λ (m : Mark). m.broken) c.mark-mark.ensures in
    (elim c.if-v-eq0.branch [
      | then-v-eq0 x ↦ is 0 0 x.parent-is (row_driver R S place v x.if-v-eq0.true)
      | else-v-eq0+then-mark x ↦ is 0 (R.direct v) (x.parent-is ∙ ap (λ l. (0, l)) x.direct.ensures) (row_broken R S place v x.if-v-eq0.false (sym S-broken ∙ x.if-mark.true))
      | else-v-eq0+else-mark x ↦
          is (S v).parent (S v).edge
          (x.parent-is ∙ ap (λ (m : Mark). (m.parent, m.edge)) c.mark-mark.ensures)
          (row_hung R S place v x.if-v-eq0.false (sym S-broken ∙ x.if-mark.false))
    ]) ∙ sym (straight_row_lem R S place n v less)
