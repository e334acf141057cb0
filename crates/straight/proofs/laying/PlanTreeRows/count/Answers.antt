use Rattle.std.proofs.Common.{length, sym}
use Rattle.space.specs.Spots.{spot_of}
use Rattle.walk.specs.Marks.{marks_of}
use Rattle.build_laws.proofs.Building.{straight_length}
use Rattle.straight.specs.Laying.{laying_rules}
use Rattle.straight.proofs.laying.PlanTreeRows.count.Goals as goal

pub returns : goal.returns
returns c =
    let plan = c.args.self.now in
    let w = plan.walk.now in
    let spots = plan.spots.now in
    sym (straight_length (laying_rules w.directs) (marks_of w.marks) (spot_of spots) (length spots))
