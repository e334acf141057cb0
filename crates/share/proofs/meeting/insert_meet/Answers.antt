use Rattle.std.proofs.Common.{refl, rules}
use Rattle.space.specs.Totals.{meet_or_start, capped_distance}
use Rattle.share.proofs.Placing.{one_never_refused, two_never_refused}
use Rattle.share.proofs.meeting.insert_meet.Goals as goal

pub returns-in_err-ok : goal.returns-in_err-ok
returns-in_err-ok g c =
    let t = c.args.table.now in
    let added = c.in_ok-new.ensures in
    absurd (one_never_refused t (capped_distance g.S.Space c.args.space.now) (meet_or_start g.S.Space g.S.Joining c.args.space.now) c.args.v c.args.a c.args.b (c.if-not-hangs.ensures.0 refl) (c.if-not-hangs-2.ensures.0 refl) c.if-a-b.false c.meet_or_start-z.result c.capped_distance.result c.capped_distance-2.result 0 c.add.new.self c.hang.new.self c.in_ok-new.new c.hang.result c.capped_distance-2.ensures.bound added.1 added.2 c.hang.ensures (search rules))

pub returns-in_err-ok-2 : goal.returns-in_err-ok-2
returns-in_err-ok-2 g c =
    let t = c.args.table.now in
    let added = c.in_ok-new.ensures in
    absurd (two_never_refused t (capped_distance g.S.Space c.args.space.now) (meet_or_start g.S.Space g.S.Joining c.args.space.now) c.args.v c.args.a c.args.b (c.if-not-hangs.ensures.0 refl) (c.if-not-hangs-2.ensures.0 refl) c.if-a-b.false c.meet_or_start-z.result c.capped_distance.result c.capped_distance-2.result c.capped_distance-3.result c.add.new.self c.hang.new.self c.hang-2.new.self c.in_ok-new.new c.hang.result c.hang-2.result c.capped_distance-2.ensures.bound c.capped_distance-3.ensures.bound added.1 added.2 c.hang.ensures c.hang-2.ensures (search rules))
