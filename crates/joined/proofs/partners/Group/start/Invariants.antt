use Rattle.std.proofs.Common.{◌≤◌, take, vec_items, vec_len}
use Rattle.order.specs.Firsts.{Among}
use Rattle.space.specs.Totals.{meet_or_start, capped_distance}
use Rattle.joined.specs.Pairs.{FirstsOf}
use Rattle.joined.proofs.partners.Group.start.Given as goal

-- the firsts of the members passed are found
abbrev pub invariant-loop-member : goal.invariant-loop-member
invariant-loop-member g l =
    FirstsOf (capped_distance g.S.Space l.self.space.now) (meet_or_start g.S.Space g.S.Joining l.self.space.now) l.self.table.now.rows l.self.members.now (λ b. Among b (take l.member-index l.self.members.now)) (vec_items l.partners.firsts)
    × (vec_len l.partners.firsts ≤ l.member-index)
