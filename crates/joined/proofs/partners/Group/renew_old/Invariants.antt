use Rattle.std.proofs.Common.{◌≡◌, ◌≤◌, drop, take, vec_items, vec_len}
use Rattle.space.specs.Totals.{meet_or_start, capped_distance}
use Rattle.joined.specs.Pairs.{FirstsOf, Lasting}
use Rattle.joined.proofs.partners.Group.renew_old.Given as goal

-- the firsts of the members of the old pairs passed stand at the front, and the old pairs that are left as they were
abbrev pub invariant-loop-i : goal.invariant-loop-i
invariant-loop-i g l =
    let d = capped_distance g.S.Space l.self.space.now in
    let j = meet_or_start g.S.Space g.S.Joining l.self.space.now in
    let olds = vec_items l.initial.partners.firsts in
    FirstsOf d j l.self.table.now.rows l.self.members.now (Lasting d j l.change.a l.change.b (take l.i olds)) (take l.kept (vec_items l.partners.firsts))
    × (drop l.i (vec_items l.partners.firsts) ≡ drop l.i olds)
    × (l.kept ≤ l.i)
    × (vec_len l.partners.firsts ≡ vec_len l.initial.partners.firsts)
