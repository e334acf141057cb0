use Rattle.std.proofs.Common.{◌≡◌, ◌≤◌, vec_capacity, vec_items, vec_len}
use Rattle.order.proofs.Deciding.{Below}
use Rattle.order.specs.Bests.{Decides}
use Rattle.space.specs.Totals.{meet_or_start, capped_distance}
use Rattle.build_laws.specs.Pairs.{pair_before}
use Rattle.joined.specs.Pairs.{PartnerAt}
use Rattle.joined.proofs.Partnering.{Least}
use Rattle.joined.proofs.partners.Group.list.Given as goal

-- what is listed decides the pairs with the members passed
abbrev pub invariant-loop-a : goal.invariant-loop-a
invariant-loop-a g l =
    Decides pair_before (Below (PartnerAt (capped_distance g.S.Space l.self.space.now) (meet_or_start g.S.Space g.S.Joining l.self.space.now) l.self.table.now.rows l.self.members.now l.b) l.a-index) (vec_items l.pairs)
    × Least (vec_items l.pairs) l.least
    × (vec_len l.pairs ≤ l.a-index)
    × (vec_capacity l.pairs ≡ vec_capacity l.initial.pairs)
