use Rattle.std.proofs.Common.{List, subst, vec_items}
use Rattle.order.specs.Firsts.{FirstOf}
use Rattle.order.proofs.Deciding.{decides_first}
use Rattle.build_laws.specs.declared.pair.Pair.{Pair}
use Rattle.build_laws.specs.Pairs.{pair_before, pair_order}
use Rattle.joined.specs.Groups.{PartnerIn}
use Rattle.joined.proofs.partners.Group.first_of.Goals as goal

pub returns-clause-best : goal.returns-clause-best
returns-clause-best g c =
    let r = c.first.result in
    let P : List Pair → Type 0 = λ xs. FirstOf pair_before xs r in
    decides_first pair_order (PartnerIn g.S.Space g.S.Joining c.args.self.now c.args.b) (vec_items c.list.new.pairs) r c.list.ensures.decides (subst P c.as_slice.ensures.value c.first.ensures.first)
