use Rattle.std.proofs.Common.{List, sym, subst, vec_items}
use Rattle.space.specs.Totals.{meet_or_start, capped_distance}
use Rattle.build_laws.specs.declared.pair.Pair.{Pair}
use Rattle.joined.specs.Pairs.{FirstPairs}
use Rattle.joined.proofs.Partnering.{never_farther, renewed_none, renewed_some}
use Rattle.joined.proofs.partners.Group.renew.Goals as goal

pub first_of-requires-clause-most : goal.first_of-requires-clause-most
first_of-requires-clause-most g c =
    never_farther g.S.Space c.args.self.now.space.now (meet_or_start g.S.Space g.S.Joining c.args.self.now.space.now) c.args.self.now.table.now.rows c.args.self.now.members.now c.args.change.new

pub returns-in-Some-clause-firsts : goal.returns-in-Some-clause-firsts
returns-in-Some-clause-firsts g c =
    let rows = c.args.self.now.table.now.rows in
    let d = capped_distance g.S.Space c.args.self.now.space.now in
    let j = meet_or_start g.S.Space g.S.Joining c.args.self.now.space.now in
    let group = c.args.self.now.members.now in
    let olds = vec_items c.args.partners.now.firsts in
    let F = vec_items c.renew_old.new.partners.firsts in
    let P : List Pair → Type 0 = λ G. FirstPairs d j rows group G in
    subst P (sym c.push_reserved.ensures.items) (renewed_some d j rows group c.args.change.a c.args.change.b c.args.change.new olds c.requires F c.renew_old.ensures.firsts c.in-Some.found c.in-Some.ensures.best)

pub returns-in_default-clause-firsts : goal.returns-in_default-clause-firsts
returns-in_default-clause-firsts g c =
    let rows = c.args.self.now.table.now.rows in
    let d = capped_distance g.S.Space c.args.self.now.space.now in
    let j = meet_or_start g.S.Space g.S.Joining c.args.self.now.space.now in
    let group = c.args.self.now.members.now in
    let olds = vec_items c.args.partners.now.firsts in
    let F = vec_items c.renew_old.new.partners.firsts in
    renewed_none d j rows group c.args.change.a c.args.change.b c.args.change.new olds c.requires F c.renew_old.ensures.firsts c.in_default.ensures.best
