use Rattle.net_laws.proofs.Owned.{whole_unseed}
use Rattle.net.proofs.net.Net.unseed.Goals as goal

pub invariant_of-self : goal.invariant_of-self
invariant_of-self g c =
    let n = c.self.inside in
    whole_unseed g.S.Space n.space (g.met.S.Space.metric n.space) n.state c.unseed.new.self c.unseed.ensures c.self.invariant

pub returns-clause-tied : goal.returns-clause-tied
returns-clause-tied g c =
    let n = c.self.inside in
    whole_unseed g.S.Space n.space (g.met.S.Space.metric n.space) n.state c.unseed.new.self c.unseed.ensures c.self.invariant
