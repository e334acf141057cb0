use Rattle.std.proofs.Common.{Ok, rules}
use Rattle.net_laws.proofs.Owned.{whole_span}
use Rattle.net_laws.specs.Answers.{SpanBy}
use Rattle.space.specs.Totals.{edge_length}
use Rattle.net.specs.Held.{total_wiring}
use Rattle.net.proofs.net.Net.span.Goals as goal

pub invariant_of-self : goal.invariant_of-self
invariant_of-self g c =
    let n = c.self.inside in
    (whole_span g.S.Space n.space (g.met.S.Space.metric n.space) n.state c.span.new.self (Ok c.span.result) (search rules) tt c.self.invariant).1

pub returns-clause-answer : goal.returns-clause-answer
returns-clause-answer g c =
    let n = c.self.inside in
    rw (← c.self.view_is) (whole_span g.S.Space n.space (g.met.S.Space.metric n.space) n.state c.span.new.self (Ok c.span.result) (search rules) tt c.self.invariant).0

pub returns-clause-always : goal.returns-clause-always
returns-clause-always g c =
    let n = c.self.inside in
    let told : SpanBy (total_wiring g.S.Space n.space) n.state c.span.new.self (edge_length g.S.Space n.space) (Ok c.span.result) = search rules in
    rw (← c.self.view_is) told

pub returns-clause-tied : goal.returns-clause-tied
returns-clause-tied g c =
    let n = c.self.inside in
    (whole_span g.S.Space n.space (g.met.S.Space.metric n.space) n.state c.span.new.self (Ok c.span.result) (search rules) tt c.self.invariant).1
