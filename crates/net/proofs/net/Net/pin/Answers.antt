use Rattle.net_laws.proofs.Owned.{unchanged_by, whole_pin}
use Rattle.net.proofs.net.Net.pin.Goals as goal

pub invariant_of-self : goal.invariant_of-self
invariant_of-self g c =
    let n = c.self.inside in
    let s = n.space in
    let m = c.pin.new.self in
    let t = c.pin.ensures in
    (whole_pin g.S.Space s (g.met.S.Space.metric s) n.state m c.args.spot c.pin.result t.answer (unchanged_by c.pin.result n.state m t.unchanged) c.self.invariant).1

pub returns-clause-answer : goal.returns-clause-answer
returns-clause-answer g c =
    let n = c.self.inside in
    let s = n.space in
    let m = c.pin.new.self in
    let t = c.pin.ensures in
    rw (← c.self.view_is) (whole_pin g.S.Space s (g.met.S.Space.metric s) n.state m c.args.spot c.pin.result t.answer (unchanged_by c.pin.result n.state m t.unchanged) c.self.invariant).0

pub returns-clause-always : goal.returns-clause-always
returns-clause-always g c = rw (← c.self.view_is) c.pin.ensures.answer

pub returns-clause-tied : goal.returns-clause-tied
returns-clause-tied g c =
    let n = c.self.inside in
    let s = n.space in
    let m = c.pin.new.self in
    let t = c.pin.ensures in
    (whole_pin g.S.Space s (g.met.S.Space.metric s) n.state m c.args.spot c.pin.result t.answer (unchanged_by c.pin.result n.state m t.unchanged) c.self.invariant).1
