use Rattle.net_laws.proofs.Owned.{unchanged_by, whole_hook}
use Rattle.net.proofs.net.Net.hook.Goals as goal

pub invariant_of-self : goal.invariant_of-self
invariant_of-self g c =
    let n = c.self.inside in
    let s = n.space in
    let m = c.hook.new.self in
    let t = c.hook.ensures in
    (whole_hook g.S.Space s (g.met.S.Space.metric s) n.state m c.hook.result t.answer (unchanged_by c.hook.result n.state m t.unchanged) c.self.invariant).1

pub returns-clause-answer : goal.returns-clause-answer
returns-clause-answer g c =
    let n = c.self.inside in
    let s = n.space in
    let m = c.hook.new.self in
    let t = c.hook.ensures in
    rw (← c.self.view_is) (whole_hook g.S.Space s (g.met.S.Space.metric s) n.state m c.hook.result t.answer (unchanged_by c.hook.result n.state m t.unchanged) c.self.invariant).0

pub returns-clause-always : goal.returns-clause-always
returns-clause-always g c = rw (← c.self.view_is) c.hook.ensures.answer

pub returns-clause-tied : goal.returns-clause-tied
returns-clause-tied g c =
    let n = c.self.inside in
    let s = n.space in
    let m = c.hook.new.self in
    let t = c.hook.ensures in
    (whole_hook g.S.Space s (g.met.S.Space.metric s) n.state m c.hook.result t.answer (unchanged_by c.hook.result n.state m t.unchanged) c.self.invariant).1
