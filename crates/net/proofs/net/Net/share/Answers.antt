use Rattle.net_laws.proofs.Owned.{unchanged_by, whole_share}
use Rattle.net.proofs.net.Net.share.Goals as goal

pub invariant_of-self : goal.invariant_of-self
invariant_of-self g c =
    let n = c.self.inside in
    let s = n.space in
    let m = c.share.new.self in
    let t = c.share.ensures in
    (whole_share g.S.Space g.S.Joining s (g.met.S.Space.metric s) (g.met.S.Joining.meets s) n.state m c.share.result t.answer (unchanged_by c.share.result n.state m t.unchanged) c.self.invariant).1

pub returns-clause-answer : goal.returns-clause-answer
returns-clause-answer g c =
    let n = c.self.inside in
    let s = n.space in
    let m = c.share.new.self in
    let t = c.share.ensures in
    rw (← c.self.view_is) (whole_share g.S.Space g.S.Joining s (g.met.S.Space.metric s) (g.met.S.Joining.meets s) n.state m c.share.result t.answer (unchanged_by c.share.result n.state m t.unchanged) c.self.invariant).0

pub returns-clause-always : goal.returns-clause-always
returns-clause-always g c = rw (← c.self.view_is) c.share.ensures.answer

pub returns-clause-tied : goal.returns-clause-tied
returns-clause-tied g c =
    let n = c.self.inside in
    let s = n.space in
    let m = c.share.new.self in
    let t = c.share.ensures in
    (whole_share g.S.Space g.S.Joining s (g.met.S.Space.metric s) (g.met.S.Joining.meets s) n.state m c.share.result t.answer (unchanged_by c.share.result n.state m t.unchanged) c.self.invariant).1
