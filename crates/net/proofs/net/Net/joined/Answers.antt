use Rattle.net_laws.specs.Spaces.{joining}
use Rattle.net_laws.proofs.Owned.{joining_keeps_lem, unchanged_by, whole_joined}
use Rattle.net_laws.proofs.Sparing.{joined_keeps_bounds, joined_keeps_seed, joined_no_longer}
use Rattle.net.proofs.net.Net.joined.Goals as goal

pub invariant_of-self : goal.invariant_of-self
invariant_of-self g c =
    let n = c.self.inside in
    let s = n.space in
    let m = c.joined.new.self in
    let r = c.joined.result in
    let t = c.joined.ensures in
    (whole_joined g.S.Space g.S.Joining s (g.met.S.Space.metric s) (g.met.S.Joining.meets s) n.state m r t.answer (unchanged_by r n.state m t.unchanged) c.self.invariant).1

pub returns-clause-answer : goal.returns-clause-answer
returns-clause-answer g c =
    let n = c.self.inside in
    let s = n.space in
    let m = c.joined.new.self in
    let r = c.joined.result in
    let t = c.joined.ensures in
    rw (← c.self.view_is) (whole_joined g.S.Space g.S.Joining s (g.met.S.Space.metric s) (g.met.S.Joining.meets s) n.state m r t.answer (unchanged_by r n.state m t.unchanged) c.self.invariant).0

pub returns-clause-bounds : goal.returns-clause-bounds
returns-clause-bounds g c =
    let n = c.self.inside in
    let s = n.space in
    let m = c.joined.new.self in
    let r = c.joined.result in
    let t = c.joined.ensures in
    let laws = joining_keeps_lem g.S.Space g.S.Joining s (g.met.S.Space.metric s) (g.met.S.Joining.meets s) in
    let own = (whole_joined g.S.Space g.S.Joining s (g.met.S.Space.metric s) (g.met.S.Joining.meets s) n.state m r t.answer (unchanged_by r n.state m t.unchanged) c.self.invariant).0 in
    rw (← c.self.view_is) (joined_keeps_bounds (joining g.S.Space g.S.Joining s) laws n.state m c.self.invariant r own.0)

pub returns-clause-spared : goal.returns-clause-spared
returns-clause-spared g c =
    let n = c.self.inside in
    let s = n.space in
    let m = c.joined.new.self in
    let r = c.joined.result in
    let t = c.joined.ensures in
    let laws = joining_keeps_lem g.S.Space g.S.Joining s (g.met.S.Space.metric s) (g.met.S.Joining.meets s) in
    let own = (whole_joined g.S.Space g.S.Joining s (g.met.S.Space.metric s) (g.met.S.Joining.meets s) n.state m r t.answer (unchanged_by r n.state m t.unchanged) c.self.invariant).0 in
    rw (← c.self.view_is) (joined_keeps_seed (joining g.S.Space g.S.Joining s) laws n.state m c.self.invariant r own.0)

pub returns-clause-shorter : goal.returns-clause-shorter
returns-clause-shorter g c =
    let n = c.self.inside in
    let s = n.space in
    let m = c.joined.new.self in
    let r = c.joined.result in
    let t = c.joined.ensures in
    let laws = joining_keeps_lem g.S.Space g.S.Joining s (g.met.S.Space.metric s) (g.met.S.Joining.meets s) in
    let own = (whole_joined g.S.Space g.S.Joining s (g.met.S.Space.metric s) (g.met.S.Joining.meets s) n.state m r t.answer (unchanged_by r n.state m t.unchanged) c.self.invariant).0 in
    rw (← c.self.view_is) (joined_no_longer (joining g.S.Space g.S.Joining s) laws n.state m c.self.invariant r own.0)

pub returns-clause-always : goal.returns-clause-always
returns-clause-always g c = rw (← c.self.view_is) c.joined.ensures.answer

pub returns-clause-tied : goal.returns-clause-tied
returns-clause-tied g c =
    let n = c.self.inside in
    let s = n.space in
    let m = c.joined.new.self in
    let t = c.joined.ensures in
    (whole_joined g.S.Space g.S.Joining s (g.met.S.Space.metric s) (g.met.S.Joining.meets s) n.state m c.joined.result t.answer (unchanged_by c.joined.result n.state m t.unchanged) c.self.invariant).1
