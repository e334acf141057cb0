use Rattle.net_laws.specs.Spaces.{wiring}
use Rattle.net_laws.proofs.Owned.{unchanged_by, whole_straight, wiring_keeps}
use Rattle.net_laws.proofs.Sparing.{straight_keeps_bounds, straight_keeps_seed}
use Rattle.net.proofs.States.{straight_answered}
use Rattle.net.proofs.net.Net.straight.Goals as goal

pub invariant_of-self : goal.invariant_of-self
invariant_of-self g c =
    let n = c.self.inside in
    let s = n.space in
    let m = c.straight.new.self in
    let r = c.straight.result in
    (whole_straight g.S.Space s (g.met.S.Space.metric s) n.state m r (straight_answered g.S.Space s n.state m _ r c.straight.ensures.built) (unchanged_by r n.state m c.straight.ensures.unchanged) c.self.invariant).1

pub returns-clause-answer : goal.returns-clause-answer
returns-clause-answer g c =
    let n = c.self.inside in
    let s = n.space in
    let m = c.straight.new.self in
    let r = c.straight.result in
    rw (← c.self.view_is) (whole_straight g.S.Space s (g.met.S.Space.metric s) n.state m r (straight_answered g.S.Space s n.state m _ r c.straight.ensures.built) (unchanged_by r n.state m c.straight.ensures.unchanged) c.self.invariant).0

pub returns-clause-bounds : goal.returns-clause-bounds
returns-clause-bounds g c =
    let n = c.self.inside in
    let s = n.space in
    let m = c.straight.new.self in
    let r = c.straight.result in
    let law = g.met.S.Space.metric s in
    let own = (whole_straight g.S.Space s law n.state m r (straight_answered g.S.Space s n.state m _ r c.straight.ensures.built) (unchanged_by r n.state m c.straight.ensures.unchanged) c.self.invariant).0 in
    rw (← c.self.view_is) (straight_keeps_bounds (wiring g.S.Space s) (wiring_keeps g.S.Space s law) n.state m c.self.invariant r own.0)

pub returns-clause-spared : goal.returns-clause-spared
returns-clause-spared g c =
    let n = c.self.inside in
    let s = n.space in
    let m = c.straight.new.self in
    let r = c.straight.result in
    let law = g.met.S.Space.metric s in
    let own = (whole_straight g.S.Space s law n.state m r (straight_answered g.S.Space s n.state m _ r c.straight.ensures.built) (unchanged_by r n.state m c.straight.ensures.unchanged) c.self.invariant).0 in
    rw (← c.self.view_is) (straight_keeps_seed (wiring g.S.Space s) (wiring_keeps g.S.Space s law) n.state m c.self.invariant r own.0)

pub returns-clause-always : goal.returns-clause-always
returns-clause-always g c =
    let n = c.self.inside in
    rw (← c.self.view_is) (straight_answered g.S.Space n.space n.state c.straight.new.self _ c.straight.result c.straight.ensures.built)

pub returns-clause-tied : goal.returns-clause-tied
returns-clause-tied g c =
    let n = c.self.inside in
    let s = n.space in
    let m = c.straight.new.self in
    let r = c.straight.result in
    (whole_straight g.S.Space s (g.met.S.Space.metric s) n.state m r (straight_answered g.S.Space s n.state m _ r c.straight.ensures.built) (unchanged_by r n.state m c.straight.ensures.unchanged) c.self.invariant).1
