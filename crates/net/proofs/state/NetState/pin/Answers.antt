use Rattle.std.proofs.Common.{ℕ, ◌<◌, ◌≤◌, Decides, vec_items, subst, arith, rules}
use Rattle.net_laws.specs.States.{State}
use Rattle.net_laws.specs.Spaces.{made_total, wiring}
use Rattle.space.specs.Spots.{spot_of}
use Rattle.space.specs.Totals.{capped_distance}
use Rattle.net.proofs.States.{first_apart, pin_added, too_close}
use Rattle.net.proofs.state.NetState.pin.Goals as goal

pub returns-then-not-apart-clause-answer : goal.returns-then-not-apart-clause-answer
returns-then-not-apart-clause-answer g c =
    let n = c.self.inside in
    let v = c.args.self.now in
    let P : State → Type 0 = λ x. Decides c.apart.result ((k : ℕ) → k < x.pins → 1 ≤ capped_distance g.S.Space c.args.space.now (spot_of x.spots k) c.args.spot) in
    let Q : State → Type 0 = λ x. x.pins < 256 in
    let far = subst P c.self.view_is (first_apart g.S.Space c.args.space.now c.args.spot c.deref.result.now (vec_items n.spots) n.pins c.deref.ensures.value n.first c.apart.result c.apart.ensures) in
    let few = subst Q c.self.view_is (omega arith) in
    too_close (made_total (wiring g.S.Space c.args.space.now)) v c.args.spot c.apart.result (search rules) (search rules) few far (search rules)

pub returns-clause-answer : goal.returns-clause-answer
returns-clause-answer g c =
    let n = c.self.inside in
    let v = c.args.self.now in
    let P : State → Type 0 = λ x. Decides c.apart.result ((k : ℕ) → k < x.pins → 1 ≤ capped_distance g.S.Space c.args.space.now (spot_of x.spots k) c.args.spot) in
    let Q : State → Type 0 = λ x. x.pins < 256 in
    let far = subst P c.self.view_is (first_apart g.S.Space c.args.space.now c.args.spot c.deref.result.now (vec_items n.spots) n.pins c.deref.ensures.value n.first c.apart.result c.apart.ensures) in
    let few = subst Q c.self.view_is (omega arith) in
    pin_added (made_total (wiring g.S.Space c.args.space.now)) v c.add_pin.new.self c.args.spot c.apart.result c.add_pin.result (search rules) (search rules) few far (search rules) (search rules) (search rules)
