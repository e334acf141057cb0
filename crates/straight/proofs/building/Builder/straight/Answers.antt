use Rattle.std.proofs.Common.{◌≡◌, ◌≤◌, true, is_ok, is_some, length, vec_items, sym, ap, ◌∙◌, arith}
use Rattle.std.proofs.lemmas.List.{length-map}
use Rattle.walk.specs.Marks.{marks_of}
use Rattle.space.specs.Totals.{capped_distance}
use Rattle.space.specs.Spots.{spot_of}
use Rattle.build_laws.proofs.Building.{straight_length}
use Rattle.straight.specs.Laying.{laying_rules}
use Rattle.straight.proofs.Spaced.{laid_measures}
use Rattle.straight.proofs.Whole.{on_ok, whole_short, whole_straight, whole_tree}
use Rattle.straight.proofs.building.Builder.straight.Goals as goal

pub invariant_of-plan : goal.invariant_of-plan
invariant_of-plan g c =
    let seed = c.args.seed.now.seed.now in
    let spots = c.args.spots.now in
    let d = capped_distance g.S.Space c.args.space.now in
    let a = c.args.allowance in
    let old = c.measure.new.walk in
    let new = c.walk.new.self in
    let measured = c.in_ok-measure.ensures.rows in
    let went : is_ok c.walk.result ≡ true = sym c.ok.ensures.variant ∙ ap is_some c.in_ok-ok.was in
    let size : seed.nodes ≡ length spots = sym (c.walk.ensures.taken.0 went) ∙ sym old.matched ∙ ap length measured ∙ length-map spots (d (spot_of spots 0)) in
    let walks = on_ok c.walk.result went c.walk.ensures.walked in
    let few : length spots ≤ 512 = omega (arith, sym size, seed.few) in
    let seedtree = whole_tree d spots a.p a.q c.args.pins seed.nodes seed.edges old.directs new.directs (marks_of new.marks) (omega (arith, a.within.1)) seed.sound size measured walks c.walk.ensures.kept in
    record {
      nodes = few;
      few = omega (arith, straight_length (laying_rules new.directs) (marks_of new.marks) (spot_of spots) (length spots));
      lengths = whole_short d spots a.p a.q c.args.pins seed.nodes seed.edges old.directs new.directs (marks_of new.marks) (omega (arith, a.within.1)) seed.sound size measured walks c.walk.ensures.kept new.near;
      tree = seedtree;
    }

pub returns : goal.returns
returns g c =
    let seed = c.args.seed.now.seed.now in
    let spots = c.args.spots.now in
    let s = c.args.space.now in
    let d = capped_distance g.S.Space s in
    let a = c.args.allowance in
    let old = c.measure.new.walk in
    let new = c.walk.new.self in
    let found = vec_items c.list.new.broken in
    let built = c.lay.new.self.rows in
    let measured = c.in_ok-measure.ensures.rows in
    let went : is_ok c.walk.result ≡ true = sym c.ok.ensures.variant ∙ ap is_some c.in_ok-ok.was in
    let size : seed.nodes ≡ length spots = sym (c.walk.ensures.taken.0 went) ∙ sym old.matched ∙ ap length measured ∙ length-map spots (d (spot_of spots 0)) in
    let done = whole_straight d spots a.p a.q c.args.pins seed.nodes seed.edges old.directs new.directs (marks_of new.marks) (omega (arith, a.within.1)) seed.sound size measured (on_ok c.walk.result went c.walk.ensures.walked) c.walk.ensures.kept found c.wire.result built c.lay.ensures c.list.ensures.found c.wire.ensures in (
      (c.args.seed.now.whole, size),
      done,
      λ laid. laid_measures g.S.Space s (g.met.S.Space.metric s) spots seed.nodes seed.edges seed.sound size laid a.p a.q c.args.pins found c.wire.result built done,
    )
