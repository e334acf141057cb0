use Rattle.std.proofs.Common.{ℕ, ◌+◌, ◌*◌, ◌<◌, List, sym, subst₂, arith}
use Rattle.forest.specs.Rooted.{size_of}
use Rattle.forest.proofs.Accepted.{accepted}
use Rattle.forest.proofs.Rooting.{planted}
use Rattle.walk.specs.declared.row.NodeRow.{NodeRow}
use Rattle.walk.proofs.Loop.{Looping, loop_start, loop_needs, loop_rise, loop_down, loop_up, loop_end, loop_steps}
use Rattle.walk.proofs.walking.take_steps.Goals as goal
use Rattle.walk.proofs.walking.take_steps.Goals.{in-Some, in-None}

pub loop-step-init : goal.loop-step-init
loop-step-init c =
    let s = c.args.tree.now.seed.now in
    let R = c.args.rules in
    loop_start R.allowance.p R.allowance.q R.pins s.nodes s.edges c.args.rows.now s.sound s.few
    (planted (accepted s.nodes s.edges s.sound) c.args.tree.now.whole) c.requires.ready

pub descend-requires : goal.descend-requires
descend-requires c =
    let L = c.loop-step.invariant in
    let d = loop_needs c.args.rules.allowance.within.1 c.args.tree.now.seed.now.sound L c.in-Some.ensures.least in
    record {
      near = omega (arith, L.place.below, L.count);
      far = d.far;
      apart = d.apart;
      short = λ k. omega (arith, L.direct k, c.requires.short k);
      told = d.told;
      room = d.room;
    }

pub relax-requires : goal.relax-requires
relax-requires c =
    let s = c.args.tree.now.seed.now in
    let L = c.loop-step.invariant in
    let total = loop_steps s.nodes s.edges L.planted c.count-step-end.result c.count-step-end.ensures c.args.tree.now.whole in
    let r = loop_rise c.args.rules.allowance.within.1 s.sound L c.in-None.ensures.least (omega (arith, total, c.loop-step-test.true)) in
    record { near = omega (arith, L.place.below, L.count); far = r.far; room = r.told }

pub loop-step-preserved : goal.loop-step-preserved
loop-step-preserved c =
    let s = c.args.tree.now.seed.now in
    let R = c.args.rules in
    let L = c.loop-step.invariant in
    let total = loop_steps s.nodes s.edges L.planted c.count-step-end.result c.count-step-end.ensures c.args.tree.now.whole in
    let early : c.loop-step.step < 2 * size_of L.planted.forest = omega (arith, total, c.loop-step-test.true) in
    let P : List NodeRow → ℕ → Type 0 =
    λ rows x. Looping R.allowance.p R.allowance.q R.pins s.nodes s.edges c.args.rows.now rows x (c.loop-step.step + 1) in
    elim c.match-neighbour.branch [
      | in-Some w ↦
          subst₂ P (sym w.rows-is) (sym w.v-is)
          (loop_down R.allowance.within.1 s.sound L w.in-Some.ensures.least w.descend.new.rows w.descend.ensures)
      | in-None w ↦
          subst₂ P (sym w.rows-is) (sym w.v-is)
          (loop_up R.allowance.within.1 s.sound L w.in-None.ensures.least early w.relax.new.rows w.relax.ensures.after w.relax.ensures.places)
    ]

pub returns-clause-walked : goal.returns-clause-walked
returns-clause-walked c =
    let s = c.args.tree.now.seed.now in
    let L = c.loop-step.invariant in
    let total = loop_steps s.nodes s.edges L.planted c.count-step-end.result c.count-step-end.ensures c.args.tree.now.whole in
    loop_end c.args.rules.allowance.within.1 s.sound L (omega (arith, total, c.loop-step-test.false, c.loop-step.auto.step-end))
