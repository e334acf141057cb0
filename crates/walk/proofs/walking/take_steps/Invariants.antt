use Rattle.walk.proofs.Loop.{Looping}
use Rattle.walk.proofs.walking.take_steps.Given as goal

abbrev pub invariant-loop-step : goal.invariant-loop-step
invariant-loop-step l =
    Looping l.rules.allowance.p l.rules.allowance.q l.rules.pins l.tree.seed.now.nodes l.tree.seed.now.edges l.initial.rows l.rows l.v l.step
