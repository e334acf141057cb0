use Rattle.std.proofs.Common.{arith}
use Rattle.std.proofs.lemmas.Int.{ints, clamps}
use Rattle.picture.proofs.frame.Frame.with.Goals as goal

pub returns-clause-holds : goal.returns-clause-holds
returns-clause-holds c = record {
  left = omega (arith, ints, c.min.ensures.other_bound);
  right = omega (arith, ints, c.max.ensures.other_bound);
  bottom = omega (arith, ints, c.min-2.ensures.other_bound);
  top = omega (arith, ints, c.max-2.ensures.other_bound);
}

pub returns-clause-keeps : goal.returns-clause-keeps
returns-clause-keeps c = record {
  left = omega (arith, ints, c.min.ensures.self_bound);
  right = omega (arith, ints, c.max.ensures.self_bound);
  bottom = omega (arith, ints, c.min-2.ensures.self_bound);
  top = omega (arith, ints, c.max-2.ensures.self_bound);
}

pub returns-clause-least : goal.returns-clause-least
returns-clause-least c g w h = record {
  left = omega (arith, ints, clamps, c.min.ensures.value, w.left, h.left);
  right = omega (arith, ints, clamps, c.max.ensures.value, w.right, h.right);
  bottom = omega (arith, ints, clamps, c.min-2.ensures.value, w.bottom, h.bottom);
  top = omega (arith, ints, clamps, c.max-2.ensures.value, w.top, h.top);
}
