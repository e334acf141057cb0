use Rattle.std.proofs.Common.{◌≤◌, mul-le-mul, arith}
use Rattle.std.proofs.lemmas.Int.{ints}
use Rattle.built_spaces.specs.Grid.{within}
use Rattle.built_spaces.proofs.air.square_sum.Goals as goal

pub overflow_add-result : goal.overflow_add-result
overflow_add-result c =
    let a = within c.args.a c.requires.from in
    let b = within c.args.b c.requires.to in
    let dx : c.from-dx.result ≤ 2000000 = omega (arith, ints, a.across, b.across) in
    let dy : c.from-dy.result ≤ 2000000 = omega (arith, ints, a.along, b.along) in
    omega (arith, mul-le-mul dx dx, mul-le-mul dy dy)
