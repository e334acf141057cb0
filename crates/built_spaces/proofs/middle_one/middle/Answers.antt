use Rattle.std.proofs.Common.{◌≡◌, arith, w32, to_z, of_z}
use Rattle.std.proofs.lemmas.Int.{to_z-of_z}
use Rattle.built_spaces.specs.Shapes.{middle}
use Rattle.built_spaces.specs.Grid.{middle_between}
use Rattle.built_spaces.proofs.middle_one.middle.Goals as goal

pub returns-clause-middle : goal.returns-clause-middle
returns-clause-middle c =
    let value : to_z w32 (of_z w32 c.max.result) ≡ middle c.args.a c.args.b c.args.c = grind (arith, to_z-of_z) in
    rw value (middle_between c.args.a c.args.b c.args.c)
