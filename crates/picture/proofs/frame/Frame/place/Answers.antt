use Rattle.std.proofs.Common.{rules, arith, refl, FitsSigned, w32}
use Rattle.std.proofs.lemmas.Int.{to_z-of_z}
use Rattle.picture.proofs.Scaling.{scaled-le}
use Rattle.picture.proofs.frame.Frame.place.Goals as goal

pub returns-clause-exact : goal.returns-clause-exact
returns-clause-exact c h =
    let left : FitsSigned w32 c.args.self.left = search rules in
    let right : FitsSigned w32 c.args.self.right = search rules in
    let bottom : FitsSigned w32 c.args.self.bottom = search rules in
    let top : FitsSigned w32 c.args.self.top = search rules in
    let across : FitsSigned w32 c.args.spot.x = search rules in
    let up : FitsSigned w32 c.args.spot.y = search rules in
    let x = simp to_z-of_z at c.from_low-x.ensures.exact in
    let y = simp to_z-of_z at c.to_high-y.ensures.exact in
    rw (c.scaled.ensures, c.scaled-2.ensures, x h.left h.right, y h.bottom h.top) refl

pub returns-clause-inside : goal.returns-clause-inside
returns-clause-inside c =
    let left : FitsSigned w32 c.args.self.left = search rules in
    let right : FitsSigned w32 c.args.self.right = search rules in
    let bottom : FitsSigned w32 c.args.self.bottom = search rules in
    let top : FitsSigned w32 c.args.self.top = search rules in
    let x = simp to_z-of_z at c.from_low-x.ensures.within in
    let y = simp to_z-of_z at c.to_high-y.ensures.within in
    record {
      left = omega arith;
      right = omega (arith, c.scaled.ensures, scaled-le c.args.self _ _ x);
      upper = omega arith;
      lower = omega (arith, c.scaled-2.ensures, scaled-le c.args.self _ _ y);
    }
