use Rattle.std.proofs.Common.{◌≡◌, suc, ◌++◌, ◌∷◌, [], vec_len, sym, ap, ◌∙◌, subst, arith}
use Rattle.span_laws.specs.Spanning.{link}
use Rattle.span.specs.Measured.{lengths_of}
use Rattle.span.specs.Growth.{Rising, fan}
use Rattle.span.proofs.Outside.{rising_fan}
use Rattle.span.proofs.links.Links.start.Goals as goal

pub invariant_of-self-in-loop-v-clause-rises : goal.invariant_of-self-in-loop-v-clause-rises
invariant_of-self-in-loop-v-clause-rises g c =
    let d = lengths_of c.args.pins.now in
    let k = vec_len c.loop-v.self.outside in
    let q : c.loop-v.v ≡ suc k = omega (arith, c.loop-v.invariant.1) in
    let e : c.push_reserved.new.self.items ≡ fan d (suc k) =
    c.push_reserved.ensures.items ∙ ap (λ L. L ++ c.link.result ∷ []) c.loop-v.invariant.0 ∙ ap (λ y. fan d k ++ y ∷ []) (c.link.ensures ∙ ap (link d 0) q)
    in
    subst Rising (sym e) (rising_fan d (suc k))
