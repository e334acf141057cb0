use Rattle.std.proofs.Common.{◌≡◌, ◌<◌, map, length, get_or, set, sym, ap, ◌∙◌, subst, vec_items, arith}
use Rattle.std.specs.Vec.{with_items}
use Rattle.std.proofs.lemmas.Grind.{common_steps}
use Rattle.std.proofs.lemmas.List.{get_or_default}
use Rattle.std.proofs.lemmas.List.Elements.{All-set}
use Rattle.std.proofs.lemmas.List.Edits.{map_over_more}
use Rattle.span_laws.specs.declared.link.Link.{Link}
use Rattle.span.specs.Measured.{lengths_of}
use Rattle.span.specs.Growth.{Rising, better, offered_link}
use Rattle.span.proofs.Firsts.{better_pin}
use Rattle.span.proofs.Outside.{rising_map}
use Rattle.span.proofs.links.Links.offer.Goals as goal

pub loop-old-preserved : goal.loop-old-preserved
loop-old-preserved g c =
    let f = offered_link (lengths_of c.args.pins.now) c.args.u in
    let xs = c.deref_mut-old-items.result.now in
    let ys = c.loop-old.old-items in
    let i = c.loop-old.old-index in
    let none : Link = record { length = 0; u = 0; v = 0 } in
    let x : Link = get_or ys i none in
    let h : i < length xs = omega (arith, c.loop-old-test.true) in
    let value : c.nearer.result ≡ f x = c.nearer.ensures ∙ ap (better x) c.link_from.ensures in
    let one : c.nearer.result.v < length c.args.pins.now.spots.now =
    omega (arith, ap (λ (y : Link). y.v) value, better_pin x (lengths_of c.args.pins.now) c.args.u, c.loop-old.invariant.1 i none (omega (arith, h, c.loop-old.auto.old-items)))
    in (
      ap (set ys i) value ∙ map_over_more f xs ys i x h c.loop-old.invariant.0 (get_or_default ys i none x (omega (arith, h, c.loop-old.auto.old-items))),
      All-set (λ (y : Link). y.v < length c.args.pins.now.spots.now) ys i c.nearer.result one c.loop-old.invariant.1,
    )

pub invariant_of-self-clause-rises : goal.invariant_of-self-clause-rises
invariant_of-self-clause-rises g c =
    let s = c.args.self.now in
    let d = lengths_of c.args.pins.now in
    let f = offered_link d c.args.u in
    let e : vec_items (with_items s.outside c.loop-old.old-items) ≡ map f s.outside.items = grind (arith, common_steps) in
    subst Rising (sym e) (rising_map f (λ x. better_pin x d c.args.u) s.outside.items s.rises)
