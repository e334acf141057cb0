use Rattle.std.proofs.Common.{◌≡◌, ◌+◌, ◌-◌, ◌<◌, List, length, sym, ap, ◌∙◌, subst, arith}
use Rattle.std.proofs.lemmas.Bool.{eqb-false}
use Rattle.span_laws.specs.declared.link.Link.{Link}
use Rattle.span.specs.Grown.{Growing}
use Rattle.span.specs.Lengths.{lengths}
use Rattle.span.proofs.Grows.{spans, start_grows}
use Rattle.span.proofs.growing.Spanner.grow.Goals as goal

pub loop-init : goal.loop-init
loop-init g c =
    let pins = c.args.pins.now in
    let d = lengths g.S.Space c.args.space.now pins in
    let t = c.restart.new.self in
    let new = c.in_ok-restart.ensures in
    let some : 0 < length pins = omega (arith, eqb-false _ _ (sym c.is_empty.ensures ∙ c.if-is_empty.false)) in
    let P : List Link → Type 0 = λ F. Growing (length pins) d t F in
    (subst P (sym c.start.ensures) (start_grows (length pins) d t (length pins - 1) (omega arith) new.2 new.1), omega (arith, ap length new.1))

pub returns : goal.returns
returns g c =
    let pins = c.args.pins.now in
    let some : 0 < length pins = omega (arith, eqb-false _ _ (sym c.is_empty.ensures ∙ c.if-is_empty.false)) in
    let all : length c.loop.seed.edges + 1 ≡ length pins = omega (arith, c.loop.invariant.1, c.loop.auto.counter-end some) in
    spans g.S.Space c.args.space.now (g.met.S.Space.metric c.args.space.now) pins c.loop.seed c.loop.self.links.outside.items c.wire.result some c.in_ok-restart.ensures.0 c.loop.invariant.0 all c.wire.ensures
