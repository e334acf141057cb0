use Rattle.std.proofs.Common.{◌≡◌, ◌<◌, map, length, filter, sym, refl, ap, ◌∙◌, subst}
use Rattle.std.specs.List.{All}
use Rattle.span_laws.specs.declared.link.Link.{Link}
use Rattle.span.specs.Measured.{lengths_of}
use Rattle.span.specs.Growth.{elsewhere, offered_link}
use Rattle.span.proofs.Grows.{lengths_fair, outside_within, step_grows, step_none, step_not_refused}
use Rattle.span.proofs.growing.Spanner.step.Goals as goal

pub returns-in_default : goal.returns-in_default
returns-in_default g c = absurd (step_none _ _ c.args.seed.now c.args.self.now.links.outside.items c.in_default.ensures c.requires.growing c.requires.more)

pub returns-in_err-join : goal.returns-in_err-join
returns-in_err-join g c =
    let pins = c.args.pins.now in
    absurd (step_not_refused _ (lengths_of pins) (lengths_fair g.S.Space pins.space.now pins.spots.now) c.args.seed.now c.join.new.self c.args.self.now.links.outside.items c.requires.growing c.in-Some.nearest c.in-Some.ensures c.join.result c.join.ensures _ c.in_err-join.was)

pub offer-requires : goal.offer-requires
offer-requires g c =
    let n = length c.args.pins.now.spots.now in
    let F = c.args.self.now.links.outside.items in
    subst (All (λ (x : Link). x.v < n)) (sym c.forget.ensures) (outside_within n (lengths_of c.args.pins.now) c.args.seed.now F c.in-Some.nearest.v c.requires.growing)

pub returns : goal.returns
returns g c =
    let pins = c.args.pins.now in
    let d = lengths_of pins in
    let F = c.args.self.now.links.outside.items in
    let w = c.in-Some.nearest in
    let links : c.offer.new.self.outside.items ≡ map (offered_link d w.v) (filter (elsewhere w.v) F) = c.offer.ensures ∙ ap (map (offered_link d w.v)) c.forget.ensures in
    let more = step_grows _ d (lengths_fair g.S.Space pins.space.now pins.spots.now) c.args.seed.now c.join.new.self F c.requires.growing w c.in-Some.ensures c.join.result c.join.ensures c.offer.new.self.outside.items links in
    record { done = refl; grows = more.0; count = more.1 }
