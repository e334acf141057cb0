use Rattle.std.proofs.Common.{◌≡◌, ℕ, [], ◌∷◌, length, get_or, vec_items, refl, add-one, ap, ◌∙◌, inl, inr, arith, rules}
use Rattle.order.specs.Firsts.Among.{here}
use Rattle.order.proofs.Finding.{among_right}
use Rattle.space.specs.Totals.{meet_or_start, capped_distance}
use Rattle.build_laws.specs.Joining.{far_of}
use Rattle.build_laws.specs.declared.pair.Pair.{Pair}
use Rattle.joined.specs.Pairs.{PartnerAt}
use Rattle.joined.proofs.Keeping.{among_here}
use Rattle.joined.proofs.Partnering.{list_ends, list_more, list_same}
use Rattle.joined.proofs.partners.Group.list.Goals as goal
use Rattle.joined.proofs.partners.Group.list.Goals.{then-far-least, else-far-least, then-a-b-via-then-a-b, then-a-b-via-else-a-b+then-least-most}

pub bounds-rows-a : goal.bounds-rows-a
bounds-rows-a g c =
    let q = c.args.self.now in
    omega (arith, q.rows (get_or q.members.now c.loop-a.a-index 0) (among_here q.members.now c.loop-a.a-index 0 c.loop-a-test.true), ap length c.rows-rows.ensures)

pub offset_bounds-rows-a : goal.offset_bounds-rows-a
offset_bounds-rows-a g c =
    let q = c.args.self.now in
    omega (arith, q.rows (get_or q.members.now c.loop-a.a-index 0) (among_here q.members.now c.loop-a.a-index 0 c.loop-a-test.true), q.table.now.few)

pub loop-a-preserved : goal.loop-a-preserved
loop-a-preserved g c =
    let q = c.args.self.now in
    let rows = q.table.now.rows in
    let d = capped_distance g.S.Space q.space.now in
    let j = meet_or_start g.S.Space g.S.Joining q.space.now in
    let group = q.members.now in
    let b = c.args.b in
    let i = c.loop-a.a-index in
    let a = get_or group i 0 in
    let (listed, least, few, room) = c.loop-a.invariant in
    let F = vec_items c.loop-a.pairs in
    let long : c.far-far.result ≡ far_of d j rows a b = search rules in
    let P : ℕ → Pair = λ n. record { far = n; a = a; b = b } in
    let p = P c.far-far.result in
    let at : PartnerAt d j rows group b i p =
    record { place = c.loop-a-test.true; member = refl; lower = omega (arith, c.if-a-b.false); is = ap P long } in
    rw add-one (elim c.if-far-least.branch [
      | then-far-least w ↦
          rw (w.pairs-is, w.least-is) (rw w.push_reserved.ensures.items (
            list_more d j rows group b q.rising i F p listed at,
            inr (p, among_right F (p ∷ []) here, refl),
            omega (arith, few, w.push_reserved.ensures.len),
            w.push_reserved.ensures.capacity ∙ room,
          ))
      | else-far-least w ↦
          rw (w.pairs-is, w.least-is) (
            list_same d j rows group b q.rising i F p c.loop-a.least listed least at (omega (arith, w.if-far-least.false)),
            least,
            omega (arith, few),
            room,
          )
    ])

pub returns-after-loop-a-clause-decides : goal.returns-after-loop-a-clause-decides
returns-after-loop-a-clause-decides g c =
    let q = c.args.self.now in
    let d = capped_distance g.S.Space q.space.now in
    let j = meet_or_start g.S.Space g.S.Joining q.space.now in
    list_ends d j q.table.now.rows q.members.now c.args.b q.rising c.loop-a.a-index (vec_items c.loop-a.pairs) c.loop-a.least c.args.most c.loop-a.invariant.0 c.loop-a.invariant.1 c.requires.most
    (λ h. absurd (omega (arith, h, c.loop-a-test.false)))

pub returns-then-a-b-clause-decides : goal.returns-then-a-b-clause-decides
returns-then-a-b-clause-decides g c =
    let q = c.args.self.now in
    let d = capped_distance g.S.Space q.space.now in
    let j = meet_or_start g.S.Space g.S.Joining q.space.now in
    list_ends d j q.table.now.rows q.members.now c.args.b q.rising c.loop-a.a-index (vec_items c.loop-a.pairs) c.loop-a.least c.args.most c.loop-a.invariant.0 c.loop-a.invariant.1 c.requires.most
    (λ h. elim c.then-a-b.branch [
      | then-a-b-via-then-a-b w ↦ inl w.if-a-b.true
      | then-a-b-via-else-a-b+then-least-most w ↦ inr w.if-least-most.true
    ])
