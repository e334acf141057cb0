use Rattle.std.proofs.Common.{◌≡◌, ℕ, ◌<◌, List, [], ◌∷◌, ◌++◌, length, Some, None, vec_items, filter, refl, ap, ◌∙◌, subst, arith}
use Rattle.order.specs.Firsts.{FirstOf}
use Rattle.build_laws.specs.Joining.{far_of, others}
use Rattle.space.specs.Totals.{meet_or_start, capped_distance}
use Rattle.build_laws.specs.declared.pair.Pair.{Pair}
use Rattle.joined.specs.Pairs.{FirstPairs}
use Rattle.build_laws.specs.Pairs.{pair_before}
use Rattle.joined.proofs.Keeping.{kept_few}
use Rattle.joined.proofs.Partnering.{best_farthest, best_near, best_none, firsts_best}
use Rattle.joined.proofs.Stepping.{ready_at, rising_at, rows_at, shorter_at, step_parts, stepped_at}
use Rattle.joined.proofs.joining.Joiner.step.Goals as goal

pub returns-in_default : goal.returns-in_default
returns-in_default g c =
    let rows = c.args.table.now.rows in
    let d = capped_distance g.S.Space c.args.space.now in
    let j = meet_or_start g.S.Space g.S.Joining c.args.space.now in
    let group = vec_items c.args.self.now.group in
    let F = vec_items c.args.self.now.partners.firsts in
    let P : List Pair → Type 0 = λ xs. FirstOf pair_before xs None in
    (refl, best_none d j rows group (firsts_best d j rows group F None c.requires.firsts (subst P c.as_slice.ensures.value c.in_default.ensures.first)))

pub returns-then-pair-eq0 : goal.returns-then-pair-eq0
returns-then-pair-eq0 g c =
    let rows = c.args.table.now.rows in
    let d = capped_distance g.S.Space c.args.space.now in
    let j = meet_or_start g.S.Space g.S.Joining c.args.space.now in
    let group = vec_items c.args.self.now.group in
    let F = vec_items c.args.self.now.partners.firsts in
    let p = c.in-Some.pair in
    let P : List Pair → Type 0 = λ xs. FirstOf pair_before xs (Some p) in
    (refl, best_near d j rows group p (firsts_best d j rows group F (Some p) c.requires.firsts (subst P c.as_slice.ensures.value c.in-Some.ensures.first)) c.if-pair-eq0.true)

pub returns-in_default-insert_meet : goal.returns-in_default-insert_meet
returns-in_default-insert_meet g c =
    let t = c.args.table.now in
    let rows = t.rows in
    let d = capped_distance g.S.Space c.args.space.now in
    let j = meet_or_start g.S.Space g.S.Joining c.args.space.now in
    let group = vec_items c.args.self.now.group in
    let F = vec_items c.args.self.now.partners.firsts in
    let p = c.in-Some.pair in
    let P : List Pair → Type 0 = λ xs. FirstOf pair_before xs (Some p) in
    let best = firsts_best d j rows group F (Some p) c.requires.firsts (subst P c.as_slice.ensures.value c.in-Some.ensures.first) in
    absurd (c.in_default-insert_meet.ensures.0 (step_parts d j rows t.tree group F c.requires p.a p.b best.0.pair))

pub push_reserved-requires : goal.push_reserved-requires
push_reserved-requires g c =
    let group = vec_items c.args.self.now.group in
    omega (
      arith,
      kept_few (others c.in-Some.pair.a c.in-Some.pair.b) group,
      ap length c.leave.ensures.items,
      c.leave.new.group.ok.0,
      c.leave.ensures.room,
      c.args.self.now.members,
      c.requires.room,
      c.args.table.now.tree.some,
    )

pub invariant_of-group-clause-few : goal.invariant_of-group-clause-few
invariant_of-group-clause-few g c =
    let t = c.args.table.now in
    let rows = t.rows in
    let d = capped_distance g.S.Space c.args.space.now in
    let j = meet_or_start g.S.Space g.S.Joining c.args.space.now in
    let group = vec_items c.args.self.now.group in
    let F = vec_items c.args.self.now.partners.firsts in
    let p = c.in-Some.pair in
    let P : List Pair → Type 0 = λ xs. FirstOf pair_before xs (Some p) in
    let best = firsts_best d j rows group F (Some p) c.requires.firsts (subst P c.as_slice.ensures.value c.in-Some.ensures.first) in
    let parted = c.in-Some-insert_meet.ensures in
    let left = c.as_slice-2.result.now in
    let e : left ≡ filter (others p.a p.b) group ++ c.in-Some-insert_meet.new ∷ [] =
    c.as_slice-2.ensures.value ∙ c.push_reserved.ensures.items ∙ ap (λ xs. xs ++ c.in-Some-insert_meet.new ∷ []) c.leave.ensures.items in
    omega (arith, shorter_at d j rows t.tree group F c.requires p.a p.b best.0.pair c.insert_meet.new.table.rows left c.in-Some-insert_meet.new parted.2 parted.1 e, c.requires.room)

pub invariant_of-group-clause-rising : goal.invariant_of-group-clause-rising
invariant_of-group-clause-rising g c =
    let t = c.args.table.now in
    let rows = t.rows in
    let d = capped_distance g.S.Space c.args.space.now in
    let j = meet_or_start g.S.Space g.S.Joining c.args.space.now in
    let group = vec_items c.args.self.now.group in
    let F = vec_items c.args.self.now.partners.firsts in
    let p = c.in-Some.pair in
    let P : List Pair → Type 0 = λ xs. FirstOf pair_before xs (Some p) in
    let best = firsts_best d j rows group F (Some p) c.requires.firsts (subst P c.as_slice.ensures.value c.in-Some.ensures.first) in
    let parted = c.in-Some-insert_meet.ensures in
    let left = c.as_slice-2.result.now in
    let e : left ≡ filter (others p.a p.b) group ++ c.in-Some-insert_meet.new ∷ [] =
    c.as_slice-2.ensures.value ∙ c.push_reserved.ensures.items ∙ ap (λ xs. xs ++ c.in-Some-insert_meet.new ∷ []) c.leave.ensures.items in
    rising_at d j rows t.tree group F c.requires p.a p.b best.0.pair c.insert_meet.new.table.rows left c.in-Some-insert_meet.new parted.2 parted.1 e

pub invariant_of-group-clause-rows : goal.invariant_of-group-clause-rows
invariant_of-group-clause-rows g c =
    let t = c.args.table.now in
    let rows = t.rows in
    let d = capped_distance g.S.Space c.args.space.now in
    let j = meet_or_start g.S.Space g.S.Joining c.args.space.now in
    let group = vec_items c.args.self.now.group in
    let F = vec_items c.args.self.now.partners.firsts in
    let p = c.in-Some.pair in
    let P : List Pair → Type 0 = λ xs. FirstOf pair_before xs (Some p) in
    let best = firsts_best d j rows group F (Some p) c.requires.firsts (subst P c.as_slice.ensures.value c.in-Some.ensures.first) in
    let parted = c.in-Some-insert_meet.ensures in
    let left = c.as_slice-2.result.now in
    let e : left ≡ filter (others p.a p.b) group ++ c.in-Some-insert_meet.new ∷ [] =
    c.as_slice-2.ensures.value ∙ c.push_reserved.ensures.items ∙ ap (λ xs. xs ++ c.in-Some-insert_meet.new ∷ []) c.leave.ensures.items in
    rows_at d j rows t.tree group F c.requires p.a p.b best.0.pair c.insert_meet.new.table.rows left c.in-Some-insert_meet.new parted.2 parted.1 e

pub renew-requires : goal.renew-requires
renew-requires g c =
    let t = c.args.table.now in
    let rows = t.rows in
    let d = capped_distance g.S.Space c.args.space.now in
    let j = meet_or_start g.S.Space g.S.Joining c.args.space.now in
    let group = vec_items c.args.self.now.group in
    let F = vec_items c.args.self.now.partners.firsts in
    let p = c.in-Some.pair in
    let P : List Pair → Type 0 = λ xs. FirstOf pair_before xs (Some p) in
    let best = firsts_best d j rows group F (Some p) c.requires.firsts (subst P c.as_slice.ensures.value c.in-Some.ensures.first) in
    let parted = c.in-Some-insert_meet.ensures in
    let left = c.as_slice-2.result.now in
    let e : left ≡ filter (others p.a p.b) group ++ c.in-Some-insert_meet.new ∷ [] =
    c.as_slice-2.ensures.value ∙ c.push_reserved.ensures.items ∙ ap (λ xs. xs ++ c.in-Some-insert_meet.new ∷ []) c.leave.ensures.items in
    ready_at d j rows t.tree group F c.requires p.a p.b best.0.pair c.insert_meet.new.table.rows left c.in-Some-insert_meet.new parted.2 parted.1 e F refl

pub returns : goal.returns
returns g c =
    let t = c.args.table.now in
    let rows = t.rows in
    let d = capped_distance g.S.Space c.args.space.now in
    let j = meet_or_start g.S.Space g.S.Joining c.args.space.now in
    let group = vec_items c.args.self.now.group in
    let F = vec_items c.args.self.now.partners.firsts in
    let p = c.in-Some.pair in
    let P : List Pair → Type 0 = λ xs. FirstOf pair_before xs (Some p) in
    let best = firsts_best d j rows group F (Some p) c.requires.firsts (subst P c.as_slice.ensures.value c.in-Some.ensures.first) in
    let parted = c.in-Some-insert_meet.ensures in
    let left = vec_items c.push_reserved.new.self in
    let G = vec_items c.renew.new.partners.firsts in
    let e : left ≡ filter (others p.a p.b) group ++ c.in-Some-insert_meet.new ∷ [] =
    c.push_reserved.ensures.items ∙ ap (λ xs. xs ++ c.in-Some-insert_meet.new ∷ []) c.leave.ensures.items in
    let Q : List ℕ → Type 0 = λ xs. FirstPairs d j c.insert_meet.new.table.rows xs G in
    let far : 0 < far_of d j rows p.a p.b = omega (arith, best.0.long, c.if-pair-eq0.false) in
    stepped_at d j rows t.tree group F c.requires p.a p.b best.0.pair c.insert_meet.new.table.rows left c.in-Some-insert_meet.new parted.2 parted.1 e G
    (subst Q c.as_slice-2.ensures.value c.renew.ensures.firsts)
    c.renew.ensures.few
    (best_farthest d j rows group p best)
    far
