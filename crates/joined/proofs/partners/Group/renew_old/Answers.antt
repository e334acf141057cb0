use Rattle.std.proofs.Common.{◌≡◌, ℕ, ◌+◌, ◌<◌, List, [], length, get_or, drop, take, vec_items, sym, refl, ◌∙◌, subst, arith, rules}
use Rattle.std.proofs.lemmas.Grind.{drop_more_same}
use Rattle.std.proofs.lemmas.List.{drop-set-lt, take_more_set}
use Rattle.order.proofs.Finding.{among_at, among_none}
use Rattle.space.specs.Totals.{meet_or_start, capped_distance}
use Rattle.build_laws.specs.declared.pair.Pair.{Pair}
use Rattle.joined.specs.Pairs.{FirstsOf, Lasting}
use Rattle.joined.proofs.Keeping.{read_behind}
use Rattle.joined.proofs.Partnering.{firsts_none, renewed_kept, renewed_left}
use Rattle.joined.proofs.partners.Group.renew_old.Goals as goal
use Rattle.joined.proofs.partners.Group.renew_old.Goals.{in-Some, in_default}

pub loop-i-init : goal.loop-i-init
loop-i-init g c =
    let d = capped_distance g.S.Space c.args.self.now.space.now in
    let j = meet_or_start g.S.Space g.S.Joining c.args.self.now.space.now in
    (firsts_none d j c.args.self.now.table.now.rows c.args.self.now.members.now (Lasting d j c.args.change.a c.args.change.b []) (λ x i. among_none i.1), refl, omega arith, refl)

pub renewed-requires-clause-stale : goal.renewed-requires-clause-stale
renewed-requires-clause-stale g c =
    let olds = vec_items c.args.partners.now.firsts in
    let ys = vec_items c.loop-i.partners.firsts in
    let (firsts, rest, behind, long) = c.loop-i.invariant in
    let i = c.loop-i.i in
    let x = c.index-old.result.now in
    let same : length ys ≡ length olds = omega (arith, long, c.loop-i.partners.firsts.ok.0, c.args.partners.now.firsts.ok.0) in
    let lt : i < length ys = omega (arith, c.loop-i-test.true, c.len-i-end.ensures, long, c.loop-i.partners.firsts.ok.0) in
    let is : x ≡ get_or ys i x = search rules in
    c.requires.stale x (among_at olds i x (omega (arith, lt, same)) (read_behind olds ys i x rest lt same is))

pub loop-i-preserved : goal.loop-i-preserved
loop-i-preserved g c =
    let d = capped_distance g.S.Space c.args.self.now.space.now in
    let j = meet_or_start g.S.Space g.S.Joining c.args.self.now.space.now in
    let rows = c.args.self.now.table.now.rows in
    let group = c.args.self.now.members.now in
    let a = c.args.change.a in
    let b = c.args.change.b in
    let olds = vec_items c.args.partners.now.firsts in
    let ys = vec_items c.loop-i.partners.firsts in
    let (firsts, rest, behind, long) = c.loop-i.invariant in
    let i = c.loop-i.i in
    let x = c.index-old.result.now in
    let same : length ys ≡ length olds = omega (arith, long, c.loop-i.partners.firsts.ok.0, c.args.partners.now.firsts.ok.0) in
    let lt : i < length ys = omega (arith, c.loop-i-test.true, c.len-i-end.ensures, long, c.loop-i.partners.firsts.ok.0) in
    let is : x ≡ get_or ys i x = search rules in
    let was : x ≡ get_or olds i x = read_behind olds ys i x rest lt same is in
    let here : i < length olds = omega (arith, lt, same) in
    let k = c.loop-i.kept in
    let F = take k ys in
    let next : drop (i + 1) ys ≡ drop (i + 1) olds = drop_more_same ys olds i rest in
    let B : ℕ → Type 0 = Lasting d j a b (take (i + 1) olds) in
    elim c.match-renewed.branch [
      | in-Some w ↦
          let p = w.in-Some.pair in
          let P : List Pair → Type 0 = λ G. FirstsOf d j rows group B G in
          rw (w.partners-is, w.kept-is) (
            subst P (sym (take_more_set ys k p (omega (arith, behind, lt)))) (renewed_kept d j rows group a b olds i x here was F firsts p w.in-Some.ensures.renewed),
            drop-set-lt (i + 1) ys k p (omega (arith, behind)) ∙ next,
            omega (arith, behind),
            long,
          )
      | in_default w ↦
          rw (w.partners-is, w.kept-is) (
            renewed_left d j rows group a b olds i x here was F firsts w.in_default.ensures.renewed,
            next,
            omega (arith, behind),
            long,
          )
    ]
