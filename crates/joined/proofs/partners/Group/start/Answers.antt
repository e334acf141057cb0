use Rattle.std.proofs.Common.{◌≡◌, ℕ, ◌+◌, List, get_or, take, vec_items, sym, subst, arith}
use Rattle.std.proofs.lemmas.List.{take_all}
use Rattle.order.specs.Firsts.{Among}
use Rattle.space.specs.Totals.{meet_or_start, capped_distance}
use Rattle.build_laws.specs.declared.pair.Pair.{Pair}
use Rattle.joined.specs.Pairs.{FirstsOf}
use Rattle.joined.proofs.Partnering.{firsts_push, firsts_same, held, never_farther}
use Rattle.joined.proofs.Keeping.{among_here, among_next}
use Rattle.joined.proofs.partners.Group.start.Goals as goal
use Rattle.joined.proofs.partners.Group.start.Goals.{in-Some, in_default}

pub loop-member-preserved : goal.loop-member-preserved
loop-member-preserved g c =
    let rows = c.args.self.now.table.now.rows in
    let d = capped_distance g.S.Space c.args.self.now.space.now in
    let j = meet_or_start g.S.Space g.S.Joining c.args.self.now.space.now in
    let group = c.args.self.now.members.now in
    let i = c.loop-member.member-index in
    let x = get_or group i 0 in
    let old = vec_items c.loop-member.partners.firsts in
    let B : ℕ → Type 0 = λ b. Among b (take i group) in
    let C : ℕ → Type 0 = λ b. Among b (take (i + 1) group) in
    let P : List Pair → Type 0 = λ F. FirstsOf d j rows group C F in
    let h = c.loop-member-test.true in
    elim c.match-first_of.branch [
      | in-Some w ↦
          let b = w.in-Some.ensures.best in
          rw w.partners-is (
            subst P (sym w.push_reserved.ensures.items) (firsts_push d j rows group B C x (λ y m p q. among_next group i 0 h y m) old c.loop-member.invariant.0 w.in-Some.found (held d j rows group x w.in-Some.found (among_here group i 0 h) b) b.0.second),
            omega (arith, w.push_reserved.ensures.len, c.loop-member.invariant.1),
          )
      | in_default w ↦
          rw w.partners-is (firsts_same d j rows group B C x (λ y m p q. among_next group i 0 h y m) old c.loop-member.invariant.0 w.in_default.ensures.best, omega (arith, c.loop-member.invariant.1))
    ]

pub returns-clause-firsts : goal.returns-clause-firsts
returns-clause-firsts g c =
    let rows = c.args.self.now.table.now.rows in
    let d = capped_distance g.S.Space c.args.self.now.space.now in
    let j = meet_or_start g.S.Space g.S.Joining c.args.self.now.space.now in
    let group = c.args.self.now.members.now in
    let F = vec_items c.loop-member.partners.firsts in
    let Q : List ℕ → Type 0 = λ xs. FirstsOf d j rows group (λ b. Among b xs) F in
    let all : take c.loop-member.member-index group ≡ group = take_all c.loop-member.member-index group (omega arith) in
    subst Q all c.loop-member.invariant.0

pub first_of-requires-clause-most : goal.first_of-requires-clause-most
first_of-requires-clause-most g c =
    never_farther g.S.Space c.args.self.now.space.now (meet_or_start g.S.Space g.S.Joining c.args.self.now.space.now) c.args.self.now.table.now.rows c.args.self.now.members.now (get_or c.args.self.now.members.now c.loop-member.member-index 0)
