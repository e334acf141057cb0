use Rattle.std.proofs.Common.{◌≡◌, ℕ, ◌+◌, ◌<◌, ◌≤◌, Bool, true, false, [], ◌∷◌, nat_lt, length, refl, sym, ap, ◌∙◌, subst, inr, ⊎_elim, arith}
use Rattle.std.proofs.Math.Bool.{beq}
use Rattle.std.proofs.lemmas.Bool.{both_ways, cases_lt}
use Rattle.order.specs.Firsts.{Among}
use Rattle.order.specs.Firsts.Among.{here}
use Rattle.order.proofs.Finding.{among_either, among_one, among_right}
use Rattle.tree_laws.specs.declared.Row.{Row}
use Rattle.tree_laws.specs.declared.hook.Hook.{Hook}
use Rattle.tree_laws.specs.Distances.{capped_row_distance}
use Rattle.tree_laws.specs.Trees.{row_length}
use Rattle.tree.specs.Searches.{HookMoveIn}
use Rattle.tree.proofs.Flooring.{done_more, none_done, some_done}
use Rattle.tree.proofs.Halves.{no_fewer, one_more, so_far}
use Rattle.tree.proofs.refining.HookSearch.look.Goals as goal
use Rattle.tree.proofs.refining.HookSearch.look.Goals.{then-at-half+in-Some, then-at-half+in_default, else-at-half}

other : (h n : ℕ) (long : Bool) → nat_lt h n ≡ long → beq (nat_lt h n) long ≡ false → ⊥
other h n true e f = both_ways _ f (rw e refl)
other h n false e f = both_ways _ f (rw e refl)

same_as : (a b : Bool) → beq a b ≡ true → a ≡ b
same_as true true e = refl
same_as true false e = sym e
same_as false true e = e
same_as false false e = refl

pub loop-v-preserved : goal.loop-v-preserved
loop-v-preserved g c =
    let q = c.args.self.now in
    let rows = q.table.now.rows in
    let d = capped_row_distance g.S.Space q.space.now rows in
    let v = c.loop-v.v in
    let (found, done, kept, few) = c.loop-v.invariant in
    let F = c.loop-v.moves.firsts.items in
    let floor = c.loop-v.moves.floor in
    elim c.if-at-half.branch [
      | then-at-half+in-Some w ↦
          let x = w.in-Some.hook in
          let best = w.in-Some.ensures.best in
          rw w.moves-is (rw w.push_reserved.ensures.items (
            record {
              within = λ m a.
                  ⊎_elim
                  (λ (b : Among m F). found.within m b)
                  (λ (b : Among m (x ∷ [])). let P : Hook → Type 0 = HookMoveIn g.S.Space q in subst P (sym (among_one b)) best.0.0)
                  (among_either F (x ∷ []) a);
              low = inr (x, among_right F (x ∷ []) here, refl);
            },
            λ k h e m p r.
                ⊎_elim
                (λ (l : k < v). done_more F x m (done k l e m p r))
                (λ (l : v ≤ k). let is : k ≡ v = omega (arith, l, h) in some_done rows d F floor found.low v x best m p (r ∙ is))
                (cases_lt k v),
            λ k b m p r. done_more F x m (kept k b m p r),
            omega (arith, few, w.push_reserved.ensures.len, one_more rows c.args.half c.args.long v (sym (ap (λ (x : Row). nat_lt c.args.half x.length) c.at.ensures.row) ∙ same_as _ _ w.if-at-half.true)),
          ))
      | then-at-half+in_default w ↦
          rw w.moves-is (
            found,
            λ k h e m p r.
                ⊎_elim
                (λ (l : k < v). done k l e m p r)
                (λ (l : v ≤ k). let is : k ≡ v = omega (arith, l, h) in none_done rows d F floor found.low v w.in_default.ensures.best m p (r ∙ is))
                (cases_lt k v),
            kept,
            omega (arith, few, no_fewer rows c.args.half c.args.long v),
          )
      | else-at-half w ↦
          rw w.moves-is (
            found,
            λ k h e m p r.
                ⊎_elim
                (λ (l : k < v). done k l e m p r)
                (λ (l : v ≤ k).
                let is : k ≡ v = omega (arith, l, h) in
                let same : nat_lt c.args.half c.at.result.length ≡ c.args.long =
                ap (λ (x : Row). nat_lt c.args.half x.length) c.at.ensures.row ∙ ap (λ x. nat_lt c.args.half (row_length rows x)) (sym is) ∙ e in
                absurd (other c.args.half c.at.result.length c.args.long same w.if-at-half.false))
                (cases_lt k v),
            kept,
            omega (arith, few, no_fewer rows c.args.half c.args.long v),
          )
    ]

pub push_reserved-requires : goal.push_reserved-requires
push_reserved-requires g c =
    let rows = c.args.self.now.table.now.rows in
    let v = c.loop-v.v in
    let (found, done, kept, few) = c.loop-v.invariant in
    let here : nat_lt c.args.half (row_length rows v) ≡ c.args.long = sym (ap (λ (x : Row). nat_lt c.args.half x.length) c.at.ensures.row) ∙ same_as _ _ c.if-at-half.true in
    let row : v < length rows = omega (arith, c.loop-v-test.true, c.loop-v.auto.v-end, c.len-v-end.ensures) in
    let room = c.loop-v.moves.firsts_room in
    omega (arith, few, c.requires.room, room, one_more rows c.args.half c.args.long v here, so_far rows c.args.half c.args.long (v + 1) (length rows) (omega (arith, row)))
