use Rattle.std.proofs.Common.{◌≡◌, ℕ, ◌+◌, ◌≤◌, None, Some, Option, length, vec_items, sym, refl, ap, ◌∙◌, subst, arith}
use Rattle.net_laws.specs.States.{State}
use Rattle.net_lemmas.proofs.Builds.{straight_joinable}
use Rattle.seed.specs.declared.store.Seed.{Seed}
use Rattle.straight.specs.Built.{Answer}
use Rattle.net.specs.Held.{ratio_of}
use Rattle.net.proofs.States.{same_parts, straightened}
use Rattle.net.proofs.state.NetState.straight.Goals as goal

pub same-self-in_default-as_tree : goal.same-self-in_default-as_tree
same-self-in_default-as_tree g c = same_parts _ _ refl refl refl refl refl refl

pub returns-clause-built : goal.returns-clause-built
returns-clause-built g c =
    let n = c.self.inside in
    let a = c.in-Some.allowance in
    let whole : length n.seed.edges + 1 ≡ n.seed.nodes = c.in-Some-as_tree.ensures.test.0 refl in
    let two : 2 ≤ n.pins = subst (λ (x : State). 2 ≤ x.pins) (sym c.self.view_is) c.in_ok-paired.ensures in
    let set : ratio_of n.allowance ≡ Some (a.p, a.q) = ap ratio_of c.in-Some.is in
    let A : Seed → Type 0 = λ x. Answer g.S.Space c.args.space.now n.table c.args.builder.now c.as_slice-spots.result.now a.p a.q n.pins x c.straight-wire.new.self c.straight-wire.result c.straight-wire.new.tree in
    let s = straightened g.S.Space c.args.space.now n.table c.args.builder.now c.as_slice-spots.result.now (vec_items n.spots) a.p a.q n.pins n.seed c.straight-wire.new.self c.straight-wire.result c.straight-wire.new.tree (subst A c.in-Some-as_tree.ensures.same c.straight-wire.ensures) c.as_slice-spots.ensures.value (whole, n.nodes) c.unwrap_or.result c.unwrap_or.ensures in
    rw (← c.self.view_is) (
      a,
      (two, (λ e. unset a.p a.q (sym set ∙ e), (whole ∙ n.nodes, set))),
      record {
        rows = c.straight-wire.new.tree.rows;
        straight = s;
        joinable = straight_joinable _ _ _ _ _ _ _ s (omega (arith, n.points, n.few));
        stands = refl;
      },
    )
  where
    unset : (p q : ℕ) → ◌≡◌ {A = Option (ℕ × ℕ)} (Some (p, q)) None → ⊥
    unset p q e = cc
