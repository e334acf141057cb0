-- Going from parent to parent: how many steps that can take, and the lengths that add up on the way. Assumes nothing.
use Rattle.std.proofs.Common.{◌≡◌, ℕ, zero, suc, ◌+◌, ◌<◌, ◌≤◌, true, false, cond, eqb, ltb, ◌⊎◌, Some, None, Option, sym, refl, ap, ◌∙◌, inl, inr, arith}
use Rattle.std.proofs.lemmas.Bool.{cases_eq, cond-true, cond-false, cond_both, eq-eqb, ltb-true, lt-ltb, le-ltb}
use Rattle.walk_laws.specs.Walk.{Marks, Rules}
use Rattle.walk_laws.specs.Promise.{sum_to, climb, Anchor}
use Rattle.walk_laws.proofs.Sums.{sum_le}

-- A sum that is larger at w, and nowhere smaller.
pub sum_lt : (f g : ℕ → ℕ) (n w : ℕ) → w < n → ((k : ℕ) → k < n → f k ≤ g k) → f w < g w → sum_to f n < sum_to g n
sum_lt f g zero w h le lt = absurd (omega arith)
sum_lt f g (suc n) w h le lt = go (λ i. sum_lt f g n w i (λ k j. le k (omega arith)) lt) (cases_eq w n)
  where
    go : (w < n → sum_to f n < sum_to g n) → (w ≡ n) ⊎ (w ≡ n → ⊥) → sum_to f n + f n < sum_to g n + g n
    go ih (inl s) = omega (arith, sum_le f g n (λ k j. le k (omega arith)), ap f s, ap g s)
    go ih (inr s) = omega (arith, ih (omega arith), le n (omega arith))

pub sum_ones : (n : ℕ) → sum_to (λ k. 1) n ≡ n
sum_ones zero = refl
sum_ones (suc n) = omega (arith, sum_ones n)

-- One for an estimate below e.
abbrev pub under : (e : ℕ) → Option ℕ → ℕ
under e None = 0
under e (Some d) = cond (ltb d e) 1 0

-- How many of the nodes below n have an estimate below e.
abbrev pub lower : Marks → (n e : ℕ) → ℕ
lower S n e = sum_to (λ v. under e (S v).est) n

under_is : (d e : ℕ) → d < e → under e (Some d) ≡ 1
under_is d e h = cond-true (ltb d e) 1 0 (lt-ltb d e h)

under_not : (d e : ℕ) → e ≤ d → under e (Some d) ≡ 0
under_not d e h = cond-false (ltb d e) 1 0 (le-ltb d e h)

under_one : (e : ℕ) (o : Option ℕ) → under e o ≤ 1
under_one e None = omega arith
under_one e (Some d) =
    let P : ℕ → Type 0 = λ x. x ≤ 1 in
    cond_both (ltb d e) 1 0 P (λ t. omega arith) (λ t. omega arith)

under_le : (d e : ℕ) → d ≤ e → (o : Option ℕ) → under d o ≤ under e o
under_le d e h None = omega arith
under_le d e h (Some x) =
    let P : ℕ → Type 0 = λ y. y ≤ under e (Some x) in
    cond_both (ltb x d) 1 0 P (λ t. omega (arith, under_is x e (omega (arith, ltb-true x d t)))) (λ t. omega arith)

-- A node w whose estimate is d, below e, is one more that is below e.
pub lower_falls : (S : Marks) (n d e w : ℕ) → w < n → (S w).est ≡ Some d → d < e → lower S n d < lower S n e
lower_falls S n d e w h t l =
    sum_lt (λ v. under d (S v).est) (λ v. under e (S v).est) n w h (λ k i. under_le d e (omega arith) (S k).est)
    (omega (arith, ap (under d) t, ap (under e) t, under_not d d (omega arith), under_is d e l))

-- A node whose estimate is e is not below e.
pub lower_fewer : (S : Marks) (n e v : ℕ) → v < n → (S v).est ≡ Some e → lower S n e < n
lower_fewer S n e v h t =
    omega (
      arith,
      sum_ones n,
      sum_lt (λ w. under e (S w).est) (λ w. 1) n v h (λ k i. under_one e (S k).est)
          (omega (arith, ap (under e) t, under_not e e (omega arith))),
    )

-- The length of the way from v along at most `steps` parents, with a breakpoint's own wire from the driver at its end.
pub way_by_climb : Rules → Marks → (steps : ℕ) → ℕ → ℕ
way_by_climb R S zero v = cond (eqb v 0) 0 (R.direct v)
way_by_climb R S (suc k) v = cond (eqb v 0) 0 (cond (S v).broken (R.direct v) (way_by_climb R S k (S v).parent + (S v).edge))

module _ (R : Rules) (S : Marks) where
  pub way_driver : (k : ℕ) (v : ℕ) → v ≡ 0 → way_by_climb R S k v ≡ 0
  unfolding way_by_climb
  way_driver zero v h = cond-true (eqb v 0) 0 (R.direct v) (eq-eqb v 0 h)
  way_driver (suc k) v h =
      cond-true (eqb v 0) 0 (cond (S v).broken (R.direct v) (way_by_climb R S k (S v).parent + (S v).edge)) (eq-eqb v 0 h)

  pub way_broken : (k : ℕ) (v : ℕ) → (S v).broken ≡ true → way_by_climb R S k v ≡ cond (eqb v 0) 0 (R.direct v)
  unfolding way_by_climb
  way_broken zero v h = refl
  way_broken (suc k) v h =
      ap (λ x. cond (eqb v 0) 0 x) (cond-true (S v).broken (R.direct v) (way_by_climb R S k (S v).parent + (S v).edge) h)

  pub way_other : (k : ℕ) (v : ℕ) → eqb v 0 ≡ false → (S v).broken ≡ false → way_by_climb R S (suc k) v ≡ way_by_climb R S k (S v).parent + (S v).edge
  unfolding way_by_climb
  way_other k v z h =
      cond-false (eqb v 0) 0 (cond (S v).broken (R.direct v) (way_by_climb R S k (S v).parent + (S v).edge)) z ∙
      cond-false (S v).broken (R.direct v) (way_by_climb R S k (S v).parent + (S v).edge) h

  -- Once the driver or a breakpoint is reached, more steps change nothing.
  pub way_settled : (k f v : ℕ) → Anchor S (climb S k v) → k ≤ f → way_by_climb R S (suc f) v ≡ way_by_climb R S f v
  unfolding way_by_climb
  way_settled zero f v (inl z) h = way_driver (suc f) v z ∙ sym (way_driver f v z)
  way_settled zero f v (inr b) h = way_broken (suc f) v b ∙ sym (way_broken f v b)
  way_settled (suc k) zero v a h = absurd (omega arith)
  way_settled (suc k) (suc f) v a h =
      ap (λ x. cond (eqb v 0) 0 (cond (S v).broken (R.direct v) (x + (S v).edge)))
      (way_settled k f (S v).parent a (omega arith))
