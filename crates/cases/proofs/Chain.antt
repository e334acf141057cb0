-- Seeds that join each node with the next: what they are seen from the driver. Assumes nothing.
use Rattle.std.proofs.Common.{◌≡◌, ℕ, zero, suc, ◌+◌, ◌<◌, ◌≤◌, ◌⊎◌, sym, refl, ap, ◌∙◌, subst, inl, inr, ⊎_elim, arith}
use Rattle.std.proofs.lemmas.Bool.{cases_lt}
use Rattle.forest.specs.Edges.{Near, edge}
use Rattle.forest.specs.Growth.{Grows, Least}
use Rattle.forest.specs.Growth.Grows.{bare, grown}
use Rattle.forest.specs.Rooted.{Forest, none, kid}
use Rattle.forest.proofs.Chains.{Newly, near_cases, near_new, near_none, near_push}
use Rattle.cases.specs.Table.{chain}

module _ (d : ℕ → ℕ → ℕ) where
  -- a neighbour in the chain is the next node or the one before
  abbrev Next : (m u v : ℕ) → Type 0
  Next m u v = (u < m) × (v ≡ suc u)

  neighbours : (m u v l : ℕ) → Near (chain d m) u v l → Next m u v ⊎ Next m v u
  neighbours zero u v l h = absurd (near_none h)
  neighbours (suc m) u v l h =
      ⊎_elim
      (λ (k : Near (chain d m) u v l).
      ⊎_elim
      (λ (n : Next m u v). inl (omega (arith, n.0), n.1))
      (λ (n : Next m v u). inr (omega (arith, n.0), n.1))
      (neighbours m u v l k))
      (λ (k : Newly (edge m (suc m) (d m (suc m))) u v l).
      ⊎_elim
      (λ (n : (m ≡ u) × (suc m ≡ v)). inl (omega (arith, n.0), sym n.1 ∙ ap suc n.0))
      (λ (n : (m ≡ v) × (suc m ≡ u)). inr (omega (arith, n.0), sym n.1 ∙ ap suc n.0))
      k.0)
      (near_cases (chain d m) (edge m (suc m) (d m (suc m))) h)

  next : (m u : ℕ) → u < m → Near (chain d m) u (suc u) (d u (suc u))
  next zero u h = absurd (nothing u h)
    where
      nothing : (u : ℕ) → u < 0 → ⊥
      nothing u h = omega arith
  next (suc m) u h =
      ⊎_elim
      (λ (e : u ≡ m).
      let P : ℕ → Type 0 = λ z. Near (chain d (suc m)) z (suc z) (d z (suc z)) in
      subst P (sym e) (near_new (chain d m) (edge m (suc m) (d m (suc m)))))
      (λ (l : u < m). near_push (edge m (suc m) (d m (suc m))) (next m u l))
      (last u m h)
    where
      last : (u m : ℕ) → u < suc m → (u ≡ m) ⊎ (u < m)
      last u m h = ⊎_elim (λ (l : u < m). inr l) (λ (l : m ≤ u). inl (omega arith)) (cases_lt u m)

  -- the chain from the node u on, k more nodes
  abbrev pub links : (u k : ℕ) → Forest
  links u zero = none
  links u (suc k) = kid (suc u) (d u (suc u)) (links (suc u) k) none

  -- the node u of a chain up to m, entered from w: from the node before it or, at the driver, from itself
  abbrev From : (u w : ℕ) → Type 0
  From u w = ((u ≡ 0) × (w ≡ 0)) ⊎ (u ≡ suc w)

  only_next : (m u w x l : ℕ) → From u w → Near (chain d m) u x l → (x ≡ w → ⊥) → Next m u x
  only_next m u w x l from h other =
      ⊎_elim
      (λ (n : Next m u x). n)
      (λ (n : Next m x u). ⊎_elim (λ (f : (u ≡ 0) × (w ≡ 0)). absurd (omega (arith, n.1, f.0))) (λ (f : u ≡ suc w). absurd (other (omega (arith, n.1, f)))) from)
      (neighbours m u x l h)

  grows_below : (k m u w : ℕ) → k + u ≡ m → From u w → Grows (chain d m) u w 0 (links u k)
  grows_below zero m u w e from = bare (λ x l h low other. omega (arith, (only_next m u w x l from h other).0, e))
  grows_below (suc k) m u w e from =
      let here : u < m = omega arith in
      let least : Least (chain d m) u w 0 (suc u) (d u (suc u)) = record {
        near = next m u here;
        from = omega arith;
        other = λ f. ⊎_elim (λ (g : (u ≡ 0) × (w ≡ 0)). omega (arith, f, g.1)) (λ (g : u ≡ suc w). omega (arith, f, g)) from;
        least = λ x l h low other. omega (arith, (only_next m u w x l from h other).1);
      } in
      grown least (grows_below k m (suc u) u (omega arith) (inr refl)) (bare (λ x l h low other. omega (arith, (only_next m u w x l from h other).1)))

  pub chain_grows : (m : ℕ) → Grows (chain d m) 0 0 0 (links 0 m)
  chain_grows m = grows_below m m 0 0 (omega arith) (inl (refl, refl))
