-- A sum over the numbers below n as a sum over a tree on the nodes below n. Assumes ranks.
use Rattle.std.proofs.Common.{◌≡◌, ℕ, ◌+◌, ◌<◌, ◌≤◌, cond, eqb, ◌⊎◌, refl, ap, inl, inr, arith}
use Rattle.std.proofs.lemmas.Bool.{cond-true, cond-false, eq-eqb, ne_eqb}
use Rattle.forest.specs.Rooted.{Forest, none, kid, Ranked, In, here, under, beside}
use Rattle.walk_laws.specs.Promise.{sum_to}
use Rattle.walk_laws.proofs.Branches.{ranked_up}
use Rattle.walk_laws.proofs.Sums.{sum_add, sum_none, sum_one}

-- The sum of f over the nodes of the forest.
abbrev pub over : (ℕ → ℕ) → Forest → ℕ
over f none = 0
over f (kid u l below others) = f u + over f below + over f others

-- What the node x gives to that sum.
abbrev pub share : (ℕ → ℕ) → Forest → ℕ → ℕ
share f none x = 0
share f (kid u l below others) x = cond (eqb x u) (f x) 0 + (share f below x + share f others x)

module _ (n : ℕ) (rank : ℕ → ℕ) (f : ℕ → ℕ) where
  pub share_sum : (lo : ℕ) (F : Forest) (hi : ℕ) → Ranked n rank lo F hi → sum_to (share f F) n ≡ over f F
  share_sum lo none hi r = sum_none n
  share_sum lo (kid u l b o) hi r =
      omega (
        arith,
        sum_add (λ x. cond (eqb x u) (f x) 0) (λ x. share f b x + share f o x) n,
        sum_add (share f b) (share f o) n,
        sum_one f n u r.0,
        share_sum (lo + 1) b r.2.0 r.2.1,
        share_sum r.2.0 o hi r.2.2,
      )

  -- A node whose rank is not one of the forest's gives nothing.
  pub share_out : (lo : ℕ) (F : Forest) (hi : ℕ) → Ranked n rank lo F hi → (x : ℕ) → (rank x < lo) ⊎ (hi ≤ rank x) → share f F x ≡ 0
  share_out lo none hi r x h = refl
  share_out lo (kid u l b o) hi r x (inl h) =
      let up = ranked_up n rank (lo + 1) b r.2.0 r.2.1 in
      omega (
        arith,
        cond-false (eqb x u) (f x) 0 (ne_eqb x u (λ s. omega (arith, ap rank s, r.1))),
        share_out (lo + 1) b r.2.0 r.2.1 x (inl (omega arith)),
        share_out r.2.0 o hi r.2.2 x (inl (omega arith)),
      )
  share_out lo (kid u l b o) hi r x (inr h) =
      let up = ranked_up n rank (lo + 1) b r.2.0 r.2.1 in
      let up' = ranked_up n rank r.2.0 o hi r.2.2 in
      omega (
        arith,
        cond-false (eqb x u) (f x) 0 (ne_eqb x u (λ s. omega (arith, ap rank s, r.1))),
        share_out (lo + 1) b r.2.0 r.2.1 x (inr (omega arith)),
        share_out r.2.0 o hi r.2.2 x (inr (omega arith)),
      )

  pub in_rank : (lo : ℕ) (F : Forest) (hi : ℕ) → Ranked n rank lo F hi → (x : ℕ) → In x F → (lo ≤ rank x) × (rank x < hi)
  in_rank lo none hi r x i = elim i [ ]
  in_rank lo (kid u l b o) hi r x here = (
    omega arith,
    omega (arith, ranked_up n rank (lo + 1) b r.2.0 r.2.1, ranked_up n rank r.2.0 o hi r.2.2),
  )
  in_rank lo (kid u l b o) hi r x (under i) =
      let h = in_rank (lo + 1) b r.2.0 r.2.1 x i in
      (omega arith, omega (arith, ranked_up n rank r.2.0 o hi r.2.2))
  in_rank lo (kid u l b o) hi r x (beside i) =
      let h = in_rank r.2.0 o hi r.2.2 x i in
      (omega (arith, ranked_up n rank (lo + 1) b r.2.0 r.2.1), h.1)

  -- A node of the forest gives its own.
  pub share_in : (lo : ℕ) (F : Forest) (hi : ℕ) → Ranked n rank lo F hi → (x : ℕ) → In x F → share f F x ≡ f x
  share_in lo none hi r x i = elim i [ ]
  share_in lo (kid u l b o) hi r x here =
      let up = ranked_up n rank (lo + 1) b r.2.0 r.2.1 in
      omega (
        arith,
        cond-true (eqb x x) (f x) 0 (eq-eqb x x refl),
        share_out (lo + 1) b r.2.0 r.2.1 x (inl (omega arith)),
        share_out r.2.0 o hi r.2.2 x (inl (omega arith)),
      )
  share_in lo (kid u l b o) hi r x (under i) =
      let h = in_rank (lo + 1) b r.2.0 r.2.1 x i in
      omega (
        arith,
        cond-false (eqb x u) (f x) 0 (ne_eqb x u (λ s. omega (arith, ap rank s, r.1))),
        share_in (lo + 1) b r.2.0 r.2.1 x i,
        share_out r.2.0 o hi r.2.2 x (inl h.1),
      )
  share_in lo (kid u l b o) hi r x (beside i) =
      let h = in_rank r.2.0 o hi r.2.2 x i in
      let up = ranked_up n rank (lo + 1) b r.2.0 r.2.1 in
      omega (
        arith,
        cond-false (eqb x u) (f x) 0 (ne_eqb x u (λ s. omega (arith, ap rank s, r.1))),
        share_out (lo + 1) b r.2.0 r.2.1 x (inr h.0),
        share_in r.2.0 o hi r.2.2 x i,
      )
