-- Edges of a ranked forest: a parent comes before its child, and no two edges have the same lower end. Assumes ranks.
use Rattle.std.proofs.Common.{◌≡◌, ℕ, ◌+◌, ◌<◌, ◌≤◌, ◌⊎◌, sym, refl, ap, ◌∙◌, inl, inr, arith}
use Rattle.forest.specs.Rooted.{Forest, none, kid, Ranked, In, here, under, beside}
use Rattle.walk_laws.specs.Promise.{Branch}

-- Each node of the forest is the lower end of an edge.
pub in_branch : {w : ℕ} {F : Forest} → In w F → (v : ℕ) → (u : ℕ) × (l : ℕ) × Branch v F u w l
in_branch (here {l = l}) v = (v, l, inl (refl, refl, refl))
in_branch (under {u = c} i) v = let e = in_branch i c in (e.0, e.1, inr (inl e.2))
in_branch (beside i) v = let e = in_branch i v in (e.0, e.1, inr (inr e.2))

module _ (n : ℕ) (rank : ℕ → ℕ) where
  pub ranked_up : (lo : ℕ) (F : Forest) (hi : ℕ) → Ranked n rank lo F hi → lo ≤ hi
  ranked_up lo none hi r = omega arith
  ranked_up lo (kid c k b o) hi r =
      omega (arith, ranked_up (lo + 1) b r.2.0 r.2.1, ranked_up r.2.0 o hi r.2.2)

  -- The lower end of an edge of the forest is a node below n whose rank is one of the forest's.
  pub branch_rank : (lo : ℕ) (F : Forest) (hi : ℕ) → Ranked n rank lo F hi → (v u w l : ℕ) → Branch v F u w l →
      (lo ≤ rank w) × (rank w < hi) × (w < n)
  branch_rank lo none hi r v u w l e = absurd e
  branch_rank lo (kid c k b o) hi r v u w l (inl e) =
      let s : rank w ≡ rank c = ap rank e.1 in (
        omega arith,
        omega (arith, ranked_up (lo + 1) b r.2.0 r.2.1, ranked_up r.2.0 o hi r.2.2),
        omega arith,
      )
  branch_rank lo (kid c k b o) hi r v u w l (inr (inl e)) =
      let h = branch_rank (lo + 1) b r.2.0 r.2.1 c u w l e in
      (omega arith, omega (arith, ranked_up r.2.0 o hi r.2.2), h.2)
  branch_rank lo (kid c k b o) hi r v u w l (inr (inr e)) =
      let h = branch_rank r.2.0 o hi r.2.2 v u w l e in
      (omega (arith, ranked_up (lo + 1) b r.2.0 r.2.1), h.1, h.2)

  -- Two edges whose lower ends have the same rank are the same edge.
  pub branch_same : (lo : ℕ) (F : Forest) (hi : ℕ) → Ranked n rank lo F hi → (v u w l u' w' l' : ℕ) →
      Branch v F u w l → Branch v F u' w' l' → rank w ≡ rank w' → (u ≡ u') × (w ≡ w') × (l ≡ l')
  branch_same lo none hi r v u w l u' w' l' d e s = absurd d
  branch_same lo (kid c k b o) hi r v u w l u' w' l' (inl d) (inl e) s =
      (d.0 ∙ sym e.0, d.1 ∙ sym e.1, d.2 ∙ sym e.2)
  branch_same lo (kid c k b o) hi r v u w l u' w' l' (inl d) (inr (inl e)) s =
      absurd (omega (arith, ap rank d.1, branch_rank (lo + 1) b r.2.0 r.2.1 c u' w' l' e))
  branch_same lo (kid c k b o) hi r v u w l u' w' l' (inl d) (inr (inr e)) s =
      absurd (omega (arith, ap rank d.1, branch_rank r.2.0 o hi r.2.2 v u' w' l' e, ranked_up (lo + 1) b r.2.0 r.2.1))
  branch_same lo (kid c k b o) hi r v u w l u' w' l' (inr (inl d)) (inl e) s =
      absurd (omega (arith, ap rank e.1, branch_rank (lo + 1) b r.2.0 r.2.1 c u w l d))
  branch_same lo (kid c k b o) hi r v u w l u' w' l' (inr (inl d)) (inr (inl e)) s =
      branch_same (lo + 1) b r.2.0 r.2.1 c u w l u' w' l' d e s
  branch_same lo (kid c k b o) hi r v u w l u' w' l' (inr (inl d)) (inr (inr e)) s =
      absurd
      (omega (arith, branch_rank (lo + 1) b r.2.0 r.2.1 c u w l d, branch_rank r.2.0 o hi r.2.2 v u' w' l' e))
  branch_same lo (kid c k b o) hi r v u w l u' w' l' (inr (inr d)) (inl e) s =
      absurd (omega (arith, ap rank e.1, branch_rank r.2.0 o hi r.2.2 v u w l d, ranked_up (lo + 1) b r.2.0 r.2.1))
  branch_same lo (kid c k b o) hi r v u w l u' w' l' (inr (inr d)) (inr (inl e)) s =
      absurd
      (omega (arith, branch_rank r.2.0 o hi r.2.2 v u w l d, branch_rank (lo + 1) b r.2.0 r.2.1 c u' w' l' e))
  branch_same lo (kid c k b o) hi r v u w l u' w' l' (inr (inr d)) (inr (inr e)) s =
      branch_same r.2.0 o hi r.2.2 v u w l u' w' l' d e s

  -- The upper end of an edge comes before the lower one, and is a node below n too.
  pub branch_up : (lo : ℕ) (F : Forest) (hi : ℕ) → Ranked n rank lo F hi → (v u w l : ℕ) → rank v < lo → v < n →
      Branch v F u w l → (rank u < rank w) × (u < n)
  branch_up lo none hi r v u w l h m e = absurd e
  branch_up lo (kid c k b o) hi r v u w l h m (inl e) =
      let s : rank w ≡ rank c = ap rank e.1 in
      let t : rank u ≡ rank v = ap rank e.0 in
      (omega arith, omega arith)
  branch_up lo (kid c k b o) hi r v u w l h m (inr (inl e)) =
      let g : rank c < lo + 1 = omega arith in branch_up (lo + 1) b r.2.0 r.2.1 c u w l g r.0 e
  branch_up lo (kid c k b o) hi r v u w l h m (inr (inr e)) =
      let g : rank v < r.2.0 = omega (arith, ranked_up (lo + 1) b r.2.0 r.2.1) in
      branch_up r.2.0 o hi r.2.2 v u w l g m e

-- The upper end of an edge is the node that the forest hangs on, or the lower end of another edge.
pub branch_above : (F : Forest) (v u w l : ℕ) → Branch v F u w l → (u ≡ v) ⊎ ((x : ℕ) × (k : ℕ) × Branch v F x u k)
branch_above none v u w l e = absurd e
branch_above (kid c k b o) v u w l (inl e) = inl e.0
branch_above (kid c k b o) v u w l (inr (inl e)) = go (branch_above b c u w l e)
  where
    go : (u ≡ c) ⊎ ((x : ℕ) × (j : ℕ) × Branch c b x u j) → (u ≡ v) ⊎ ((x : ℕ) × (j : ℕ) × Branch v (kid c k b o) x u j)
    go (inl s) = inr (v, k, inl (refl, s, refl))
    go (inr s) = inr (s.0, s.1, inr (inl s.2))
branch_above (kid c k b o) v u w l (inr (inr e)) = go (branch_above o v u w l e)
  where
    go : (u ≡ v) ⊎ ((x : ℕ) × (j : ℕ) × Branch v o x u j) → (u ≡ v) ⊎ ((x : ℕ) × (j : ℕ) × Branch v (kid c k b o) x u j)
    go (inl s) = inl s
    go (inr s) = inr (s.0, s.1, inr (inr s.2))
