-- The rows of the straight tree one by one. Assumes nothing.
use Rattle.std.proofs.Common.{◌≡◌, ℕ, zero, suc, ◌<◌, ◌≤◌, true, false, cond, ◌||◌, eqb, [], ◌∷◌, ◌++◌, sym, refl, ap, ◌∙◌, ⊎_elim, arith}
use Rattle.std.proofs.lemmas.Bool.{cases_Bool, cases_eq, cases_lt, cond-false, cond-true, eq-eqb, ne_eqb, or_from, or_left, or_right}
use Rattle.std.proofs.lemmas.List.{get_or_past}
use Rattle.space.specs.declared.spot.Spot.{Spot}
use Rattle.walk_laws.specs.Walk.{Rules, Marks}
use Rattle.tree_laws.specs.declared.Row.{Row}
use Rattle.tree_laws.specs.Trees.{blank, row_length}
use Rattle.build_laws.specs.Straight.{straight, straight_row}
use Rattle.build_laws.proofs.Building.{straight_length, straight_row_lem}

same_row : (u u' : ℕ) (z : Spot) (l l' : ℕ) → u ≡ u' → l ≡ l' → ◌≡◌ {A = Row} (record { parent = u; spot = z; length = l }) (record { parent = u'; spot = z; length = l' })
same_row u u' z l l' p q = ap (λ x. record { parent = x; spot = z; length = l }) p ∙ ap (λ x. record { parent = u'; spot = z; length = x }) q

-- ---- the row of a node

-- a row that is made of a parent and a length, at the node's spot
pub row_is : (place : ℕ → Spot) (v : ℕ) (r : Row) (x : ℕ × ℕ) (z : Spot) → z ≡ place v → (u l : ℕ) → x ≡ (u, l) → ◌≡◌ {A = Row} (record { parent = u; spot = place v; length = l }) r → ◌≡◌ {A = Row} (record { parent = x.0; spot = z; length = x.1 }) r
row_is place v r x z f u l e g =
    ap (λ (y : ℕ × ℕ). record { parent = y.0; spot = z; length = y.1 }) e ∙ ap (λ (s : Spot). record { parent = u; spot = s; length = l }) f ∙ g

pub row_driver : (R : Rules) (S : Marks) (place : ℕ → Spot) (v : ℕ) → v ≡ 0 → ◌≡◌ {A = Row} (record { parent = 0; spot = place v; length = 0 }) (straight_row R S place v)
row_driver R S place v z =
    let e = eq-eqb v 0 z in
    same_row 0 (cond (eqb v 0 || (S v).broken) 0 (S v).parent) (place v) 0 (cond (eqb v 0) 0 (cond (S v).broken (R.direct v) (S v).edge))
    (sym (cond-true (eqb v 0 || (S v).broken) 0 (S v).parent (or_left _ _ e)))
    (sym (cond-true (eqb v 0) 0 (cond (S v).broken (R.direct v) (S v).edge) e))

module _ (R : Rules) (S : Marks) (place : ℕ → Spot) (v : ℕ) (nz : v ≡ 0 → ⊥) where
  pub row_broken : (S v).broken ≡ true → ◌≡◌ {A = Row} (record { parent = 0; spot = place v; length = R.direct v }) (straight_row R S place v)
  row_broken b =
      same_row 0 (cond (eqb v 0 || (S v).broken) 0 (S v).parent) (place v) (R.direct v) (cond (eqb v 0) 0 (cond (S v).broken (R.direct v) (S v).edge))
      (sym (cond-true (eqb v 0 || (S v).broken) 0 (S v).parent (or_right _ _ b)))
      (sym (cond-false (eqb v 0) 0 (cond (S v).broken (R.direct v) (S v).edge) (ne_eqb v 0 nz) ∙ cond-true (S v).broken (R.direct v) (S v).edge b))

  pub row_hung : (S v).broken ≡ false → ◌≡◌ {A = Row} (record { parent = (S v).parent; spot = place v; length = (S v).edge }) (straight_row R S place v)
  row_hung b =
      same_row (S v).parent (cond (eqb v 0 || (S v).broken) 0 (S v).parent) (place v) (S v).edge (cond (eqb v 0) 0 (cond (S v).broken (R.direct v) (S v).edge))
      (sym (cond-false (eqb v 0 || (S v).broken) 0 (S v).parent (or_from _ _ (ne_eqb v 0 nz) b)))
      (sym (cond-false (eqb v 0) 0 (cond (S v).broken (R.direct v) (S v).edge) (ne_eqb v 0 nz) ∙ cond-false (S v).broken (R.direct v) (S v).edge b))

-- ---- all rows

-- of the rules the rows read the direct distances alone
pub straight_same : (R R' : Rules) (S : Marks) (place : ℕ → Spot) → ((k : ℕ) → R.direct k ≡ R'.direct k) → (n : ℕ) → straight R S place n ≡ straight R' S place n
straight_same R R' S place e zero = refl
straight_same R R' S place e (suc n) =
    ap (λ rows. rows ++ straight_row R S place n ∷ []) (straight_same R R' S place e n)
    ∙ ap (λ d. straight R' S place n ++ record { parent = cond (eqb n 0 || (S n).broken) 0 (S n).parent; spot = place n; length = cond (eqb n 0) 0 (cond (S n).broken d (S n).edge) } ∷ []) (e n)

-- no length is above c, if no direct distance and no edge to a parent is
module _ (R : Rules) (S : Marks) (place : ℕ → Spot) (n c : ℕ) (near : (k : ℕ) → R.direct k ≤ c) (short : (v : ℕ) → v < n → (v ≡ 0 → ⊥) → (S v).broken ≡ false → (S v).edge ≤ c) where
  row_short : (k : ℕ) → k < n → (straight_row R S place k).length ≤ c
  row_short k h =
      ⊎_elim
      (λ (z : k ≡ 0). omega (arith, cond-true (eqb k 0) 0 (cond (S k).broken (R.direct k) (S k).edge) (eq-eqb k 0 z)))
      (λ (nz : k ≡ 0 → ⊥).
      ⊎_elim
      (λ (b : (S k).broken ≡ true). omega (arith, ap (λ (r : Row). r.length) (row_broken R S place k nz b), near k))
      (λ (b : (S k).broken ≡ false). omega (arith, ap (λ (r : Row). r.length) (row_hung R S place k nz b), short k h nz b))
      (cases_Bool (S k).broken))
      (cases_eq k 0)

  pub straight_short : (k : ℕ) → row_length (straight R S place n) k ≤ c
  straight_short k =
      ⊎_elim
      (λ (h : k < n). omega (arith, ap (λ (r : Row). r.length) (straight_row_lem R S place n k h), row_short k h))
      (λ (h : n ≤ k). omega (arith, ap (λ (r : Row). r.length) (get_or_past (straight R S place n) k blank (omega (arith, straight_length R S place n)))))
      (cases_lt k n)
