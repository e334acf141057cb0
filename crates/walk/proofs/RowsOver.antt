-- The sum over the rows of a walk is the driver's part and the sum over the tree. Assumes a rooted tree.
use Rattle.std.proofs.Common.{◌≡◌, ℕ, ◌+◌, ◌<◌, cond, eqb, ◌⊎◌, sym, ap, ◌∙◌, inl, inr, arith}
use Rattle.std.proofs.lemmas.Bool.{cases_eq, cond-true, cond-false, eq-eqb, ne_eqb}
use Rattle.forest.specs.Rooted.{Forest}
use Rattle.walk_laws.specs.Promise.{RootedTree, sum_to}
use Rattle.walk_laws.proofs.Branches.{ranked_up}
use Rattle.walk_laws.proofs.Rows.{over, share, share_in, share_out, share_sum}
use Rattle.walk_laws.proofs.Sums.{sum_add, sum_one, sum_same}

module _ (n : ℕ) (rank : ℕ → ℕ) (f : ℕ → ℕ) where
  pub rows_over : (F : Forest) → RootedTree n rank F → sum_to f n ≡ f 0 + over f F
  rows_over F T =
      sum_same f (λ k. cond (eqb k 0) (f k) 0 + share f F k) n (λ k h. sym (part k h (cases_eq k 0))) ∙
      omega (
        arith,
        sum_add (λ k. cond (eqb k 0) (f k) 0) (share f F) n,
        sum_one f n 0 (ranked_up n rank 1 F n T.ranked),
        share_sum n rank f 1 F n T.ranked,
      )
    where
      part : (k : ℕ) → k < n → (k ≡ 0) ⊎ (k ≡ 0 → ⊥) → cond (eqb k 0) (f k) 0 + share f F k ≡ f k
      part k h (inl s) =
          omega (
            arith,
            cond-true (eqb k 0) (f k) 0 (eq-eqb k 0 s),
            share_out n rank f 1 F n T.ranked k (inl (omega (arith, ap rank s, T.first))),
          )
      part k h (inr s) =
          omega
          (arith, cond-false (eqb k 0) (f k) 0 (ne_eqb k 0 s), share_in n rank f 1 F n T.ranked k (T.all k h s))
