-- The rows longer than a length, and the others, are all rows. Assumes nothing.
use Rattle.std.proofs.Common.{◌≡◌, ℕ, ◌+◌, ◌<◌, ◌≤◌, Bool, true, false, nat_lt, List, suc, zero, ap, ⊎_elim, arith}
use Rattle.std.proofs.lemmas.Bool.{cases_Bool, cases_lt, cond-true, cond-false}
use Rattle.tree_laws.specs.Trees.{row_length}
use Rattle.tree_laws.specs.declared.Row.{Row}
use Rattle.tree.specs.Searches.{looked_at}

module _ (rows : List Row) (half : ℕ) where
  abbrev over : ℕ → Bool
  over n = nat_lt half (row_length rows n)

  pub halves : (n : ℕ) → looked_at rows half true n + looked_at rows half false n ≡ n
  halves zero = omega arith
  halves (suc n) =
      ⊎_elim
      (λ (e : over n ≡ true). omega (arith, halves n, cond-true {A = ℕ} (over n) 1 0 e, cond-true {A = ℕ} (over n) 0 1 e))
      (λ (e : over n ≡ false). omega (arith, halves n, cond-false {A = ℕ} (over n) 1 0 e, cond-false {A = ℕ} (over n) 0 1 e))
      (cases_Bool (over n))

  next : (long : Bool) (n : ℕ) → looked_at rows half long (n + 1) ≡ looked_at rows half long (suc n)
  next long n = let e : n + 1 ≡ suc n = omega arith in ap (looked_at rows half long) e

  pub one_more : (long : Bool) (n : ℕ) → nat_lt half (row_length rows n) ≡ long → looked_at rows half long (n + 1) ≡ looked_at rows half long n + 1
  one_more true n e = omega (arith, next true n, cond-true {A = ℕ} (over n) 1 0 e)
  one_more false n e = omega (arith, next false n, cond-false {A = ℕ} (over n) 0 1 e)

  pub no_fewer : (long : Bool) (n : ℕ) → looked_at rows half long n ≤ looked_at rows half long (n + 1)
  no_fewer true n = omega (arith, next true n)
  no_fewer false n = omega (arith, next false n)

  pub so_far : (long : Bool) (k n : ℕ) → k ≤ n → looked_at rows half long k ≤ looked_at rows half long n
  so_far long k zero h = let z : k ≡ 0 = omega (arith, h) in omega (arith, ap (looked_at rows half long) z)
  so_far long k (suc n) h =
      ⊎_elim
      (λ (l : n < k). let e : k ≡ suc n = omega (arith, h, l) in omega (arith, ap (looked_at rows half long) e))
      (λ (l : k ≤ n). omega (arith, so_far long k n l, no_fewer long n, next long n))
      (cases_lt n k)
