-- Sums over the numbers below n. Assumes nothing.
use Rattle.std.proofs.Common.{◌≡◌, ℕ, zero, suc, ◌+◌, ◌<◌, ◌≤◌, cond, eqb, ◌⊎◌, sym, refl, ap, inl, inr, arith}
use Rattle.std.proofs.lemmas.Bool.{cases_eq, cond-true, cond-false, eq-eqb, ne_eqb}
use Rattle.walk_laws.specs.Promise.{sum_to}

pub sum_same : (f g : ℕ → ℕ) (n : ℕ) → ((k : ℕ) → k < n → f k ≡ g k) → sum_to f n ≡ sum_to g n
sum_same f g zero h = refl
sum_same f g (suc n) h =
    omega (arith, sum_same f g n (λ k i. h k (omega arith)), h n (omega arith))

pub sum_le : (f g : ℕ → ℕ) (n : ℕ) → ((k : ℕ) → k < n → f k ≤ g k) → sum_to f n ≤ sum_to g n
sum_le f g zero h = omega arith
sum_le f g (suc n) h =
    omega (arith, sum_le f g n (λ k i. h k (omega arith)), h n (omega arith))

pub sum_add : (f g : ℕ → ℕ) (n : ℕ) → sum_to (λ k. f k + g k) n ≡ sum_to f n + sum_to g n
sum_add f g zero = refl
sum_add f g (suc n) = omega (arith, sum_add f g n)

pub sum_none : (n : ℕ) → sum_to (λ k. 0) n ≡ 0
sum_none zero = refl
sum_none (suc n) = omega (arith, sum_none n)

-- Two functions that differ at u alone.
pub sum_change : (f g : ℕ → ℕ) (n u : ℕ) → u < n → ((k : ℕ) → (k ≡ u → ⊥) → g k ≡ f k) →
    sum_to g n + f u ≡ sum_to f n + g u
sum_change f g zero u h d = absurd (omega arith)
sum_change f g (suc n) u h d = go (λ i. sum_change f g n u i d) (cases_eq u n)
  where
    go : (u < n → sum_to g n + f u ≡ sum_to f n + g u) → (u ≡ n) ⊎ (u ≡ n → ⊥) → sum_to g n + g n + f u ≡ sum_to f n + f n + g u
    go ih (inl s) =
        let same : sum_to g n ≡ sum_to f n = sum_same g f n (λ k i. d k (λ e. omega arith)) in
        omega (arith, same, ap f s, ap g s)
    go ih (inr s) = omega (arith, ih (omega arith), d n (λ e. s (sym e)))

-- A function that is 0 but at u.
pub sum_one : (f : ℕ → ℕ) (n u : ℕ) → u < n → sum_to (λ k. cond (eqb k u) (f k) 0) n ≡ f u
sum_one f n u h =
    let g : ℕ → ℕ = λ k. cond (eqb k u) (f k) 0 in
    let c : sum_to g n + 0 ≡ sum_to (λ k. 0) n + g u =
    sum_change (λ k. 0) g n u h (λ k ne. cond-false (eqb k u) (f k) 0 (ne_eqb k u ne)) in
    omega (arith, c, sum_none n, cond-true (eqb u u) (f u) 0 (eq-eqb u u refl))
