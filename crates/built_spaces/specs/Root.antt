-- The least whole number whose square is at least a given one, and that air keeps the laws of a wiring space. Assumes nothing.
use Rattle.std.specs.Prelude.{◌≡◌, ℕ, zero, suc, ◌+◌, ◌-◌, ◌*◌, ◌<◌, ◌≤◌, ◌≢◌, nat_le}
use Rattle.std.proofs.Common.{ap, ⊎_elim, mul-le-mul, arith}
use Rattle.std.proofs.lemmas.Bool.{cases_lt, cond_both, leb-true, leb-false}
use Rattle.space.specs.declared.spot.Spot.{Spot}
use Rattle.space.specs.Laws.{Metric}
use Rattle.built_spaces.specs.Shapes.{abs_diff, in_range, LeastRoot, root_from, root_above, squares, air_between}
use Rattle.built_spaces.specs.Grid.{within, apart_self, apart_swap, apart_by, apart_within}

square_grows : (x y : ℕ) → x < y → x * x < y * y
square_grows x y h = omega (arith, mul-le-mul {n₁ = x + 1} {m₁ = x + 1} {n₂ = y} {m₂ = y} (omega arith) (omega arith))

pub square_back : (x y : ℕ) → x * x ≤ y * y → x ≤ y
square_back x y h = ⊎_elim (λ l. absurd (omega (arith, square_grows y x l))) (λ l. l) (cases_lt y x)

-- no number below k has a square that is large enough
Passed : ℕ → ℕ → Type 0
Passed n k = (j : ℕ) → j < k → n ≤ j * j → ⊥

passed_least : (n k : ℕ) → Passed n k → n ≤ k * k → LeastRoot n k
unfolding Passed
passed_least n k p h = (h, λ j e. ⊎_elim (λ l. absurd (p j l e)) (λ l. l) (cases_lt j k))

passed_more : (n k : ℕ) → Passed n k → k * k < n → Passed n (k + 1)
unfolding Passed
passed_more n k p h j l e = ⊎_elim (λ m. p j m e) (λ m. let same : j ≡ k = omega arith in omega (arith, ap (λ i. i * i) same)) (cases_lt j k)

root_from_least : (steps k n : ℕ) → Passed n k → n ≤ (k + steps) * (k + steps) → LeastRoot n (root_from steps k n)
unfolding root_from
root_from_least zero k n p h = passed_least n k p (omega arith)
root_from_least (suc steps) k n p h =
    cond_both (nat_le n (k * k)) k (root_from steps (k + 1) n) (LeastRoot n)
    (λ e. passed_least n k p (leb-true _ _ e))
    (λ e. root_from_least steps (k + 1) n (passed_more n k p (leb-false _ _ e)) (omega arith))

self_square : (n : ℕ) → n ≤ n * n
self_square zero = omega arith
self_square (suc n) = omega arith

pub root_least : (n : ℕ) → LeastRoot n (root_above n)
unfolding root_above root_from Passed
root_least n = root_from_least n 0 n (λ j l e. omega arith) (omega (arith, self_square n))

-- there is one least root only
pub least_only : (n r s : ℕ) → LeastRoot n r → LeastRoot n s → r ≡ s
least_only n r s h k = omega (arith, h.1 s k.0, k.1 r h.0)

-- the root as the machine finds it: the whole root below, and one more where its square falls short
pub whole_root : (n r : ℕ) → r * r ≤ n → n < (r + 1) * (r + 1) → r * r ≡ n → LeastRoot n r
whole_root n r h k e = (omega arith, λ j l. square_back r j (omega arith))

pub next_root : (n r : ℕ) → r * r ≤ n → n < (r + 1) * (r + 1) → (r * r ≢ n) → LeastRoot n (r + 1)
next_root n r h k e = (omega arith, λ j l. ⊎_elim (λ (m : j < r + 1). absurd (omega (arith, mul-le-mul {n₁ = j} {m₁ = j} {n₂ = r} {m₂ = r} (omega arith) (omega arith), e))) (λ m. m) (cases_lt j (r + 1)))

twice_apart : (x k : ℕ) → 2 * (x * (x + k)) ≤ x * x + (x + k) * (x + k)
twice_apart x k = omega arith

twice_ordered : (x y : ℕ) → x ≤ y → 2 * (x * y) ≤ x * x + y * y
twice_ordered x y l = let e : y ≡ x + (y - x) = omega arith in rw e (twice_apart x (y - x))

-- 2xy ≤ x² + y²
twice_product : (x y : ℕ) → 2 * (x * y) ≤ x * x + y * y
twice_product x y = ⊎_elim (λ (l : x < y). twice_ordered x y (omega arith)) (λ (l : y ≤ x). omega (arith, twice_ordered y x l)) (cases_lt x y)

-- the product of two lengths is at least that of their parts
product_of_parts : (a b c d u v : ℕ) → a * a + b * b ≤ u * u → c * c + d * d ≤ v * v → a * c + b * d ≤ u * v
product_of_parts a b c d u v h k =
    square_back (a * c + b * d) (u * v) (omega (arith, mul-le-mul h k, twice_product (a * d) (b * c)))

sum_of_parts : (a b c d u v : ℕ) → a * a + b * b ≤ u * u → c * c + d * d ≤ v * v → (a + c) * (a + c) + (b + d) * (b + d) ≤ (u + v) * (u + v)
sum_of_parts a b c d u v h k = omega (arith, product_of_parts a b c d u v h k)

sum_within : (x y a b c d m : ℕ) → x ≤ a + c → y ≤ b + d → (a + c) * (a + c) + (b + d) * (b + d) ≤ m → x * x + y * y ≤ m
sum_within x y a b c d m h k l = omega (arith, mul-le-mul h h, mul-le-mul k k)

air_triangle : (a b c : Spot) → air_between a c ≤ air_between a b + air_between b c
air_triangle a b c =
    (root_least (squares a c)).1 (air_between a b + air_between b c)
    (sum_within (abs_diff a.x c.x) (abs_diff a.y c.y) (abs_diff a.x b.x) (abs_diff a.y b.y) (abs_diff b.x c.x) (abs_diff b.y c.y) _
    (apart_by a.x b.x c.x)
    (apart_by a.y b.y c.y)
    (sum_of_parts (abs_diff a.x b.x) (abs_diff a.y b.y) (abs_diff b.x c.x) (abs_diff b.y c.y) (air_between a b) (air_between b c) (root_least (squares a b)).0 (root_least (squares b c)).0))

squares_within : (x y : ℕ) → x ≤ 2000000 → y ≤ 2000000 → x * x + y * y ≤ 2828428 * 2828428
squares_within x y h k = omega (arith, mul-le-mul h h, mul-le-mul k k)

squares_swap : (a b : Spot) → squares a b ≡ squares b a
squares_swap a b = rw (apart_swap a.x b.x, apart_swap a.y b.y)

squares_self : (a : Spot) → squares a a ≡ 0
squares_self a = rw (apart_self a.x, apart_self a.y)

pub air_metric : Metric in_range 2828428 air_between
air_metric = record {
  itself = λ a h. omega (arith, (root_least (squares a a)).1 0 (omega (arith, squares_self a)));
  symmetric = λ a b h k. ap root_above (squares_swap a b);
  triangle = λ a b c h k l. air_triangle a b c;
  within = λ a b h k.
      (root_least (squares a b)).1 2828428
      (squares_within _ _ (apart_within a.x b.x 1000000 (within a h).across (within b k).across) (apart_within a.y b.y 1000000 (within a h).along (within b k).along));
}
