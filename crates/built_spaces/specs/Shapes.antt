-- The formulas of the built spaces: plane, air and lift. Assumes nothing.
use Rattle.std.specs.Prelude.{◌≡◌, ℕ, zero, suc, ◌+◌, ◌-◌, ◌*◌, ◌^◌, ◌≤◌, min, Bool, cond, ◌&&◌, ℤ, pos, ◌-ℤ◌, ◌==◌, int_le, nat_le, unsigned_abs}
use Rattle.std.specs.Int.{int_max, int_min}
use Rattle.space.specs.Spots.{spot_at_level}
use Rattle.space.specs.declared.spot.Spot.{Spot}

-- |a - b|
abbrev pub abs_diff : ℤ → ℤ → ℕ
abs_diff a b = unsigned_abs (a -ℤ b)

-- m lies between a and b, ends included.
abbrev pub LiesBetween : ℤ → ℤ → ℤ → Type 0
LiesBetween a b m = abs_diff a m + abs_diff m b ≡ abs_diff a b

-- m is the middle one of three numbers: it lies between each two of them.
pub record Middle (a b c m : ℤ) : Type 0 where
  pub ab : LiesBetween a b m
  pub ac : LiesBetween a c m
  pub bc : LiesBetween b c m

-- The middle one of three numbers, by a formula.
abbrev pub middle : ℤ → ℤ → ℤ → ℤ
middle a b c = int_max (int_min a b) (int_min (int_max a b) c)

-- Level 0, with x and y from -1,000,000 to 1,000,000.
abbrev pub in_range : Spot → Bool
in_range s = unsigned_abs s.level == 0 && nat_le (unsigned_abs s.x) 1000000 && nat_le (unsigned_abs s.y) 1000000

-- Plane's distance and meet.
abbrev pub grid_between : Spot → Spot → ℕ
grid_between a b = abs_diff a.x b.x + abs_diff a.y b.y

abbrev pub grid_meeting : Spot → Spot → Spot → Spot
grid_meeting o a b = record { x = middle o.x a.x b.x; y = middle o.y a.y b.y; level = pos 0 }

-- r is the least whole number whose square is at least n.
abbrev pub LeastRoot : ℕ → ℕ → Type 0
LeastRoot n r = (n ≤ r * r) × ((k : ℕ) → n ≤ k * k → r ≤ k)

-- The first of k, k + 1, .. whose square is at least n, or k + steps if there is none before it.
unfoldable pub root_from : (steps k n : ℕ) → ℕ
root_from zero k n = k
root_from (suc steps) k n = cond (nat_le n (k * k)) k (root_from steps (k + 1) n)

-- The least whole number whose square is at least n: n itself is one, so it is looked for among 0 to n.
unfoldable pub root_above : ℕ → ℕ
unfolding root_from
root_above n = root_from n 0 n

-- dx² + dy²
abbrev pub squares : Spot → Spot → ℕ
squares a b = abs_diff a.x b.x * abs_diff a.x b.x + abs_diff a.y b.y * abs_diff a.y b.y

-- Air's distance.
abbrev pub air_between : Spot → Spot → ℕ
air_between a b = root_above (squares a b)

-- The spot moved to level 0.
abbrev pub flat : Spot → Spot
flat s = spot_at_level s (pos 0)

-- A sum that stops at the largest unsigned 64-bit number.
abbrev pub capped : ℕ → ℕ
capped n = min n (2 ^ 64 - 1)

-- A lift over a space: its spots, its width, its distance and its meet, by those of the space below.
abbrev pub lift_admitted : (Spot → Bool) → Spot → Bool
lift_admitted below s = int_le (pos 0) s.level && int_le s.level (pos 15) && below (flat s)

abbrev pub lift_width : (below price : ℕ) → ℕ
lift_width below price = capped (below + 15 * price)

abbrev pub lift_between : (Spot → Spot → ℕ) → (price : ℕ) → Spot → Spot → ℕ
lift_between below price a b = capped (below (flat a) (flat b) + price * abs_diff a.level b.level)

abbrev pub lift_meeting : (Spot → Spot → Spot → Spot) → Spot → Spot → Spot → Spot
lift_meeting below o a b = spot_at_level (below (flat o) (flat a) (flat b)) (middle o.level a.level b.level)
