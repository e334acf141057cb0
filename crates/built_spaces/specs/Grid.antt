-- The plane keeps the laws of a wiring space and of a joining space. Assumes nothing.
use Rattle.std.specs.Prelude.{◌≡◌, ℕ, ◌+◌, ◌≤◌, true, ℤ, unsigned_abs, refl}
use Rattle.std.proofs.Common.{arith}
use Rattle.std.proofs.lemmas.Int.{ints, clamps}
use Rattle.std.proofs.lemmas.Bool.{and_parts, and_from, leb-true, le-leb, eqb-true}
use Rattle.space.specs.declared.spot.Spot.{Spot}
use Rattle.space.specs.Laws.{Metric, Meets}
use Rattle.built_spaces.specs.Shapes.{abs_diff, Middle, middle, in_range, grid_between, grid_meeting}

-- what it says of a spot to be in range
pub record Within (s : Spot) : Type 0 where
  pub flat : unsigned_abs s.level ≡ 0
  pub across : unsigned_abs s.x ≤ 1000000
  pub along : unsigned_abs s.y ≤ 1000000

pub within : (s : Spot) → in_range s ≡ true → Within s
within s h =
    let p = and_parts _ _ h in
    let q = and_parts _ _ p.0 in
    record { flat = eqb-true _ _ q.0; across = leb-true _ _ q.1; along = leb-true _ _ p.1 }

pub apart_self : (a : ℤ) → abs_diff a a ≡ 0
apart_self a = omega (arith, ints)

pub apart_swap : (a b : ℤ) → abs_diff a b ≡ abs_diff b a
apart_swap a b = omega (arith, ints)

pub apart_by : (a b c : ℤ) → abs_diff a c ≤ abs_diff a b + abs_diff b c
apart_by a b c = omega (arith, ints)

pub apart_within : (a b : ℤ) (n : ℕ) → unsigned_abs a ≤ n → unsigned_abs b ≤ n → abs_diff a b ≤ n + n
apart_within a b n h k = omega (arith, ints)

pub middle_first : (o a b : ℤ) → abs_diff o (middle o a b) + abs_diff (middle o a b) a ≡ abs_diff o a
middle_first o a b = omega (arith, ints, clamps)

pub middle_second : (o a b : ℤ) → abs_diff o (middle o a b) + abs_diff (middle o a b) b ≡ abs_diff o b
middle_second o a b = omega (arith, ints, clamps)

pub middle_within : (o a b : ℤ) (n : ℕ) → unsigned_abs o ≤ n → unsigned_abs a ≤ n → unsigned_abs b ≤ n → unsigned_abs (middle o a b) ≤ n
middle_within o a b n h k l = omega (arith, ints, clamps)

pub plane_metric : Metric in_range 4000000 grid_between
plane_metric = record {
  itself = λ a h. omega (arith, apart_self a.x, apart_self a.y);
  symmetric = λ a b h k. omega (arith, apart_swap a.x b.x, apart_swap a.y b.y);
  triangle = λ a b c h k l. omega (arith, apart_by a.x b.x c.x, apart_by a.y b.y c.y);
  within = λ a b h k.
      omega (arith, apart_within a.x b.x 1000000 (within a h).across (within b k).across, apart_within a.y b.y 1000000 (within a h).along (within b k).along);
}

meeting_inside : (o a b : Spot) → Within o → Within a → Within b → in_range (grid_meeting o a b) ≡ true
meeting_inside o a b h k l =
    and_from _ _
    (and_from _ _ refl (le-leb _ _ (middle_within o.x a.x b.x 1000000 h.across k.across l.across)))
    (le-leb _ _ (middle_within o.y a.y b.y 1000000 h.along k.along l.along))

pub plane_meets : Meets in_range grid_between grid_meeting
plane_meets = record {
  inside = λ o a b h k l. meeting_inside o a b (within o h) (within a k) (within b l);
  first = λ o a b h k l. omega (arith, middle_first o.x a.x b.x, middle_first o.y a.y b.y);
  second = λ o a b h k l. omega (arith, middle_second o.x a.x b.x, middle_second o.y a.y b.y);
  level_0 = λ o a b h k l e f g. refl;
}

pub middle_between : (a b c : ℤ) → Middle a b c (middle a b c)
middle_between a b c = record { ab = omega (arith, ints, clamps); ac = omega (arith, ints, clamps); bc = omega (arith, ints, clamps) }
