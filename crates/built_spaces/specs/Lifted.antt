-- A lift over a space that keeps the laws keeps them too. Assumes nothing.
use Rattle.std.specs.Prelude.{◌≡◌, ℕ, ◌+◌, ◌*◌, ◌≤◌, Bool, true, ℤ, pos, int_le, refl}
use Rattle.std.proofs.Common.{sym, ap, ◌∙◌, mul-le-mul_left, mul-add, arith}
use borrow.Author.Differences.{true_is_le}
use Rattle.std.proofs.lemmas.Int.{ints, clamps}
use Rattle.std.proofs.lemmas.Bool.{and_parts, and_from}
use Rattle.space.specs.declared.spot.Spot.{Spot}
use Rattle.space.specs.Laws.{Metric, Meets}
use Rattle.space.specs.Spots.{spot_at_level}
use Rattle.built_spaces.specs.Shapes.{abs_diff, middle, flat, lift_admitted, lift_width, lift_between, lift_meeting}
use Rattle.built_spaces.specs.Grid.{apart_self, apart_swap, apart_by, middle_first, middle_second}

-- what it says of a spot to be admitted by a lift
pub record Lifted (admitted : Spot → Bool) (s : Spot) : Type 0 where
  pub low : int_le (pos 0) s.level ≡ true
  pub high : int_le s.level (pos 15) ≡ true
  pub down : admitted (flat s) ≡ true

pub lifted : (admitted : Spot → Bool) (s : Spot) → lift_admitted admitted s ≡ true → Lifted admitted s
lifted admitted s h =
    let p = and_parts _ _ h in
    let q = and_parts _ _ p.0 in
    record { low = q.0; high = q.1; down = p.1 }

levels_apart : (a b : ℤ) → int_le (pos 0) a ≡ true → int_le a (pos 15) ≡ true → int_le (pos 0) b ≡ true → int_le b (pos 15) ≡ true → abs_diff a b ≤ 15
levels_apart a b h k l m = omega (arith, ints)

middle_low : (a b c : ℤ) → int_le (pos 0) a ≡ true → int_le (pos 0) b ≡ true → int_le (pos 0) c ≡ true → int_le (pos 0) (middle a b c) ≡ true
middle_low a b c h k l = sym (true_is_le (pos 0) (middle a b c) (omega (arith, ints, clamps)))

middle_high : (a b c : ℤ) → int_le a (pos 15) ≡ true → int_le b (pos 15) ≡ true → int_le c (pos 15) ≡ true → int_le (middle a b c) (pos 15) ≡ true
middle_high a b c h k l = sym (true_is_le (middle a b c) (pos 15) (omega (arith, ints, clamps)))

-- the width of a lift that is narrow enough, and of the space below it, are not cut
pub narrow_sum : (w c : ℕ) → lift_width w c ≤ 100000000 → w + 15 * c ≤ 100000000
narrow_sum w c h = omega arith

pub narrow_below : (w c : ℕ) → lift_width w c ≤ 100000000 → w ≤ 100000000
narrow_below w c h = omega arith

module _ (admitted : Spot → Bool) (w : ℕ) (d : Spot → Spot → ℕ) (c : ℕ) (narrow : w + 15 * c ≤ 100000000) (m : Metric admitted w d) where
  climbs : (a b : Spot) → Lifted admitted a → Lifted admitted b → c * abs_diff a.level b.level ≤ 15 * c
  climbs a b h k = omega (arith, mul-le-mul_left c (levels_apart a.level b.level h.low h.high k.low k.high))

  -- a distance under such a lift is not cut
  uncut : (a b : Spot) → Lifted admitted a → Lifted admitted b → lift_between d c a b ≡ d (flat a) (flat b) + c * abs_diff a.level b.level
  uncut a b h k = omega (arith, climbs a b h k, m.within (flat a) (flat b) h.down k.down)

  lifted_self : (a : Spot) → Lifted admitted a → lift_between d c a a ≡ 0
  lifted_self a h = omega (arith, uncut a a h h, m.itself (flat a) h.down, ap (λ n. c * n) (apart_self a.level))

  lifted_swap : (a b : Spot) → Lifted admitted a → Lifted admitted b → lift_between d c a b ≡ lift_between d c b a
  lifted_swap a b h k =
      omega (arith, uncut a b h k, uncut b a k h, m.symmetric (flat a) (flat b) h.down k.down, ap (λ n. c * n) (apart_swap a.level b.level))

  lifted_by : (a b e : Spot) → Lifted admitted a → Lifted admitted b → Lifted admitted e → lift_between d c a e ≤ lift_between d c a b + lift_between d c b e
  lifted_by a b e h k l =
      omega (arith, uncut a b h k, uncut b e k l, uncut a e h l, m.triangle (flat a) (flat b) (flat e) h.down k.down l.down, mul-le-mul_left c (apart_by a.level b.level e.level), mul-add c (abs_diff a.level b.level) (abs_diff b.level e.level))

  pub lifted_metric : Metric (lift_admitted admitted) (lift_width w c) (lift_between d c)
  lifted_metric = record {
    itself = λ a h. lifted_self a (lifted admitted a h);
    symmetric = λ a b h k. lifted_swap a b (lifted admitted a h) (lifted admitted b k);
    triangle = λ a b e h k l. lifted_by a b e (lifted admitted a h) (lifted admitted b k) (lifted admitted e l);
    within = λ a b h k.
        let ha = lifted admitted a h in
        let hb = lifted admitted b k in
        omega (arith, climbs a b ha hb, m.within (flat a) (flat b) ha.down hb.down);
  }

  module _ (meeting : Spot → Spot → Spot → Spot) (j : Meets admitted d meeting) where
    -- the meet below lies on level 0, so it is the meet of the lift moved to level 0
    flattened : (o a b : Spot) → Lifted admitted o → Lifted admitted a → Lifted admitted b → meeting (flat o) (flat a) (flat b) ≡ flat (lift_meeting meeting o a b)
    flattened o a b h k l =
        let z = meeting (flat o) (flat a) (flat b) in
        ap (spot_at_level z) (j.level_0 (flat o) (flat a) (flat b) h.down k.down l.down refl refl refl)

    meeting_lifted : (o a b : Spot) → Lifted admitted o → Lifted admitted a → Lifted admitted b → Lifted admitted (lift_meeting meeting o a b)
    meeting_lifted o a b h k l = record {
      low = middle_low o.level a.level b.level h.low k.low l.low;
      high = middle_high o.level a.level b.level h.high k.high l.high;
      down = sym (ap admitted (flattened o a b h k l)) ∙ j.inside (flat o) (flat a) (flat b) h.down k.down l.down;
    }

    admits_again : (s : Spot) → Lifted admitted s → lift_admitted admitted s ≡ true
    admits_again s h = and_from _ _ (and_from _ _ h.low h.high) h.down

    meeting_first : (o a b : Spot) → Lifted admitted o → Lifted admitted a → Lifted admitted b → lift_between d c o (lift_meeting meeting o a b) + lift_between d c (lift_meeting meeting o a b) a ≡ lift_between d c o a
    meeting_first o a b h k l =
        let z = lift_meeting meeting o a b in
        let hz = meeting_lifted o a b h k l in
        omega (arith, uncut o z h hz, uncut z a hz k, uncut o a h k, ap (d (flat o)) (flattened o a b h k l), ap (λ s. d s (flat a)) (flattened o a b h k l), j.first (flat o) (flat a) (flat b) h.down k.down l.down, ap (λ n. c * n) (middle_first o.level a.level b.level), mul-add c (abs_diff o.level z.level) (abs_diff z.level a.level))

    meeting_second : (o a b : Spot) → Lifted admitted o → Lifted admitted a → Lifted admitted b → lift_between d c o (lift_meeting meeting o a b) + lift_between d c (lift_meeting meeting o a b) b ≡ lift_between d c o b
    meeting_second o a b h k l =
        let z = lift_meeting meeting o a b in
        let hz = meeting_lifted o a b h k l in
        omega (arith, uncut o z h hz, uncut z b hz l, uncut o b h l, ap (d (flat o)) (flattened o a b h k l), ap (λ s. d s (flat b)) (flattened o a b h k l), j.second (flat o) (flat a) (flat b) h.down k.down l.down, ap (λ n. c * n) (middle_second o.level a.level b.level), mul-add c (abs_diff o.level z.level) (abs_diff z.level b.level))

    middle_ground : (a b e : ℤ) → a ≡ pos 0 → b ≡ pos 0 → e ≡ pos 0 → middle a b e ≡ pos 0
    middle_ground a b e p q r = omega (arith, ints, clamps)

    pub lifted_meets : Meets (lift_admitted admitted) (lift_between d c) (lift_meeting meeting)
    lifted_meets = record {
      inside = λ o a b h k l. admits_again _ (meeting_lifted o a b (lifted admitted o h) (lifted admitted a k) (lifted admitted b l));
      first = λ o a b h k l. meeting_first o a b (lifted admitted o h) (lifted admitted a k) (lifted admitted b l);
      second = λ o a b h k l. meeting_second o a b (lifted admitted o h) (lifted admitted a k) (lifted admitted b l);
      level_0 = λ o a b h k l p q r. middle_ground o.level a.level b.level p q r;
    }
