-- What every wiring space and every joining space owes, over its admitted spots. Assumes nothing.
use Rattle.std.specs.Prelude.{◌≡◌, ℕ, ◌+◌, ◌≤◌, Bool, true, false, pos, Some, None, Option}
use Rattle.space.specs.declared.spot.Spot.{Spot}

-- A call's answer: the value where the condition holds, and nothing where it does not.
abbrev pub answered : {X : Type 0} → Bool → X → Option X
answered true x = Some x
answered false x = None

-- Distances are those of a metric, but that two different spots may be 0 apart.
pub record Metric (admitted : Spot → Bool) (width : ℕ) (between : Spot → Spot → ℕ) : Type 0 where
  pub itself : (a : Spot) → admitted a ≡ true → between a a ≡ 0
  pub symmetric : (a b : Spot) → admitted a ≡ true → admitted b ≡ true → between a b ≡ between b a
  pub triangle : (a b c : Spot) → admitted a ≡ true → admitted b ≡ true → admitted c ≡ true → between a c ≤ between a b + between b c
  pub within : (a b : Spot) → admitted a ≡ true → admitted b ≡ true → between a b ≤ width

-- The meet of a and b seen from o lies on a shortest way from o to a and on one from o to b.
pub record Meets (admitted : Spot → Bool) (between : Spot → Spot → ℕ) (meeting : Spot → Spot → Spot → Spot) : Type 0 where
  pub inside : (o a b : Spot) → admitted o ≡ true → admitted a ≡ true → admitted b ≡ true → admitted (meeting o a b) ≡ true
  pub first : (o a b : Spot) → admitted o ≡ true → admitted a ≡ true → admitted b ≡ true → between o (meeting o a b) + between (meeting o a b) a ≡ between o a
  pub second : (o a b : Spot) → admitted o ≡ true → admitted a ≡ true → admitted b ≡ true → between o (meeting o a b) + between (meeting o a b) b ≡ between o b
  pub level_0 : (o a b : Spot) → admitted o ≡ true → admitted a ≡ true → admitted b ≡ true → o.level ≡ pos 0 → a.level ≡ pos 0 → b.level ≡ pos 0 → (meeting o a b).level ≡ pos 0
