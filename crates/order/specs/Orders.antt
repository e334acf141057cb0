-- What makes a test an order on candidates, and the comparison of one number after another. Assumes nothing.
use Rattle.std.specs.Prelude.{◌≡◌, ℕ, Bool, true, false, cond, nat_lt}

-- No two candidates come before each other, what comes before a candidate comes before all that come after it,
-- and of two different candidates one comes before the other.
pub record Order {X : Type 0} (lt : X → X → Bool) : Type 0 where
  pub one_way : (x y : X) → lt x y ≡ true → lt y x ≡ false
  pub chain : (x y z : X) → lt x y ≡ true → lt y z ≡ true → lt x z ≡ true
  pub apart : (x y : X) → lt x y ≡ false → lt y x ≡ false → x ≡ y

-- The lesser of a and b comes first; where they are equal, `rest` says.
abbrev pub then_by : (a b : ℕ) (rest : Bool) → Bool
then_by a b rest = cond (nat_lt a b) true (cond (nat_lt b a) false rest)
