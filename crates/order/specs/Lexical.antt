-- Comparisons of one number after another are an order.
use Rattle.std.specs.Prelude.{◌≡◌, ℕ, ◌<◌, Bool, true, false, ltb, ◌⊎◌, ◌≢◌, nat_lt}
use Rattle.std.proofs.Common.{sym, ◌∙◌, inl, inr, ⊎_elim, arith}
use Rattle.std.proofs.lemmas.Bool.{both_ways, cases_order, lt-ltb, le-ltb, ltb-true, ltb-false}
use Rattle.order.specs.Orders.{Order, then_by}

pub then_below : (a b : ℕ) (r : Bool) → a < b → then_by a b r ≡ true
then_below a b r h = rw (lt-ltb a b h)

pub then_above : (a b : ℕ) (r : Bool) → b < a → then_by a b r ≡ false
then_above a b r h = let e : ltb a b ≡ false = le-ltb a b (omega arith) in rw (e, lt-ltb b a h)

pub then_level : (a b : ℕ) (r : Bool) → a ≡ b → then_by a b r ≡ r
then_level a b r h = let e : ltb a b ≡ false = le-ltb a b (omega arith) in let f : ltb b a ≡ false = le-ltb b a (omega arith) in rw (e, f)

pub then_true : (a b : ℕ) (r : Bool) → then_by a b r ≡ true → (a < b) ⊎ ((a ≡ b) × (r ≡ true))
then_true a b r h =
    ⊎_elim (λ e. inr (e, sym (then_level a b r e) ∙ h)) (⊎_elim inl (λ g. absurd (both_ways (then_by a b r) (then_above a b r g) h))) (cases_order a b)

pub then_false : (a b : ℕ) (r : Bool) → then_by a b r ≡ false → (b < a) ⊎ ((a ≡ b) × (r ≡ false))
then_false a b r h =
    ⊎_elim (λ e. inr (e, sym (then_level a b r e) ∙ h)) (⊎_elim (λ g. absurd (both_ways (then_by a b r) h (then_below a b r g))) inl) (cases_order a b)

-- ---- the three laws, where what is compared next has them among equals

pub then_one_way : (a b : ℕ) (r s : Bool) → (r ≡ true → s ≡ false) → then_by a b r ≡ true → then_by b a s ≡ false
then_one_way a b r s f h =
    ⊎_elim (λ g. then_above b a s g) (λ p. let e : b ≡ a = sym p.0 in then_level b a s e ∙ f p.1) (then_true a b r h)

pub then_chain : (a b c : ℕ) (r s t : Bool) → (r ≡ true → s ≡ true → t ≡ true) → then_by a b r ≡ true → then_by b c s ≡ true → then_by a c t ≡ true
then_chain a b c r s t f h k =
    ⊎_elim
    (λ (g : a < b).
    ⊎_elim
    (λ (m : b < c). then_below a c t (omega arith))
    (λ (q : (b ≡ c) × (s ≡ true)). then_below a c t (omega (arith, q.0)))
    (then_true b c s k))
    (λ (p : (a ≡ b) × (r ≡ true)).
    ⊎_elim
    (λ (m : b < c). then_below a c t (omega (arith, p.0)))
    (λ (q : (b ≡ c) × (s ≡ true)). then_level a c t (p.0 ∙ q.0) ∙ f p.1 q.1)
    (then_true b c s k))
    (then_true a b r h)

pub then_apart : (a b : ℕ) (r s : Bool) → then_by a b r ≡ false → then_by b a s ≡ false → (a ≡ b) × (r ≡ false) × (s ≡ false)
then_apart a b r s h k =
    ⊎_elim
    (λ (g : b < a).
    ⊎_elim
    (λ (m : a < b). absurd (clash a b g m))
    (λ (q : (b ≡ a) × (s ≡ false)). absurd (level_clash a b g q.0))
    (then_false b a s k))
    (λ (p : (a ≡ b) × (r ≡ false)).
    ⊎_elim
    (λ (m : a < b). absurd (level_clash b a m p.0))
    (λ (q : (b ≡ a) × (s ≡ false)). (p.0, p.1, q.1))
    (then_false b a s k))
    (then_false a b r h)
  where
    clash : (a b : ℕ) → b < a → a < b → ⊥
    clash a b g m = omega arith

    level_clash : (a b : ℕ) → b < a → b ≢ a
    level_clash a b g e = omega arith

pub ltb_one_way : (a b : ℕ) → nat_lt a b ≡ true → nat_lt b a ≡ false
ltb_one_way a b h = le-ltb b a (omega (arith, ltb-true a b h))

pub ltb_chain : (a b c : ℕ) → nat_lt a b ≡ true → nat_lt b c ≡ true → nat_lt a c ≡ true
ltb_chain a b c h k = lt-ltb a c (omega (arith, ltb-true a b h, ltb-true b c k))

pub ltb_apart : (a b : ℕ) → nat_lt a b ≡ false → nat_lt b a ≡ false → a ≡ b
ltb_apart a b h k = omega (arith, ltb-false a b h, ltb-false b a k)

-- ---- several numbers, one after another

-- A comparison that is an order but for ties: where neither of two candidates comes before the other, they are tied.
pub record OrderBut {X : Type 0} (Tied : X → X → Type 0) (lt : X → X → Bool) : Type 0 where
  pub one_way : (x y : X) → lt x y ≡ true → lt y x ≡ false
  pub chain : (x y z : X) → lt x y ≡ true → lt y z ≡ true → lt x z ≡ true
  pub apart : (x y : X) → lt x y ≡ false → lt y x ≡ false → Tied x y

module _ {X : Type 0} (f : X → ℕ) where
  -- the lower f first
  pub by_lower : OrderBut (λ x y. f x ≡ f y) (λ x y. nat_lt (f x) (f y))
  by_lower =
      record {
        one_way = λ x y. ltb_one_way (f x) (f y);
        chain = λ x y z. ltb_chain (f x) (f y) (f z);
        apart = λ x y. ltb_apart (f x) (f y);
      }

  module _ {Tied : X → X → Type 0} {lt : X → X → Bool} (o : OrderBut Tied lt) where
    -- the lower f first, then as lt says
    pub lower_then : OrderBut (λ x y. (f x ≡ f y) × Tied x y) (λ x y. then_by (f x) (f y) (lt x y))
    lower_then =
        record {
          one_way = λ x y. then_one_way (f x) (f y) (lt x y) (lt y x) (o.one_way x y);
          chain = λ x y z. then_chain (f x) (f y) (f z) (lt x y) (lt y z) (lt x z) (o.chain x y z);
          apart = λ x y h k. let p = then_apart (f x) (f y) (lt x y) (lt y x) h k in (p.0, o.apart x y p.1 p.2);
        }

    -- the greater f first, then as lt says
    pub greater_then : OrderBut (λ x y. (f x ≡ f y) × Tied x y) (λ x y. then_by (f y) (f x) (lt x y))
    greater_then =
        record {
          one_way = λ x y. then_one_way (f y) (f x) (lt x y) (lt y x) (o.one_way x y);
          chain = λ x y z h k. then_chain (f z) (f y) (f x) (lt y z) (lt x y) (lt x z) (λ m n. o.chain x y z n m) k h;
          apart = λ x y h k. let p = then_apart (f y) (f x) (lt x y) (lt y x) h k in (sym p.0, o.apart x y p.1 p.2);
        }

-- where only the same candidate is tied, it is an order
pub no_ties : {X : Type 0} {Tied : X → X → Type 0} {lt : X → X → Bool} → OrderBut Tied lt → ((x y : X) → Tied x y → x ≡ y) → Order lt
no_ties o same = record { one_way = o.one_way; chain = o.chain; apart = λ x y h k. same x y (o.apart x y h k) }
