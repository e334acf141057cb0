-- Two members of a group and how far from the driver their meet is: which pair is joined first. Assumes nothing.
use Rattle.std.specs.Prelude.{◌≡◌, ℕ, Bool, nat_lt}
use Rattle.std.proofs.Common.{ap, ◌∙◌}
use Rattle.order.specs.Orders.{Order, then_by}
use Rattle.order.specs.Lexical.{by_lower, greater_then, lower_then, no_ties}
use Rattle.build_laws.specs.declared.pair.Pair.{Pair}

-- The farther first, then the lower a, then the lower b.
abbrev pub pair_before : (x y : Pair) → Bool
pair_before x y = then_by y.far x.far (then_by x.a y.a (nat_lt x.b y.b))

abbrev paired : ℕ → ℕ → ℕ → Pair
paired f a b = record { far = f; a = a; b = b }

pub same_pair : (x y : Pair) → x.far ≡ y.far → x.a ≡ y.a → x.b ≡ y.b → x ≡ y
same_pair x y p q r =
    ap (λ n. paired n x.a x.b) p ∙ ap (λ n. paired y.far n x.b) q ∙ ap (λ n. paired y.far y.a n) r

-- The order of pairs is total, so one alone is the first.
pub pair_order : Order pair_before
pair_order =
    no_ties (greater_then (λ (p : Pair). p.far) (lower_then (λ (p : Pair). p.a) (by_lower (λ (p : Pair). p.b))))
    (λ x y t. same_pair x y t.0 t.1.0 t.1.1)
