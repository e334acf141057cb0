-- The order on sinks with their figures. Assumes nothing.
use Rattle.std.specs.Prelude.{◌≡◌, ℕ, Bool, nat_lt}
use Rattle.std.proofs.Common.{ap, ◌∙◌}
use Rattle.order.specs.Orders.{Order, then_by}
use Rattle.order.specs.Lexical.{by_lower, greater_then, no_ties}
use Rattle.net_laws.specs.declared.reading.Worst.{Worst}

-- The greater figure first, then the lower pin.
abbrev pub worst_before : (x y : Worst) → Bool
worst_before x y = then_by y.figure x.figure (nat_lt x.pin y.pin)

abbrev figured : ℕ → ℕ → Worst
figured f k = record { pin = k; figure = f }

pub same_worst : (x y : Worst) → x.figure ≡ y.figure → x.pin ≡ y.pin → x ≡ y
same_worst x y p q = ap (λ n. figured n x.pin) p ∙ ap (λ n. figured y.figure n) q

pub worst_order : Order worst_before
worst_order =
    no_ties (greater_then (λ (m : Worst). m.figure) (by_lower (λ (m : Worst). m.pin)))
    (λ x y t. same_worst x y t.0 t.1)
