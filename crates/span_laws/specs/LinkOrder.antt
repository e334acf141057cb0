-- The order on links is one without ties.
use Rattle.std.specs.Prelude.{◌≡◌, ℕ}
use Rattle.std.proofs.Common.{ap, ◌∙◌}
use Rattle.order.specs.Orders.{Order}
use Rattle.order.specs.Lexical.{by_lower, lower_then, no_ties}
use Rattle.span_laws.specs.declared.link.Link.{Link}
use Rattle.span_laws.specs.Links.{link_before}

abbrev linked : ℕ → ℕ → ℕ → Link
linked l u v = record { length = l; u = u; v = v }

same_link : (a b : Link) → a.length ≡ b.length → a.u ≡ b.u → a.v ≡ b.v → a ≡ b
same_link a b p q r =
    ap (λ x. linked x a.u a.v) p ∙ ap (λ x. linked b.length x a.v) q ∙ ap (λ x. linked b.length b.u x) r

pub link_order : Order link_before
link_order =
    no_ties (lower_then (λ (l : Link). l.length) (lower_then (λ (l : Link). l.u) (by_lower (λ (l : Link). l.v))))
    (λ a b t. same_link a b t.0 t.1.0 t.1.1)
