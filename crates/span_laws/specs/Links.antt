-- The order on links: the shorter first, then the lower u, then the lower v. Assumes nothing.
use Rattle.std.specs.Prelude.{Bool, nat_lt}
use Rattle.span_laws.specs.declared.link.Link.{Link}
use Rattle.order.specs.Orders.{then_by}

abbrev pub link_before : (a b : Link) → Bool
link_before a b = then_by a.length b.length (then_by a.u b.u (nat_lt a.v b.v))
