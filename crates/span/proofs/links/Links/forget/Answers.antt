use Rattle.std.proofs.Common.{◌≡◌, true, false, List, length, rules, sym, ap, ◌∙◌, subst, arith}
use Rattle.std.specs.Bool.{nat_lt}
use Rattle.std.specs.List.Sorted.{IsNonDecreasingBy, IsPartitionPoint}
use Rattle.std.proofs.lemmas.List.Sorted.{IsPartitionPoint-from_clause, IsPartitionedBy-ltb}
use Rattle.span_laws.specs.declared.link.Link.{Link}
use Rattle.span.proofs.Outside.{found, left_out, non_decreasing}
use Rattle.span.proofs.links.Links.forget.Goals as goal

pub remove-requires : goal.remove-requires
remove-requires c =
    let s = c.args.self.now in
    let x = c.args.link in
    let xs = c.as_slice.result.now in
    let P : List Link → Type 0 = λ L. IsPartitionPoint (λ y. nat_lt y.v x.v ≡ true) (λ y. nat_lt y.v x.v ≡ false) L c.partition_point-at.result in
    let point : P s.outside.items =
    subst P c.as_slice.ensures.value
    (IsPartitionPoint-from_clause (λ y. nat_lt y.v x.v) xs c.partition_point-at.result c.partition_point-at.ensures.partitioned
    (IsPartitionedBy-ltb (λ y. y.v) xs x.v (subst (IsNonDecreasingBy (λ (y : Link). y.v)) (sym c.as_slice.ensures.value) (non_decreasing s.outside.items s.rises)))
    (λ a r q k. search rules))
    in
    let within = (found s.outside.items x c.partition_point-at.result s.rises c.requires point).0 in
    omega (arith, within, ap length c.as_slice.ensures.value, c.as_slice.ensures.len)

pub returns : goal.returns
returns c =
    let s = c.args.self.now in
    let x = c.args.link in
    let xs = c.as_slice.result.now in
    let P : List Link → Type 0 = λ L. IsPartitionPoint (λ y. nat_lt y.v x.v ≡ true) (λ y. nat_lt y.v x.v ≡ false) L c.partition_point-at.result in
    let point : P s.outside.items =
    subst P c.as_slice.ensures.value
    (IsPartitionPoint-from_clause (λ y. nat_lt y.v x.v) xs c.partition_point-at.result c.partition_point-at.ensures.partitioned
    (IsPartitionedBy-ltb (λ y. y.v) xs x.v (subst (IsNonDecreasingBy (λ (y : Link). y.v)) (sym c.as_slice.ensures.value) (non_decreasing s.outside.items s.rises)))
    (λ a r q k. search rules))
    in
    let r = found s.outside.items x c.partition_point-at.result s.rises c.requires point in
    c.remove.ensures.items ∙ left_out x.v s.outside.items c.partition_point-at.result x s.rises r.0 r.1
