use Rattle.std.proofs.Common.{◌≡◌, true, false, List, rules, sym, subst}
use Rattle.std.specs.Bool.{nat_lt}
use Rattle.std.specs.List.Sorted.{IsNonDecreasingBy, IsPartitionPoint}
use Rattle.std.proofs.lemmas.List.Sorted.{IsPartitionPoint-from_clause, IsPartitionedBy-ltb}
use Rattle.seed.specs.Ended.{place_of}
use Rattle.seed.specs.declared.end.End.{End}
use Rattle.seed.proofs.ends.Ends.begin.Goals as goal

pub returns-clause-parts : goal.returns-clause-parts
returns-clause-parts c =
    let t = c.args.place in
    let xs = c.as_slice.result.now in
    let P : List End → Type 0 = λ L. IsPartitionPoint (λ e. nat_lt (place_of e) t ≡ true) (λ e. nat_lt (place_of e) t ≡ false) L c.partition_point.result in
    subst P c.as_slice.ensures.value
    (IsPartitionPoint-from_clause (λ e. nat_lt (place_of e) t) xs c.partition_point.result c.partition_point.ensures.partitioned
    (IsPartitionedBy-ltb place_of xs t (subst (IsNonDecreasingBy place_of) (sym c.as_slice.ensures.value) c.args.self.now.rises))
    (λ a r q k. search rules))
