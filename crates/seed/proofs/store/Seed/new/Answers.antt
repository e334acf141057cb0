use Rattle.std.proofs.Common.{rules}
use Rattle.seed.proofs.Listing.{listed_none}
use Rattle.seed.proofs.store.Seed.new.Goals as goal

pub invariant_of-result : goal.invariant_of-result
invariant_of-result c = (search rules, (search rules, (search rules, (search rules, (search rules, (search rules, (listed_none _ _ c.in_ok-edges.ensures.items c.in_ok-ends.ensures, tt)))))))
