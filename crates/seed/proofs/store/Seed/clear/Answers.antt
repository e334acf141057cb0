use Rattle.std.proofs.Common.{rules}
use Rattle.seed.proofs.Listing.{listed_none}
use Rattle.seed.proofs.store.Seed.clear.Goals as goal

pub invariant_of-self-inside : goal.invariant_of-self-inside
invariant_of-self-inside c = (search rules, (search rules, (search rules, (search rules, (search rules, (search rules, (listed_none _ _ c.clear.ensures.items c.clear-2.ensures, tt)))))))
