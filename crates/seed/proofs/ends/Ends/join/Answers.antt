use Rattle.std.proofs.Common.{refl}
use Rattle.seed.proofs.Listing.{listed_more}
use Rattle.seed.proofs.ends.Ends.join.Goals as goal

pub returns-clause-listed : goal.returns-clause-listed
returns-clause-listed c E h =
    let d = c.args.edge in
    listed_more E d c.args.self.now.sorted.items c.add.new.self.sorted.items c.add-2.new.self.sorted.items _ _ (refl, refl, refl) (refl, refl, refl) h c.add.ensures.added c.add-2.ensures.added
