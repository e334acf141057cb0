use Rattle.std.proofs.Common.{◌≡◌, rules, sym, subst}
use Rattle.std.specs.List.{insert}
use Rattle.seed.specs.Ended.{OneEndMore}
use Rattle.seed.proofs.Listing.{one_end_more}
use Rattle.seed.proofs.ends.Ends.add.Goals as goal

pub returns-clause-added : goal.returns-clause-added
returns-clause-added c =
    let L = c.args.self.now.sorted.items in
    let x = c.args.end in
    let e : c.insert.new.self.items ≡ insert L c.begin-at.result x = search rules in
    subst (OneEndMore L x) (sym e) (one_end_more L c.begin-at.result x)
