use Rattle.std.proofs.Common.{nat_lt, rules}
use Rattle.std.proofs.lemmas.Fn.{always_returns_same}
use Rattle.joined.proofs.Rising.{rising_decided}
use Rattle.joined.proofs.joining.rises.Goals as goal

pub returns : goal.returns
returns c = rising_decided c.args.members.now c.is_sorted_by.result (c.is_sorted_by.ensures.cases nat_lt (always_returns_same _ _ _ (λ a r f k. search rules)))
