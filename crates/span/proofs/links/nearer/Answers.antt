use Rattle.std.proofs.Common.{◌∙◌}
use Rattle.span.proofs.Firsts.{first_of_two}
use Rattle.span.proofs.links.nearer.Goals as goal

pub returns : goal.returns
returns c = c.unwrap_or.ensures ∙ first_of_two c.args.old c.args.new c.first.result c.first.ensures.first
