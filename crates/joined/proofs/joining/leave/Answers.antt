use Rattle.std.proofs.Common.{rules}
use Rattle.std.proofs.lemmas.Fn.{filter_same}
use Rattle.build_laws.specs.Joining.{others}
use Rattle.joined.proofs.joining.leave.Goals as goal

pub returns-clause-items : goal.returns-clause-items
returns-clause-items c = filter_same _ (others c.args.a c.args.b) _ (λ x r f' k. search rules) _ _ c.retain.ensures.filtered
