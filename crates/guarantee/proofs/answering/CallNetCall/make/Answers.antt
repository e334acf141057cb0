use Rattle.std.proofs.Common.{sym, subst}
use Rattle.net_laws.specs.Answers.{Answers}
use Rattle.net_laws.specs.Spaces.{wiring}
use Rattle.net_laws.specs.declared.call.Call.{Call}
use Rattle.guarantee.proofs.answering.CallNetCall.make.Goals as goal

pub returns-in-Edge-clause-answer : goal.returns-in-Edge-clause-answer
returns-in-Edge-clause-answer g c =
    let P : Call → Type 0 = λ x. Answers (wiring g.S.Space c.args.net.now.space) c.args.net.now.state c.edge.new.self.state x c.edge.result in
    subst P (sym c.in-Edge.is) c.edge.ensures.answer
