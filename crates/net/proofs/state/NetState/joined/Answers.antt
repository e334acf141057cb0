use Rattle.std.proofs.Common.{ℕ, List, ap, subst, sym}
use Rattle.joined.specs.Joinings.{Joinable}
use Rattle.net_laws.specs.States.{State}
use Rattle.net.proofs.States.{joined_told}
use Rattle.net.proofs.state.NetState.joined.Goals as goal

pub join-requires : goal.join-requires
join-requires g c =
    let t = c.in_ok-straight.ensures.built.2 in
    let P : List ℕ → Type 0 = λ xs. Joinable t.rows xs in
    record { rows = t.rows; stands = ap (λ (x : State). x.tree) t.stands; joinable = subst P (sym c.broken.ensures) t.joinable }

pub returns-clause-answer : goal.returns-clause-answer
returns-clause-answer g c =
    let t = c.in_ok-straight.ensures.built in
    joined_told g.S.Space g.S.Joining c.args.space.now c.args.self.now c.straight.new.self c.join.new.self t.0 _ c.broken.result.now _ c.join.result t.1 t.2 c.broken.ensures c.join.ensures
