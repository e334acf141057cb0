use Rattle.std.proofs.Common.{sym, subst}
use Rattle.net_laws.specs.States.{State}
use Rattle.net_laws.specs.Spaces.{TiedToSpace, wiring}
use Rattle.net_laws.proofs.Keeping.{fresh_tied}
use Rattle.net_laws.proofs.Owned.{wiring_keeps}
use Rattle.net.proofs.net.Net.new.Goals as goal

pub invariant_of-result : goal.invariant_of-result
invariant_of-result g c =
    let G = g.S.Space in
    let s = c.args.space in
    let P : State → Type 0 = λ n. TiedToSpace G s n in
    subst P (sym c.in_ok-state.ensures) (fresh_tied (wiring G s) (wiring_keeps G s (g.met.S.Space.metric s)))

pub returns-clause-tied : goal.returns-clause-tied
returns-clause-tied g c =
    let G = g.S.Space in
    let s = c.args.space in
    let P : State → Type 0 = λ n. TiedToSpace G s n in
    subst P (sym c.in_ok-state.ensures) (fresh_tied (wiring G s) (wiring_keeps G s (g.met.S.Space.metric s)))
