use Rattle.std.proofs.Common.{◌≡◌, ℕ, ◌+◌, ◌<◌, List, [], ◌∷◌, ◌++◌, length, get_or, map, take, set, Result, sym, refl, ap, ◌∙◌, subst, arith, length-take, get_or-take}
use Rattle.std.proofs.lemmas.List.{map_more, take_more_set}
use Rattle.net_laws.specs.Answers.{JoinAnswers}
use Rattle.net_laws.specs.declared.call.JoinCall.{JoinCall}
use Rattle.net_laws.specs.declared.fault.Fault.{Fault}
use Rattle.guarantee.specs.CallsMade.{CallsMade}
use Rattle.guarantee.proofs.Making.{kept_more, kept_none, rest_more, tied_run}
use Rattle.guarantee.proofs.running.run.Goals as goal

pub loop-i-init : goal.loop-i-init
loop-i-init g c =
    let s = c.args.net.now.space in
    (kept_none (g.C.NetCall.geometry s) (g.met.C.NetCall.keeps s) c.args.net.now.state, λ k d h. refl, refl)

pub loop-i-preserved : goal.loop-i-preserved
loop-i-preserved g c =
    let s = c.args.net.now.space in
    let W = g.C.NetCall.geometry in
    let among : g.row.C.Denot → JoinCall = g.C.NetCall.among in
    let i = c.loop-i.i in
    let calls = c.args.calls.now in
    let xs = c.loop-i.answers in
    let n₀ = c.args.net.now.state in
    let n = c.loop-i.net.state in
    let m = c.make.new.net.state in
    let r = c.make.result in
    let call = c.call-item.result in
    let long = length-take c.min-count.result calls in
    let h : i < length calls = omega (arith, c.min-count.ensures, c.loop-i-test.true, long) in
    let k : i < length xs = omega (arith, c.min-count.ensures, c.loop-i.auto.answers, c.loop-i-test.true, long) in
    let here : get_or calls i call ≡ call = sym (c.call-item.is ∙ get_or-take c.min-count.result calls i call (omega (arith, c.loop-i-test.true, long))) in
    let P : g.row.S.Denot → Type 0 = λ x. JoinAnswers (W x) n m (among call) r in
    let Q : List JoinCall → Type 0 = λ cs. CallsMade (W s) n₀ cs (take (i + 1) (set xs i r)) m in
    let R : List (Result ℕ Fault) → Type 0 = λ ys. CallsMade (W s) n₀ (map among (take i calls) ++ among call ∷ []) ys m in
    let a = subst P c.loop-i.invariant.2 c.make.ensures.answer in
    let more = map_more among calls i call h ∙ ap (λ x. map among (take i calls) ++ among x ∷ []) here in (
      subst Q (sym more) (subst R (sym (take_more_set xs i r k)) (kept_more (W s) (g.met.C.NetCall.keeps s) n₀ (map among (take i calls)) (take i xs) n m (among call) r c.loop-i.invariant.0 a)),
      rest_more c.args.answers.now xs i r c.loop-i.invariant.1,
      c.make.ensures.stays ∙ c.loop-i.invariant.2,
    )

pub returns-clause-tied : goal.returns-clause-tied
returns-clause-tied g c =
    let s = c.args.net.now.space in
    λ t. tied_run (g.C.NetCall.geometry s) (g.met.C.NetCall.keeps s) c.args.net.now.state t c.loop-i.invariant.0.runs
