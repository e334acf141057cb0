use Rattle.std.proofs.Common.{rules, ◌≡◌, ◌<◌, ◌^◌, List, sum_by, sym, refl, ◌∙◌, arith}
use Rattle.std.proofs.lemmas.List.Recursion.{is_sum_by}
use Rattle.forest.specs.declared.Edge.{Edge}
use Rattle.forest.specs.Edges.{wire}
use Rattle.forest.proofs.Accepted.{accepted, wire_bound}
use Rattle.seed.proofs.store.Seed.wire.Goals as goal

wire_sum : (E : List Edge) → wire E ≡ sum_by (λ e. e.length) E
wire_sum E = is_sum_by wire (λ e. e.length) refl (λ _ _. refl) E

pub sum-requires-clause-fits : goal.sum-requires-clause-fits
sum-requires-clause-fits c =
    let s = c.args.self.now in
    let E = s.edges in
    let fits : sum_by (λ (e : Edge). e.length) E < 2 ^ 64 = omega (arith, wire_sum E, wire_bound (accepted (s.nodes) E s.sound), s.fewer, s.few) in
    search rules

pub returns : goal.returns
returns c =
    let E = c.args.self.now.edges in
    let total : c.sum.result ≡ sum_by (λ (e : Edge). e.length) E = search rules in
    total ∙ sym (wire_sum E)
