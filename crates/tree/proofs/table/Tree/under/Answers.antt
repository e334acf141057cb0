use Rattle.std.proofs.Common.{◌≡◌, ℕ, ◌+◌, ◌-◌, ◌<◌, length, sym, ap, ◌∙◌, arith}
use Rattle.tree_laws.specs.declared.Row.{Row}
use Rattle.tree_laws.specs.Trees.{under_in}
use Rattle.tree_laws.proofs.Steps.{under_turn}
use Rattle.tree.proofs.Climbing.{under_driver}
use Rattle.tree.proofs.table.Tree.under.Goals as goal

pub returns-then-at-eq0 : goal.returns-then-at-eq0
returns-then-at-eq0 c =
    let t = c.args.self.now in
    let m = length t.rows - c.loop.counter in
    let z : c.loop.at ≡ 0 = omega (arith, c.if-at-eq0.true) in
    let off : 0 ≡ c.args.v → ⊥ = λ e. c.if-at-v.false (z ∙ e) in
    sym (under_driver t.tree m c.args.v off) ∙ sym (ap (λ k. under_in t.rows m k c.args.v) z) ∙ c.loop.invariant

pub loop-preserved : goal.loop-preserved
loop-preserved c =
    let t = c.args.self.now in
    let n = length t.rows in
    let i = c.loop.counter in
    let at = c.loop.at in
    let h : i < n = omega arith in
    ap (λ (r : Row). under_in t.rows (n - (i + 1)) r.parent c.args.v) c.at-at.ensures.row ∙ sym (under_turn t.rows n i at c.args.v h c.if-at-v.false) ∙ c.loop.invariant
