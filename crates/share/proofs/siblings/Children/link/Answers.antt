use Rattle.std.proofs.Common.{◌≡◌, ℕ, ◌<◌, length, ap, ◌∙◌, arith, rules}
use Rattle.std.proofs.lemmas.List.{get_or_default}
use Rattle.tree_laws.specs.declared.Row.{Row}
use Rattle.tree_laws.specs.Trees.{up}
use Rattle.share.proofs.Linking.{linked_more, linked_start}
use Rattle.share.proofs.siblings.Children.link.Goals as goal

pub loop-c-init : goal.loop-c-init
loop-c-init c =
    linked_start c.args.table.now.rows _ _ (search (rules, c.push_reserved.ensures.items, c.clear.ensures.items)) (c.zeros.ensures.count ∙ c.len.ensures) c.zeros.ensures.zeros

pub loop-c-preserved : goal.loop-c-preserved
loop-c-preserved c =
    let t = c.args.table.now in
    let k = c.loop-c.c in
    let parent : c.at-parent.result.parent ≡ up t.rows k = ap (λ (r : Row). r.parent) c.at-parent.ensures.row in
    let within : k < length t.rows = omega (arith, c.loop-c-test.true, c.len-c-end.ensures) in
    let l = c.loop-c.invariant in
    let p = c.at-parent.result.parent in
    let held : p < length t.rows = omega (arith, parent, t.tree.parents k within) in
    let is = c.index.ensures ∙ get_or_default c.loop-c.self.last.items p c.index.result.now 0 (omega (arith, held, l.room)) in
    rw c.push_reserved-in-loop-c.ensures.items (linked_more l p c.index.result.now (omega arith) parent held is)

pub returns : goal.returns
returns c =
    let n : c.loop-c.c ≡ length c.args.table.now.rows = omega (arith, c.loop-c-test.false, c.len-c-end.ensures, c.args.table.now.tree.some) in
    let l = c.loop-c.invariant in
    record {
      count = l.count ∙ n;
      driver = l.driver;
      before = λ k h m. l.before k h (omega (arith, m, n));
    }
