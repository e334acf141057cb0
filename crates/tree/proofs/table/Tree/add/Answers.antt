use Rattle.std.proofs.Common.{◌≡◌, ℕ, ◌<◌, ◌≤◌, List, length, vec_items, sym, ap, subst, arith}
use Rattle.tree_laws.specs.declared.Row.{Row}
use Rattle.tree_laws.specs.Trees.{RowTree, add, row_length}
use Rattle.tree_laws.proofs.Adding.{add_length, add_lengths, add_tree}
use Rattle.tree.specs.TreeValue.{TreeValue}
use Rattle.tree.proofs.table.Tree.add.Goals as goal

pub invariant_of-self-inside : goal.invariant_of-self-inside
invariant_of-self-inside c =
    let t = c.self.inside in
    let u = c.args.u in
    let z = c.args.spot in
    let l = c.args.length in
    let rows = vec_items t.rows in
    let after = vec_items c.push_reserved.new.self in
    let e : after ≡ add rows u z l = c.push_reserved.ensures.items in
    let same : length rows ≡ length c.args.self.now.rows = ap (λ (x : TreeValue). length x.rows) c.self.view_is in
    let h : u < length rows = omega (arith, same, c.len-k.ensures) in
    let P : List Row → Type 0 = λ xs. (k : ℕ) → row_length xs k ≤ 100000000 in
    let n : length after ≤ 768 = omega (arith, ap length e, add_length rows u z l, same, c.len-k.ensures) in
    let short = subst P (sym e) (add_lengths rows u z l 100000000 (omega arith) t.lengths) in
    (omega (arith, c.push_reserved.ensures.capacity, t.room), (n, (short, (subst RowTree (sym e) (add_tree rows u z l t.tree h), tt))))
