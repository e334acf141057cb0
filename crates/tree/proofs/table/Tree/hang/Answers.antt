use Rattle.std.proofs.Common.{◌≡◌, ℕ, ◌≤◌, List, length, vec_items, set, sym, ap, subst, arith}
use Rattle.std.proofs.lemmas.List.{get_or_read_under}
use Rattle.tree_laws.specs.declared.Row.{Row}
use Rattle.tree_laws.specs.Trees.{RowTree, MayHang, blank, hang, row_length, row_of}
use Rattle.tree_laws.proofs.Hanging.{hang_length, hang_lengths, hang_tree}
use Rattle.tree.specs.TreeValue.{TreeValue}
use Rattle.tree.proofs.table.Tree.hang.Goals as goal

pub invariant_of-self-inside : goal.invariant_of-self-inside
invariant_of-self-inside c =
    let t = c.self.inside in
    let v = c.args.v in
    let u = c.args.u in
    let l = c.args.length in
    let rows = vec_items t.rows in
    let row = c.index_mut-row.result.now in
    let g : MayHang rows v u = subst (λ (x : TreeValue). MayHang x.rows v u) (sym c.self.view_is) c.in_ok-can_hang.ensures.0 in
    let h = g.row in
    let read : row ≡ row_of rows v = get_or_read_under rows v t.rows.len row blank c.index_mut-row.ensures.value (omega arith) t.rows.ok.0 in
    let after : List Row = set rows v (record { parent = u; spot = row.spot; length = l }) in
    let e : after ≡ hang rows v u l = ap (λ (r : Row). set rows v (record { parent = u; spot = r.spot; length = l })) read in
    let P : List Row → Type 0 = λ xs. (k : ℕ) → row_length xs k ≤ 100000000 in
    let short = subst P (sym e) (hang_lengths rows v u l 100000000 h c.in_ok-can_hang.ensures.1 t.lengths) in
    (t.room, (omega (arith, ap length e, hang_length rows v u l, t.few), (short, (subst RowTree (sym e) (hang_tree t.tree l g), tt))))
