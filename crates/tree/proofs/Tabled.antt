-- The rows of a tree all come up to the driver, and its wire is a number of the machine. Assumes nothing.
use Rattle.std.proofs.Common.{◌≡◌, ℕ, zero, suc, ◌+◌, ◌<◌, ◌≤◌, ◌^◌, List, get_or, slice_index_or, ◌∙◌, subst, ⊎_elim, arith}
use Rattle.std.specs.Array.{IsFromFnResultFrom}
use Rattle.std.specs.Fn.{Called, Mut}
use Rattle.std.proofs.lemmas.Bool.{cases_lt}
use Rattle.std.proofs.lemmas.List.{get_or_default}
use Rattle.std.proofs.lemmas.List.Sums.{sum_by-le}
use Rattle.tree_laws.specs.declared.Row.{Row}
use Rattle.tree_laws.specs.Trees.{RowTree, blank, row_of, wire_of}
use Rattle.tree.specs.declared.table.Tree.{Tree}

pub tree_of : (t : Tree) → RowTree t.rows
tree_of t = t.tree

pub wire_fits : (t : Tree) → wire_of t.rows < 2 ^ 64
wire_fits t =
    let short = sum_by-le (λ (r : Row). r.length) 100000000 t.rows (λ k d h. let e : get_or t.rows k d ≡ row_of t.rows k = get_or_default t.rows k d blank h in rw e (t.lengths k)) in
    omega (arith, short, t.few)
