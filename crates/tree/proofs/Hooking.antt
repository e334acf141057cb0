-- What the best hook move does to the tree. Assumes nothing.
use Rattle.std.proofs.Common.{◌≡◌, ℕ, ◌<◌, ◌≤◌, List, length, Some, Ok, Err, Result, sym, refl, ap, subst, arith}
use Rattle.tree_laws.specs.declared.Row.{Row}
use Rattle.tree_laws.specs.Trees.{RowTree, MayHang, hang, path_length, wire_of}
use Rattle.tree_laws.proofs.Ways.{hung}
use Rattle.tree_laws.proofs.Hanging.{hang_never_grows, hang_tree, hang_wire}
use Rattle.tree_laws.specs.declared.hook.Hook.{Hook}
use Rattle.tree.specs.declared.table.HangFault.{HangFault}
use Rattle.tree.specs.declared.table.Tree.{Tree}
use Rattle.order.specs.Bests.{BestOf}
use Rattle.tree_laws.specs.Hooks.{HookMove, hook_before}
use Rattle.tree.specs.Hooks.{HookMade}
use Rattle.tree.specs.Tables.{Changed}

-- what can be hung is hung
pub changed_hangs : (s : Tree) (v u l : ℕ) (r : Result (Unit {0}) HangFault) (t : Tree) → Changed s v u l r t → MayHang s.rows v u → l ≤ 100000000 → t.rows ≡ hang s.rows v u l
changed_hangs s v u l (Ok x) t c g h = c.2
changed_hangs s v u l (Err e) t c g h = absurd (c.0 g h)

pub saved : (rows : List Row) (d : ℕ → ℕ → ℕ) (m : Hook) (l : ℕ) (after : List Row) → RowTree rows → BestOf hook_before (HookMove rows d) (Some m) → l ≡ d m.u m.v → after ≡ hang rows m.v m.u l → HookMade rows d m.saving after
saved rows d m l after t b e a =
    let q = b.0 in
    let P : ℕ → Type 0 = λ x. after ≡ hang rows m.v m.u x in
    let K : List Row → Type 0 = λ xs. (k : ℕ) → k < length rows → path_length xs k ≤ path_length rows k in
    record {
      move = m;
      best = b;
      saving = refl;
      hung = subst P e a;
      wire = omega (arith, ap wire_of a, hang_wire rows m.v m.u l q.hangs.row, q.saves, e);
      paths = subst K (sym a) (hang_never_grows t l q.hangs (omega (arith, q.path, e)));
      tree = hung (subst RowTree (sym a) (hang_tree t l q.hangs));
    }
