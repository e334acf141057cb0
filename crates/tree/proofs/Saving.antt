-- The best hook move by the distances that are cut is the best by the space's own, and leaves the rows measured. Assumes nothing.
use Rattle.std.proofs.Common.{◌≡◌, ℕ, ◌≤◌, List, Some, sym, ap, ◌∙◌, subst}
use Rattle.space.specs.Laws.{Metric}
use Rattle.space.specs.declared.TheConstants.{LONGEST}
use Rattle.space.specs.declared.Space.{Ghosts}
use Rattle.tree_laws.specs.declared.Row.{Row}
use Rattle.tree_laws.specs.Distances.{Measured, Settled, capped_row_distance, row_distance}
use Rattle.tree_laws.specs.Trees.{RowTree, hang}
use Rattle.tree_laws.proofs.HookMoves.{best_own, hang_measured, hang_settled, measured, settled}
use Rattle.tree.specs.Hooks.{HookMade}

module _ {X : Type 0} (G : Ghosts X) (s : X) (rows : List Row) (law : G.width s ≤ LONGEST → Metric (G.admitted s) (G.width s) (G.between s)) where
  -- the row of a move is as far from its new parent as the space says
  far_is : Settled G s rows → (w : ℕ) (after : List Row) → (x : HookMade rows (capped_row_distance G s rows) w after) → after ≡ hang rows x.move.v x.move.u (row_distance G s rows x.move.u x.move.v)
  far_is p w after x =
      let m = x.move in
      let q = x.best.0.hangs in
      x.hung ∙ ap (hang rows m.v m.u) (measured G s rows law p m.u m.v q.parent q.row)

  pub saved_measured : (w : ℕ) (after : List Row) → HookMade rows (capped_row_distance G s rows) w after → Settled G s rows → HookMade rows (row_distance G s rows) w after × Settled G s after
  saved_measured w after x p =
      let m = x.move in
      let Q : List Row → Type 0 = λ xs. Settled G s xs in (
        record {
          move = m;
          best = best_own G s rows law p (Some m) x.best;
          saving = x.saving;
          hung = far_is p w after x;
          wire = x.wire;
          paths = x.paths;
          tree = x.tree;
        },
        subst Q (sym x.hung) (hang_settled G s rows law m.v m.u (capped_row_distance G s rows m.u m.v) x.best.0.hangs.row p),
      )

  pub saved_again : RowTree rows → (w : ℕ) (after : List Row) → HookMade rows (capped_row_distance G s rows) w after → Measured G s rows → Measured G s after
  saved_again t w after x p =
      let q = x.best.0.hangs in
      let Q : List Row → Type 0 = λ xs. Measured G s xs in
      subst Q (sym (far_is (settled G s rows law p) w after x)) (hang_measured G s rows law t x.move.v x.move.u q.row q.parent p)
