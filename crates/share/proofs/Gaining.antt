-- The best share move on measured rows keeps all paths, shortens the wire by what it saves, and leaves the rows measured. Assumes nothing.
use Rattle.std.proofs.Common.{◌≡◌, ℕ, ◌<◌, ◌≤◌, List, length, Some, sym, ap, ◌∙◌, subst, arith}
use Rattle.order.specs.Bests.{BestOf}
use Rattle.space.specs.Laws.{Meets, Metric}
use Rattle.space.specs.declared.TheConstants.{LONGEST}
use Rattle.space.specs.declared.Space.{Ghosts}
use Rattle.space.specs.declared.Joining.{Ghosts as JoinGhosts}
use Rattle.tree_laws.specs.declared.Row.{Row}
use Rattle.tree_laws.specs.declared.share.Share.{Share}
use Rattle.tree_laws.specs.Distances.{Measured}
use Rattle.space.specs.Totals.{meet_or_start, capped_distance}
use Rattle.tree_laws.specs.Shares.{ShareMove, share_before, shared_by}
use Rattle.tree_laws.specs.Trees.{RowTree, path_length, wire_of}
use Rattle.tree_laws.proofs.ShareMoves.{best_measured, measured_again, paths_stay, shared_is, wire_falls}
use Rattle.share.specs.Shares.{ShareKeeps}

module _ {X : Type 0} (G : Ghosts X) (J : JoinGhosts X) (s : X) (rows : List Row) (metric : G.width s ≤ LONGEST → Metric (G.admitted s) (G.width s) (G.between s)) (meets : G.width s ≤ LONGEST → Meets (G.admitted s) (G.between s) (J.meeting s)) (p : Measured G s rows) where
  pub gained_measured : (t : RowTree rows) (m : Share) (after : List Row) → BestOf share_before (ShareMove rows (capped_distance G s) (meet_or_start G J s)) (Some m) → after ≡ shared_by rows (capped_distance G s) (meet_or_start G J s) m → ShareKeeps G J s rows m after
  gained_measured t m after b e =
      let best = best_measured G J s rows metric meets p (Some m) b in
      let q = best.0 in
      let f : after ≡ shared_by rows (G.between s) (J.meeting s) m = e ∙ shared_is G J s rows metric meets p m q.row q.first.row q.second.row in
      let P : List Row → Type 0 = λ xs. (k : ℕ) → k < length rows → path_length xs k ≡ path_length rows k in
      let Q : List Row → Type 0 = λ xs. Measured G s xs in
      record {
        best = best;
        shared = f;
        wire = omega (arith, ap wire_of f, wire_falls G J s rows metric meets p t m q, q.saves);
        paths = subst P (sym f) (paths_stay G J s rows metric meets p t m q);
        measured = subst Q (sym f) (measured_again G J s rows metric meets p t m q);
      }
