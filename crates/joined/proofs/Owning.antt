-- Joining measured rows is joining by the space's own distances and meets. Assumes nothing.
use Rattle.std.proofs.Common.{ℕ, ◌≤◌, List}
use Rattle.space.specs.Laws.{Meets, Metric}
use Rattle.space.specs.declared.TheConstants.{LONGEST}
use Rattle.space.specs.declared.Space.{Ghosts}
use Rattle.space.specs.declared.Joining.{Ghosts as JoinGhosts}
use Rattle.tree_laws.specs.declared.Row.{Row}
use Rattle.tree_laws.specs.Distances.{Measured}
use Rattle.space.specs.Totals.{meet_or_start, capped_distance}
use Rattle.tree_laws.specs.Trees.{RowTree}
use Rattle.build_laws.specs.Joining.{Joins}
use Rattle.build_laws.proofs.Joined.{joining_keeps_lem}
use Rattle.build_laws.proofs.Owning.{own_grouped, own_joins}
use Rattle.joined.specs.Joinings.{Joinable, Own}

module _ {X : Type 0} (G : Ghosts X) (J : JoinGhosts X) (s : X) (metric : G.width s ≤ LONGEST → Metric (G.admitted s) (G.width s) (G.between s)) (meets : G.width s ≤ LONGEST → Meets (G.admitted s) (G.between s) (J.meeting s)) where
  pub owned : (rows after : List Row) (group : List ℕ) → RowTree rows → Joinable rows group → Joins (capped_distance G s) (meet_or_start G J s) rows group after → Measured G s rows → Own G J s rows group after
  owned rows after group t h k p =
      let r = own_joins G J s metric meets t p h.hung k in
      record {
        joins = r.0;
        kept = joining_keeps_lem (G.between s) (J.meeting s) (G.admitted s) (meets p.narrow) rows after group t (own_grouped G J s metric meets rows t p group h.hung) r.0;
        measured = r.1;
      }
