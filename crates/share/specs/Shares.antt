-- What a call for the best share move answers, and what it does to the tree. Assumes nothing.
use Rattle.std.specs.Prelude.{◌≡◌, ℕ, ◌+◌, ◌<◌, List, length, Some, None, Ok, Err, Result}
use Rattle.order.specs.Bests.{BestOf}
use Rattle.space.specs.declared.Space.{Ghosts}
use Rattle.space.specs.declared.Joining.{Ghosts as JoinGhosts}
use Rattle.tree_laws.specs.declared.Row.{Row}
use Rattle.tree_laws.specs.declared.share.Share.{Share}
use Rattle.tree_laws.specs.Distances.{Measured}
use Rattle.space.specs.Totals.{meet_or_start, capped_distance}
use Rattle.tree_laws.specs.Shares.{ShareMove, share_before, shared_by}
use Rattle.tree_laws.specs.Trees.{OnePath, path_length, wire_of}
use Rattle.tree.specs.declared.table.Tree.{Tree}
use Rattle.tree.specs.declared.table.TheConstants.{ROWS}
use Rattle.share.specs.declared.sharing.ShareFault.{ShareFault}
use Rattle.share.specs.declared.sharing.ShareFault.TheVariants.{Nothing, Full}

-- ---- the answer

-- What a move does to measured rows: it is the best by the space's own distances and meets, the wire falls by what it saves, no path changes,
-- and the rows are measured again.
pub record ShareKeeps {X : Type 0} (G : Ghosts X) (J : JoinGhosts X) (s : X) (rows : List Row) (m : Share) (after : List Row) : Type 0 where
  pub best : BestOf share_before (ShareMove rows (G.between s) (J.meeting s)) (Some m)
  pub shared : after ≡ shared_by rows (G.between s) (J.meeting s) m
  pub wire : wire_of after + m.saving ≡ wire_of rows
  pub paths : (k : ℕ) → k < length rows → path_length after k ≡ path_length rows k
  pub measured : Measured G s after

-- The best move was made and saves w.
pub record ShareMade {X : Type 0} (G : Ghosts X) (J : JoinGhosts X) (s : X) (rows : List Row) (w : ℕ) (after : List Row) : Type 0 where
  pub move : Share
  pub best : BestOf share_before (ShareMove rows (capped_distance G s) (meet_or_start G J s)) (Some move)
  pub saving : move.saving ≡ w
  pub shared : after ≡ shared_by rows (capped_distance G s) (meet_or_start G J s) move
  pub tree : (k : ℕ) → k < length after → OnePath after k
  pub gained : Measured G s rows → ShareKeeps G J s rows move after

-- There is a best move, which is the best by the space's own distances and meets where the rows are measured, and no room for its row.
pub record NoRoom {X : Type 0} (G : Ghosts X) (J : JoinGhosts X) (s : X) (rows : List Row) : Type 0 where
  pub move : Share
  pub best : BestOf share_before (ShareMove rows (capped_distance G s) (meet_or_start G J s)) (Some move)
  pub own : Measured G s rows → BestOf share_before (ShareMove rows (G.between s) (J.meeting s)) (Some move)
  pub full : length rows ≡ ROWS

-- Asked to make the best share move on the tree t₀, the answer is r, and the tree is t then.
abbrev pub Shared : {X : Type 0} → Ghosts X → JoinGhosts X → X → (t₀ : Tree) → Result ℕ ShareFault → (t : Tree) → Type 0
Shared G J s t₀ (Err Nothing) t =
    BestOf share_before (ShareMove t₀.rows (capped_distance G s) (meet_or_start G J s)) None
    × (Measured G s t₀.rows → BestOf share_before (ShareMove t₀.rows (G.between s) (J.meeting s)) None)
    × (t ≡ t₀)
Shared G J s t₀ (Err Full) t = NoRoom G J s t₀.rows × (t ≡ t₀)
Shared G J s t₀ (Ok w) t = ShareMade G J s t₀.rows w t.rows
