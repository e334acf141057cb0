-- The search for the best share move. Assumes nothing.
use Rattle.std.specs.Prelude.{◌≡◌, ℕ}
use Rattle.space.specs.declared.Space.{Ghosts}
use Rattle.space.specs.declared.Joining.{Ghosts as JoinGhosts}
use Rattle.tree_laws.specs.declared.share.Share.{Share}
use Rattle.space.specs.Totals.{meet_or_start, capped_distance}
use Rattle.tree_laws.specs.Shares.{ShareMove}
use Rattle.share.specs.declared.sharing.ShareSearch.{ShareSearch}

-- A move of the tree that is searched.
abbrev pub ShareMoveIn : {X : Type 0} → (G : Ghosts X) → (J : JoinGhosts X) → ShareSearch X J G → Share → Type 0
ShareMoveIn G J q = ShareMove q.table.now.rows (capped_distance G q.space.now) (meet_or_start G J q.space.now)

-- A move of a and b.
abbrev pub ShareMoveAt : {X : Type 0} → (G : Ghosts X) → (J : JoinGhosts X) → ShareSearch X J G → (a b : ℕ) → Share → Type 0
ShareMoveAt G J q a b m = ShareMoveIn G J q m × (m.a ≡ a) × (m.b ≡ b)

-- A move of b with a sibling before it.
abbrev pub ShareMoveOf : {X : Type 0} → (G : Ghosts X) → (J : JoinGhosts X) → ShareSearch X J G → (b : ℕ) → Share → Type 0
ShareMoveOf G J q b m = ShareMoveIn G J q m × (m.b ≡ b)
