-- How far apart spots and rows are in a space, and rows whose lengths are distances. Assumes nothing.
use Rattle.std.specs.Prelude.{◌≡◌, ℕ, ◌<◌, ◌≤◌, true, List, length, ◌≢◌}
use Rattle.space.specs.Totals.{capped_distance}
use Rattle.space.specs.declared.TheConstants.{LONGEST}
use Rattle.space.specs.declared.Space.{Ghosts}
use Rattle.tree_laws.specs.declared.Row.{Row}
use Rattle.tree_laws.specs.Trees.{row_length, row_spot, up}

-- The distance of two rows, cut at `LONGEST`.
abbrev pub capped_row_distance : {X : Type 0} → Ghosts X → X → List Row → ℕ → ℕ → ℕ
capped_row_distance G s rows u v = capped_distance G s (row_spot rows u) (row_spot rows v)

-- The distance of two rows.
abbrev pub row_distance : {X : Type 0} → Ghosts X → X → List Row → ℕ → ℕ → ℕ
row_distance G s rows u v = G.between s (row_spot rows u) (row_spot rows v)

-- Rows in a space that keeps the laws: the spot of each is admitted.
pub record Settled {X : Type 0} (G : Ghosts X) (s : X) (rows : List Row) : Type 0 where
  pub narrow : G.width s ≤ LONGEST
  pub admitted : (k : ℕ) → k < length rows → G.admitted s (row_spot rows k) ≡ true

-- Rows in a space that keeps the laws: every spot is admitted, and the length of every row but the driver is its distance from its parent.
pub record Measured {X : Type 0} (G : Ghosts X) (s : X) (rows : List Row) : Type 0 where
  pub narrow : G.width s ≤ LONGEST
  pub admitted : (k : ℕ) → k < length rows → G.admitted s (row_spot rows k) ≡ true
  pub lengths : (k : ℕ) → k < length rows → (k ≢ 0) → row_length rows k ≡ G.between s (row_spot rows (up rows k)) (row_spot rows k)
