-- The value of a tree: its rows, and what holds of them. Assumes nothing.
use Rattle.std.specs.Prelude.{ℕ, ◌≤◌, List, [], ◌∷◌, length}
use Rattle.space.specs.declared.TheConstants.{LONGEST}
use Rattle.space.specs.declared.spot.Spot.{Spot}
use Rattle.tree_laws.specs.declared.Row.{Row}
use Rattle.tree_laws.specs.Trees.{RowTree, row_length}
use Rattle.tree.specs.declared.table.TheConstants.{ROWS}

-- From the driver on, at most ROWS rows that are a tree.
pub record TreeValue : Type 0 where
  pub rows : List Row
  pub few : length rows ≤ ROWS
  pub lengths : (k : ℕ) → row_length rows k ≤ LONGEST
  pub tree : RowTree rows

-- The driver alone.
abbrev pub alone : Spot → List Row
alone z = record { parent = 0; spot = z; length = 0 } ∷ []
