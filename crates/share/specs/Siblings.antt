-- The sibling before each row. Assumes nothing.
use Rattle.std.specs.Prelude.{◌≡◌, ℕ, ◌<◌, List, length, slice_index, ◌≢◌}
use Rattle.tree_laws.specs.declared.Row.{Row}
use Rattle.tree_laws.specs.Trees.{up}

-- Of the rows from 1 up that hang on v, e is the last below c; 0 where there is none.
pub record LastBelow (rows : List Row) (v c e : ℕ) : Type 0 where
  pub below : e < c
  pub child : (e ≢ 0) → up rows e ≡ v
  pub last : (a : ℕ) → e < a → a < c → up rows a ≡ v → ⊥

-- Each row but the driver has the sibling before it, and 0 where there is none; the driver has 0.
pub record Siblings (rows : List Row) (es : List ℕ) : Type 0 where
  pub count : length es ≡ length rows
  pub driver : slice_index es 0 ≡ 0
  pub before : (c : ℕ) → 0 < c → c < length rows → LastBelow rows (up rows c) c (slice_index es c)
