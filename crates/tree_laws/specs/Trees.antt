-- A table of rows as a tree that hangs on row 0, the driver: ways up to the driver, paths and wire. Assumes nothing.
use Rattle.std.specs.Prelude.{◌≡◌, ℕ, zero, suc, ◌+◌, ◌<◌, Bool, true, false, cond, List, [], ◌∷◌, ◌++◌, length, pos, sum_by, ◌==◌, ◌≢◌, slice_index_or, slice_set}
use Rattle.forest.specs.Paths.{Different}
use Rattle.order.specs.Firsts.{Among}
use Rattle.space.specs.declared.spot.Spot.{Spot}
use Rattle.tree_laws.specs.declared.Row.{Row}

-- What stands past the end of a table.
abbrev pub blank : Row
blank = record { parent = 0; spot = record { x = pos 0; y = pos 0; level = pos 0 }; length = 0 }

abbrev pub row_of : List Row → ℕ → Row
row_of rows k = slice_index_or rows k blank

abbrev pub up : List Row → ℕ → ℕ
up rows k = (row_of rows k).parent

abbrev pub row_length : List Row → ℕ → ℕ
row_length rows k = (row_of rows k).length

abbrev pub row_spot : List Row → ℕ → Spot
row_spot rows k = (row_of rows k).spot

-- The row that is reached from k by going n times to the parent.
abbrev pub climb_rows : List Row → (n k : ℕ) → ℕ
climb_rows rows zero k = k
climb_rows rows (suc n) k = climb_rows rows n (up rows k)

-- The lengths from k up to the driver, over at most n rows.
abbrev pub path_in : List Row → (n k : ℕ) → ℕ
path_in rows zero k = 0
path_in rows (suc n) k = cond (k == 0) 0 (row_length rows k + path_in rows n (up rows k))

-- The path of a row: the sum of the lengths from the driver down to it.
abbrev pub path_length : List Row → ℕ → ℕ
path_length rows k = path_in rows (length rows) k

-- The sum of all lengths.
abbrev pub wire_of : List Row → ℕ
wire_of rows = sum_by (λ r. r.length) rows

-- Whether u is v or hangs below it: v is met on the way from u up to the driver, over at most n rows.
abbrev pub under_in : List Row → (n u v : ℕ) → Bool
under_in rows zero u v = u == v
under_in rows (suc n) u v = cond (u == v) true (under_in rows n (up rows u) v)

abbrev pub under : List Row → (u v : ℕ) → Bool
under rows u v = under_in rows (length rows) u v

-- A tree: the driver is its own parent at length 0, every parent is a row, and every row comes up to the driver.
pub record RowTree (rows : List Row) : Type 0 where
  pub some : 0 < length rows
  pub driver : up rows 0 ≡ 0
  pub still : row_length rows 0 ≡ 0
  pub parents : (k : ℕ) → k < length rows → up rows k < length rows
  pub reaches : (k : ℕ) → k < length rows → climb_rows rows (length rows) k ≡ 0

-- The rows of a way from the driver down to k, each the parent of the next.
pub data RowWay (rows : List Row) : (k : ℕ) → List ℕ → Type 0 where
  home : RowWay rows 0 (0 ∷ [])
  down : {k : ℕ} {ns : List ℕ} → (k ≢ 0) → RowWay rows (up rows k) ns → RowWay rows k (ns ++ k ∷ [])

-- The sum of the lengths of the rows of a way.
abbrev pub along : List Row → List ℕ → ℕ
along rows ns = sum_by (row_length rows) ns

-- Exactly one list of different rows begins with the driver and ends with k, each the parent of the next; its lengths are k's path.
pub record OnePath (rows : List Row) (k : ℕ) : Type 0 where
  pub rungs : List ℕ
  pub way : RowWay rows k rungs
  pub within : (x : ℕ) → Among x rungs → x < length rows
  pub different : Different rungs
  pub only : (ns : List ℕ) → RowWay rows k ns → ns ≡ rungs
  pub path : path_length rows k ≡ along rows rungs

-- v can be hung on u: v is not the driver, and u is neither v nor under v.
pub record MayHang (rows : List Row) (v u : ℕ) : Type 0 where
  pub row : v < length rows
  pub moves : v ≡ 0 → ⊥
  pub parent : u < length rows
  pub above : under rows u v ≡ false

-- The row c hangs on v.
pub record Child (rows : List Row) (v c : ℕ) : Type 0 where
  pub row : c < length rows
  pub moves : c ≡ 0 → ⊥
  pub parent : up rows c ≡ v

-- Changes of a table: a row hung on another parent, and a row added.
abbrev pub hang : List Row → (v u l : ℕ) → List Row
hang rows v u l = slice_set rows v (record { parent = u; spot = row_spot rows v; length = l })

abbrev pub add : List Row → (u : ℕ) (z : Spot) (l : ℕ) → List Row
add rows u z l = rows ++ record { parent = u; spot = z; length = l } ∷ []

-- A new row at z on v, at length l, and the rows a and b hung on it.
abbrev pub between : List Row → (v : ℕ) (z : Spot) (l a la b lb : ℕ) → List Row
between rows v z l a la b lb = hang (hang (add rows v z l) a (length rows) la) b (length rows) lb
