-- What a tree holds, and what its changes answer. Assumes nothing.
use Rattle.std.specs.Prelude.{◌≡◌, ℕ, ◌<◌, ◌≤◌, true, List, length, Some, None, Ok, Err, Option, Result, slice_index, nat_lt, ◌≢◌}
use Rattle.space.specs.Laws.{answered}
use Rattle.space.specs.declared.TheConstants.{LONGEST}
use Rattle.space.specs.declared.spot.Spot.{Spot}
use Rattle.tree_laws.specs.declared.Row.{Row}
use Rattle.tree_laws.specs.Trees.{MayHang, add, hang, path_length, row_of, under}
use Rattle.tree.specs.declared.table.HangFault.{HangFault}
use Rattle.tree.specs.declared.table.HangFault.TheVariants.{Driver, NoRow, NoParent, TooLong, Below}
use Rattle.tree.specs.declared.table.Tree.{Tree}
use Rattle.tree.specs.declared.table.TheConstants.{ROWS}

-- The row k; nothing past the end.
abbrev pub row_at : List Row → ℕ → Option Row
row_at rows k = answered (nat_lt k (length rows)) (row_of rows k)

-- The path of the row k; nothing past the end.
abbrev pub path_at : List Row → ℕ → Option ℕ
path_at rows k = answered (nat_lt k (length rows)) (path_length rows k)

-- The numbers are the paths of the first rows.
abbrev pub KnownPaths : List Row → List ℕ → Type 0
KnownPaths rows ps = (k : ℕ) → k < length ps → slice_index ps k ≡ path_length rows k

-- The numbers are the paths of the rows.
pub record Paths (rows : List Row) (ps : List ℕ) : Type 0 where
  pub count : length ps ≡ length rows
  pub paths : KnownPaths rows ps

-- There is room for one more row, and it can hang on u at length l.
pub record Fits (t : Tree) (u l : ℕ) : Type 0 where
  pub parent : u < length t.rows
  pub short : l ≤ LONGEST
  pub room : length t.rows < ROWS

-- Asked for one more row at z on u, the tree s answers r and is t then.
abbrev pub RowAdded : (s : Tree) (u : ℕ) (z : Spot) (l : ℕ) → Option ℕ → (t : Tree) → Type 0
RowAdded s u z l None t = (Fits s u l → ⊥) × (t ≡ s)
RowAdded s u z l (Some k) t = Fits s u l × (k ≡ length s.rows) × (t.rows ≡ add s.rows u z l)

-- The first reason why v can't hang on u at length l.
abbrev pub HangRefused : List Row → (v u l : ℕ) → HangFault → Type 0
HangRefused rows v u l Driver = v ≡ 0
HangRefused rows v u l NoRow = (v ≢ 0) × (length rows ≤ v)
HangRefused rows v u l NoParent = (v ≢ 0) × (v < length rows) × (length rows ≤ u)
HangRefused rows v u l TooLong = (v ≢ 0) × (v < length rows) × (u < length rows) × (LONGEST < l)
HangRefused rows v u l Below = (v ≢ 0) × (v < length rows) × (u < length rows) × (l ≤ LONGEST) × (under rows u v ≡ true)

-- Asked whether v can hang on u at length l, the answer is r.
abbrev pub CanHang : List Row → (v u l : ℕ) → Result (Unit {0}) HangFault → Type 0
CanHang rows v u l (Ok _) = MayHang rows v u × (l ≤ LONGEST)
CanHang rows v u l (Err e) = (MayHang rows v u → l ≤ LONGEST → ⊥) × HangRefused rows v u l e

-- Asked to hang v on u at length l, the tree s answers r and is t then.
abbrev pub Changed : (s : Tree) (v u l : ℕ) → Result (Unit {0}) HangFault → (t : Tree) → Type 0
Changed s v u l (Ok _) t = MayHang s.rows v u × (l ≤ LONGEST) × (t.rows ≡ hang s.rows v u l)
Changed s v u l (Err e) t = (MayHang s.rows v u → l ≤ LONGEST → ⊥) × HangRefused s.rows v u l e × (t ≡ s)
