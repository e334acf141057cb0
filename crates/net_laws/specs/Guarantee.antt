-- What holds of a new net after every list of calls. Assumes nothing.
use Rattle.std.specs.Prelude.{◌≡◌, ℕ, ◌+◌, ◌*◌, ◌<◌, ◌≤◌, true, List, ◌∷◌, ◌++◌, length, is_some, Some, Ok, Result, ◌≢◌}
use Rattle.forest.specs.Edges.{wire}
use Rattle.forest.specs.declared.Edge.{Edge}
use Rattle.space.specs.Laws.{Meets, Metric}
use Rattle.space.specs.declared.TheConstants.{LONGEST}
use Rattle.space.specs.Spots.{spot_of}
use Rattle.tree_laws.specs.Trees.{OnePath, row_length, path_length, row_of, row_spot, up, wire_of}
use Rattle.tree_laws.specs.declared.Row.{Row}
use Rattle.net_laws.specs.Geometry.{Geometry}
use Rattle.net_laws.specs.Logs.{Event, Log, Runs, SeedOf, allowance_of, effect_of, keeps_tree, nodes_of, pins_of, savings_of, tree_stands}
use Rattle.net_laws.specs.Logs.Effect.{builds}
use Rattle.net_laws.specs.Readings.{RowAnswer}
use Rattle.net_laws.specs.States.{State, fresh}
use Rattle.net_laws.specs.declared.fault.Fault.{Fault}

-- The log is: the calls `before`, a build, and the calls `since`, of which no accepted one drops or replaces its tree. The build answered the
-- wire w and left the net `built` and no other, whose tree had the rows `start`; now the tree has the rows `rows`.
pub record SinceBuild (W : Geometry) (log : Log) (n : State) (since before : Log) (w : ℕ) (start rows : List Row) : Type 0 where
  pub build : Event
  pub accepted : effect_of build ≡ builds w
  pub split : log ≡ since ++ build ∷ before
  pub kept : keeps_tree since ≡ true
  pub built : State
  pub before_it : Runs W fresh (build ∷ before) built
  pub only : (other : State) → Runs W fresh (build ∷ before) other → other ≡ built
  pub since_it : Runs W built since n
  pub first_rows : built.tree ≡ Some start
  pub last_rows : n.tree ≡ Some rows

-- Every pin hangs on the driver by exactly one path, within the allowance p/q.
abbrev pub OnePathWithinAllowance : Geometry → Log → (p q : ℕ) → List Row → Type 0
OnePathWithinAllowance W log p q rows =
    (k : ℕ) → k < length (pins_of log) → OnePath rows k × (q * path_length rows k ≤ (p + q) * W.between (spot_of (pins_of log) 0) (spot_of (pins_of log) k))

-- The tree's wire is within the bound by that of the seed it was built from.
abbrev pub WireWithinBound : Geometry → Log → (p q : ℕ) → List Row → Type 0
WireWithinBound W log p q rows = (E : List Edge) → SeedOf W.between log E → p * wire_of rows ≤ (p + 2 * q) * wire E

-- What the build answered is the wire now and all savings answered since.
abbrev pub SavingsAddUp : (since : Log) (w : ℕ) → List Row → Type 0
SavingsAddUp since w rows = w ≡ wire_of rows + savings_of since

-- No pin's path is longer than right after the build, where it hung on the driver by exactly one path too.
abbrev pub NoPathGrows : Log → (start rows : List Row) → Type 0
NoPathGrows log start rows = (k : ℕ) → k < length (pins_of log) → OnePath start k × (path_length rows k ≤ path_length start k)

-- The rows lie in the space: each node at the spot of its call, the driver's row is its own parent at length 0, every parent is a row, and every
-- other row's length is its distance from its parent.
pub record LiesInSpace (W : Geometry) (log : Log) (rows : List Row) : Type 0 where
  pub nodes : (k : ℕ) → k < length (nodes_of log) → (k < length rows) × (row_spot rows k ≡ spot_of (nodes_of log) k)
  pub driver : (up rows 0 ≡ 0) × (row_length rows 0 ≡ 0)
  pub parents : (k : ℕ) → k < length rows → up rows k < length rows
  pub lengths : (k : ℕ) → k < length rows → (k ≢ 0) → row_length rows k ≡ W.between (row_spot rows (up rows k)) (row_spot rows k)

-- The rows are what the call row answers on the net n, and no number past them has one.
pub record RowsRead (n : State) (rows : List Row) : Type 0 where
  pub row : (k : ℕ) (r : Result Row Fault) → k < length rows → RowAnswer n k r → r ≡ Ok (row_of rows k)
  pub past : (k : ℕ) (row : Row) → length rows ≤ k → RowAnswer n k (Ok row) → ⊥

-- What holds while a tree stands: p/q is the allowance.
pub record TreeStands (W : Geometry) (log : Log) (n : State) : Type 0 where
  pub since : Log
  pub before : Log
  pub answered : ℕ
  pub start : List Row
  pub rows : List Row
  pub p : ℕ
  pub q : ℕ
  pub run : SinceBuild W log n since before answered start rows
  pub allowance : allowance_of log ≡ Some (p, q)
  pub read : RowsRead n rows
  pub laid : LiesInSpace W log rows
  pub allowed : OnePathWithinAllowance W log p q rows
  pub bound : WireWithinBound W log p q rows
  pub savings : SavingsAddUp since answered rows
  pub paths : NoPathGrows log start rows

-- The guarantee: the net holds what the log says, a tree stands exactly where the log says so, and then all of the above holds.
pub record Guarantee (W : Geometry) (log : Log) (n : State) : Type 0 where
  pub nodes : n.spots ≡ nodes_of log
  pub pins : n.pins ≡ length (pins_of log)
  pub allowance : n.allowance ≡ allowance_of log
  pub seed : SeedOf W.between log n.edges
  pub stands : is_some n.tree ≡ tree_stands log
  pub tree : tree_stands log ≡ true → TreeStands W log n

-- Every run on a new net, in every space that keeps the laws, keeps the guarantee.
abbrev pub RunsKeep : Type 0
RunsKeep =
    (W : Geometry) → (W.width ≤ LONGEST → Metric W.admitted W.width W.between) → (W.width ≤ LONGEST → Meets W.admitted W.between W.meeting) →
    (log : Log) (n : State) → Runs W fresh log n → Guarantee W log n
