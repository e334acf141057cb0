-- What the calls that only read a net answer. Assumes nothing.
use Rattle.std.specs.Prelude.{◌≡◌, ℕ, ◌*◌, ◌/◌, ◌<◌, ◌≤◌, List, length, None, Result}
use Rattle.space.specs.declared.spot.Spot.{Spot}
use Rattle.space.specs.Spots.{spot_of}
use Rattle.tree_laws.specs.Trees.{path_length, row_of}
use Rattle.tree_laws.specs.declared.Row.{Row}
use Rattle.net_laws.specs.Answers.{Stands, accepts, asks}
use Rattle.net_laws.specs.States.{State}
use Rattle.net_laws.specs.declared.fault.Fault.{Fault}
use Rattle.net_laws.specs.declared.reading.PinPath.{PinPath}
use Rattle.net_laws.specs.declared.reading.Worst.{Worst}

-- The row k.
abbrev pub RowAnswer : State → (k : ℕ) → Result Row Fault → Type 0
RowAnswer n k =
    asks 13 ((n.tree ≡ None) → ⊥) (asks 16 ((rows : List Row) → Stands n rows → k < length rows)
    (accepts (λ r. (rows : List Row) × Stands n rows × (r ≡ row_of rows k))))

-- How many rows the tree has.
abbrev pub RowsAnswer : State → Result ℕ Fault → Type 0
RowsAnswer n =
    asks 13 ((n.tree ≡ None) → ⊥)
    (accepts (λ count. (rows : List Row) × Stands n rows × (count ≡ length rows)))

-- The direct distance of a pin.
abbrev pub direct_distance : (Spot → Spot → ℕ) → State → (k : ℕ) → ℕ
direct_distance d n k = d (spot_of n.spots 0) (spot_of n.spots k)

-- The path of the pin k, and its direct distance.
abbrev pub PathAnswer : (Spot → Spot → ℕ) → State → (k : ℕ) → Result PinPath Fault → Type 0
PathAnswer d n k =
    asks 13 ((n.tree ≡ None) → ⊥) (asks 16 (k < n.pins)
    (accepts (λ r. (rows : List Row) × Stands n rows × (r.path ≡ path_length rows k) × (r.direct ≡ direct_distance d n k))))

-- 1000 times the path of a sink by its direct distance, the fraction dropped.
abbrev pub figure_of : (Spot → Spot → ℕ) → State → List Row → (k : ℕ) → ℕ
figure_of d n rows k = 1000 * path_length rows k / direct_distance d n k

-- The sink with the greatest figure; of equal ones the lowest.
pub record WorstOf (d : Spot → Spot → ℕ) (n : State) (rows : List Row) (r : Worst) : Type 0 where
  pub sink : (0 < r.pin) × (r.pin < n.pins)
  pub figure : r.figure ≡ figure_of d n rows r.pin
  pub greatest : (k : ℕ) → 0 < k → k < n.pins → figure_of d n rows k ≤ r.figure
  pub lowest : (k : ℕ) → 0 < k → k < r.pin → figure_of d n rows k < r.figure

abbrev pub WorstAnswer : (Spot → Spot → ℕ) → State → Result Worst Fault → Type 0
WorstAnswer d n =
    asks 13 ((n.tree ≡ None) → ⊥)
    (accepts (λ r. (rows : List Row) × Stands n rows × WorstOf d n rows r))
