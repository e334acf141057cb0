-- Joining rows that hang on the driver: the two whose ways from the driver part last get a row where they part. `d` is the distance of two
-- spots, and `m o a b` the meet of a and b seen from o. Assumes nothing.
use Rattle.std.specs.Prelude.{◌≡◌, ℕ, ◌<◌, ◌≤◌, Bool, true, false, not, ◌&&◌, List, [], ◌∷◌, ◌++◌, length, filter, ◌==◌, ◌≢◌, nat_lt}
use Rattle.order.specs.Firsts.{Among}
use Rattle.order.specs.Orders.{then_by}
use Rattle.space.specs.Laws.{Meets}
use Rattle.space.specs.declared.spot.Spot.{Spot}
use Rattle.tree_laws.specs.declared.Row.{Row}
use Rattle.tree_laws.specs.Trees.{RowTree, between, row_length, path_length, row_spot, up, wire_of}

-- Neither a nor b.
abbrev pub others : (a b : ℕ) → ℕ → Bool
others a b x = not (x == a) && not (x == b)

module _ (d : Spot → Spot → ℕ) (m : Spot → Spot → Spot → Spot) where
  -- The meet of two rows seen from the driver, and how far it is from the driver.
  abbrev pub driver_meet : List Row → (a b : ℕ) → Spot
  driver_meet rows a b = m (row_spot rows 0) (row_spot rows a) (row_spot rows b)

  abbrev pub far_of : List Row → (a b : ℕ) → ℕ
  far_of rows a b = d (row_spot rows 0) (driver_meet rows a b)

  -- Two members of the group, the lower number first.
  pub record PairOf (group : List ℕ) (a b : ℕ) : Type 0 where
    pub first : Among a group
    pub second : Among b group
    pub ordered : a < b

  -- The pair whose meet is farthest from the driver; of equally far ones the one with the lowest a, then the lowest b.
  pub record Farthest (rows : List Row) (group : List ℕ) (a b : ℕ) : Type 0 where
    pub pair : PairOf group a b
    pub first : (x y : ℕ) → PairOf group x y → then_by (far_of rows a b) (far_of rows x y) (then_by x a (nat_lt y b)) ≡ false

  -- The meet of a and b becomes a row on the driver and the parent of both, and takes their place in the group.
  abbrev pub meet_row : List Row → (a b : ℕ) → List Row
  meet_row rows a b =
      between rows 0 (driver_meet rows a b) (far_of rows a b) a (d (driver_meet rows a b) (row_spot rows a)) b (d (driver_meet rows a b) (row_spot rows b))

  abbrev pub meet_group : List ℕ → (a b new : ℕ) → List ℕ
  meet_group group a b new = filter (others a b) group ++ new ∷ []

  -- The rows become `after`: pair after pair is joined until at most one member is left or the farthest meet is 0 from the driver.
  pub data Joins : List Row → List ℕ → List Row → Type 0 where
    done : {rows : List Row} {group : List ℕ} → ((a b : ℕ) → PairOf group a b → far_of rows a b ≡ 0) → Joins rows group rows
    join : {rows after : List Row} {group : List ℕ} (a b : ℕ) → Farthest rows group a b → 0 < far_of rows a b → Joins (meet_row rows a b) (meet_group group a b (length rows)) after → Joins rows group after

  -- Each member hangs on the driver at its distance from it, and the spots are admitted.
  pub record Grouped (admitted : Spot → Bool) (rows : List Row) (group : List ℕ) : Type 0 where
    pub driver : admitted (row_spot rows 0) ≡ true
    pub rows_of : (g : ℕ) → Among g group → g < length rows
    pub others : (g : ℕ) → Among g group → g ≢ 0
    pub hung : (g : ℕ) → Among g group → up rows g ≡ 0
    pub long : (g : ℕ) → Among g group → row_length rows g ≡ d (row_spot rows 0) (row_spot rows g)
    pub admits : (g : ℕ) → Among g group → admitted (row_spot rows g) ≡ true

  -- What joining keeps: a tree, every path as it was, and no more wire than before.
  pub record JoinedKeeps (rows after : List Row) : Type 0 where
    pub tree : RowTree after
    pub more : length rows ≤ length after
    pub paths : (k : ℕ) → k < length rows → path_length after k ≡ path_length rows k
    pub wire : wire_of after ≤ wire_of rows

-- Joining any rows that hang on the driver, in a space that joins.
abbrev pub JoiningKeeps : Type 0
JoiningKeeps =
    (d : Spot → Spot → ℕ) (m : Spot → Spot → Spot → Spot) (admitted : Spot → Bool) → Meets admitted d m → (rows after : List Row) (group : List ℕ) → RowTree rows → Grouped d m admitted rows group → Joins d m rows group after → JoinedKeeps d m rows after
