-- The straight tree of a finished walk: every breakpoint hangs on the driver, and every other node on its parent from the walk. Assumes nothing.
use Rattle.std.specs.Prelude.{◌≡◌, ℕ, zero, suc, ◌+◌, ◌*◌, ◌<◌, ◌≤◌, Bool, true, false, cond, ◌||◌, List, [], ◌∷◌, ◌++◌, map, ◌==◌, slice_index}
use Rattle.space.specs.Spots.{spot_of}
use Rattle.space.specs.declared.spot.Spot.{Spot}
use Rattle.forest.specs.Rooted.{Forest}
use Rattle.forest.specs.Rooted as rooted
use Rattle.walk_laws.specs.Walk.{Rules, Marks}
use Rattle.walk_laws.specs.Promise.{Branch, WalkGuarantee, Sink, RootedTree, Spares, Triangle}
use Rattle.tree_laws.specs.declared.Row.{Row}
use Rattle.tree_laws.specs.Trees.{RowTree, row_length, path_length, up, wire_of}

-- The allowance, which nodes are pins, and the distance of each node from the driver.
abbrev pub net_rules : (Spot → Spot → ℕ) → List Spot → (pins p q : ℕ) → Rules
net_rules d spots pins p q = record { p = p; q = q; pins = pins; direct = λ v. slice_index (map (d (spot_of spots 0)) spots) v }

-- The row of the node v: the driver's own, a breakpoint's on the driver at its direct distance, or one on the parent from the walk.
abbrev pub straight_row : Rules → Marks → (ℕ → Spot) → ℕ → Row
straight_row R S spots v = record {
  parent = cond (v == 0 || (S v).broken) 0 (S v).parent;
  spot = spots v;
  length = cond (v == 0) 0 (cond (S v).broken (R.direct v) (S v).edge);
}

-- The rows of the nodes below n.
abbrev pub straight : Rules → Marks → (ℕ → Spot) → (n : ℕ) → List Row
straight R S spots zero = []
straight R S spots (suc n) = straight R S spots n ++ straight_row R S spots n ∷ []

-- The breakpoints among the nodes below n, in ascending number.
abbrev pub broken_if : Bool → ℕ → List ℕ
broken_if true v = v ∷ []
broken_if false v = []

abbrev pub breakpoints : Marks → (n : ℕ) → List ℕ
breakpoints S zero = []
breakpoints S (suc n) = breakpoints S n ++ broken_if (S n).broken n

-- What holds of the straight tree over the seed F.
pub record Straight (R : Rules) (n : ℕ) (F : Forest) (S : Marks) (rows : List Row) : Type 0 where
  -- it is a tree
  pub tree : RowTree rows
  -- its wire is within the bound
  pub wire : R.p * wire_of rows ≤ (R.p + 2 * R.q) * rooted.wire_of F
  -- under the triangle law each sink's path is within its allowance, and a breakpoint's is its direct distance
  pub allowed : Triangle R F → R.direct 0 ≡ 0 → (v : ℕ) → v < n → Sink R v → R.q * path_length rows v ≤ (R.p + R.q) * R.direct v
  pub breakpoints : (v : ℕ) → v < n → (S v).broken ≡ true → path_length rows v ≡ R.direct v
  -- a seed whose sinks' paths are all within the allowance is built edge for edge
  pub spared : Spares R F → (u w l : ℕ) → w < n → Branch 0 F u w l → (up rows w ≡ u) × (row_length rows w ≡ l)

-- The straight tree of every finished walk over a seed that is a tree on the nodes below n.
abbrev pub StraightKeeps : Type 0
StraightKeeps =
    (R : Rules) (n : ℕ) (rank : ℕ → ℕ) (F : Forest) (S : Marks) (spots : ℕ → Spot) → 0 < R.q → RootedTree n rank F → WalkGuarantee R n F S → Straight R n F S (straight R S spots n)
