-- What a build promises beside which tree it is: bounds on wire and paths, a seed within the allowance built edge for edge, and a joined tree with
-- no more wire than the straight one. Assumes nothing.
use Rattle.build_laws.specs.Straight.{net_rules}
use Rattle.std.specs.Prelude.{◌≡◌, ℕ, ◌+◌, ◌*◌, ◌<◌, ◌≤◌, List, length, Some}
use Rattle.forest.specs.Edges as seed
use Rattle.forest.specs.Growth.{Planted}
use Rattle.order.specs.Firsts.{Among}
use Rattle.space.specs.Spots.{spot_of}
use Rattle.tree_laws.specs.Trees.{OnePath, row_length, path_length, up, wire_of}
use Rattle.tree_laws.specs.declared.Row.{Row}
use Rattle.walk_laws.specs.Promise.{Branch, Spares}
use Rattle.net_laws.specs.Answers.{Stands, StraightTree, breakpoints, marks_of}
use Rattle.net_laws.specs.Geometry.{Geometry}
use Rattle.net_laws.specs.States.{State}

-- Where every sink's path in the seed of n, seen from the driver, is within the allowance, the tree of m has a row for each node and no other, and
-- every row hangs on its parent in the seed, at the length of their edge.
abbrev pub EdgeForEdge : Geometry → (n m : State) → Type 0
EdgeForEdge W n m =
    (rows : List Row) → Stands m rows → (p q : ℕ) → n.allowance ≡ Some (p, q) → (F : Planted (length n.spots) n.edges) → Spares (net_rules W.between n.spots n.pins p q) F.forest →
    (length rows ≡ length n.spots) × ((u w l : ℕ) → Branch 0 F.forest u w l → (up rows w ≡ u) × (row_length rows w ≡ l))

-- The tree of m has no more wire than the straight tree of n.
abbrev pub NoMoreThanStraight : Geometry → (n m : State) → Type 0
NoMoreThanStraight W n m =
    (rows before : List Row) → Stands m rows → (p q : ℕ) → n.allowance ≡ Some (p, q) → StraightTree W.between n.spots n.pins p q n.edges before → wire_of rows ≤ wire_of before

-- The rows are a tree over the nodes of n within the allowance p/q: every row is reached in one way, the wire is within the bound, every pin's path is
-- within the allowance, and the path of every breakpoint is its direct distance.
pub record WithinBounds (W : Geometry) (n : State) (p q : ℕ) (rows : List Row) : Type 0 where
  pub tree : (k : ℕ) → k < length rows → OnePath rows k
  pub wire : p * wire_of rows ≤ (p + 2 * q) * seed.wire n.edges
  pub allowed : (k : ℕ) → k < n.pins → q * path_length rows k ≤ (p + q) * W.between (spot_of n.spots 0) (spot_of n.spots k)
  pub direct : (F : Planted (length n.spots) n.edges) (v : ℕ) → Among v (breakpoints (marks_of W.between n.spots n.pins p q n.edges F) (length n.spots)) → path_length rows v ≡ W.between (spot_of n.spots 0) (spot_of n.spots v)

-- The tree of m is within the bounds that n sets.
abbrev pub Bounds : Geometry → (n m : State) → Type 0
Bounds W n m = (rows : List Row) → Stands m rows → (p q : ℕ) → n.allowance ≡ Some (p, q) → WithinBounds W n p q rows
