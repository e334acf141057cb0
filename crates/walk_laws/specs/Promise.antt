-- What the walk guarantees over every seed that is a tree on the nodes below n. Assumes edges of length at least 1 and q at least 1.
use Rattle.std.specs.Prelude.{◌≡◌, ℕ, zero, suc, ◌+◌, ◌*◌, ◌<◌, ◌≤◌, true, false, cond, ◌||◌, ◌⊎◌, List, Some, ◌==◌, ◌≢◌}
use Rattle.forest.specs.Edges.{Near}
use Rattle.forest.specs.Growth.{Grows}
use Rattle.forest.specs.Rooted.{Forest, none, kid, wire_of, Ranked, In}
use Rattle.forest.specs.declared.Edge.{Edge}
use Rattle.walk_laws.specs.Walk.{Marks, Rules, start, hung, walk}

-- In the forest that hangs on v, the node w has the parent u, over an edge of length l.
abbrev pub Branch : (v : ℕ) → Forest → (u w l : ℕ) → Type 0
Branch v none u w l = ⊥
Branch v (kid c k below others) u w l = ((u ≡ v) × (w ≡ c) × (l ≡ k)) ⊎ (Branch c below u w l ⊎ Branch v others u w l)

-- The forest F is what the edges E over n nodes are seen from the driver: its branches are the edges and all of them, and no other forest
-- grows from the driver.
pub record SeenFrom (n : ℕ) (E : List Edge) (F : Forest) : Type 0 where
  pub edges : (u w l : ℕ) → Branch 0 F u w l → Near E u w l
  pub all_edges : (u w l : ℕ) → u < n → Near E u w l → Branch 0 F u w l ⊎ Branch 0 F w u l
  pub only : (G : Forest) → Grows E 0 0 0 G → G ≡ F

-- In the forest that hangs on a node e away from the driver along the seed, the node w is d away.
abbrev pub PathLength : (e : ℕ) → Forest → (w d : ℕ) → Type 0
PathLength e none w d = ⊥
PathLength e (kid c k below others) w d = ((w ≡ c) × (d ≡ e + k)) ⊎ (PathLength (e + k) below w d ⊎ PathLength e others w d)

-- A seed that is a tree on the nodes below n, rooted at the driver: each node but the driver stands in it once, and no edge has length 0.
pub record RootedTree (n : ℕ) (rank : ℕ → ℕ) (F : Forest) : Type 0 where
  pub ranked : Ranked n rank 1 F n
  pub first : rank 0 ≡ 0
  pub all : (v : ℕ) → v < n → (v ≢ 0) → In v F
  pub long : (u w l : ℕ) → Branch 0 F u w l → 0 < l

abbrev pub Sink : Rules → ℕ → Type 0
Sink R v = (0 < v) × (v < R.pins)

-- The direct distances of the ends of an edge differ by at most its length.
abbrev pub Triangle : Rules → Forest → Type 0
Triangle R F =
    (u w l : ℕ) → Branch 0 F u w l → (R.direct w ≤ R.direct u + l) × (R.direct u ≤ R.direct w + l)

-- Each sink's path in the seed keeps the allowance.
abbrev pub Spares : Rules → Forest → Type 0
Spares R F = (v d : ℕ) → Sink R v → PathLength 0 F v d → R.q * d ≤ (R.p + R.q) * R.direct v

-- The sum of f over the nodes below n.
abbrev pub sum_to : (ℕ → ℕ) → ℕ → ℕ
sum_to f zero = 0
sum_to f (suc n) = sum_to f n + f n

-- What a breakpoint's own wire from the driver costs, and what any other node's edge to its parent costs.
abbrev pub owed_at : Rules → Marks → ℕ → ℕ
owed_at R S v = cond (S v).broken (R.direct v) 0

abbrev pub wire_at : Marks → ℕ → ℕ
wire_at S v = cond (v == 0 || (S v).broken) 0 (S v).edge

-- The node v, with the estimate e, hangs on a neighbour in the seed whose estimate leaves room for their edge.
pub record HangsOnNeighbour (F : Forest) (S : Marks) (v e : ℕ) : Type 0 where
  pub neighbour : Branch 0 F (S v).parent v (S v).edge ⊎ Branch 0 F v (S v).parent (S v).edge
  pub above : ℕ
  pub told : (S (S v).parent).est ≡ Some above
  pub room : above + (S v).edge ≤ e
  pub falls : above < e

-- The node that is reached from v by going k times to the parent.
abbrev pub climb : Marks → (k : ℕ) → ℕ → ℕ
climb S zero v = v
climb S (suc k) v = climb S k (S v).parent

-- A driver or a breakpoint.
abbrev pub Anchor : Marks → ℕ → Type 0
Anchor S v = (v ≡ 0) ⊎ ((S v).broken ≡ true)

-- The lengths of the ways along the parents, where each breakpoint has a wire of its own from the driver.
pub record Ways (R : Rules) (n : ℕ) (S : Marks) (path : ℕ → ℕ) : Type 0 where
  pub driver : path 0 ≡ 0
  pub breakpoint : (v : ℕ) → v < n → (S v).broken ≡ true → path v ≡ R.direct v
  pub other : (v : ℕ) → v < n → (v ≢ 0) → (S v).broken ≡ false → path v ≡ path (S v).parent + (S v).edge

-- What holds of the marks S once the walk over the seed F on the nodes below n is done.
pub record WalkGuarantee (R : Rules) (n : ℕ) (F : Forest) (S : Marks) : Type 0 where
  -- the driver stays where it was, at 0 and nobody's child
  pub driver : S 0 ≡ start 0
  -- each node has an estimate, no larger than the way of the whole walk
  pub told : (v : ℕ) → v < n → (e : ℕ) × ((S v).est ≡ Some e) × (e ≤ 2 * wire_of F)
  -- each sink keeps the allowance
  pub allowed : (v e : ℕ) → v < n → Sink R v → (S v).est ≡ Some e → R.q * e ≤ (R.p + R.q) * R.direct v
  -- only sinks are breakpoints
  pub sinks : (v : ℕ) → v < n → (S v).broken ≡ true → Sink R v
  -- each other node hangs on a neighbour, and its parents lead to the driver or a breakpoint in fewer steps than there are nodes: never round in a ring
  pub hangs : (v e : ℕ) → v < n → (v ≢ 0) → (S v).broken ≡ false → (S v).est ≡ Some e → HangsOnNeighbour F S v e
  pub ends : (v : ℕ) → v < n → (k : ℕ) × (k < n) × Anchor S (climb S k v)
  -- so the ways along the parents have lengths
  pub paths : (path : ℕ → ℕ) × Ways R n S path
  -- under the triangle law no estimate is below the direct distance, a breakpoint's is equal to it, and no way is longer than its estimate
  pub near : Triangle R F → R.direct 0 ≡ 0 → (v e : ℕ) → v < n → (S v).est ≡ Some e → R.direct v ≤ e
  pub exact : Triangle R F → R.direct 0 ≡ 0 → (v : ℕ) → v < n → (S v).broken ≡ true → (S v).est ≡ Some (R.direct v)
  pub ways :
      Triangle R F → R.direct 0 ≡ 0 → (path : ℕ → ℕ) → Ways R n S path → (v e : ℕ) → v < n → (S v).est ≡ Some e → path v ≤ e
  -- what the breakpoints cost, and what the other nodes' edges cost
  pub owed : R.p * sum_to (owed_at R S) n ≤ 2 * (R.q * wire_of F)
  pub wire : sum_to (wire_at S) n ≤ wire_of F
  -- a seed that keeps the allowance itself is kept edge for edge
  pub spared : Spares R F → (u w l : ℕ) → Branch 0 F u w l → (d : ℕ) × PathLength 0 F w d × (S w ≡ hung u l d false)
  pub unbroken : Spares R F → (v : ℕ) → v < n → (S v).broken ≡ false

-- The guarantee, whole.
abbrev pub WalkKeeps : Type 0
WalkKeeps =
    (R : Rules) (n : ℕ) (rank : ℕ → ℕ) (F : Forest) → 0 < R.q → RootedTree n rank F → WalkGuarantee R n F (walk R 0 F start)
