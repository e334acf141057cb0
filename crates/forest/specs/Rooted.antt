-- A tree seen from one of its nodes: what hangs below the node, its wire, and how its nodes are numbered along the walk. Assumes nothing.
use Rattle.std.specs.Prelude.{◌≡◌, ℕ, ◌+◌, ◌<◌}

-- The children of a node in the order in which they are taken. Each child u has the length l of its edge to that node,
-- what hangs below u, and the children after u.
pub data Forest : Type 0 where
  none : Forest
  kid : (u l : ℕ) (below others : Forest) → Forest

-- The sum of the lengths of all edges of the forest, the ones to its roots' parent too.
abbrev pub wire_of : Forest → ℕ
wire_of none = 0
wire_of (kid u l below others) = l + wire_of below + wire_of others

-- How many nodes the forest has.
abbrev pub size_of : Forest → ℕ
size_of none = 0
size_of (kid u l below others) = 1 + size_of below + size_of others

-- The nodes of the forest are below n and have the ranks lo, lo + 1, .. up to hi - 1, a parent before its children and a child with all below it
-- before the next child. Since a node has one rank, no node stands in the forest twice.
abbrev pub Ranked : (n : ℕ) (rank : ℕ → ℕ) (lo : ℕ) → Forest → (hi : ℕ) → Type 0
Ranked n rank lo none hi = hi ≡ lo
Ranked n rank lo (kid u l below others) hi =
    (u < n) × (rank u ≡ lo) × ((mid : ℕ) × Ranked n rank (lo + 1) below mid × Ranked n rank mid others hi)

-- The node v stands in the forest.
pub data In (v : ℕ) : Forest → Type 0 where
  here : {l : ℕ} {below others : Forest} → In v (kid v l below others)
  under : {u l : ℕ} {below others : Forest} → In v below → In v (kid u l below others)
  beside : {u l : ℕ} {below others : Forest} → In v others → In v (kid u l below others)
