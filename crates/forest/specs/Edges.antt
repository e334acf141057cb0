-- Edges between numbered nodes, what they join, and which lists of edges are seeds. Assumes nothing.
use Rattle.std.specs.Prelude.{◌≡◌, ℕ, ◌+◌, ◌<◌, ◌≤◌, ◌⊎◌, List, [], ◌∷◌, length, take, slice_index_or}
use Rattle.space.specs.declared.TheConstants.{LONGEST}
use Rattle.order.specs.Firsts.{Among}
use Rattle.forest.specs.declared.Edge.{Edge}

-- The edge between a and b of the length l.
abbrev pub edge : (a b l : ℕ) → Edge
edge a b l = record { a = a; b = b; length = l }

-- The edge lies between u and v, whichever of them it names first.
abbrev pub Between : Edge → ℕ → ℕ → Type 0
Between e u v = ((e.a ≡ u) × (e.b ≡ v)) ⊎ ((e.a ≡ v) × (e.b ≡ u))

-- Some edge of the list lies between u and v and has the length l.
pub record Near (E : List Edge) (u v l : ℕ) : Type 0 where
  pub edge : Edge
  pub stands : Among edge E
  pub between : Between edge u v
  pub long : edge.length ≡ l

-- A chain of edges leads from one node to the other; from a node to itself the chain without edges does.
pub data Joined (E : List Edge) : ℕ → ℕ → Type 0 where
  same : {a : ℕ} → Joined E a a
  step : {a b c l : ℕ} → Near E a b l → Joined E b c → Joined E a c

-- The sum of the lengths.
abbrev pub wire : List Edge → ℕ
wire [] = 0
wire (e ∷ E) = e.length + wire E

-- The edge may follow the edges E over n nodes: its ends are nodes, its length is at least 1 and at most 100,000,000,
-- and the edges before it do not join its ends.
abbrev pub Fit : (n : ℕ) → List Edge → Edge → Type 0
Fit n E e = (e.a < n) × (e.b < n) × (0 < e.length) × (e.length ≤ LONGEST) × (Joined E e.a e.b → ⊥)

-- Each edge of the list may follow the edges before it.
abbrev pub Sound : (n : ℕ) → List Edge → Type 0
Sound n E = (i : ℕ) (d : Edge) → i < length E → Fit n (take i E) (slice_index_or E i d)
