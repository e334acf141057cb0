-- A tree of edges seen from one of its nodes, with the neighbours of each node taken in ascending number. Assumes nothing.
use Rattle.std.specs.Prelude.{◌≡◌, ℕ, ◌+◌, ◌<◌, ◌≤◌, List, Some, None, Option, ◌≢◌}
use Rattle.forest.specs.declared.Edge.{Edge}
use Rattle.forest.specs.Edges.{Near, wire}
use Rattle.forest.specs.Rooted.{Forest, wire_of, size_of, Ranked, In}
use Rattle.forest.specs.Rooted.Forest.{none, kid}

-- No neighbour of v other than w is at least c.
abbrev pub Nothing : List Edge → (v w c : ℕ) → Type 0
Nothing E v w c = (x k : ℕ) → Near E v x k → c ≤ x → (x ≢ w) → ⊥

-- u is the least neighbour of v that is at least c and is not w, along an edge of length l.
pub record Least (E : List Edge) (v w c u l : ℕ) : Type 0 where
  pub near : Near E v u l
  pub from : c ≤ u
  pub other : u ≡ w → ⊥
  pub least : (x k : ℕ) → Near E v x k → c ≤ x → (x ≢ w) → u ≤ x

-- The answer to a search for that neighbour, with the edge's length.
abbrev pub LeastOf : List Edge → (v w c : ℕ) → Option (ℕ × ℕ) → Type 0
LeastOf E v w c None = Nothing E v w c
LeastOf E v w c (Some p) = Least E v w c p.0 p.1

-- The first child of the forest, with the length of its edge.
abbrev pub head_of : Forest → Option (ℕ × ℕ)
head_of none = None
head_of (kid u l below others) = Some (u, l)

-- The forest of the neighbours of v that are at least c, in ascending number, where v was entered from w: below each neighbour u
-- the forest of u entered from v. A node that was not entered counts as entered from itself.
pub data Grows (E : List Edge) : (v w c : ℕ) → Forest → Type 0 where
  bare : {v w c : ℕ} → Nothing E v w c → Grows E v w c none
  grown : {v w c u l : ℕ} {below others : Forest} → Least E v w c u l → Grows E u v 0 below → Grows E v w (u + 1) others → Grows E v w c (kid u l below others)

-- The edges over the nodes below n, seen from node 0: every other node stands in the forest, each once and ranked along the walk from 1.
pub record Planted (n : ℕ) (E : List Edge) : Type 0 where
  pub forest : Forest
  pub rank : ℕ → ℕ
  pub grows : Grows E 0 0 0 forest
  pub root : rank 0 ≡ 0
  pub ranked : Ranked n rank 1 forest n
  pub all : (v : ℕ) → v < n → (v ≢ 0) → In v forest
  pub without : In 0 forest → ⊥
  pub long : wire_of forest ≡ wire E
  pub many : size_of forest + 1 ≡ n
