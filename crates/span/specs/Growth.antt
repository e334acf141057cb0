-- What is kept while a spanning seed grows: the first link of each pin that is still outside. Assumes nothing.
use Rattle.std.specs.Prelude.{◌≡◌, ℕ, zero, suc, ◌<◌, Bool, false, cond, not, List, [], ◌∷◌, ◌++◌, ◌==◌, length, slice_index_or}
use Rattle.order.specs.Firsts.{Among}
use Rattle.forest.specs.Edges.{Joined}
use Rattle.forest.specs.declared.Edge.{Edge}
use Rattle.span_laws.specs.Links.{link_before}
use Rattle.span_laws.specs.Spanning.{Pair, link}
use Rattle.span_laws.specs.declared.link.Link.{Link}

-- A link of another outer pin than v.
abbrev pub elsewhere : ℕ → Link → Bool
elsewhere v x = not (x.v == v)

-- The links in ascending number of their outer pins, one for each of these.
abbrev pub Rising : List Link → Type 0
Rising F = (i j : ℕ) (x : Link) → i < j → j < length F → (slice_index_or F i x).v < (slice_index_or F j x).v

-- The first of two links.
abbrev pub better : Link → Link → Link
better old new = cond (link_before new old) new old

-- The outer pin's first link, where u is one more pin inside.
abbrev pub offered_link : (ℕ → ℕ → ℕ) → ℕ → Link → Link
offered_link d u x = better x (link d u x.v)

-- The links from pin 0 to the pins 1 to k.
abbrev pub fan : (ℕ → ℕ → ℕ) → (k : ℕ) → List Link
fan d zero = []
fan d (suc k) = fan d k ++ link d 0 (suc k) ∷ []

-- A pin outside is joined with itself only.
abbrev pub Alone : List Edge → Type 0
Alone E = (v x : ℕ) → (Joined E 0 v → ⊥) → Joined E v x → x ≡ v

-- The first link of each outer pin stands in F.
pub record FirstLinks (n : ℕ) (d : ℕ → ℕ → ℕ) (E : List Edge) (F : List Link) : Type 0 where
  pub pairs : (x : Link) → Among x F → Pair n d E x
  pub firsts : (x : Link) → Among x F → (u : ℕ) → u < n → Joined E 0 u → link_before (link d u x.v) x ≡ false
  pub all : (v : ℕ) → v < n → (Joined E 0 v → ⊥) → (x : Link) × Among x F × (x.v ≡ v)
