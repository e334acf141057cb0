-- The spanning seed: from pin 0, each step adds the first of all pairs of a pin inside and a pin outside. Assumes nothing.
use Rattle.std.specs.Prelude.{◌≡◌, ℕ, ◌+◌, ◌<◌, false, List, length, take, slice_index_or}
use Rattle.span_laws.specs.Links.{link_before}
use Rattle.span_laws.specs.declared.link.Link.{Link}
use Rattle.forest.specs.Edges.{Joined}
use Rattle.forest.specs.declared.Edge.{Edge}

-- The link of two pins, by the distance d.
abbrev pub link : (ℕ → ℕ → ℕ) → (u v : ℕ) → Link
link d u v = record { length = d u v; u = u; v = v }

-- An edge as the link from its inner to its outer end.
abbrev pub link_of : Edge → Link
link_of e = record { length = e.length; u = e.a; v = e.b }

-- A pair of a pin inside, which the edges E join with pin 0, and a pin outside, which they do not; d is the distance of two pins.
pub record Pair (n : ℕ) (d : ℕ → ℕ → ℕ) (E : List Edge) (x : Link) : Type 0 where
  pub inner : x.u < n
  pub inside : Joined E 0 x.u
  pub outer : x.v < n
  pub outside : Joined E 0 x.v → ⊥
  pub long : x.length ≡ d x.u x.v

-- The first of all pairs: the shortest, ties by lowest u, then lowest v.
pub record FirstPair (n : ℕ) (d : ℕ → ℕ → ℕ) (E : List Edge) (x : Link) : Type 0 where
  pub pair : Pair n d E x
  pub first : (y : Link) → Pair n d E y → link_before y x ≡ false

-- Each edge is the first of all pairs at its step.
abbrev pub Steps : (n : ℕ) (d : ℕ → ℕ → ℕ) → List Edge → Type 0
Steps n d E = (i : ℕ) (x : Edge) → i < length E → FirstPair n d (take i E) (link_of (slice_index_or E i x))

-- The edges E are the spanning seed of n pins: each is the first of all pairs at its step, and they are one fewer than the pins.
pub record SpanningSeed (n : ℕ) (d : ℕ → ℕ → ℕ) (E : List Edge) : Type 0 where
  pub steps : Steps n d E
  pub whole : length E + 1 ≡ n
