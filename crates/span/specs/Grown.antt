-- The answer to the request for a spanning seed, and what holds while it grows. Assumes nothing.
use Rattle.std.specs.Prelude.{◌≡◌, ℕ, ◌<◌, ◌≤◌, ◌⊎◌, List, length, Ok, Err, Result}
use Rattle.seed.specs.declared.store.TheConstants.{NODES}
use Rattle.span_laws.specs.declared.link.Link.{Link}
use Rattle.forest.specs.Edges.{wire}
use Rattle.forest.specs.Paths.{IsTree}
use Rattle.forest.specs.declared.Edge.{Edge}
use Rattle.seed.specs.declared.store.SeedFault.{SeedFault}
use Rattle.seed.specs.declared.store.SeedFault.TheVariants as fault
use Rattle.seed.specs.declared.store.Seed.{Seed}
use Rattle.space.specs.declared.Space.{Ghosts}
use Rattle.space.specs.declared.spot.Spot.{Spot}
use Rattle.span.specs.Lengths.{Pinned, pin_distance, lengths}
use Rattle.span_laws.specs.Spanning.{SpanningSeed, Steps}
use Rattle.span.specs.Growth.{Alone, FirstLinks}

-- The seed t is the spanning seed of the pins, and w its wire. The lengths are the space's distances wherever the pins are such as
-- a net can have.
pub record Spanned {X : Type 0} (G : Ghosts X) (s : X) (pins : List Spot) (w : ℕ) (t : Seed) : Type 0 where
  pub some : 0 < length pins
  pub few : length pins ≤ NODES
  pub nodes : t.nodes ≡ length pins
  pub cut : SpanningSeed (length pins) (lengths G s pins) t.edges
  pub only : (E : List Edge) → SpanningSeed (length pins) (lengths G s pins) E → E ≡ t.edges
  pub measured : Pinned G s pins → SpanningSeed (length pins) (pin_distance G s pins) t.edges
  pub tree : IsTree (length pins) t.edges
  pub wired : w ≡ wire t.edges

-- Asked for the spanning seed of the pins in place of the seed t₀, the answer is r, and the seed is t then.
abbrev pub Grown : {X : Type 0} → Ghosts X → X → List Spot → (t₀ : Seed) → Result ℕ SeedFault → (t : Seed) → Type 0
Grown G s pins t₀ (Ok w) t = Spanned G s pins w t
Grown G s pins t₀ (Err fault.Outside) t = ((length pins ≡ 0) ⊎ (NODES < length pins)) × (t ≡ t₀)
Grown G s pins t₀ (Err fault.Joined) t = ⊥
Grown G s pins t₀ (Err fault.Short) t = ⊥
Grown G s pins t₀ (Err fault.Long) t = ⊥

-- What holds of the seed and of the firsts F after each step.
pub record Growing (n : ℕ) (d : ℕ → ℕ → ℕ) (t : Seed) (F : List Link) : Type 0 where
  pub nodes : t.nodes ≡ n
  pub steps : Steps n d t.edges
  pub firsts : FirstLinks n d t.edges F
  pub alone : Alone t.edges
