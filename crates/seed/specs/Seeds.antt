-- The answer of a seed to each request to change it. Assumes nothing.
use Rattle.std.specs.Prelude.{◌≡◌, ℕ, ◌+◌, ◌<◌, ◌≤◌, [], ◌∷◌, ◌++◌, Some, None, Ok, Err, Option, Result}
use Rattle.space.specs.declared.TheConstants.{LONGEST}
use Rattle.forest.specs.declared.Edge.{Edge}
use Rattle.forest.specs.Edges.{Joined, edge}
use Rattle.seed.specs.declared.store.Seed.{Seed}
use Rattle.seed.specs.declared.store.SeedFault.{SeedFault}
use Rattle.seed.specs.declared.store.SeedFault.TheVariants as fault
use Rattle.seed.specs.declared.store.TheConstants.{NODES}

-- Both numbers are nodes.
abbrev pub Inside : Seed → (a b : ℕ) → Type 0
Inside s a b = (a < s.nodes) × (b < s.nodes)

-- Both numbers are nodes, and no chain of edges joins them.
abbrev pub Apart : Seed → (a b : ℕ) → Type 0
Apart s a b = Inside s a b × (Joined s.edges a b → ⊥)

-- The seed t has the edges of s and then one more, and the same nodes.
abbrev pub OneMore : (s : Seed) → Edge → (t : Seed) → Type 0
OneMore s e t = (t.edges ≡ s.edges ++ e ∷ []) × (t.nodes ≡ s.nodes)

-- The seed s, asked for an edge of length l between a and b, answers r and is t then.
abbrev pub EdgeAsked : (s : Seed) (a b l : ℕ) → Result (Unit {0}) SeedFault → (t : Seed) → Type 0
EdgeAsked s a b l (Ok x) t = Apart s a b × (0 < l) × (l ≤ LONGEST) × OneMore s (edge a b l) t
EdgeAsked s a b l (Err fault.Outside) t = (Inside s a b → ⊥) × (t ≡ s)
EdgeAsked s a b l (Err fault.Joined) t = Inside s a b × Joined s.edges a b × (t ≡ s)
EdgeAsked s a b l (Err fault.Short) t = Apart s a b × (l ≡ 0) × (t ≡ s)
EdgeAsked s a b l (Err fault.Long) t = Apart s a b × (LONGEST < l) × (t ≡ s)

-- The seed s, asked to start again with n nodes, answers r and is t then.
abbrev pub Restarted : (s : Seed) (n : ℕ) → Result (Unit {0}) SeedFault → (t : Seed) → Type 0
Restarted s n (Ok x) t = (n ≤ NODES) × (t.edges ≡ []) × (t.nodes ≡ n)
Restarted s n (Err fault.Outside) t = (NODES < n) × (t ≡ s)
Restarted s n (Err fault.Joined) t = ⊥
Restarted s n (Err fault.Short) t = ⊥
Restarted s n (Err fault.Long) t = ⊥

-- The seed s, asked for one more node, answers r and is t then.
abbrev pub NodeAdded : (s : Seed) → Option ℕ → (t : Seed) → Type 0
NodeAdded s None t = (s.nodes ≡ NODES) × (t ≡ s)
NodeAdded s (Some v) t = (s.nodes < NODES) × (v ≡ s.nodes) × (t.nodes ≡ v + 1) × (t.edges ≡ s.edges)
