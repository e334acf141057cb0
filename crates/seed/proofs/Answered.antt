-- What a caller learns from a seed's answers.
use Rattle.std.proofs.Common.{◌≡◌, ℕ, ◌<◌, ◌≤◌, true, false, [], is_ok, Ok, Err, Result, refl, arith}
use Rattle.space.specs.declared.TheConstants.{LONGEST}
use Rattle.forest.specs.Edges.{Joined, edge}
use Rattle.seed.specs.declared.store.Seed.{Seed}
use Rattle.seed.specs.declared.store.SeedFault.{SeedFault}
use Rattle.seed.specs.declared.store.SeedFault.TheVariants as fault
use Rattle.seed.specs.declared.store.TheConstants.{NODES}
use Rattle.seed.specs.Seeds.{EdgeAsked, Inside, OneMore, Restarted}

-- an edge between nodes that are not joined is taken
pub join_taken : (s t : Seed) (a b l : ℕ) (r : Result (Unit {0}) SeedFault) → EdgeAsked s a b l r t → Inside s a b → (Joined s.edges a b → ⊥) → 0 < l → l ≤ LONGEST →
    (is_ok r ≡ true) × OneMore s (edge a b l) t
join_taken s t a b l (Ok x) h i n p q = (refl, h.3)
join_taken s t a b l (Err fault.Outside) h i n p q = absurd (h.0 i)
join_taken s t a b l (Err fault.Joined) h i n p q = absurd (n h.1)
join_taken s t a b l (Err fault.Long) h i n p q = absurd (over l q h.1)
  where
    over : (l : ℕ) → l ≤ LONGEST → LONGEST < l → ⊥
    over l q e = omega arith
join_taken s t a b l (Err fault.Short) h i n p q = absurd (zero l p h.1)
  where
    zero : (l : ℕ) → 0 < l → l ≡ 0 → ⊥
    zero l p e = omega arith

-- a refused edge leaves the seed as it was
pub join_refused : (s t : Seed) (a b l : ℕ) (r : Result (Unit {0}) SeedFault) → EdgeAsked s a b l r t → is_ok r ≡ false → t ≡ s
join_refused s t a b l (Ok x) h e = absurd (clash e)
  where
    clash : true ≡ false → ⊥
    clash e = let z : ◌≡◌ {A = ℕ} 0 1 = cc in omega arith
join_refused s t a b l (Err fault.Outside) h e = h.1
join_refused s t a b l (Err fault.Joined) h e = h.2
join_refused s t a b l (Err fault.Short) h e = h.2
join_refused s t a b l (Err fault.Long) h e = h.2

-- at most `NODES` nodes are taken
pub restart_done : (s t : Seed) (n : ℕ) (r : Result (Unit {0}) SeedFault) → Restarted s n r t → n ≤ NODES → (is_ok r ≡ true) × (t.edges ≡ []) × (t.nodes ≡ n)
restart_done s t n (Ok x) h le = (refl, h.1, h.2)
restart_done s t n (Err fault.Outside) h le = absurd (over n le h.0)
  where
    over : (n : ℕ) → n ≤ NODES → NODES < n → ⊥
    over n le lt = omega arith
restart_done s t n (Err fault.Joined) h le = absurd h
restart_done s t n (Err fault.Short) h le = absurd h
restart_done s t n (Err fault.Long) h le = absurd h
