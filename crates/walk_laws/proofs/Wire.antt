-- The wire of the nodes that hang on a neighbour: each edge of the seed serves at most one of its ends. Assumes that no two nodes hang on each other.
use Rattle.std.proofs.Common.{◌≡◌, ℕ, ◌+◌, ◌<◌, ◌≤◌, true, false, cond, ◌||◌, eqb, ◌⊎◌, sym, refl, ap, ◌∙◌, inl, inr, arith}
use Rattle.std.proofs.lemmas.Bool.{cases_Bool, cond-true, cond-false, eq-eqb, eqb-true, or_parts}
use Rattle.forest.specs.Rooted.{Forest, none, kid, Ranked, wire_of}
use Rattle.walk_laws.specs.Walk.{Marks}
use Rattle.walk_laws.specs.Promise.{sum_to, Branch, wire_at}
use Rattle.walk_laws.proofs.Sums.{sum_add, sum_none, sum_one}

-- The node x takes an edge of length l to z, if it hangs there.
abbrev pub hook : Marks → (x z l : ℕ) → ℕ
hook S x z l = cond (eqb x 0 || (S x).broken) 0 (cond (eqb (S x).parent z) l 0)

-- What the node x takes of the edges of the forest that hangs on v, and what both ends of each edge take.
abbrev pub load : Marks → (v : ℕ) → Forest → (x : ℕ) → ℕ
load S v none x = 0
load S v (kid u l below others) x =
    cond (eqb x u) (hook S x v l) 0 + cond (eqb x v) (hook S x u l) 0 + (load S u below x + load S v others x)

abbrev pub both : Marks → (v : ℕ) → Forest → ℕ
both S v none = 0
both S v (kid u l below others) = hook S u v l + hook S v u l + (both S u below + both S v others)

hook_cases : (S : Marks) (x z l : ℕ) →
    (hook S x z l ≡ 0) ⊎ ((eqb x 0 ≡ false) × ((S x).broken ≡ false) × ((S x).parent ≡ z) × (hook S x z l ≡ l))
hook_cases S x z l = go (cases_Bool (eqb x 0 || (S x).broken)) (cases_Bool (eqb (S x).parent z))
  where
    go : ((eqb x 0 || (S x).broken) ≡ true) ⊎ ((eqb x 0 || (S x).broken) ≡ false) →
        (eqb (S x).parent z ≡ true) ⊎ (eqb (S x).parent z ≡ false) →
        (hook S x z l ≡ 0) ⊎ ((eqb x 0 ≡ false) × ((S x).broken ≡ false) × ((S x).parent ≡ z) × (hook S x z l ≡ l))
    go (inl a) h = inl (cond-true (eqb x 0 || (S x).broken) 0 (cond (eqb (S x).parent z) l 0) a)
    go (inr a) (inl h) =
        let parts = or_parts (eqb x 0) (S x).broken a in
        inr (
          parts.0,
          parts.1,
          eqb-true (S x).parent z h,
          cond-false (eqb x 0 || (S x).broken) 0 (cond (eqb (S x).parent z) l 0) a ∙ cond-true (eqb (S x).parent z) l 0 h,
        )
    go (inr a) (inr h) =
        inl (cond-false (eqb x 0 || (S x).broken) 0 (cond (eqb (S x).parent z) l 0) a ∙ cond-false (eqb (S x).parent z) l 0 h)

-- Two nodes that do not hang on each other take an edge between them once.
pub hook_once : (S : Marks) (u v l : ℕ) →
    (eqb u 0 ≡ false → (S u).broken ≡ false → (S u).parent ≡ v → eqb v 0 ≡ false → (S v).broken ≡ false → (S v).parent ≡ u → ⊥) →
    hook S u v l + hook S v u l ≤ l
hook_once S u v l apart = go (hook_cases S u v l) (hook_cases S v u l)
  where
    go : (hook S u v l ≡ 0) ⊎ ((eqb u 0 ≡ false) × ((S u).broken ≡ false) × ((S u).parent ≡ v) × (hook S u v l ≡ l)) →
        (hook S v u l ≡ 0) ⊎ ((eqb v 0 ≡ false) × ((S v).broken ≡ false) × ((S v).parent ≡ u) × (hook S v u l ≡ l)) →
        hook S u v l + hook S v u l ≤ l
    go (inl a) (inl b) = omega (arith, a, b)
    go (inl a) (inr b) = omega (arith, a, b.3)
    go (inr a) (inl b) = omega (arith, a.3, b)
    go (inr a) (inr b) = absurd (apart a.0 a.1 a.2 b.0 b.1 b.2)

pub both_le : (S : Marks) (v : ℕ) (F : Forest) → ((u w l : ℕ) → Branch v F u w l → hook S w u l + hook S u w l ≤ l) →
    both S v F ≤ wire_of F
both_le S v none h = omega arith
both_le S v (kid u l b o) h =
    omega (
      arith,
      h v u l (inl (refl, refl, refl)),
      both_le S u b (λ x w k e. h x w k (inr (inl e))),
      both_le S v o (λ x w k e. h x w k (inr (inr e))),
    )

pub load_sum : (S : Marks) (n : ℕ) (rank : ℕ → ℕ) (v lo : ℕ) (F : Forest) (hi : ℕ) → v < n → Ranked n rank lo F hi →
    sum_to (load S v F) n ≡ both S v F
load_sum S n rank v lo none hi h r = sum_none n
load_sum S n rank v lo (kid u l b o) hi h r =
    let A : ℕ → ℕ = λ x. cond (eqb x u) (hook S x v l) 0 in
    let B : ℕ → ℕ = λ x. cond (eqb x v) (hook S x u l) 0 in
    omega (
      arith,
      sum_add (λ x. A x + B x) (λ x. load S u b x + load S v o x) n,
      sum_add A B n,
      sum_add (load S u b) (load S v o) n,
      sum_one (λ x. hook S x v l) n u r.0,
      sum_one (λ x. hook S x u l) n v h,
      load_sum S n rank u (lo + 1) b r.2.0 r.0 r.2.1,
      load_sum S n rank v r.2.0 o hi h r.2.2,
    )

-- A node takes at least its own wire, if it hangs on an end of an edge of which it is the other end.
hook_wire : (S : Marks) (x z l : ℕ) → (S x).parent ≡ z → (S x).edge ≡ l → wire_at S x ≡ hook S x z l
hook_wire S x z l p e =
    ap (λ k. cond (eqb x 0 || (S x).broken) 0 k) (e ∙ sym (cond-true (eqb (S x).parent z) l 0 (eq-eqb (S x).parent z p)))

pub load_low : (S : Marks) (v : ℕ) (F : Forest) (u w l : ℕ) → Branch v F u w l → (S w).parent ≡ u → (S w).edge ≡ l →
    wire_at S w ≤ load S v F w
load_low S v none u w l d p e = absurd d
load_low S v (kid c k b o) u w l (inl d) p e =
    omega (
      arith,
      hook_wire S w v k (p ∙ d.0) (e ∙ d.2),
      cond-true (eqb w c) (hook S w v k) 0 (eq-eqb w c d.1),
    )
load_low S v (kid c k b o) u w l (inr (inl d)) p e = omega (arith, load_low S c b u w l d p e)
load_low S v (kid c k b o) u w l (inr (inr d)) p e = omega (arith, load_low S v o u w l d p e)

pub load_high : (S : Marks) (v : ℕ) (F : Forest) (u w l : ℕ) → Branch v F u w l → (S u).parent ≡ w → (S u).edge ≡ l →
    wire_at S u ≤ load S v F u
load_high S v none u w l d p e = absurd d
load_high S v (kid c k b o) u w l (inl d) p e =
    omega (
      arith,
      hook_wire S u c k (p ∙ d.1) (e ∙ d.2),
      cond-true (eqb u v) (hook S u c k) 0 (eq-eqb u v d.0),
    )
load_high S v (kid c k b o) u w l (inr (inl d)) p e = omega (arith, load_high S c b u w l d p e)
load_high S v (kid c k b o) u w l (inr (inr d)) p e = omega (arith, load_high S v o u w l d p e)
