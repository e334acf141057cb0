-- How large estimates can get: at any moment none is above the way gone so far, and the whole way is twice the wire. Assumes q at least 1 where a node is entered.
use Rattle.std.proofs.Common.{◌≡◌, ℕ, ◌+◌, ◌*◌, ◌<◌, ◌≤◌, Bool, true, ◌&&◌, ltb, ◌⊎◌, Some, None, Option, sym, refl, ap, ◌∙◌, inl, inr, le_refl, mul-add, arith}
use Rattle.std.proofs.lemmas.Bool.{cases_eq, cond_both, ltb-true, and_parts}
use Rattle.forest.specs.Rooted.{Forest, none, kid, Ranked, wire_of, size_of}
use Rattle.walk_laws.specs.Walk.{Mark, Marks, Rules, is_a_sink, hung, start, relaxed, relax, entered, enter}
use Rattle.walk_laws.specs.Promise.{Branch}
use Rattle.walk_laws.proofs.Steps.{some_inj, start_est, put_same, Took, Kept, relax_at, relax_other, enter_other, down}
use Rattle.walk_laws.proofs.Standing.{breaks_below}

-- No estimate is above g.
abbrev pub Bounded : ℕ → Marks → Type 0
Bounded g S = (y e : ℕ) → (S y).est ≡ Some e → e ≤ g

pub start_bounded : Bounded 0 start
start_bounded y e h = omega (arith, (start_est y e h (cases_eq y 0)).1)

-- A step along an edge raises the bound by its length.
pub relax_bounded : (u v l g : ℕ) (S : Marks) → Bounded g S → Bounded (g + l) (relax u v l S)
relax_bounded u v l g S b y e h = go (cases_eq y v)
  where
    took : (f : ℕ) → (S u).est ≡ Some f → (relax u v l S v).est ≡ Some e →
        Took u l f (S v) (relax u v l S v) ⊎ Kept l f (S v) (relax u v l S v) → e ≤ g + l
    took f k n (inl t) = omega (arith, b u f k, some_inj (sym (ap (λ m. m.est) t.0) ∙ n))
    took f k n (inr t) = omega (arith, b v e (sym (ap (λ m. m.est) t.0) ∙ n))

    at : (o : Option ℕ) → (S u).est ≡ o → (relax u v l S v).est ≡ Some e → e ≤ g + l
    at None k n =
        let same : relax u v l S v ≡ S v =
        put_same S v (relaxed u l (S u).est (S v)) ∙ ap (λ o. relaxed u l o (S v)) k in
        omega (arith, b v e (sym (ap (λ m. m.est) same) ∙ n))
    at (Some f) k n = took f k n (relax_at S u v l f k)

    go : (y ≡ v) ⊎ (y ≡ v → ⊥) → e ≤ g + l
    go (inl s) = at (S u).est refl (sym (ap (λ z. (relax u v l S z).est) s) ∙ h)
    go (inr ne) = omega (arith, b y e (sym (ap (λ m. m.est) (relax_other S u v l y ne)) ∙ h))

-- Entering a node raises no estimate.
entered_le : (R : Rules) → 0 < R.q → (v : ℕ) (m : Mark) (o : Option ℕ) → m.est ≡ o → (e : ℕ) → (entered R v o m).est ≡ Some e →
    (f : ℕ) × (m.est ≡ Some f) × (e ≤ f)
entered_le R q v m None h e n = (e, n, le_refl e)
entered_le R q v m (Some f) h e n =
    let P : Mark → Type 0 = λ x. x.est ≡ Some e → (k : ℕ) × (m.est ≡ Some k) × (e ≤ k) in
    let over : Bool = ltb ((R.p + R.q) * R.direct v) (R.q * f) in
    cond_both (is_a_sink R v && over) (hung m.parent m.edge (R.direct v) true) m P
    (λ t n. (f, h, below (ltb-true ((R.p + R.q) * R.direct v) (R.q * f) (and_parts (is_a_sink R v) over t).1) (some_inj n)))
    (λ t n. (e, n, le_refl e))
    n
  where
    below : (R.p + R.q) * R.direct v < R.q * f → R.direct v ≡ e → e ≤ f
    below l s = omega (arith, breaks_below R.p R.q (R.direct v) f q l)

pub enter_bounded : (R : Rules) → 0 < R.q → (v g : ℕ) (S : Marks) → Bounded g S → Bounded g (enter R v S)
enter_bounded R q v g S b y e h = go (cases_eq y v)
  where
    go : (y ≡ v) ⊎ (y ≡ v → ⊥) → e ≤ g
    go (inl s) =
        let n : (entered R v (S v).est (S v)).est ≡ Some e =
        sym (ap (λ m. m.est) (ap (enter R v S) s ∙ put_same S v (entered R v (S v).est (S v)))) ∙ h in
        let k = entered_le R q v (S v) (S v).est refl e n in
        omega (arith, b v k.0 k.1, k.2)
    go (inr ne) = b y e (sym (ap (λ m. m.est) (enter_other R S v y ne)) ∙ h)

pub down_bounded : (R : Rules) → 0 < R.q → (v u l g : ℕ) (S : Marks) → Bounded g S → Bounded (g + l) (down R v u l S)
down_bounded R q v u l g S b = enter_bounded R q u (g + l) (relax v u l S) (relax_bounded v u l g S b)

-- The wire of a forest whose edges are at most m long, and how many nodes it has.
pub wire_le : (m v : ℕ) (F : Forest) → ((u w l : ℕ) → Branch v F u w l → l ≤ m) → wire_of F ≤ m * size_of F
wire_le m v none h = omega arith
wire_le m v (kid u l b o) h =
    let s : 1 + size_of b + size_of o ≡ 1 + (size_of b + size_of o) = omega arith in
    omega (
      arith,
      h v u l (inl (refl, refl, refl)),
      wire_le m u b (λ x w k e. h x w k (inr (inl e))),
      wire_le m v o (λ x w k e. h x w k (inr (inr e))),
      ap (λ x. m * x) s,
      mul-add m 1 (size_of b + size_of o),
      mul-add m (size_of b) (size_of o),
    )

pub size_ranked : (n : ℕ) (rank : ℕ → ℕ) (lo : ℕ) (F : Forest) (hi : ℕ) → Ranked n rank lo F hi → lo + size_of F ≡ hi
size_ranked n rank lo none hi r = omega arith
size_ranked n rank lo (kid u l b o) hi r =
    omega (arith, size_ranked n rank (lo + 1) b r.2.0 r.2.1, size_ranked n rank r.2.0 o hi r.2.2)

-- At most 512 nodes and edges of at most 100,000,000: the way of the whole walk, and so each estimate.
pub way_fits : (n : ℕ) (rank : ℕ → ℕ) (F : Forest) → Ranked n rank 1 F n → n ≤ 512 → ((u w l : ℕ) → Branch 0 F u w l → l ≤ 100000000) →
    2 * wire_of F ≤ 102200000000
way_fits n rank F r h k = omega (arith, wire_le 100000000 0 F k, size_ranked n rank 1 F n r)
