-- What one step of the walk does to the marks: the one that it changes, by cases, and the others. Assumes that the node that relaxes has an estimate.
use Rattle.std.proofs.Common.{◌≡◌, ℕ, ◌+◌, ◌*◌, ◌<◌, ◌≤◌, Bool, true, false, cond, ◌&&◌, eqb, ltb, ◌⊎◌, Some, None, Option, sym, refl, ap, ◌∙◌, subst, inl, inr, arith}
use Rattle.std.proofs.lemmas.Bool.{cond-true, cond-false, cond_both, eq-eqb, ne_eqb, eqb-true, ltb-true, ltb-false, and_parts, and_cases, both_ways}
use Rattle.walk_laws.specs.Walk.{Mark, Marks, Rules, is_a_sink, hung, blank, home, start, put, offered, relaxed, relax, entered, enter}

pub some_inj : {a b : ℕ} → Some a ≡ Some b → a ≡ b
some_inj h = cc

pub none_some : {a : ℕ} → None ≡ Some a → ⊥
none_some {a} h = let z : ◌≡◌ {A = ℕ} 0 1 = cc in omega arith

pub put_same : (S : Marks) (v : ℕ) (m : Mark) → put S v m v ≡ m
put_same S v m = cond-true (eqb v v) m (S v) (eq-eqb v v refl)

pub put_other : (S : Marks) (v : ℕ) (m : Mark) (x : ℕ) → (x ≡ v → ⊥) → put S v m x ≡ S x
put_other S v m x ne = cond-false (eqb x v) m (S x) (ne_eqb x v ne)

-- The node takes the offer, which is no larger than its estimate; or it keeps its mark, whose estimate is no larger than the offer.
abbrev pub Took : (u l e : ℕ) → Mark → Mark → Type 0
Took u l e m m' = (m' ≡ hung u l (e + l) m.broken) × ((f : ℕ) → m.est ≡ Some f → e + l ≤ f)

abbrev pub Kept : (l e : ℕ) → Mark → Mark → Type 0
Kept l e m m' = (m' ≡ m) × ((f : ℕ) × (m.est ≡ Some f) × (f ≤ e + l))

offered_cases : (u l e : ℕ) (m : Mark) (o : Option ℕ) → m.est ≡ o →
    Took u l e m (offered u l (e + l) o m) ⊎ Kept l e m (offered u l (e + l) o m)
offered_cases u l e m None h = inl (refl, λ f k. absurd (none_some (sym h ∙ k)))
offered_cases u l e m (Some f) h =
    cond_both (ltb (e + l) f) (hung u l (e + l) m.broken) (cond (eqb (e + l) f && ltb l m.edge) (hung u l f m.broken) m)
    (λ x. Took u l e m x ⊎ Kept l e m x)
    (λ t. inl (refl, λ g k. omega (arith, ltb-true (e + l) f t, some_inj (sym h ∙ k))))
    (λ t.
    cond_both (eqb (e + l) f && ltb l m.edge) (hung u l f m.broken) m
    (λ x. Took u l e m x ⊎ Kept l e m x)
    (λ s.
    let same : e + l ≡ f = eqb-true (e + l) f (and_parts (eqb (e + l) f) (ltb l m.edge) s).0 in
    inl (ap (λ x. hung u l x m.broken) (sym same), λ g k. omega (arith, same, some_inj (sym h ∙ k))))
    (λ s. inr (refl, (f, h, ltb-false (e + l) f t))))

pub relax_at : (S : Marks) (u v l e : ℕ) → (S u).est ≡ Some e →
    Took u l e (S v) (relax u v l S v) ⊎ Kept l e (S v) (relax u v l S v)
relax_at S u v l e h =
    let P : Mark → Type 0 = λ x. Took u l e (S v) x ⊎ Kept l e (S v) x in
    subst P
    (sym (put_same S v (relaxed u l (S u).est (S v)) ∙ ap (λ o. relaxed u l o (S v)) h))
    (offered_cases u l e (S v) (S v).est refl)

pub relax_other : (S : Marks) (u v l x : ℕ) → (x ≡ v → ⊥) → relax u v l S x ≡ S x
relax_other S u v l x ne = put_other S v (relaxed u l (S u).est (S v)) x ne

pub enter_other : (R : Rules) (S : Marks) (v x : ℕ) → (x ≡ v → ⊥) → enter R v S x ≡ S x
enter_other R S v x ne = put_other S v (entered R v (S v).est (S v)) x ne

-- Going down from v to a node u that has no mark yet: it is within its allowance, or it becomes a breakpoint.
abbrev pub Within : Rules → (v u l e : ℕ) → Mark → Type 0
Within R v u l e m =
    (m ≡ hung v l (e + l) false) × (is_a_sink R u ≡ true → R.q * (e + l) ≤ (R.p + R.q) * R.direct u)

abbrev pub Breaks : Rules → (v u l e : ℕ) → Mark → Type 0
Breaks R v u l e m =
    (m ≡ hung v l (R.direct u) true) × (is_a_sink R u ≡ true) × ((R.p + R.q) * R.direct u < R.q * (e + l))

abbrev pub down : Rules → (v u l : ℕ) → Marks → Marks
down R v u l S = enter R u (relax v u l S)

pub down_other : (R : Rules) (S : Marks) (v u l x : ℕ) → (x ≡ u → ⊥) → down R v u l S x ≡ S x
down_other R S v u l x ne = enter_other R (relax v u l S) u x ne ∙ relax_other S v u l x ne

pub down_at : (R : Rules) (S : Marks) (v u l e : ℕ) → (S v).est ≡ Some e → S u ≡ blank →
    Within R v u l e (down R v u l S u) ⊎ Breaks R v u l e (down R v u l S u)
down_at R S v u l e h fresh =
    let P : Mark → Type 0 = λ x. Within R v u l e x ⊎ Breaks R v u l e x in
    let m : Mark = hung v l (e + l) false in
    let one : relax v u l S u ≡ m =
    put_same S u (relaxed v l (S v).est (S u)) ∙ (ap (λ o. relaxed v l o (S u)) h ∙ ap (λ k. relaxed v l (Some e) k) fresh) in
    let two : down R v u l S u ≡ entered R u (Some (e + l)) m =
    put_same (relax v u l S) u (entered R u (relax v u l S u).est (relax v u l S u)) ∙ ap (λ k. entered R u k.est k) one in
    let over : Bool = ltb ((R.p + R.q) * R.direct u) (R.q * (e + l)) in
    subst P (sym two)
    (cond_both (is_a_sink R u && over) (hung v l (R.direct u) true) m P
    (λ t.
    let both : (is_a_sink R u ≡ true) × (over ≡ true) = and_parts (is_a_sink R u) over t in
    inr (refl, both.0, ltb-true ((R.p + R.q) * R.direct u) (R.q * (e + l)) both.1))
    (λ t. inl (refl, λ s. within s (and_cases (is_a_sink R u) over t))))
  where
    within : is_a_sink R u ≡ true → (is_a_sink R u ≡ false) ⊎ (ltb ((R.p + R.q) * R.direct u) (R.q * (e + l)) ≡ false) →
        R.q * (e + l) ≤ (R.p + R.q) * R.direct u
    within s (inl n) = absurd (both_ways (is_a_sink R u) n s)
    within s (inr n) = ltb-false ((R.p + R.q) * R.direct u) (R.q * (e + l)) n

-- Before the first step only the driver has an estimate.
pub start_blank : (y : ℕ) → (y ≡ 0 → ⊥) → start y ≡ blank
start_blank y h = cond-false (eqb y 0) home blank (ne_eqb y 0 h)

pub start_est : (y e : ℕ) → (start y).est ≡ Some e → (y ≡ 0) ⊎ (y ≡ 0 → ⊥) → (y ≡ 0) × (e ≡ 0)
start_est y e h (inl s) = (s, sym (some_inj (sym (ap (λ z. (start z).est) s) ∙ h)))
start_est y e h (inr s) = absurd (none_some (sym (ap (λ m. m.est) (start_blank y s)) ∙ h))
