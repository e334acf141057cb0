-- Lemmas on neighbours, on what edges join, and on one more edge.
use Rattle.std.proofs.Common.{◌≡◌, ℕ, ◌⊎◌, List, [], ◌∷◌, ◌++◌, sym, refl, subst, inl, inr, ⊎_elim}
use Rattle.std.proofs.lemmas.List.{append-nil, append_assoc}
use Rattle.order.specs.Firsts.{Among}
use Rattle.order.specs.Firsts.Among.{here}
use Rattle.order.proofs.Finding.{among_left, among_right, among_either, among_one, among_none}
use Rattle.forest.specs.declared.Edge.{Edge}
use Rattle.forest.specs.Edges.{Between, Near, Joined}
use Rattle.forest.specs.Edges.Joined.{same, step}

-- ---- an induction over the edges in the order in which they were taken

module _ {X : Type 0} (P : List X → Type 0) (more : (E : List X) (e : X) → P E → P (E ++ e ∷ [])) where
  pub pushed : (E D : List X) → P E → P (E ++ D)
  pushed E [] p = rw append-nil p
  pushed E (e ∷ D) p = rw append_assoc at (pushed (E ++ e ∷ []) D (more E e p))

pub by_pushes : {X : Type 0} (P : List X → Type 0) → P [] → ((E : List X) (e : X) → P E → P (E ++ e ∷ [])) → (E : List X) → P E
by_pushes P base more E = pushed P more [] E base

-- ---- neighbours

pub near_back : {E : List Edge} {u v l : ℕ} → Near E u v l → Near E v u l
near_back h = record { edge = h.edge; stands = h.stands; between = ⊎_elim inr inl h.between; long = h.long }

pub near_none : {u v l : ℕ} → Near [] u v l → ⊥
near_none h = among_none h.stands

pub near_push : {E : List Edge} {u v l : ℕ} (e : Edge) → Near E u v l → Near (E ++ e ∷ []) u v l
near_push {E} e h = record { edge = h.edge; stands = among_left E (e ∷ []) h.stands; between = h.between; long = h.long }

pub near_new : (E : List Edge) (e : Edge) → Near (E ++ e ∷ []) e.a e.b e.length
near_new E e = record { edge = e; stands = among_right E (e ∷ []) here; between = inl (refl, refl); long = refl }

-- the ends of the new edge, one way or the other
abbrev pub Newly : Edge → (u v l : ℕ) → Type 0
Newly e u v l = Between e u v × (e.length ≡ l)

pub near_cases : (E : List Edge) (e : Edge) {u v l : ℕ} → Near (E ++ e ∷ []) u v l → Near E u v l ⊎ Newly e u v l
near_cases E e {u} {v} {l} h =
    ⊎_elim
    (λ (s : Among h.edge E). inl (record { edge = h.edge; stands = s; between = h.between; long = h.long }))
    (λ (s : Among h.edge (e ∷ [])).
    let q : h.edge ≡ e = among_one s in
    let P : Edge → Type 0 = λ x. Newly x u v l in
    inr (subst P q (h.between, h.long)))
    (among_either E (e ∷ []) h.stands)

-- ---- joined

pub joined_one : {E : List Edge} {u v l : ℕ} → Near E u v l → Joined E u v
joined_one h = step h same

pub joined_on : {E : List Edge} {u v w : ℕ} → Joined E u v → Joined E v w → Joined E u w
joined_on same k = k
joined_on (step n h) k = step n (joined_on h k)

pub joined_back : {E : List Edge} {u v : ℕ} → Joined E u v → Joined E v u
joined_back same = same
joined_back (step n h) = joined_on (joined_back h) (joined_one (near_back n))

pub joined_push : {E : List Edge} {u v : ℕ} (e : Edge) → Joined E u v → Joined (E ++ e ∷ []) u v
joined_push e same = same
joined_push e (step n h) = step (near_push e n) (joined_push e h)

pub joined_new : (E : List Edge) (e : Edge) → Joined (E ++ e ∷ []) e.a e.b
joined_new E e = joined_one (near_new E e)

pub joined_none : {u v : ℕ} → Joined [] u v → u ≡ v
joined_none same = refl
joined_none (step n h) = absurd (near_none n)

-- over one more edge: joined before, or joined before with one end each
pub joined_push_cases : (E : List Edge) (e : Edge) {u v : ℕ} → Joined (E ++ e ∷ []) u v →
    Joined E u v ⊎ ((Joined E u e.a × Joined E e.b v) ⊎ (Joined E u e.b × Joined E e.a v))
joined_push_cases E e same = inl same
joined_push_cases E e {v = v} (step {a = u} {b = x} {l = l} n h) =
    let rest = joined_push_cases E e h in
    ⊎_elim
    (λ (o : Near E u x l).
    ⊎_elim
    (λ j. inl (step o j))
    (⊎_elim (λ j. inr (inl (step o j.0, j.1))) (λ j. inr (inr (step o j.0, j.1))))
    rest)
    (λ (k : Newly e u x l).
    ⊎_elim
    (λ (p : (e.a ≡ u) × (e.b ≡ x)).
    let P : ℕ → Type 0 = λ z. Joined E z e.a in
    let Q : ℕ → Type 0 = λ z. Joined E z v in
    let to : Joined E u e.a = subst P p.0 same in
    ⊎_elim
    (λ j. inr (inl (to, subst Q (sym p.1) j)))
    (⊎_elim (λ j. inr (inl (to, j.1))) (λ j. inl (joined_on to j.1)))
    rest)
    (λ (p : (e.a ≡ x) × (e.b ≡ u)).
    let P : ℕ → Type 0 = λ z. Joined E z e.b in
    let Q : ℕ → Type 0 = λ z. Joined E z v in
    let to : Joined E u e.b = subst P p.1 same in
    ⊎_elim
    (λ j. inr (inr (to, subst Q (sym p.0) j)))
    (⊎_elim (λ j. inl (joined_on to j.1)) (λ j. inr (inr (to, j.1))))
    rest)
    k.0)
    (near_cases E e n)

-- where every edge leads to nodes with P, so does every chain of edges
pub joined_within : {E : List Edge} (P : ℕ → Type 0) → ((x y l : ℕ) → Near E x y l → P y) → {u v : ℕ} → Joined E u v → (u ≡ v) ⊎ P v
joined_within P h same = inl refl
joined_within {E} P h {u} {v} (step {b = x} {l = l} n j) =
    ⊎_elim (λ (e : x ≡ v). inr (subst P e (h u x l n))) inr (joined_within P h j)

-- a node without edges is joined with no other
pub joined_alone : {E : List Edge} {u v : ℕ} → ((x l : ℕ) → Near E u x l → ⊥) → Joined E u v → u ≡ v
joined_alone h same = refl
joined_alone h (step {b = x} {l = l} n j) = absurd (h x l n)
