-- Sound edges as they were taken, one after another.
use Rattle.std.proofs.Common.{◌≡◌, ℕ, zero, suc, ◌+◌, ◌*◌, ◌<◌, ◌≤◌, List, [], ◌∷◌, ◌++◌, length, get_or, take, sym, ◌∙◌, subst, ⊎_elim, add-one, arith}
use Rattle.std.proofs.lemmas.List.{take_more, take_all, take-append-le, get_or_append_left, get_or_push, length_push}
use Rattle.std.proofs.lemmas.Bool.{cases_lt}
use Rattle.space.specs.declared.TheConstants.{LONGEST}
use Rattle.order.specs.Firsts.{Among}
use Rattle.order.proofs.Finding.{among_either, among_one, among_none}
use Rattle.forest.specs.declared.Edge.{Edge}
use Rattle.forest.specs.Edges.{Near, Joined, Fit, Sound, wire}
use Rattle.forest.specs.Edges.Joined.{same}

-- Sound edges, built up one by one.
pub data Accepted (n : ℕ) : List Edge → Type 0 where
  start : Accepted n []
  more : {E : List Edge} {e : Edge} → Accepted n E → Fit n E e → Accepted n (E ++ e ∷ [])

pub accepted_front : (n : ℕ) (E : List Edge) (d : Edge) → Sound n E → (i : ℕ) → i ≤ length E → Accepted n (take i E)
accepted_front n E d s zero h = start
accepted_front n E d s (suc i) h =
    let lt : i < length E = omega arith in
    let e : take (i + 1) E ≡ take i E ++ get_or E i d ∷ [] = take_more E i d lt in
    let a : Accepted n (take (i + 1) E) = rw e (more (accepted_front n E d s i (omega arith)) (s i d lt)) in
    rw add-one at a

abbrev no_edge : Edge
no_edge = record { a = 0; b = 0; length = 0 }

pub accepted : (n : ℕ) (E : List Edge) → Sound n E → Accepted n E
accepted n E s = let e : take (length E) E ≡ E = take_all (length E) E (omega arith) in rw e at (accepted_front n E no_edge s (length E) (omega arith))

-- ---- how sound edges stay sound

pub sound_none : (n : ℕ) → Sound n []
sound_none n i d h = absurd (no_room i h)
  where
    no_room : (i : ℕ) → i < 0 → ⊥
    no_room i h = omega arith

pub sound_wider : (n m : ℕ) (E : List Edge) → n ≤ m → Sound n E → Sound m E
sound_wider n m E h s i d k =
    let f = s i d k in
    let p : (get_or E i d).a < m = omega (arith, f.0) in
    let q : (get_or E i d).b < m = omega (arith, f.1) in
    (p, q, f.2, f.3, f.4)

pub sound_push : (n : ℕ) (E : List Edge) (e : Edge) → Sound n E → Fit n E e → Sound n (E ++ e ∷ [])
sound_push n E e s f i d h =
    ⊎_elim
    (λ (k : i < length E).
    let p : take i (E ++ e ∷ []) ≡ take i E = take-append-le i E (e ∷ []) (omega arith) in
    let q : get_or (E ++ e ∷ []) i d ≡ get_or E i d = get_or_append_left E (e ∷ []) d i k in
    rw (p, q) (s i d k))
    (λ (k : length E ≤ i).
    let j : i ≡ length E = omega (arith, length_push E e) in
    let p : take i (E ++ e ∷ []) ≡ E = take-append-le i E (e ∷ []) (omega arith) ∙ take_all i E (omega arith) in
    let q : get_or (E ++ e ∷ []) i d ≡ e = get_or_push E e d i (sym j) in
    rw (p, q) f)
    (cases_lt i (length E))

-- ---- what every sound edge has

abbrev Good : ℕ → Edge → Type 0
Good n e = (e.a < n) × (e.b < n) × (0 < e.length) × (e.length ≤ LONGEST) × (e.a ≡ e.b → ⊥)

pub accepted_good : {n : ℕ} {E : List Edge} → Accepted n E → (e : Edge) → Among e E → Good n e
accepted_good start e s = absurd (among_none s)
accepted_good {n} (more {E} {e = d} h f) e s =
    ⊎_elim
    (λ (k : Among e E). accepted_good h e k)
    (λ (k : Among e (d ∷ [])).
    let q : e ≡ d = among_one k in
    let P : Edge → Type 0 = λ x. Good n x in
    subst P (sym q) (f.0, f.1, f.2, f.3, λ r. f.4 (let Q : ℕ → Type 0 = λ x. Joined E d.a x in subst Q r same)))
    (among_either E (d ∷ []) s)

pub near_below : {n : ℕ} {E : List Edge} {u v l : ℕ} → Accepted n E → Near E u v l → v < n
near_below {n} {E} {u} {v} h k =
    let g = accepted_good h k.edge k.stands in
    ⊎_elim
    (λ (p : (k.edge.a ≡ u) × (k.edge.b ≡ v)). let x : v < n = omega (arith, p.1, g.1) in x)
    (λ (p : (k.edge.a ≡ v) × (k.edge.b ≡ u)). let x : v < n = omega (arith, p.0, g.0) in x)
    k.between

pub near_other : {n : ℕ} {E : List Edge} {u v l : ℕ} → Accepted n E → Near E u v l → u ≡ v → ⊥
near_other {n} {E} {u} {v} h k q =
    let g = accepted_good h k.edge k.stands in
    ⊎_elim
    (λ (p : (k.edge.a ≡ u) × (k.edge.b ≡ v)). g.4 (p.0 ∙ q ∙ sym p.1))
    (λ (p : (k.edge.a ≡ v) × (k.edge.b ≡ u)). g.4 (p.0 ∙ sym q ∙ sym p.1))
    k.between

-- ---- the wire

pub wire_push : (E : List Edge) (e : Edge) → wire (E ++ e ∷ []) ≡ wire E + e.length
wire_push [] e = omega arith
wire_push (d ∷ E) e = let h = wire_push E e in omega arith

pub wire_bound : {n : ℕ} {E : List Edge} → Accepted n E → wire E ≤ LONGEST * length E
wire_bound start = omega arith
wire_bound (more {E} {e} h f) = omega (arith, wire_push E e, length_push E e, wire_bound h, f.3)
