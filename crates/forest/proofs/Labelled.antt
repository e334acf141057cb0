-- Nodes have equal labels exactly where the edges join them.
use Rattle.std.proofs.Common.{◌≡◌, ℕ, cond, eqb, List, [], ◌∷◌, ◌++◌, sym, refl, ap, ◌∙◌, subst, ⊎_elim}
use Rattle.std.proofs.lemmas.Bool.{cases_eq, eq-eqb, ne_eqb, cond-true, cond-false}
use Rattle.order.specs.Firsts.{Among}
use Rattle.order.proofs.Finding.{among_either, among_one, among_none}
use Rattle.forest.specs.declared.Edge.{Edge}
use Rattle.forest.specs.Edges.{Near, Joined}
use Rattle.forest.specs.Edges.Joined.{same, step}
use Rattle.forest.specs.Labels.{merged, labels_from, label_of}
use Rattle.forest.proofs.Chains.{by_pushes, joined_on, joined_back, joined_push, joined_new}

-- ---- one more edge

pub merged_in : (f : ℕ → ℕ) (e : Edge) (v : ℕ) → f v ≡ f e.b → merged f e v ≡ f e.a
merged_in f e v h = cond-true (eqb (f v) (f e.b)) (f e.a) (f v) (eq-eqb (f v) (f e.b) h)

pub merged_out : (f : ℕ → ℕ) (e : Edge) (v : ℕ) → (f v ≡ f e.b → ⊥) → merged f e v ≡ f v
merged_out f e v h = cond-false (eqb (f v) (f e.b)) (f e.a) (f v) (ne_eqb (f v) (f e.b) h)

-- the end a keeps its label, and the end b takes it
pub merged_a : (f : ℕ → ℕ) (e : Edge) → merged f e e.a ≡ f e.a
merged_a f e = ⊎_elim (merged_in f e e.a) (merged_out f e e.a) (cases_eq (f e.a) (f e.b))

pub merged_same : (f : ℕ → ℕ) (e : Edge) (u v : ℕ) → f u ≡ f v → merged f e u ≡ merged f e v
merged_same f e u v h = ap (λ x. cond (eqb x (f e.b)) (f e.a) x) h

pub labels_push : (f : ℕ → ℕ) (E : List Edge) (e : Edge) (v : ℕ) → labels_from f (E ++ e ∷ []) v ≡ merged (labels_from f E) e v
labels_push f [] e v = refl
labels_push f (d ∷ E) e v = labels_push (merged f d) E e v

pub label_push : (E : List Edge) (e : Edge) (v : ℕ) → label_of (E ++ e ∷ []) v ≡ merged (label_of E) e v
label_push E e v = labels_push (λ x. x) E e v

-- ---- equal labels are joined

abbrev Tells : List Edge → Type 0
Tells E = (u v : ℕ) → label_of E u ≡ label_of E v → Joined E u v

tells_more : (E : List Edge) (e : Edge) → Tells E → Tells (E ++ e ∷ [])
tells_more E e t u v h =
    let f : ℕ → ℕ = label_of E in
    let m : merged f e u ≡ merged f e v = sym (label_push E e u) ∙ h ∙ label_push E e v in
    let a = e.a in
    let b = e.b in
    let E' = E ++ e ∷ [] in
    let cross : Joined E' a b = joined_new E e in
    ⊎_elim
    (λ (p : f u ≡ f b).
    ⊎_elim
    (λ (q : f v ≡ f b). joined_push e (t u v (p ∙ sym q)))
    (λ (q : f v ≡ f b → ⊥).
    let k : f a ≡ f v = sym (merged_in f e u p) ∙ m ∙ merged_out f e v q in
    joined_on (joined_push e (t u b p)) (joined_on (joined_back cross) (joined_push e (t a v k))))
    (cases_eq (f v) (f b)))
    (λ (p : f u ≡ f b → ⊥).
    ⊎_elim
    (λ (q : f v ≡ f b).
    let k : f u ≡ f a = sym (merged_out f e u p) ∙ m ∙ merged_in f e v q in
    joined_on (joined_push e (t u a k)) (joined_on cross (joined_push e (t b v (sym q)))))
    (λ (q : f v ≡ f b → ⊥). joined_push e (t u v (sym (merged_out f e u p) ∙ m ∙ merged_out f e v q)))
    (cases_eq (f v) (f b)))
    (cases_eq (f u) (f b))

pub label_joined : (E : List Edge) (u v : ℕ) → label_of E u ≡ label_of E v → Joined E u v
label_joined E = by_pushes Tells (λ u v h. let P : ℕ → Type 0 = λ x. Joined [] u x in subst P h same) tells_more E

-- ---- joined nodes have equal labels

abbrev Level : List Edge → Type 0
Level E = (e : Edge) → Among e E → label_of E e.a ≡ label_of E e.b

level_more : (E : List Edge) (e : Edge) → Level E → Level (E ++ e ∷ [])
level_more E e t d s =
    let f : ℕ → ℕ = label_of E in
    let m : merged f e d.a ≡ merged f e d.b =
    ⊎_elim
    (λ (k : Among d E). merged_same f e d.a d.b (t d k))
    (λ (k : Among d (e ∷ [])).
    let q : d ≡ e = among_one k in
    let P : Edge → Type 0 = λ x. merged f e x.a ≡ merged f e x.b in
    subst P (sym q) (merged_a f e ∙ sym (merged_in f e e.b refl)))
    (among_either E (e ∷ []) s)
    in
    label_push E e d.a ∙ m ∙ sym (label_push E e d.b)

level : (E : List Edge) → Level E
level E = by_pushes Level (λ e s. absurd (among_none s)) level_more E

pub near_label : {E : List Edge} {u v l : ℕ} → Near E u v l → label_of E u ≡ label_of E v
near_label {E} {u} {v} h =
    let k : label_of E h.edge.a ≡ label_of E h.edge.b = level E h.edge h.stands in
    ⊎_elim
    (λ (p : (h.edge.a ≡ u) × (h.edge.b ≡ v)). ap (label_of E) (sym p.0) ∙ k ∙ ap (label_of E) p.1)
    (λ (p : (h.edge.a ≡ v) × (h.edge.b ≡ u)). ap (label_of E) (sym p.1) ∙ sym k ∙ ap (label_of E) p.0)
    h.between

pub joined_label : {E : List Edge} {u v : ℕ} → Joined E u v → label_of E u ≡ label_of E v
joined_label same = refl
joined_label (step n h) = near_label n ∙ joined_label h

-- each label is itself a node with that label
abbrev Heads : List Edge → Type 0
Heads E = (v : ℕ) → label_of E (label_of E v) ≡ label_of E v

heads_more : (E : List Edge) (e : Edge) → Heads E → Heads (E ++ e ∷ [])
heads_more E e t v =
    let f : ℕ → ℕ = label_of E in
    let m : merged f e (merged f e v) ≡ merged f e v =
    ⊎_elim
    (λ (p : f v ≡ f e.b).
    let i : merged f e v ≡ f e.a = merged_in f e v p in
    ap (merged f e) i ∙ merged_same f e (f e.a) e.a (t e.a) ∙ merged_a f e ∙ sym i)
    (λ (p : f v ≡ f e.b → ⊥).
    let i : merged f e v ≡ f v = merged_out f e v p in
    ap (merged f e) i ∙ merged_same f e (f v) v (t v))
    (cases_eq (f v) (f e.b))
    in
    ap (label_of (E ++ e ∷ [])) (label_push E e v) ∙ label_push E e (merged f e v) ∙ m ∙ sym (label_push E e v)

pub label_head : (E : List Edge) (v : ℕ) → label_of E (label_of E v) ≡ label_of E v
label_head E = by_pushes Heads (λ v. refl) heads_more E
