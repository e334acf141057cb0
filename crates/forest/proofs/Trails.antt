-- Between joined nodes there is a path, and over accepted edges no other.
use Rattle.std.proofs.Common.{◌≡◌, ℕ, ◌+◌, ◌⊎◌, List, [], ◌∷◌, ◌++◌, length, sym, refl, ap, ◌∙◌, subst, inl, inr, ⊎_elim}
use Rattle.std.proofs.lemmas.Bool.{cases_eq}
use Rattle.order.specs.Firsts.{Among}
use Rattle.order.specs.Firsts.Among.{here, there}
use Rattle.order.proofs.Finding.{among_left, among_right, among_one, among_none}
use Rattle.forest.specs.declared.Edge.{Edge}
use Rattle.forest.specs.Edges.{Between, Near, Joined}
use Rattle.forest.specs.Edges.Joined.{same, step}
use Rattle.forest.specs.Paths.{NodeWay, Different, NodePath, IsTree}
use Rattle.forest.specs.Paths.NodeWay.{stay, go}
use Rattle.forest.proofs.Chains.{near_none, near_cases, joined_on, joined_back}
use Rattle.forest.proofs.Accepted.{Accepted}
use Rattle.forest.proofs.Accepted.Accepted.{start, more}
use Rattle.forest.proofs.Heads.{all_joined}

among_cons : {X : Type 0} {x y : X} {ns : List X} → Among x (y ∷ ns) → (x ≡ y) ⊎ Among x ns
among_cons here = inl refl
among_cons (there a) = inr a

among_or_not : (x : ℕ) (ns : List ℕ) → Among x ns ⊎ (Among x ns → ⊥)
among_or_not x [] = inr (λ a. among_none a)
among_or_not x (y ∷ ns) =
    ⊎_elim
    (λ (e : x ≡ y). let P : ℕ → Type 0 = λ z. Among x (z ∷ ns) in inl (subst P e here))
    (λ (ne : x ≡ y → ⊥). ⊎_elim (λ a. inl (there a)) (λ no. inr (λ a. ⊎_elim ne no (among_cons a))) (among_or_not x ns))
    (cases_eq x y)

pub way_joined : {E : List Edge} {u v : ℕ} {ns : List ℕ} → NodeWay E u v ns → Joined E u v
way_joined stay = same
way_joined (go n w) = step n (way_joined w)

way_starts : {E : List Edge} {u v : ℕ} {ns : List ℕ} → NodeWay E u v ns → Among u ns
way_starts stay = here
way_starts (go n w) = here

different_left : (xs ys : List ℕ) → Different (xs ++ ys) → Different xs
different_left [] ys d = tt
different_left (x ∷ xs) ys d = (λ a. d.0 (among_left xs ys a), different_left xs ys d.1)

different_right : (xs ys : List ℕ) → Different (xs ++ ys) → Different ys
different_right [] ys d = d
different_right (x ∷ xs) ys d = different_right xs ys d.1

-- ---- a path exists

-- the rest of a path from a node on it
cut : {E : List Edge} {u v : ℕ} {ns : List ℕ} → NodeWay E u v ns → Different ns → (x : ℕ) → Among x ns → (ms : List ℕ) × NodePath E x v ms
cut {E} {v = v} (stay {u}) d x a =
    let e : x ≡ u = among_one a in
    let P : ℕ → Type 0 = λ z. (ms : List ℕ) × NodePath E z u ms in
    subst P (sym e) (u ∷ [], record { way = stay; different = d })
cut {E} {v = v} (go {u} {ns = ns} n w) d x a =
    ⊎_elim
    (λ (e : x ≡ u).
    let P : ℕ → Type 0 = λ z. (ms : List ℕ) × NodePath E z v ms in
    subst P (sym e) (u ∷ ns, record { way = go n w; different = d }))
    (λ (i : Among x ns). cut w d.1 x i)
    (among_cons a)

pub joined_path : {E : List Edge} {u v : ℕ} → Joined E u v → (ns : List ℕ) × NodePath E u v ns
joined_path (same {a}) = (a ∷ [], record { way = stay; different = ((λ i. among_none i), tt) })
joined_path {E} {u} {v} (step n h) =
    let p = joined_path h in
    ⊎_elim
    (λ (i : Among u p.0). cut p.1.way p.1.different u i)
    (λ (no : Among u p.0 → ⊥). (u ∷ p.0, record { way = go n p.1.way; different = (no, p.1.different) }))
    (among_or_not u p.0)

-- ---- and no other: a path after one more edge between a and b goes over that edge at most once

data Split (E : List Edge) (a b : ℕ) : (u v : ℕ) → List ℕ → Type 0 where
  kept : {u v : ℕ} {ns : List ℕ} → NodeWay E u v ns → Split E a b u v ns
  over : {u v : ℕ} {xs ys : List ℕ} → NodeWay E u a xs → NodeWay E b v ys → Split E a b u v (xs ++ ys)
  back : {u v : ℕ} {xs ys : List ℕ} → NodeWay E u b xs → NodeWay E a v ys → Split E a b u v (xs ++ ys)

module _ (E : List Edge) (a b : ℕ) (new : Joined E a b → ⊥) where
  split_old : {u x v l : ℕ} {ns : List ℕ} → Near E u x l → Split E a b x v ns → Split E a b u v (u ∷ ns)
  split_old n (kept w) = kept (go n w)
  split_old {u} n (over {xs = xs} {ys = ys} w t) = over {xs = u ∷ xs} {ys = ys} (go n w) t
  split_old {u} n (back {xs = xs} {ys = ys} w t) = back {xs = u ∷ xs} {ys = ys} (go n w) t

  split_over : {v : ℕ} {ns : List ℕ} → Split E a b b v ns → (Among a ns → ⊥) → Split E a b a v (a ∷ ns)
  split_over {v} (kept {ns = ns} w) off = over {xs = a ∷ []} {ys = ns} stay w
  split_over (over w t) off = absurd (new (joined_back (way_joined w)))
  split_over (back {xs = xs} {ys = ys} w t) off = absurd (off (among_right xs ys (way_starts t)))

  split_back : {v : ℕ} {ns : List ℕ} → Split E a b a v ns → (Among b ns → ⊥) → Split E a b b v (b ∷ ns)
  split_back {v} (kept {ns = ns} w) off = back {xs = b ∷ []} {ys = ns} stay w
  split_back (over {xs = xs} {ys = ys} w t) off = absurd (off (among_right xs ys (way_starts t)))
  split_back (back w t) off = absurd (new (way_joined w))

  -- two paths of one kind are equal where that holds before the edge, and there are no two of different kinds
  module _ (before : (x y : ℕ) (xs ys : List ℕ) → NodePath E x y xs → NodePath E x y ys → xs ≡ ys) where
    agree : {u v : ℕ} {ns ms : List ℕ} → Split E a b u v ns → Split E a b u v ms → Different ns → Different ms → ns ≡ ms
    agree {u} {v} {ns} {ms} (kept w) (kept t) d e =
        before u v ns ms (record { way = w; different = d }) (record { way = t; different = e })
    agree (kept w) (over t r) d e = absurd (new (joined_on (joined_back (way_joined t)) (joined_on (way_joined w) (joined_back (way_joined r)))))
    agree (kept w) (back t r) d e = absurd (new (joined_on (way_joined r) (joined_on (joined_back (way_joined w)) (way_joined t))))
    agree (over t r) (kept w) d e = absurd (new (joined_on (joined_back (way_joined t)) (joined_on (way_joined w) (joined_back (way_joined r)))))
    agree (back t r) (kept w) d e = absurd (new (joined_on (way_joined r) (joined_on (joined_back (way_joined w)) (way_joined t))))
    agree (over t r) (back w s) d e = absurd (new (joined_on (joined_back (way_joined t)) (way_joined w)))
    agree (back t r) (over w s) d e = absurd (new (joined_on (joined_back (way_joined w)) (way_joined t)))
    agree {u} {v} (over {xs = xs} {ys = ys} t r) (over {xs = ps} {ys = qs} w s) d e =
        let p : xs ≡ ps = before u a xs ps (record { way = t; different = different_left xs ys d }) (record { way = w; different = different_left ps qs e }) in
        let q : ys ≡ qs = before b v ys qs (record { way = r; different = different_right xs ys d }) (record { way = s; different = different_right ps qs e }) in
        ap (λ z. z ++ ys) p ∙ ap (λ z. ps ++ z) q
    agree {u} {v} (back {xs = xs} {ys = ys} t r) (back {xs = ps} {ys = qs} w s) d e =
        let p : xs ≡ ps = before u b xs ps (record { way = t; different = different_left xs ys d }) (record { way = w; different = different_left ps qs e }) in
        let q : ys ≡ qs = before a v ys qs (record { way = r; different = different_right xs ys d }) (record { way = s; different = different_right ps qs e }) in
        ap (λ z. z ++ ys) p ∙ ap (λ z. ps ++ z) q

split : (E : List Edge) (e : Edge) → (Joined E e.a e.b → ⊥) → {u v : ℕ} {ns : List ℕ} → NodeWay (E ++ e ∷ []) u v ns → Different ns → Split E e.a e.b u v ns
split E e new stay d = kept stay
split E e new {v = v} (go {u} {x} {l = l} {ns = ns} n w) d =
    let s : Split E e.a e.b x v ns = split E e new w d.1 in
    ⊎_elim
    (λ (o : Near E u x l). split_old E e.a e.b new o s)
    (λ (k : Between e u x × (e.length ≡ l)).
    ⊎_elim
    (λ (p : (e.a ≡ u) × (e.b ≡ x)).
    let X : ℕ → Type 0 = λ z. Split E e.a e.b z v ns in
    let N : ℕ → Type 0 = λ z. Among z ns → ⊥ in
    let U : ℕ → Type 0 = λ z. Split E e.a e.b z v (z ∷ ns) in
    subst U p.0 (split_over E e.a e.b new (subst X (sym p.1) s) (subst N (sym p.0) d.0)))
    (λ (p : (e.a ≡ x) × (e.b ≡ u)).
    let X : ℕ → Type 0 = λ z. Split E e.a e.b z v ns in
    let N : ℕ → Type 0 = λ z. Among z ns → ⊥ in
    let U : ℕ → Type 0 = λ z. Split E e.a e.b z v (z ∷ ns) in
    subst U p.1 (split_back E e.a e.b new (subst X (sym p.0) s) (subst N (sym p.1) d.0)))
    k.0)
    (near_cases E e n)

way_none : {u v : ℕ} {ns : List ℕ} → NodeWay [] u v ns → ns ≡ u ∷ []
way_none stay = refl
way_none (go n w) = absurd (near_none n)

pub path_unique : {n : ℕ} {E : List Edge} → Accepted n E → (u v : ℕ) (ns ms : List ℕ) → NodePath E u v ns → NodePath E u v ms → ns ≡ ms
path_unique start u v ns ms p q = way_none p.way ∙ sym (way_none q.way)
path_unique (more {E} {e} h f) u v ns ms p q =
    agree E e.a e.b f.4 (path_unique h)
    (split E e f.4 p.way p.different)
    (split E e f.4 q.way q.different)
    p.different q.different

pub tree : {n : ℕ} {E : List Edge} → Accepted n E → length E + 1 ≡ n → IsTree n E
tree {n} {E} h e u v k l =
    let p = joined_path (all_joined h e u v k l) in
    (p.0, p.1, λ ms q. path_unique h u v ms p.0 q p.1)
