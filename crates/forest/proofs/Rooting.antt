-- Every part of accepted edges is a tree that can be seen from any of its nodes.
use Rattle.std.proofs.Common.{◌≡◌, ℕ, ◌+◌, ◌<◌, ◌≤◌, cond, eqb, ◌⊎◌, List, [], ◌∷◌, ◌++◌, length, sym, refl, ap, ◌∙◌, subst, inl, inr, ⊎_elim, arith}
use Rattle.std.proofs.lemmas.Bool.{cases_eq, eq-eqb, ne_eqb, cond-true, cond-false}
use Rattle.order.specs.Firsts.{Among}
use Rattle.forest.specs.declared.Edge.{Edge}
use Rattle.forest.specs.Edges.{Near, Fit}
use Rattle.forest.specs.Labels.{label_of}
use Rattle.forest.specs.Rooted.{Forest, wire_of, size_of, Ranked, In}
use Rattle.forest.specs.Rooted.Forest.{none, kid}
use Rattle.forest.specs.Rooted.In.{here, under, beside}
use Rattle.forest.specs.Growth.{Grows, Planted}
use Rattle.forest.specs.Growth.Grows.{bare, grown}
use Rattle.forest.proofs.Chains.{near_back, near_none, near_push, near_new, near_cases}
use Rattle.forest.proofs.Labelled.{merged_in, merged_out, label_push, label_joined}
use Rattle.forest.proofs.Accepted.{Accepted, accepted_good, near_below, near_other}
use Rattle.forest.proofs.Accepted.Accepted.{start, more}
use Rattle.forest.proofs.Heads.{one_label}
use Rattle.forest.proofs.Grafting.{Apart, total_of, Grafted, New, Clear, in_cases, grows_same, grows_turn, insert, graft}
use Rattle.forest.proofs.Parts.{pick_yes, pick_no, part_sum, part_none, part_push, part_join, part_keep, part_wire, part_count}

-- The forest is what is joined with r but for r itself, each node once.
pub record Rooted (E : List Edge) (r : ℕ) (F : Forest) : Type 0 where
  pub grows : Grows E r r 0 F
  pub apart : Apart F
  pub root : In r F → ⊥
  pub part : (x : ℕ) → In x F → label_of E x ≡ label_of E r
  pub whole : (x : ℕ) → (x ≡ r → ⊥) → label_of E x ≡ label_of E r → In x F
  pub total : (w : ℕ → ℕ) → total_of w F ≡ part_sum w (label_of E) (label_of E r) E

rooted_none : (r : ℕ) → Rooted [] r none
rooted_none r =
    record {
      grows = bare (λ x k n le ne. near_none n);
      apart = tt;
      root = λ i. elim i [ ];
      part = λ x i. elim i [ ];
      whole = λ x ne e. absurd (ne e);
      total = λ w. sym (part_none w (label_of []) r);
    }

new_push : (E : List Edge) (e : Edge) → New E (E ++ e ∷ []) e.a e.b e.length
new_push E e =
    record {
      old = λ u v k n. near_push e n;
      new = near_new E e;
      cases = λ u v k n.
          ⊎_elim inl
          (λ m. inr (⊎_elim (λ p. inl (sym p.0, sym p.1)) (λ p. inr (sym p.1, sym p.0)) m.0))
          (near_cases E e n);
    }

new_turned : {E E' : List Edge} {a b l : ℕ} → New E E' a b l → New E E' b a l
new_turned n =
    record {
      old = n.old;
      new = near_back n.new;
      cases = λ u v k m. ⊎_elim inl (λ h. inr (⊎_elim inr inl h)) (n.cases u v k m);
    }

-- ---- the part of r hangs together with the part of q by an edge between p and q

module _ (E E' : List Edge) (p q l r : ℕ) (new : New E E' p q l) (FR FQ : Forest) (R : Rooted E r FR) (Q : Rooted E q FQ)
    (level : label_of E r ≡ label_of E p) (apart : label_of E p ≡ label_of E q → ⊥) (loopless : (k : ℕ) → Near E q q k → ⊥) where
  two : p ≡ q → ⊥
  two e = apart (ap (label_of E) e)

  foreign : (x : ℕ) → label_of E x ≡ label_of E r → (x ≡ q → ⊥) × (In x FQ → ⊥)
  foreign x e = ((λ h. apart (sym level ∙ sym e ∙ ap (label_of E) h)), (λ i. apart (sym level ∙ sym e ∙ Q.part x i)))

  clear_q : Clear p q FQ
  clear_q x i = (
    (λ e. apart (ap (label_of E) (sym e) ∙ Q.part x i)),
    (λ e. Q.root (let P : ℕ → Type 0 = λ z. In z FQ in subst P e i)),
  )

  turned : Grows E' q p 0 FQ
  turned = grows_turn E E' p q l new two loopless clear_q Q.grows

  pub hung : (F' : Forest) × Grows E' r r 0 F' × Grafted q l FQ FR F'
  hung =
      ⊎_elim
      (λ (e : r ≡ p).
      let P : ℕ → Type 0 = λ z. (F' : Forest) × Grows E' z z 0 F' × Grafted q l FQ FR F' in
      let G : ℕ → Type 0 = λ z. Grows E z z 0 FR in
      let z≤q : 0 ≤ q = omega arith in
      subst P (sym e)
      (insert E E' p q l new two FQ Q.apart Q.root turned (λ h. two (sym h)) z≤q
      (λ x i. ((λ h. R.root (let I : ℕ → Type 0 = λ z. In z FR in subst I (h ∙ sym e) i)), (foreign x (R.part x i)).0))
      R.apart
      (λ x i. foreign x (R.part x i))
      (subst G e R.grows)))
      (λ (ne : r ≡ p → ⊥).
      graft E E' p q l new two FQ Q.apart Q.root turned (R.whole p (λ h. ne (sym h)) (sym level)) ne (foreign r refl).0 R.apart
      (λ x i. foreign x (R.part x i))
      R.grows)
      (cases_eq r p)

  -- z is the label of both parts after the edge
  module _ (z : ℕ) (hp : (x : ℕ) → label_of E x ≡ label_of E p → label_of E' x ≡ z) (hq : (x : ℕ) → label_of E x ≡ label_of E q → label_of E' x ≡ z)
      (only : (x : ℕ) → label_of E' x ≡ z → (label_of E x ≡ label_of E p) ⊎ (label_of E x ≡ label_of E q))
      (sum : (w : ℕ → ℕ) → part_sum w (label_of E') z E' ≡ part_sum w (label_of E') z E + w l) where
    pub rooted_hung : (F' : Forest) × Rooted E' r F'
    rooted_hung =
        let g = hung.2 in
        let at-r : label_of E' r ≡ z = hp r level in (
          hung.0,
          record {
            grows = hung.1;
            apart = g.apart;
            root = λ i. ⊎_elim R.root (⊎_elim (foreign r refl).0 (foreign r refl).1) (g.only r i);
            part = λ x i.
                ⊎_elim
                (λ (j : In x FR). hp x (R.part x j ∙ level))
                (⊎_elim (λ (e : x ≡ q). hq x (ap (label_of E) e)) (λ (j : In x FQ). hq x (Q.part x j)))
                (g.only x i)
                ∙ sym at-r;
            whole = λ x ne e.
                ⊎_elim
                (λ (h : label_of E x ≡ label_of E p). g.old x (R.whole x ne (h ∙ sym level)))
                (λ (h : label_of E x ≡ label_of E q).
                ⊎_elim
                (λ (j : x ≡ q). let P : ℕ → Type 0 = λ y. In y hung.0 in subst P (sym j) g.top)
                (λ (nj : x ≡ q → ⊥). g.new x (Q.whole x nj h))
                (cases_eq x q))
                (only x (e ∙ at-r));
            total = λ w.
                let f = label_of E in
                let s : part_sum w (label_of E') z E ≡ part_sum w f (f p) E + part_sum w f (f q) E = part_join w f (label_of E') (f p) (f q) z apart hp hq only E in
                let t : part_sum w (label_of E') (label_of E' r) E' ≡ part_sum w (label_of E') z E' = ap (λ y. part_sum w (label_of E') y E') at-r in
                let u : part_sum w f (f r) E ≡ part_sum w f (f p) E = ap (λ y. part_sum w f y E) level in
                omega (arith, g.total w, s, t, u, sum w, R.total w, Q.total w);
          },
        )

-- ---- the induction

module _ (n : ℕ) (E : List Edge) (e : Edge) (acc : Accepted n E) (fit : Fit n E e) (before : (r : ℕ) → (F : Forest) × Rooted E r F) where
  apart_ab : label_of E e.a ≡ label_of E e.b → ⊥
  apart_ab q = fit.4 (label_joined E e.a e.b q)

  to_a : (x : ℕ) → label_of E x ≡ label_of E e.a → label_of (E ++ e ∷ []) x ≡ label_of E e.a
  to_a x h = label_push E e x ∙ merged_out (label_of E) e x (λ k. apart_ab (sym h ∙ k)) ∙ h

  to_b : (x : ℕ) → label_of E x ≡ label_of E e.b → label_of (E ++ e ∷ []) x ≡ label_of E e.a
  to_b x h = label_push E e x ∙ merged_in (label_of E) e x h

  only_ab : (x : ℕ) → label_of (E ++ e ∷ []) x ≡ label_of E e.a → (label_of E x ≡ label_of E e.a) ⊎ (label_of E x ≡ label_of E e.b)
  only_ab x h =
      ⊎_elim
      (λ (k : label_of E x ≡ label_of E e.b). inr k)
      (λ (k : label_of E x ≡ label_of E e.b → ⊥). inl (sym (merged_out (label_of E) e x k) ∙ sym (label_push E e x) ∙ h))
      (cases_eq (label_of E x) (label_of E e.b))

  sum_ab : (w : ℕ → ℕ) → part_sum w (label_of (E ++ e ∷ [])) (label_of E e.a) (E ++ e ∷ []) ≡ part_sum w (label_of (E ++ e ∷ [])) (label_of E e.a) E + w e.length
  sum_ab w =
      let g = label_of (E ++ e ∷ []) in
      let z = label_of E e.a in
      omega (arith, part_push w g z E e, pick_yes (g e.a) z (w e.length) (to_a e.a refl))

  loop_free : (v k : ℕ) → Near E v v k → ⊥
  loop_free v k h = near_other acc h refl

  -- a part that the edge does not touch
  untouched : (r : ℕ) → (label_of E r ≡ label_of E e.a → ⊥) → (label_of E r ≡ label_of E e.b → ⊥) → (F : Forest) × Rooted (E ++ e ∷ []) r F
  untouched r na nb =
      let F = (before r).0 in
      let R = (before r).1 in
      let f = label_of E in
      let g = label_of (E ++ e ∷ []) in
      let stays : (x : ℕ) → f x ≡ f r → g x ≡ f r = λ x h. label_push E e x ∙ merged_out f e x (λ k. nb (sym h ∙ k)) ∙ h in
      let at-r : g r ≡ f r = stays r refl in
      let back : (x : ℕ) → g x ≡ f r → f x ≡ f r = λ x h.
      ⊎_elim
      (λ (k : f x ≡ f e.b). absurd (na (sym h ∙ to_b x k)))
      (λ (k : f x ≡ f e.b → ⊥). sym (merged_out f e x k) ∙ sym (label_push E e x) ∙ h)
      (cases_eq (f x) (f e.b))
      in (
        F,
        record {
          grows = grows_same E (E ++ e ∷ []) e.a e.b e.length (new_push E e) (λ h. apart_ab (ap f h)) (λ h. na (ap f h)) (λ h. nb (ap f h))
              (λ x i. ((λ h. na (sym (R.part x i) ∙ ap f h)), (λ h. nb (sym (R.part x i) ∙ ap f h))))
              R.grows;
          apart = R.apart;
          root = R.root;
          part = λ x i. stays x (R.part x i) ∙ sym at-r;
          whole = λ x ne h. R.whole x ne (back x (h ∙ at-r));
          total = λ w.
              let s : part_sum w g (f r) E ≡ part_sum w f (f r) E = part_keep w f g (f r) stays back E in
              let t : part_sum w g (g r) (E ++ e ∷ []) ≡ part_sum w g (f r) (E ++ e ∷ []) = ap (λ y. part_sum w g y (E ++ e ∷ [])) at-r in
              let off : g e.a ≡ f r → ⊥ = λ h. na (sym (sym (to_a e.a refl) ∙ h)) in
              omega (arith, s, t, part_push w g (f r) E e, pick_no (g e.a) (f r) (w e.length) off, R.total w);
        },
      )

  rooted_more : (r : ℕ) → (F : Forest) × Rooted (E ++ e ∷ []) r F
  rooted_more r =
      let a = e.a in
      let b = e.b in
      let f = label_of E in
      ⊎_elim
      (λ (h : f r ≡ f a).
      rooted_hung E (E ++ e ∷ []) a b e.length r (new_push E e) (before r).0 (before b).0 (before r).1 (before b).1 h apart_ab (loop_free b)
      (f a) to_a to_b only_ab sum_ab)
      (λ (na : f r ≡ f a → ⊥).
      ⊎_elim
      (λ (h : f r ≡ f b).
      rooted_hung E (E ++ e ∷ []) b a e.length r (new_turned (new_push E e)) (before r).0 (before a).0 (before r).1 (before a).1 h (λ k. apart_ab (sym k)) (loop_free a)
      (f a) to_b to_a (λ x k. ⊎_elim inr inl (only_ab x k)) sum_ab)
      (λ (nb : f r ≡ f b → ⊥). untouched r na nb)
      (cases_eq (f r) (f b)))
      (cases_eq (f r) (f a))

pub rooted : {n : ℕ} {E : List Edge} → Accepted n E → (r : ℕ) → (F : Forest) × Rooted E r F
rooted start r = (none, rooted_none r)
rooted {n} (more {E} {e} h f) r = rooted_more n E e h f (rooted h) r

-- ---- ranks along the walk

ranked_same : (n : ℕ) (f g : ℕ → ℕ) (lo : ℕ) (F : Forest) (hi : ℕ) → ((x : ℕ) → In x F → g x ≡ f x) → Ranked n f lo F hi → Ranked n g lo F hi
ranked_same n f g lo none hi h r = r
ranked_same n f g lo (kid u l B R) hi h r = (
  r.0,
  h u here ∙ r.1,
  (
    r.2.0,
    ranked_same n f g (lo + 1) B r.2.0 (λ x i. h x (under i)) r.2.1,
    ranked_same n f g r.2.0 R hi (λ x i. h x (beside i)) r.2.2,
  ),
)

pub ranks : (n lo : ℕ) (base : ℕ → ℕ) (F : Forest) → Apart F → ((x : ℕ) → In x F → x < n) →
    (rank : ℕ → ℕ) × Ranked n rank lo F (lo + size_of F) × ((x : ℕ) → (In x F → ⊥) → rank x ≡ base x)
ranks n lo base none d h = (base, omega arith, λ x i. refl)
ranks n lo base (kid u l B R) d h =
    let base1 : ℕ → ℕ = λ x. cond (eqb x u) lo (base x) in
    let s = ranks n (lo + 1) base1 B d.3 (λ x i. h x (under i)) in
    let t = ranks n (lo + 1 + size_of B) s.0 R d.4 (λ x i. h x (beside i)) in
    let at-u : base1 u ≡ lo = cond-true (eqb u u) lo (base u) (eq-eqb u u refl) in
    let e : lo + 1 + size_of B + size_of R ≡ lo + (1 + size_of B + size_of R) = omega arith in
    let P : ℕ → Type 0 = λ z. Ranked n t.0 (lo + 1 + size_of B) R z in (
      t.0,
      (
        h u here,
        t.2 u d.1 ∙ s.2 u d.0 ∙ at-u,
        (
          lo + 1 + size_of B,
          ranked_same n s.0 t.0 (lo + 1) B (lo + 1 + size_of B) (λ x i. t.2 x (λ j. d.2 x i j)) s.1,
          subst P e t.1,
        ),
      ),
      λ x i.
          t.2 x (λ j. i (beside j))
          ∙ s.2 x (λ j. i (under j))
          ∙ cond-false (eqb x u) lo (base x) (ne_eqb x u (λ k. i (let I : ℕ → Type 0 = λ z. In z (kid u l B R) in subst I (sym k) here))),
    )

-- ---- the whole seed

grows_below : {n : ℕ} {E : List Edge} {v w c : ℕ} {F : Forest} → Accepted n E → Grows E v w c F → (x : ℕ) → In x F → x < n
grows_below {n} h (bare k) x i = elim i [ ]
grows_below {n} h (grown {u = u} k g r) x i =
    ⊎_elim
    (λ (e : x ≡ u). let P : ℕ → Type 0 = λ z. z < n in subst P (sym e) (near_below h k.near))
    (⊎_elim (grows_below h g x) (grows_below h r x))
    (in_cases i)

total_wire : (F : Forest) → total_of (λ x. x) F ≡ wire_of F
total_wire none = refl
total_wire (kid u l B R) = omega (arith, total_wire B, total_wire R)

total_size : (F : Forest) → total_of (λ x. 1) F ≡ size_of F
total_size none = refl
total_size (kid u l B R) = omega (arith, total_size B, total_size R)

pub planted : {n : ℕ} {E : List Edge} → Accepted n E → length E + 1 ≡ n → Planted n E
planted {n} {E} h e =
    let t = rooted h 0 in
    let F = t.0 in
    let R = t.1 in
    let f = label_of E in
    let first : 0 < n = omega arith in
    let one : (d : Edge) → Among d E → f d.a ≡ f 0 = λ d i. one_label h e d.a 0 (accepted_good h d i).0 first in
    let k = ranks n 1 (λ x. 0) F R.apart (grows_below h R.grows) in
    let many : size_of F + 1 ≡ n = omega (arith, total_size F, R.total (λ x. 1), part_count f (f 0) E one) in
    let P : ℕ → Type 0 = λ z. Ranked n k.0 1 F z in
    let up : 1 + size_of F ≡ n = omega arith in
    record {
      forest = F;
      rank = k.0;
      grows = R.grows;
      root = k.2 0 R.root;
      ranked = subst P up k.1;
      all = λ v l ne. R.whole v ne (one_label h e v 0 l first);
      without = R.root;
      long = sym (total_wire F) ∙ R.total (λ x. x) ∙ part_wire f (f 0) E one;
      many = many;
    }
