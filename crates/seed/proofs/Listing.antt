-- The ends of a seed's edges: an end more, an edge more, and the least end of those that count. Assumes nothing.
use Rattle.std.proofs.Common.{◌≡◌, ℕ, ◌<◌, ◌≤◌, min, true, false, ◌⊎◌, List, [], ◌∷◌, ◌++◌, length, get_or, Some, None, Option, sym, refl, ap, ◌∙◌, subst, inl, inr, ⊎_elim, arith}
use Rattle.std.specs.Bool.{nat_lt}
use Rattle.std.specs.List.{Contains, insert}
use Rattle.std.specs.List.Sorted.{IsNonDecreasingBy, IsPartitionPoint}
use Rattle.std.proofs.Math.Logic.{∥∥₁_elim}
use Rattle.std.proofs.Math.Bridge.{le_prop}
use Rattle.std.proofs.lemmas.Bool.{cases_eq, cases_lt, ltb-false, ltb-true}
use Rattle.std.proofs.lemmas.List.{get_or_default}
use Rattle.std.proofs.lemmas.List.Elements.{Contains-append_cases, Contains-append_right, Contains-push_cases}
use Rattle.std.proofs.lemmas.List.Sorted.{Contains-permutation, IsPermutation-insert, IsPermutation-sym}
use Rattle.forest.specs.declared.Edge.{Edge}
use Rattle.order.specs.Firsts.{Among}
use Rattle.order.specs.Firsts.Among.{here, there}
use Rattle.forest.specs.Edges.{Between, Near}
use Rattle.forest.specs.Growth.{LeastOf}
use Rattle.forest.proofs.Chains.{Newly, near_back, near_cases, near_new, near_none, near_push}
use Rattle.seed.specs.Ended.{IsEnd, Listed, OneEndMore, place, place_of}
use Rattle.seed.specs.declared.end.End.{End}
use Rattle.seed.specs.declared.store.TheConstants.{NODES}

-- ---- no ends

pub listed_none : (E : List Edge) (L : List End) → E ≡ [] → L ≡ [] → ∥ Listed E L ∥₁
listed_none E L p q = rw (p, q) (∣ (record { within = λ e h. absurd (omega (arith, h.1)); all = λ v u l h. absurd (near_none h) }) ∣₁)

-- ---- one end more

pub one_end_more : (L : List End) (i : ℕ) (x : End) → OneEndMore L x (insert L i x)
one_end_more L i x =
    let M = insert L i x in
    let p = IsPermutation-insert L i x in
    record {
      kept = λ e h. Contains-permutation (x ∷ L) M e p (Contains-append_right (x ∷ []) L e h);
      added = Contains-permutation (x ∷ L) M x p (0, omega arith, refl);
      only = λ e h.
          ⊎_elim (λ (k : Contains (x ∷ []) e). inr (only_one e k)) inl
          (Contains-append_cases (x ∷ []) L e (Contains-permutation M (x ∷ L) e (IsPermutation-sym (x ∷ L) M p) h));
    }
  where
    only_one : (e : End) → Contains (x ∷ []) e → e ≡ x
    only_one e h = ⊎_elim (λ (k : Contains [] e). absurd (omega (arith, k.1))) (λ (q : x ≡ e). sym q) (Contains-push_cases [] x e h)

-- ---- both ends of an edge more

near_end : (E : List Edge) (v u l : ℕ) (x e : End) → IsEnd v u l x → e ≡ x → Near E v u l → Near E e.node e.across e.length
near_end E v u l x e p z n = rw (z, p.0, p.1, p.2) n

pub listed_more : (E : List Edge) (d : Edge) (L M N : List End) (x y : End) → IsEnd d.a d.b d.length x → IsEnd d.b d.a d.length y → Listed E L → OneEndMore L x M → OneEndMore M y N → Listed (E ++ d ∷ []) N
listed_more E d L M N x y p q h m n =
    record {
      within = λ e c.
          ⊎_elim
          (λ (i : Contains M e).
          ⊎_elim (λ (j : Contains L e). near_push d (h.within e j)) (λ (z : e ≡ x). near_end (E ++ d ∷ []) d.a d.b d.length x e p z (near_new E d)) (m.only e i))
          (λ (z : e ≡ y). near_end (E ++ d ∷ []) d.b d.a d.length y e q z (near_back (near_new E d)))
          (n.only e c);
      all = λ v u l k.
          ⊎_elim
          (λ (i : Near E v u l). let r = h.all v u l i in (r.0, n.kept r.0 (m.kept r.0 r.1), r.2))
          (λ (i : Newly d v u l).
          ⊎_elim
          (λ (b : (d.a ≡ v) × (d.b ≡ u)). (x, n.kept x m.added, (p.0 ∙ b.0, p.1 ∙ b.1, p.2 ∙ i.1)))
          (λ (b : (d.a ≡ u) × (d.b ≡ v)). (y, n.added, (q.0 ∙ b.1, q.1 ∙ b.0, q.2 ∙ i.1)))
          i.0)
          (near_cases E d k);
    }

-- ---- the least end of those that count: none before the i-th of the list does

module _ {L : List End} (rises : IsNonDecreasingBy place_of L) {E : List Edge} (listed : Listed E L) (v w c t at i : ℕ) (start : t ≡ place v (min c NODES)) (point : IsPartitionPoint (λ e. nat_lt (place_of e) t ≡ true) (λ e. nat_lt (place_of e) t ≡ false) L at) (le : at ≤ i) (passed : (k : ℕ) (d : End) → at ≤ k → k < i → (get_or L k d).across ≡ w) where
  -- an end that counts: it stands at the i-th or later
  record Counts (x k : ℕ) : Type 0 where
    end : End
    is : IsEnd v x k end
    index : ℕ
    within : index < length L
    stands : get_or L index end ≡ end
    later : i ≤ index

  counts : (x k : ℕ) → Near E v x k → c ≤ x → (x ≡ w → ⊥) → Counts x k
  counts x k near low other =
      let r = listed.all v x k near in
      let e = r.0 in
      let j = r.1.0 in
      let stands : get_or L j e ≡ e = r.1.2 in
      let from : at ≤ j =
      ⊎_elim
      (λ (h : j < at).
      let below : place_of e < t = ltb-true _ _ (subst (λ y. nat_lt (place_of y) t ≡ true) stands (point.0 j e (omega arith) h)) in
      absurd (omega (arith, below, start, r.2.0, r.2.1, e.few, low)))
      (λ (h : at ≤ j). h)
      (cases_lt j at)
      in
      record {
        end = e;
        is = r.2;
        index = j;
        within = r.1.1;
        stands = stands;
        later = ⊎_elim (λ (h : j < i). absurd (other (sym r.2.1 ∙ sym (ap (λ y. y.across) stands) ∙ passed j e from h))) (λ (h : i ≤ j). h) (cases_lt j i);
      }

  pub none_left : length L ≤ i → LeastOf E v w c None
  none_left all x k near low other = let r = counts x k near low other in omega (arith, r.within, r.later, all)

  module _ (e : End) (lt : i < length L) (is : e ≡ get_or L i e) where
    from_start : t ≤ place_of e
    from_start = ltb-false _ _ (subst (λ y. nat_lt (place_of y) t ≡ false) (sym is) (point.1 i e le lt))

    first : (x k : ℕ) → Near E v x k → c ≤ x → (x ≡ w → ⊥) → place_of e ≤ place v x
    first x k near low other =
        let r = counts x k near low other in
        let q = rises i r.index e r.later r.within in
        let z : place_of (get_or L r.index e) ≡ place v x = ap place_of (get_or_default L r.index e r.end r.within ∙ r.stands) ∙ ap (λ y. place y r.end.across) r.is.0 ∙ ap (place v) r.is.1 in
        omega (arith, q, z, ap place_of is)

    pub none_there : (e.node ≡ v → ⊥) → LeastOf E v w c None
    none_there ne x k near low other =
        let r = counts x k near low other in
        let lead : x < NODES = omega (arith, r.is.1, r.end.few) in
        absurd (ne (omega (arith, from_start, start, first x k near low other, lead, e.few)))

    pub least_there : e.node ≡ v → (e.across ≡ w → ⊥) → LeastOf E v w c (Some (e.across, e.length))
    least_there at-v other =
        record {
          near = let P : ℕ → Type 0 = λ z. Near E z e.across e.length in subst P at-v (listed.within e (i, lt, sym is));
          from = omega (arith, from_start, start, at-v, e.few);
          other = other;
          least = λ x k near low ne. omega (arith, first x k near low ne, at-v);
        }

-- ---- whether an edge lies between two nodes is decided, so that what is only known to be there is found

both_or : (a u b v : ℕ) → ((a ≡ u) × (b ≡ v)) ⊎ ((a ≡ u) × (b ≡ v) → ⊥)
both_or a u b v =
    ⊎_elim
    (λ (p : a ≡ u). ⊎_elim (λ (q : b ≡ v). inl (p, q)) (λ (nq : b ≡ v → ⊥). inr (λ r. nq r.1)) (cases_eq b v))
    (λ (np : a ≡ u → ⊥). inr (λ r. np r.0))
    (cases_eq a u)

newly_or : (e : Edge) (u v l : ℕ) → Newly e u v l ⊎ (Newly e u v l → ⊥)
newly_or e u v l =
    ⊎_elim
    (λ (k : e.length ≡ l).
    ⊎_elim
    (λ (a : (e.a ≡ u) × (e.b ≡ v)). inl (inl a, k))
    (λ (na : (e.a ≡ u) × (e.b ≡ v) → ⊥).
    ⊎_elim
    (λ (b : (e.a ≡ v) × (e.b ≡ u)). inl (inr b, k))
    (λ (nb : (e.a ≡ v) × (e.b ≡ u) → ⊥). inr (λ n. ⊎_elim na nb n.0))
    (both_or e.a v e.b u))
    (both_or e.a u e.b v))
    (λ (nk : e.length ≡ l → ⊥). inr (λ n. nk n.1))
    (cases_eq e.length l)

near_or : (E : List Edge) (u v l : ℕ) → Near E u v l ⊎ (Near E u v l → ⊥)
near_or [] u v l = inr near_none
near_or (e ∷ E) u v l =
    ⊎_elim
    (λ (n : Newly e u v l). inl (record { edge = e; stands = here; between = n.0; long = n.1 }))
    (λ (other : Newly e u v l → ⊥).
    ⊎_elim
    (λ (n : Near E u v l). inl (record { edge = n.edge; stands = there n.stands; between = n.between; long = n.long }))
    (λ (none : Near E u v l → ⊥). inr (λ n. neither n.edge n.stands n.between n.long other none))
    (near_or E u v l))
    (newly_or e u v l)
  where
    neither : {e : Edge} {E : List Edge} {u v l : ℕ} (d : Edge) → Among d (e ∷ E) → Between d u v → d.length ≡ l → (Newly e u v l → ⊥) → (Near E u v l → ⊥) → ⊥
    neither d here b k other none = other (b, k)
    neither d (there a) b k other none = none (record { edge = d; stands = a; between = b; long = k })

never : (x y : ⊥) → x ≡ y
never x y = absurd x

pub least_found : (E : List Edge) (v w c : ℕ) (r : Option (ℕ × ℕ)) → ∥ LeastOf E v w c r ∥₁ → LeastOf E v w c r
least_found E v w c None h = λ x k near low ne. ∥∥₁_elim h never (λ n. n x k near low ne)
least_found E v w c (Some p) h =
    record {
      near = ⊎_elim (λ (n : Near E v p.0 p.1). n) (λ (none : Near E v p.0 p.1 → ⊥). absurd (∥∥₁_elim h never (λ r. none r.near))) (near_or E v p.0 p.1);
      from = ∥∥₁_elim h le_prop (λ r. r.from);
      other = λ e. ∥∥₁_elim h never (λ r. r.other e);
      least = λ x k near low ne. ∥∥₁_elim h le_prop (λ r. r.least x k near low ne);
    }
