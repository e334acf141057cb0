-- The steps of a spanning seed: one more, the same by another measure, and that no other edges have them. Assumes nothing.
use Rattle.std.proofs.Common.{◌≡◌, ℕ, zero, suc, ◌+◌, ◌<◌, ◌≤◌, List, [], ◌∷◌, ◌++◌, length, get_or, take, sym, refl, ap, ◌∙◌, subst, ⊎_elim, add-one, arith}
use Rattle.std.proofs.lemmas.List.{length_push, get_or_push, take_all, take_more, take-append-le, get_or_append_left}
use Rattle.std.proofs.lemmas.Bool.{cases_lt}
use Rattle.forest.specs.Edges.{Joined}
use Rattle.forest.specs.declared.Edge.{Edge}
use Rattle.span_laws.specs.LinkOrder.{link_order}
use Rattle.span_laws.specs.Spanning.{FirstPair, Pair, SpanningSeed, Steps, link_of}
use Rattle.span_laws.specs.declared.link.Link.{Link}

-- ---- the steps so far

pub steps_none : (n : ℕ) (d : ℕ → ℕ → ℕ) → Steps n d []
steps_none n d i x h = absurd (none i h)
  where
    none : (i : ℕ) → i < 0 → ⊥
    none i h = omega arith

pub steps_more : (n : ℕ) (d : ℕ → ℕ → ℕ) (E : List Edge) (e : Edge) → Steps n d E → FirstPair n d E (link_of e) → Steps n d (E ++ e ∷ [])
steps_more n d E e s f i x h =
    ⊎_elim
    (λ (k : i < length E).
    let p : take i (E ++ e ∷ []) ≡ take i E = take-append-le i E (e ∷ []) (omega arith) in
    let q : get_or (E ++ e ∷ []) i x ≡ get_or E i x = get_or_append_left E (e ∷ []) x i k in
    rw (p, q) (s i x k))
    (λ (k : length E ≤ i).
    let j : i ≡ length E = omega (arith, length_push E e) in
    let p : take i (E ++ e ∷ []) ≡ E = take-append-le i E (e ∷ []) (omega arith) ∙ take_all i E (omega arith) in
    let q : get_or (E ++ e ∷ []) i x ≡ e = get_or_push E e x i (sym j) in
    rw (p, q) f)
    (cases_lt i (length E))

pub spanning : (n : ℕ) (d : ℕ → ℕ → ℕ) (E : List Edge) → Steps n d E → length E + 1 ≡ n → SpanningSeed n d E
spanning n d E s e = record { steps = s; whole = e }

-- ---- another way to measure that gives the same distances of different pins

module _ (n : ℕ) (d t : ℕ → ℕ → ℕ) (agree : (u v : ℕ) → u < n → v < n → (u ≡ v → ⊥) → d u v ≡ t u v) where
  pair_other : (d t : ℕ → ℕ → ℕ) → ((u v : ℕ) → u < n → v < n → (u ≡ v → ⊥) → d u v ≡ t u v) → (E : List Edge) (x : Link) → Pair n d E x → Pair n t E x
  pair_other d t agree E x p =
      let P : ℕ → Type 0 = λ z. Joined E 0 z in
      let ne : x.u ≡ x.v → ⊥ = λ e. p.outside (subst P e p.inside) in
      record { inner = p.inner; inside = p.inside; outer = p.outer; outside = p.outside; long = p.long ∙ agree x.u x.v p.inner p.outer ne }

  pub spanning_agrees : (E : List Edge) → SpanningSeed n d E → SpanningSeed n t E
  spanning_agrees E s = record {
    steps = λ i x h.
        let f = s.steps i x h in
        record {
          pair = pair_other d t agree (take i E) _ f.pair;
          first = λ y p. f.first y (pair_other t d (λ u v a b ne. sym (agree u v a b ne)) (take i E) y p);
        };
    whole = s.whole;
  }

-- ---- there is one spanning seed only

edge_of : (e f : Edge) → link_of e ≡ link_of f → e ≡ f
edge_of e f h = ap (λ (x : Link). back x) h
  where
    back : Link → Edge
    back x = record { a = x.u; b = x.v; length = x.length }

first_pair_only : (n : ℕ) (d : ℕ → ℕ → ℕ) (E : List Edge) (x y : Link) → FirstPair n d E x → FirstPair n d E y → x ≡ y
first_pair_only n d E x y f g = link_order.apart x y (g.first x f.pair) (f.first y g.pair)

fronts_agree : (n : ℕ) (d : ℕ → ℕ → ℕ) (E D : List Edge) (z : Edge) → Steps n d E → Steps n d D → length E ≡ length D → (i : ℕ) → i ≤ length E → take i E ≡ take i D
fronts_agree n d E D z s t e zero h = refl
fronts_agree n d E D z s t e (suc i) h =
    let le : i < length E = h in
    let before : take i E ≡ take i D = fronts_agree n d E D z s t e i (omega arith) in
    let P : List Edge → Type 0 = λ F. FirstPair n d F (link_of (get_or E i z)) in
    let same-edge : get_or E i z ≡ get_or D i z =
    edge_of (get_or E i z) (get_or D i z) (first_pair_only n d (take i D) _ _ (subst P before (s i z le)) (t i z (omega arith)))
    in
    ap (λ k. take k E) (sym (add-one i)) ∙ take_more E i z le ∙ ap (λ F. F ++ get_or E i z ∷ []) before
    ∙ ap (λ x. take i D ++ x ∷ []) same-edge ∙ sym (take_more D i z (omega arith)) ∙ ap (λ k. take k D) (add-one i)

pub spanning_only : (n : ℕ) (d : ℕ → ℕ → ℕ) (E D : List Edge) → SpanningSeed n d E → SpanningSeed n d D → E ≡ D
spanning_only n d E D s t =
    let same_length : length E ≡ length D = omega (arith, s.whole, t.whole) in
    let z : Edge = record { a = 0; b = 0; length = 0 } in
    sym (take_all (length E) E (omega arith)) ∙ fronts_agree n d E D z s.steps t.steps same_length (length E) (omega arith) ∙ take_all (length E) D (omega arith)
