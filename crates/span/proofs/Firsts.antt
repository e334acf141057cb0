-- How the spanning seed grows: the first of the firsts is the first of all pairs, and each step keeps the firsts. Assumes nothing.
use Rattle.std.proofs.Common.{◌≡◌, ℕ, zero, suc, ◌+◌, ◌<◌, ◌≤◌, Bool, true, false, cond, ◌⊎◌, List, [], ◌∷◌, ◌++◌, map, length, filter, Some, None, Option, unwrap_or, sym, refl, ap, ◌∙◌, subst, inl, inr, ⊎_elim, arith}
use Rattle.std.proofs.lemmas.Bool.{cases_Bool, cases_eq, ne_eqb, eqb-false, not-true, not_from_false}
use Rattle.order.specs.Firsts.{Among, First, FirstOf}
use Rattle.order.specs.Firsts.Among.{here, there}
use Rattle.order.proofs.Finding.{among_either, among_left, among_none, among_one, among_right, first_keeps, first_one, first_takes, first_unique, never_itself, not_before}
use Rattle.forest.specs.Edges.{Joined, Near}
use Rattle.forest.specs.Edges.Joined.{same, step}
use Rattle.forest.specs.Labels.{label_of}
use Rattle.forest.specs.declared.Edge.{Edge}
use Rattle.forest.proofs.Accepted.{Accepted}
use Rattle.forest.proofs.Chains.{Newly, joined_new, joined_none, joined_on, joined_one, joined_push, near_cases}
use Rattle.forest.proofs.Heads.{one_part}
use Rattle.forest.proofs.Labelled.{joined_label}
use Rattle.span_laws.specs.LinkOrder.{link_order}
use Rattle.span_laws.specs.Links.{link_before}
use Rattle.span_laws.specs.Spanning.{FirstPair, Pair, link}
use Rattle.span_laws.specs.declared.link.Link.{Link}
use Rattle.span.specs.Growth.{Alone, FirstLinks, better, elsewhere, fan, offered_link}

-- ---- the first of two

first_better : (x y z : Link) → First link_before (x ∷ y ∷ []) z → z ≡ better x y
first_better x y z h =
    ⊎_elim
    (λ (e : link_before y x ≡ true).
    let f : First link_before (x ∷ y ∷ []) y = first_takes link_order (first_one link_order x) e in
    first_unique link_order h f ∙ ap (λ b. cond b y x) (sym e))
    (λ (e : link_before y x ≡ false).
    let f : First link_before (x ∷ y ∷ []) x = first_keeps link_order (first_one link_order x) e in
    first_unique link_order h f ∙ ap (λ b. cond b y x) (sym e))
    (cases_Bool (link_before y x))

pub first_of_two : (x y : Link) (r : Option Link) → FirstOf link_before (x ∷ y ∷ []) r → unwrap_or r x ≡ better x y
first_of_two x y (Some z) h = first_better x y z h
first_of_two x y None h = absurd (omega (arith, ap length h))

-- neither of two links comes before the better one, whatever the test says
better_cases : (P : Link → Type 0) (x y : Link) → (link_before y x ≡ true → P y) → (link_before y x ≡ false → P x) → P (better x y)
better_cases P x y t f =
    ⊎_elim
    (λ (e : link_before y x ≡ true). subst P (ap (λ b. cond b y x) (sym e)) (t e))
    (λ (e : link_before y x ≡ false). subst P (ap (λ b. cond b y x) (sym e)) (f e))
    (cases_Bool (link_before y x))

old_after : (x y : Link) → link_before x (better x y) ≡ false
old_after x y = better_cases (λ z. link_before x z ≡ false) x y (link_order.one_way y x) (λ _. never_itself link_order x)

new_after : (x y : Link) → link_before y (better x y) ≡ false
new_after x y = better_cases (λ z. link_before y z ≡ false) x y (λ _. never_itself link_order y) (λ e. e)

pub better_pin : (x : Link) (d : ℕ → ℕ → ℕ) (u : ℕ) → (offered_link d u x).v ≡ x.v
better_pin x d u = better_cases (λ z. z.v ≡ x.v) x (link d u x.v) (λ _. refl) (λ _. refl)

-- ---- lists of links

among_kept : (p : Link → Bool) (F : List Link) (x : Link) → Among x (filter p F) → Among x F × (p x ≡ true)
among_kept p [] x m = absurd (among_none m)
among_kept p (y ∷ F) x m =
    let Q : Bool → Type 0 = λ b. Among x (cond b (y ∷ filter p F) (filter p F)) in
    ⊎_elim
    (λ (e : p y ≡ true).
    ⊎_elim
    (λ (k : Among x (y ∷ [])).
    let i : x ≡ y = among_one k in
    (subst (λ (z : Link). Among x (z ∷ F)) i here, ap p i ∙ e))
    (λ (k : Among x (filter p F)). let r = among_kept p F x k in (there r.0, r.1))
    (among_either (y ∷ []) (filter p F) (subst Q e m)))
    (λ (e : p y ≡ false). let r = among_kept p F x (subst Q e m) in (there r.0, r.1))
    (cases_Bool (p y))

kept_among : (p : Link → Bool) (F : List Link) (x : Link) → Among x F → p x ≡ true → Among x (filter p F)
kept_among p [] x m e = elim m [ ]
kept_among p (y ∷ F) x here e = let Q : Bool → Type 0 = λ b. Among y (cond b (y ∷ filter p F) (filter p F)) in subst Q (sym e) here
kept_among p (y ∷ F) x (there m) e =
    ⊎_elim
    (λ (t : p y ≡ true). let Q : Bool → Type 0 = λ b. Among x (cond b (y ∷ filter p F) (filter p F)) in subst Q (sym t) (there (kept_among p F x m e)))
    (λ (t : p y ≡ false). let Q : Bool → Type 0 = λ b. Among x (cond b (y ∷ filter p F) (filter p F)) in subst Q (sym t) (kept_among p F x m e))
    (cases_Bool (p y))

among_map : (f : Link → Link) (F : List Link) (y : Link) → Among y (map f F) → (x : Link) × Among x F × (y ≡ f x)
among_map f [] y m = absurd (among_none m)
among_map f (x ∷ F) y here = (x, here, refl)
among_map f (x ∷ F) y (there m) = let r = among_map f F y m in (r.0, there r.1, r.2)

map_among : (f : Link → Link) (F : List Link) (x : Link) → Among x F → Among (f x) (map f F)
map_among f [] y m = elim m [ ]
map_among f (x ∷ F) y here = here
map_among f (x ∷ F) y (there m) = there (map_among f F y m)

-- ---- one step

pub alone_none : Alone []
alone_none v x out j = sym (joined_none j)

module _ (n : ℕ) (d : ℕ → ℕ → ℕ) (E : List Edge) (F : List Link) (fs : FirstLinks n d E F) (w : Link) (f : First link_before F w) where
  abbrev new : Edge
  new = record { a = w.u; b = w.v; length = w.length }

  -- the first of the firsts is the first of all pairs
  pub first_pair : FirstPair n d E w
  first_pair = record {
    pair = fs.pairs w f.stands;
    first = λ y p.
        let found = fs.all y.v p.outer p.outside in
        let x = found.0 in
        let P : Link → Type 0 = λ z. link_before z x ≡ false in
        let named : link d y.u x.v ≡ y = ap (link d y.u) found.2 ∙ ap (λ l. whole l y.u y.v) (sym p.long) in
        let behind : link_before y x ≡ false = subst P named (fs.firsts x found.1 y.u p.inner p.inside) in
        not_before link_order y x w behind (f.least x found.1);
  }
    where
      whole : (l u v : ℕ) → Link
      whole l u v = record { length = l; u = u; v = v }

  module _ (alone : Alone E) where
    pin : Pair n d E w
    pin = fs.pairs w f.stands

    -- what the new edge joins with pin 0 was inside, or is the new pin
    inside_before : (p x : ℕ) → Joined (E ++ new ∷ []) p x → Joined E 0 p ⊎ (p ≡ w.v) → Joined E 0 x ⊎ (x ≡ w.v)
    inside_before p x same h = h
    inside_before p x (step {b} near rest) h =
        inside_before b x rest
        (⊎_elim
        (λ (k : Near E p b _).
        ⊎_elim
        (λ (i : Joined E 0 p). inl (joined_on i (joined_one k)))
        (λ (i : p ≡ w.v).
        let P : ℕ → Type 0 = λ z. Joined E z b in
        inr (alone w.v b pin.outside (subst P i (joined_one k))))
        h)
        (λ (k : Newly new p b _).
        ⊎_elim
        (λ (q : (w.u ≡ p) × (w.v ≡ b)). inr (sym q.1))
        (λ (q : (w.u ≡ b) × (w.v ≡ p)). let P : ℕ → Type 0 = λ z. Joined E 0 z in inl (subst P q.0 pin.inside))
        k.0)
        (near_cases E new near))

    inside_split : (x : ℕ) → Joined (E ++ new ∷ []) 0 x → Joined E 0 x ⊎ (x ≡ w.v)
    inside_split x j = inside_before 0 x j (inl same)

    new_inside : Joined (E ++ new ∷ []) 0 w.v
    new_inside = joined_on (joined_push new pin.inside) (joined_new E new)

    alone_on : (v : ℕ) → (Joined (E ++ new ∷ []) 0 v → ⊥) → (p x : ℕ) → p ≡ v → Joined (E ++ new ∷ []) p x → x ≡ v
    alone_on v out p x e same = e
    alone_on v out p x e (step {b} near rest) =
        let P : ℕ → Type 0 = λ z. Joined E z b in
        alone_on v out b x
        (⊎_elim
        (λ (k : Near E p b _). alone v b (λ j. out (joined_push new j)) (subst P e (joined_one k)))
        (λ (k : Newly new p b _).
        ⊎_elim
        (λ (q : (w.u ≡ p) × (w.v ≡ b)). let Q : ℕ → Type 0 = λ z. Joined (E ++ new ∷ []) 0 z in absurd (out (subst Q (q.0 ∙ e) (joined_push new pin.inside))))
        (λ (q : (w.u ≡ b) × (w.v ≡ p)). let Q : ℕ → Type 0 = λ z. Joined (E ++ new ∷ []) 0 z in absurd (out (subst Q (q.1 ∙ e) new_inside)))
        k.0)
        (near_cases E new near))
        rest

    pub alone_more : Alone (E ++ new ∷ [])
    alone_more v x out j = alone_on v out v x refl j

    -- a link that stays: one of another outer pin, compared with the one from the new pin
    pub record Stays (y : Link) : Type 0 where
      pub old : Link
      pub stood : Among old F
      pub other : old.v ≡ w.v → ⊥
      pub is : y ≡ offered_link d w.v old

    stays : (y : Link) → Among y (map (offered_link d w.v) (filter (elsewhere w.v) F)) → Stays y
    stays y m =
        let r = among_map (offered_link d w.v) (filter (elsewhere w.v) F) y m in
        let k = among_kept (elsewhere w.v) F r.0 r.1 in
        record { old = r.0; stood = k.0; other = eqb-false _ _ (not-true _ k.1); is = r.2 }

    stays_pair : (y : Link) → Stays y → Pair n d (E ++ new ∷ []) y
    stays_pair y s =
        let p = fs.pairs s.old s.stood in
        let out : Joined (E ++ new ∷ []) 0 s.old.v → ⊥ = λ j. ⊎_elim p.outside s.other (inside_split s.old.v j) in
        subst (Pair n d (E ++ new ∷ [])) (sym s.is)
        (better_cases (Pair n d (E ++ new ∷ [])) s.old (link d w.v s.old.v)
        (λ _. record { inner = pin.outer; inside = new_inside; outer = p.outer; outside = out; long = refl })
        (λ _. record { inner = p.inner; inside = joined_push new p.inside; outer = p.outer; outside = out; long = p.long }))

    stays_first : (y : Link) → Stays y → (u : ℕ) → u < n → Joined (E ++ new ∷ []) 0 u → link_before (link d u y.v) y ≡ false
    stays_first y s u h j =
        let x = s.old in
        let z = offered_link d w.v x in
        let at-z : link_before (link d u x.v) z ≡ false =
        ⊎_elim
        (λ (i : Joined E 0 u). not_before link_order (link d u x.v) x z (fs.firsts x s.stood u h i) (old_after x (link d w.v x.v)))
        (λ (i : u ≡ w.v). let P : ℕ → Type 0 = λ k. link_before (link d k x.v) z ≡ false in subst P (sym i) (new_after x (link d w.v x.v)))
        (inside_split u j)
        in
        let P : Link → Type 0 = λ t. link_before (link d u t.v) t ≡ false in
        let Q : ℕ → Type 0 = λ k. link_before (link d u k) z ≡ false in
        subst P (sym s.is) (subst Q (sym (better_pin x d w.v)) at-z)

    pub firsts_more : FirstLinks n d (E ++ new ∷ []) (map (offered_link d w.v) (filter (elsewhere w.v) F))
    firsts_more = record {
      pairs = λ y m. stays_pair y (stays y m);
      firsts = λ y m. stays_first y (stays y m);
      all = λ v h out.
          let found = fs.all v h (λ j. out (joined_push new j)) in
          let x = found.0 in
          let Q : ℕ → Type 0 = λ z. Joined (E ++ new ∷ []) 0 z in
          let ne : x.v ≡ w.v → ⊥ = λ e. out (subst Q (sym e ∙ found.2) new_inside) in
          let kept = kept_among (elsewhere w.v) F x found.1 (not_from_false _ (ne_eqb _ _ ne)) in
          (offered_link d w.v x, map_among (offered_link d w.v) _ x kept, better_pin x d w.v ∙ found.2);
    }

-- ---- the start

-- among the links from pin 0 to the pins 1 to k are those and no others
among_fan : (d : ℕ → ℕ → ℕ) (k : ℕ) (x : Link) → Among x (fan d k) → (v : ℕ) × (0 < v) × (v ≤ k) × (x ≡ link d 0 v)
among_fan d zero x m = absurd (among_none m)
among_fan d (suc k) x m =
    ⊎_elim
    (λ (i : Among x (fan d k)). let r = among_fan d k x i in (r.0, r.1, omega (arith, r.2), r.3))
    (λ (i : Among x (link d 0 (suc k) ∷ [])). (suc k, omega arith, omega arith, among_one i))
    (among_either (fan d k) (link d 0 (suc k) ∷ []) m)

fan_among : (d : ℕ → ℕ → ℕ) (k v : ℕ) → 0 < v → v ≤ k → Among (link d 0 v) (fan d k)
fan_among d zero v h l = absurd (none v h l)
  where
    none : (v : ℕ) → 0 < v → v ≤ 0 → ⊥
    none v h l = omega arith
fan_among d (suc k) v h l =
    ⊎_elim
    (λ (e : v ≡ suc k). let P : ℕ → Type 0 = λ z. Among (link d 0 v) (fan d k ++ link d 0 z ∷ []) in subst P e (among_right (fan d k) (link d 0 v ∷ []) here))
    (λ (ne : v ≡ suc k → ⊥). among_left (fan d k) (link d 0 (suc k) ∷ []) (fan_among d k v h (omega arith)))
    (cases_eq v (suc k))

pub firsts_start : (n : ℕ) (d : ℕ → ℕ → ℕ) (k : ℕ) → k + 1 ≡ n → FirstLinks n d [] (fan d k)
firsts_start n d k e = record {
  pairs = λ x m.
      let r = among_fan d k x m in
      subst (Pair n d []) (sym r.3)
      (record { inner = omega arith; inside = same; outer = omega (arith, r.2); outside = λ j. omega (arith, joined_none j, r.1); long = refl });
  firsts = λ x m u h j.
      let r = among_fan d k x m in
      let P : Link → Type 0 = λ t. link_before (link d u t.v) t ≡ false in
      let Q : ℕ → Type 0 = λ z. link_before (link d z r.0) (link d 0 r.0) ≡ false in
      subst P (sym r.3) (subst Q (joined_none j) (never_itself link_order (link d 0 r.0)));
  all = λ v h out.
      let more : 0 < v = ⊎_elim (λ (z : v ≡ 0). let P : ℕ → Type 0 = λ y. Joined [] 0 y in absurd (out (subst P (sym z) same))) (λ (ne : v ≡ 0 → ⊥). positive v ne) (cases_eq v 0) in
      (link d 0 v, fan_among d k v more (omega arith), refl);
}
  where
    positive : (v : ℕ) → (v ≡ 0 → ⊥) → 0 < v
    positive v ne = omega arith

-- ---- the end

-- no firsts left: no pin is outside, and the edges are one fewer than the pins
pub firsts_none : (n : ℕ) (d : ℕ → ℕ → ℕ) (E : List Edge) → Accepted n E → 0 < n → FirstLinks n d E [] → length E + 1 ≡ n
firsts_none n d E a h fs =
    one_part a h
    (λ v k.
    ⊎_elim
    (λ (e : label_of E v ≡ label_of E 0). e)
    (λ (ne : label_of E v ≡ label_of E 0 → ⊥). absurd (among_none (fs.all v k (λ j. ne (sym (joined_label j)))).1))
    (cases_eq (label_of E v) (label_of E 0)))
