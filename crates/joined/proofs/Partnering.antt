-- The first of the pairs of one member, and the firsts of all members. Assumes nothing.
use Rattle.std.proofs.Common.{◌≡◌, ℕ, suc, ◌+◌, ◌<◌, ◌≤◌, Bool, true, false, cond, ltb, ◌⊎◌, List, [], ◌∷◌, ◌++◌, length, get_or, take, Some, None, Option, sym, refl, ap, ◌∙◌, subst, inl, inr, ⊎_elim, arith}
use Rattle.std.proofs.lemmas.Bool.{both_ways, cases_Bool, cases_lt, cond-true, le-ltb, ltb-false}
use Rattle.order.specs.Orders.{then_by}
use Rattle.order.specs.Firsts.{Among, FirstOf}
use Rattle.order.specs.Firsts.Among.{here}
use Rattle.order.proofs.Finding.{among_either, among_left, among_none, among_one, among_right, never_itself}
use Rattle.space.specs.declared.Space.{Ghosts}
use Rattle.space.specs.declared.spot.Spot.{Spot}
use Rattle.tree_laws.specs.declared.Row.{Row}
use Rattle.space.specs.Totals.{capped_distance}
use Rattle.order.specs.Bests.{BestOf, Decides}
use Rattle.order.specs.Lexical.{then_above, then_level}
use Rattle.order.proofs.Deciding.{Below, below_at, below_last, below_more, decides_first, decides_push}
use Rattle.build_laws.specs.Joining.{Farthest, PairOf, far_of}
use Rattle.build_laws.specs.declared.pair.Pair.{Pair}
use Rattle.joined.specs.Pairs.{PairRenewed, FirstPairs, FirstsOf, Held, Lasting, NoFarther, PairIn, Partner, PartnerAt, PairsReady, pair_of}
use Rattle.build_laws.specs.Pairs.{pair_before, pair_order, same_pair}
use Rattle.joined.specs.Joinings.{Rising}
use Rattle.joined.proofs.Keeping.{among_here, among_next, among_place}
use Rattle.joined.proofs.Rising.{rising_later}

-- what does not come first is not less
pub then_lead : (a b : ℕ) (r : Bool) → then_by a b r ≡ false → b ≤ a
then_lead a b r h =
    ⊎_elim
    (λ (t : ltb a b ≡ true). absurd (both_ways (then_by a b r) h (cond-true (ltb a b) true (cond (ltb b a) false r) t)))
    (λ (f : ltb a b ≡ false). ltb-false a b f)
    (cases_Bool (ltb a b))

-- what is not less, and does not come first among equals, does not come first
then_not : (a b : ℕ) (r : Bool) → b ≤ a → r ≡ false → then_by a b r ≡ false
then_not a b r h e =
    ⊎_elim
    (λ (k : b < a). then_above a b r k)
    (λ (k : a ≤ b). let l : a ≡ b = omega arith in then_level a b r l ∙ e)
    (cases_lt b a)

-- a pair that is no farther and whose numbers are no lower does not come before
pair_not : (x y : Pair) → x.far ≤ y.far → y.a ≤ x.a → y.b ≤ x.b → pair_before x y ≡ false
pair_not x y f h k = then_not y.far x.far _ f (then_not x.a y.a _ h (le-ltb x.b y.b k))

-- A pair that is 1 farther than those listed is `least` far, or no pair is listed.
abbrev pub Least : List Pair → ℕ → Type 0
Least F least = (least ≡ 0) ⊎ ((w : Pair) × Among w F × (w.far + 1 ≡ least))

farthest : (F : List Pair) (least : ℕ) → Least F least → 0 < least → (w : Pair) × Among w F × (w.far + 1 ≡ least)
farthest F least (inl e) h = absurd (omega (arith, e, h))
farthest F least (inr w) h = w

module _ (d : Spot → Spot → ℕ) (j : Spot → Spot → Spot → Spot) (rows : List Row) where
  -- ---- the pairs of one member

  -- the member at a place is a member, and every member has a place
  pub partner_every : (group : List ℕ) (b i : ℕ) (p : Pair) → PartnerAt d j rows group b i p → Partner d j rows group b p
  partner_every group b i p q =
      let P : ℕ → Type 0 = λ x. Among x group in
      let e : p.b ≡ b = ap (λ (z : Pair). z.b) q.is in
      record {
        member = subst P (sym q.member) (among_here group i 0 q.place);
        lower = q.lower;
        second = e;
        long = ap (λ (z : Pair). z.far) q.is ∙ ap (far_of d j rows p.a) (sym e);
      }

  pub partner_number : (group : List ℕ) (b : ℕ) (p : Pair) → Partner d j rows group b p → (i : ℕ) × (i < length group) × PartnerAt d j rows group b i p
  partner_number group b p q =
      let k = among_place group p.a q.member in (
        k.0,
        k.1,
        record {
          place = k.1;
          member = k.2;
          lower = q.lower;
          is = same_pair p (pair_of d j rows p.a b) (q.long ∙ ap (far_of d j rows p.a) q.second) refl q.second;
        },
      )

  -- the pair with the member at a place is the only one there
  partner_only : (group : List ℕ) (b i : ℕ) (p m : Pair) → PartnerAt d j rows group b i p → PartnerAt d j rows group b i m → m ≡ p
  partner_only group b i p m q r = r.is ∙ ap (λ n. pair_of d j rows n b) (r.member ∙ sym q.member) ∙ sym q.is

  -- ---- the pairs of one member that may be its first

  module _ (group : List ℕ) (b : ℕ) (rising : Rising group) where
    abbrev At : ℕ → Pair → Type 0
    At = PartnerAt d j rows group b

    -- a pair that is no farther than one before it is not the first
    not_farther : (n k : ℕ) (w m : Pair) → Below At n w → At k m → n ≤ k → m.far ≤ w.far → pair_before m w ≡ false
    not_farther n k w m q r h f =
        pair_not m w f
        (omega (arith, rising_later group rising q.0 k (omega (arith, q.1, h)) r.place, r.member, q.2.member))
        (omega (arith, ap (λ (z : Pair). z.b) r.is, ap (λ (z : Pair). z.b) q.2.is))

    pub list_more : (n : ℕ) (F : List Pair) (p : Pair) → Decides pair_before (Below At n) F → At n p → Decides pair_before (Below At (suc n)) (F ++ p ∷ [])
    list_more n F p l q =
        let P : Pair → Type 0 = λ z. pair_before z p ≡ false in
        decides_push pair_before (Below At n) (At n) (Below At (suc n)) (below_more At n) (below_at At n) (below_last At n) F l p
        (q, λ m r. subst P (sym (partner_only group b n p m q r)) (never_itself pair_order p))

    pub list_same : (n : ℕ) (F : List Pair) (p : Pair) (least : ℕ) → Decides pair_before (Below At n) F → Least F least → At n p → p.far < least → Decides pair_before (Below At (suc n)) F
    list_same n F p least l e q h =
        record {
          within = λ m i. below_more At n m (l.within m i);
          beaten = λ m r.
              ⊎_elim
              (λ (z : Below At n m). l.beaten m z)
              (λ (z : At n m).
              let k = farthest F least e (omega arith) in
              (k.0, k.1, not_farther n n k.0 m (l.within k.0 k.1) z (omega arith) (omega (arith, h, k.2, ap (λ (z : Pair). z.far) (partner_only group b n p m q z)))))
              (below_last At n m r);
        }

    -- what is listed decides, where no member is left that is lower, or a pair is as far as a pair can be
    pub list_ends : (n : ℕ) (F : List Pair) (least most : ℕ) → Decides pair_before (Below At n) F → Least F least → NoFarther d j rows group b most → (n < length group → b ≤ get_or group n 0 ⊎ most < least) → Decides pair_before (Partner d j rows group b) F
    list_ends n F least most l e near ends =
        record {
          within = λ m i. let q = l.within m i in partner_every group b q.0 m q.2;
          beaten = λ m h.
              let k = partner_number group b m h in
              ⊎_elim
              (λ (z : k.0 < n). l.beaten m (k.0, z, k.2))
              (λ (z : n ≤ k.0).
              ⊎_elim
              (λ (y : b ≤ get_or group n 0). absurd (omega (arith, rising_later group rising n k.0 z k.1, k.2.member, h.lower, y)))
              (λ (y : most < least).
              let w = farthest F least e (omega arith) in
              (w.0, w.1, not_farther n k.0 w.0 m (l.within w.0 w.1) k.2 z (omega (arith, near m h, y, w.2))))
              (ends (omega (arith, z, k.1))))
              (cases_lt k.0 n);
        }

  -- ---- the firsts of several members

  module _ (group : List ℕ) (B C : ℕ → Type 0) (b : ℕ) (either : (x : ℕ) → C x → (p : Pair) → Partner d j rows group x p → B x ⊎ (x ≡ b)) (F : List Pair) (f : FirstsOf d j rows group B F) where
    pub firsts_same : ((p : Pair) → Partner d j rows group b p → ⊥) → FirstsOf d j rows group C F
    firsts_same h =
        record {
          each = f.each;
          all = λ x y p q.
              ⊎_elim
              (λ (z : B x). f.all x z p q)
              (λ (e : x ≡ b). let P : ℕ → Type 0 = λ n. Partner d j rows group n p in absurd (h p (subst P e q)))
              (either x y p q);
        }

    pub firsts_push : (w : Pair) → Held d j rows group w → w.b ≡ b → FirstsOf d j rows group C (F ++ w ∷ [])
    firsts_push w h k =
        record {
          each = λ p i.
              ⊎_elim
              (λ (z : Among p F). f.each p z)
              (λ (z : Among p (w ∷ [])). subst (Held d j rows group) (sym (among_one z)) h)
              (among_either F (w ∷ []) i);
          all = λ x y p q.
              ⊎_elim
              (λ (z : B x). let o = f.all x z p q in (o.0, among_left F (w ∷ []) o.1, o.2))
              (λ (e : x ≡ b). (w, among_right F (w ∷ []) here, k ∙ sym e))
              (either x y p q);
        }

  pub firsts_none : (group : List ℕ) (B : ℕ → Type 0) → ((x : ℕ) → B x → ⊥) → FirstsOf d j rows group B []
  firsts_none group B h = record { each = λ p i. absurd (among_none i); all = λ x y p q. absurd (h x y) }

  -- the first of a member is one that is held
  pub held : (group : List ℕ) (b : ℕ) (w : Pair) → Among b group → BestOf pair_before (Partner d j rows group b) (Some w) → Held d j rows group w
  held group b w i q =
      let P : ℕ → Type 0 = λ n. Among n group in
      let Q : ℕ → Type 0 = λ n. BestOf pair_before (Partner d j rows group n) (Some w) in
      record { member = subst P (sym q.0.second) i; best = subst Q (sym q.0.second) q }

  -- ---- the firsts once a and b have gone

  -- x is the next of the old pairs, and F holds the firsts of those before it
  module _ (group : List ℕ) (a b : ℕ) (olds : List Pair) (i : ℕ) (x : Pair) (h : i < length olds) (is : x ≡ get_or olds i x) (F : List Pair) (f : FirstsOf d j rows group (Lasting d j a b (take i olds)) F) where
    next : (y : ℕ) → Lasting d j a b (take (i + 1) olds) y → Lasting d j a b (take i olds) y ⊎ ((y ≡ x.b) × (y ≡ a → ⊥) × (y ≡ b → ⊥))
    next y (old, m, e, na, nb) =
        ⊎_elim
        (λ (k : Among old (take i olds)). inl (old, k, e, na, nb))
        (λ (k : old ≡ get_or olds i x). inr (sym e ∙ ap (λ (z : Pair). z.b) (k ∙ sym is), na, nb))
        (among_next olds i x h old m)

    pub renewed_kept : (w : Pair) → PairRenewed d j rows group a b x (Some w) → FirstsOf d j rows group (Lasting d j a b (take (i + 1) olds)) (F ++ w ∷ [])
    renewed_kept w r =
        firsts_push group (Lasting d j a b (take i olds)) (Lasting d j a b (take (i + 1) olds)) x.b
        (λ y l p q. ⊎_elim (λ z. inl z) (λ z. inr z.0) (next y l))
        F f w r.0 r.1

    pub renewed_left : PairRenewed d j rows group a b x None → FirstsOf d j rows group (Lasting d j a b (take (i + 1) olds)) F
    renewed_left r =
        firsts_same group (Lasting d j a b (take i olds)) (Lasting d j a b (take (i + 1) olds)) 0
        (λ y l p q.
        let P : ℕ → Type 0 = λ n. Partner d j rows group n p in
        ⊎_elim (λ z. inl z) (λ z. absurd (r (λ e. z.1 (z.0 ∙ e)) (λ e. z.2 (z.0 ∙ e)) p (subst P z.0 q))) (next y l))
        F f (λ p q. omega (arith, q.lower))

  module _ (group : List ℕ) (a b new : ℕ) (olds : List Pair) (r : PairsReady d j rows group a b new olds) (F : List Pair) (f : FirstsOf d j rows group (Lasting d j a b olds) F) where
    turned : (x : ℕ) → Among x group → (p : Pair) → Partner d j rows group x p → Lasting d j a b olds x ⊎ (x ≡ new)
    turned x i p q = ⊎_elim (λ (e : x ≡ new). inr e) (λ (y : Lasting d j a b olds x). inl y) (r.all x i p q)

    pub renewed_none : BestOf pair_before (Partner d j rows group new) None → FirstPairs d j rows group F
    renewed_none q = firsts_same group (Lasting d j a b olds) (λ x. Among x group) new turned F f q

    pub renewed_some : (w : Pair) → BestOf pair_before (Partner d j rows group new) (Some w) → FirstPairs d j rows group (F ++ w ∷ [])
    renewed_some w q = firsts_push group (Lasting d j a b olds) (λ x. Among x group) new turned F f w (held group new w r.member q) q.0.second

  -- ---- the first of the firsts

  pub firsts_decide : (group : List ℕ) (F : List Pair) → FirstPairs d j rows group F → Decides pair_before (PairIn d j rows group) F
  firsts_decide group F f =
      record {
        within = λ m i.
            let h = f.each m i in
            record { pair = record { first = h.best.0.member; second = h.member; ordered = h.best.0.lower }; long = h.best.0.long };
        beaten = λ m q.
            let r : Partner d j rows group m.b m = record { member = q.pair.first; lower = q.pair.ordered; second = refl; long = q.long } in
            let o = f.all m.b q.pair.second m r in
            let P : ℕ → Type 0 = λ n. Partner d j rows group n m in
            (o.0, o.1, (f.each o.0 o.1).best.1 m (subst P (sym o.2) r));
      }

  pub firsts_best : (group : List ℕ) (F : List Pair) (r : Option Pair) → FirstPairs d j rows group F → FirstOf pair_before F r → BestOf pair_before (PairIn d j rows group) r
  firsts_best group F r f g = decides_first pair_order (PairIn d j rows group) F r (firsts_decide group F f) g

  paired : (group : List ℕ) (a b : ℕ) → PairOf d j group a b → PairIn d j rows group (pair_of d j rows a b)
  paired group a b p = record { pair = p; long = refl }

  pub best_farthest : (group : List ℕ) (p : Pair) → BestOf pair_before (PairIn d j rows group) (Some p) → Farthest d j rows group p.a p.b
  best_farthest group p q =
      let P : ℕ → Type 0 = λ n. (x y : ℕ) → PairOf d j group x y → pair_before (pair_of d j rows x y) (record { far = n; a = p.a; b = p.b }) ≡ false in
      record { pair = q.0.pair; first = subst P q.0.long (λ x y h. q.1 (pair_of d j rows x y) (paired group x y h)) }

  -- no pair is farther than the first
  pub best_near : (group : List ℕ) (p : Pair) → BestOf pair_before (PairIn d j rows group) (Some p) → p.far ≡ 0 → (a b : ℕ) → PairOf d j group a b → far_of d j rows a b ≡ 0
  best_near group p q e a b h = omega (arith, then_lead p.far (far_of d j rows a b) _ (q.1 (pair_of d j rows a b) (paired group a b h)))

  pub best_none : (group : List ℕ) → BestOf pair_before (PairIn d j rows group) None → (a b : ℕ) → PairOf d j group a b → far_of d j rows a b ≡ 0
  best_none group q a b h = absurd (q (pair_of d j rows a b) (paired group a b h))

-- no meet is farther than a distance can be
pub never_farther : {X : Type 0} (G : Ghosts X) (s : X) (j : Spot → Spot → Spot → Spot) (rows : List Row) (group : List ℕ) (b : ℕ) → NoFarther (capped_distance G s) j rows group b 100000000
never_farther G s j rows group b p q = omega (arith, q.long)
