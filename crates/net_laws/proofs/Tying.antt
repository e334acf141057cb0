-- Every call leaves a net tied to its space. Assumes nothing.
use Rattle.std.proofs.Common.{◌≡◌, ℕ, suc, ◌<◌, ◌≤◌, true, List, [], ◌∷◌, ◌++◌, length, get_or, take, Some, None, Ok, Err, Result, sym, ap, ◌∙◌, subst, ⊎_elim, arith, length-take}
use Rattle.std.proofs.lemmas.List.{get_or_append_left, get_or_push, get_or-take, length_push}
use Rattle.std.proofs.lemmas.Bool.{cases_lt}
use Rattle.build_laws.specs.Joining.{Grouped}
use Rattle.forest.specs.Edges.{Joined, Sound, edge}
use Rattle.forest.specs.declared.Edge.{Edge}
use Rattle.forest.proofs.Accepted.{accepted, accepted_good, sound_none, sound_push, sound_wider}
use Rattle.forest.proofs.Chains.{joined_on}
use Rattle.order.specs.Firsts.{Among}
use Rattle.order.proofs.Finding.{among_either, among_none, among_one}
use Rattle.space.specs.declared.TheConstants.{LONGEST}
use Rattle.space.specs.declared.spot.Spot.{Spot}
use Rattle.space.specs.Spots.{origin, spot_of}
use Rattle.span_laws.specs.Spanning.{SpanningSeed}
use Rattle.tree_laws.specs.declared.Row.{Row}
use Rattle.net_laws.specs.Answers.{Hooks, JoinAnswers, JoinedTree, Shares, StraightTree, breakpoints, marks_of}
use Rattle.walk_laws.specs.Walk.{LawfulAllowance}
use Rattle.net_laws.specs.Geometry.{Geometry}
use Rattle.net_laws.specs.States.{State, unseeded, with_allowance, with_edge, with_pin, with_point, with_seed, with_tree}
use Rattle.net_laws.specs.Spaces.{Keeps, Placed, Tied}
use Rattle.net_laws.specs.declared.call.Call.TheVariants.{Pin, Allow, Steiner, Edge as EdgeOf, Unseed, Span, Straight, Hook}
use Rattle.net_laws.specs.declared.call.JoinCall.{JoinCall}
use Rattle.net_laws.specs.declared.call.JoinCall.TheVariants.{Wire, Joined as JoinedCall, Share}
use Rattle.net_laws.specs.declared.fault.Fault.{Fault}
use Rattle.net_laws.proofs.Moving.{hook_lies, joins_lie, lies_placed, placed_measured, share_lies}
use Rattle.net_laws.proofs.Straights.{straight_grouped, straight_placed}

pub no_rows : {X : Type 0} (x : X) → None ≡ Some x → ⊥
no_rows x e = let z : ◌≡◌ {A = ℕ} 0 1 = cc in omega arith

pub same_some : {X : Type 0} (x y : X) → Some x ≡ Some y → x ≡ y
same_some x y e = cc

-- ---- the spots of nodes

pub front_length : (p : ℕ) (xs : List Spot) → p ≤ length xs → length (take p xs) ≡ p
front_length p xs h = simp length-take (omega arith)

spot_front : (p : ℕ) (xs ys : List Spot) (k : ℕ) → p ≤ length xs → k < p → spot_of (take p xs ++ ys) k ≡ spot_of xs k
spot_front p xs ys k h l = get_or_append_left (take p xs) ys origin k (omega (arith, front_length p xs h)) ∙ get_or-take p xs k origin l

spot_old : (xs ys : List Spot) (k : ℕ) → k < length xs → spot_of (xs ++ ys) k ≡ spot_of xs k
spot_old xs ys k h = get_or_append_left xs ys origin k h

spot_new : (xs : List Spot) (z : Spot) (k : ℕ) → length xs ≡ k → spot_of (xs ++ z ∷ []) k ≡ z
spot_new xs z k h = get_or_push xs z origin k h

-- an edge of the list stands at some place
among_place : (E : List Edge) (e : Edge) → Among e E → (i : ℕ) × (i < length E) × (get_or E i e ≡ e)
among_place [] e a = absurd (among_none a)
among_place (x ∷ E) e a =
    ⊎_elim
    (λ (i : Among e (x ∷ [])). (0, omega arith, sym (among_one i)))
    (λ (i : Among e E). let r = among_place E e i in (suc r.0, omega (arith, r.1), r.2))
    (among_either (x ∷ []) E a)

module _ (W : Geometry) (laws : Keeps W) where
  abbrev T : State → Type 0
  T n = Tied W.admitted W.width W.between n

  abbrev d : Spot → Spot → ℕ
  d = W.between

  -- the nodes become zs, of which the first k are as they were
  module _ (n : State) (t : Tied W.admitted W.width W.between n) where
    tied_unseed : T (unseeded n)
    tied_unseed =
        let l = front_length n.pins n.spots t.pins in
        let is : (k : ℕ) → k < n.pins → spot_of (take n.pins n.spots) k ≡ spot_of n.spots k = λ k h. get_or-take n.pins n.spots k origin h in
        record {
          narrow = λ h. t.narrow (omega (arith, l, t.pins));
          pins = omega (arith, l);
          allowed = t.allowed;
          admitted = λ k h. let i : k < n.pins = omega (arith, l) in ap (λ z. W.admitted z) (is k i) ∙ t.admitted k (omega (arith, t.pins));
          apart = λ u v h i ne. omega (arith, t.apart u v h i ne, ap (λ z. d z (spot_of (take n.pins n.spots) v)) (is u h), ap (d (spot_of n.spots u)) (is v i));
          edges = sound_none (length (take n.pins n.spots));
          lengths = λ e a. absurd (among_none a);
          rows = λ rows e. absurd (no_rows rows e);
        }

    tied_pin : (z : Spot) → W.width ≤ LONGEST → W.admitted z ≡ true → ((k : ℕ) → k < n.pins → 1 ≤ d (spot_of n.spots k) z) → T (with_pin n z)
    tied_pin z nar adm far =
        let front = take n.pins n.spots in
        let l = front_length n.pins n.spots t.pins in
        let l' = length_push front z in
        let old : (k : ℕ) → k < n.pins → spot_of (front ++ z ∷ []) k ≡ spot_of n.spots k = λ k h. spot_front n.pins n.spots (z ∷ []) k t.pins h in
        let new : (k : ℕ) → k ≡ n.pins → spot_of (front ++ z ∷ []) k ≡ z = λ k h. spot_new front z k (l ∙ sym h) in
        let metric = laws.metric nar in
        let ok : (k : ℕ) → k < n.pins → W.admitted (spot_of n.spots k) ≡ true = λ k h. t.admitted k (omega (arith, t.pins)) in
        record {
          narrow = λ h. nar;
          pins = omega (arith, l, l');
          allowed = t.allowed;
          admitted = λ k h.
              ⊎_elim
              (λ (i : k < n.pins). ap (λ x. W.admitted x) (old k i) ∙ ok k i)
              (λ (i : n.pins ≤ k). ap (λ x. W.admitted x) (new k (omega (arith, l, l'))) ∙ adm)
              (cases_lt k n.pins);
          apart = λ u v h i ne.
              let at = spot_of (front ++ z ∷ []) in
              ⊎_elim
              (λ (a : u < n.pins).
              ⊎_elim
              (λ (b : v < n.pins). omega (arith, t.apart u v a b ne, ap (λ x. d x (at v)) (old u a), ap (d (spot_of n.spots u)) (old v b)))
              (λ (b : n.pins ≤ v). omega (arith, far u a, ap (λ x. d x (at v)) (old u a), ap (d (spot_of n.spots u)) (new v (omega arith))))
              (cases_lt v n.pins))
              (λ (a : n.pins ≤ u).
              let b : v < n.pins = omega arith in
              omega (arith, far v b, ap (λ x. d x (at v)) (new u (omega arith)), ap (d z) (old v b), metric.symmetric z (spot_of n.spots v) adm (ok v b)))
              (cases_lt u n.pins);
          edges = sound_none (length (front ++ z ∷ []));
          lengths = λ e a. absurd (among_none a);
          rows = λ rows e. absurd (no_rows rows e);
        }

    tied_allow : (p q : ℕ) → LawfulAllowance p q → T (with_allowance n p q)
    tied_allow p q ok = record {
      narrow = t.narrow;
      pins = t.pins;
      allowed = λ p' q' e.
          let s : (p, q) ≡ (p', q') = same_some (p, q) (p', q') e in
          let P : ℕ × ℕ → Type 0 = λ x. LawfulAllowance x.0 x.1 in
          subst P s ok;
      admitted = t.admitted;
      apart = t.apart;
      edges = t.edges;
      lengths = t.lengths;
      rows = λ rows e. absurd (no_rows rows e);
    }

    tied_point : (z : Spot) → 2 ≤ n.pins → W.admitted z ≡ true → T (with_point n z)
    tied_point z two adm =
        let N = length n.spots in
        let l = length_push n.spots z in
        let old : (k : ℕ) → k < N → spot_of (n.spots ++ z ∷ []) k ≡ spot_of n.spots k = λ k h. spot_old n.spots (z ∷ []) k h in
        let at = spot_of (n.spots ++ z ∷ []) in
        record {
          narrow = λ h. t.narrow (omega (arith, t.pins));
          pins = omega (arith, t.pins, l);
          allowed = t.allowed;
          admitted = λ k h.
              ⊎_elim
              (λ (i : k < N). ap (λ x. W.admitted x) (old k i) ∙ t.admitted k i)
              (λ (i : N ≤ k). ap (λ x. W.admitted x) (spot_new n.spots z k (omega (arith, l))) ∙ adm)
              (cases_lt k N);
          apart = λ u v h i ne. omega (arith, t.apart u v h i ne, ap (λ x. d x (at v)) (old u (omega (arith, t.pins))), ap (d (spot_of n.spots u)) (old v (omega (arith, t.pins))));
          edges = sound_wider N (length (n.spots ++ z ∷ [])) n.edges (omega (arith, l)) t.edges;
          lengths = λ e a.
              let g = accepted_good (accepted N n.edges t.edges) e a in
              t.lengths e a ∙ sym (ap (λ x. d x (at e.b)) (old e.a g.0) ∙ ap (d (spot_of n.spots e.a)) (old e.b g.1));
          rows = λ rows e. absurd (no_rows rows e);
        }

    tied_edge : (a b l : ℕ) → 2 ≤ n.pins → a < length n.spots → b < length n.spots → (Joined n.edges a b → ⊥) → 1 ≤ d (spot_of n.spots a) (spot_of n.spots b) → l ≡ d (spot_of n.spots a) (spot_of n.spots b) → T (with_edge n a b l)
    tied_edge a b l two ha hb off pos e =
        let N = length n.spots in
        let nar : W.width ≤ LONGEST = t.narrow (omega (arith, t.pins)) in
        let m = laws.metric nar in
        record {
          narrow = t.narrow;
          pins = t.pins;
          allowed = t.allowed;
          admitted = t.admitted;
          apart = t.apart;
          edges = sound_push N n.edges (edge a b l) t.edges
              (ha, hb, omega arith, omega (arith, e, nar, m.within (spot_of n.spots a) (spot_of n.spots b) (t.admitted a ha) (t.admitted b hb)), off);
          lengths = λ x i.
              ⊎_elim
              (λ (j : Among x n.edges). t.lengths x j)
              (λ (j : Among x (edge a b l ∷ [])).
              let P : Edge → Type 0 = λ y. y.length ≡ d (spot_of n.spots y.a) (spot_of n.spots y.b) in
              subst P (sym (among_one j)) e)
              (among_either n.edges (edge a b l ∷ []) i);
          rows = λ rows e. absurd (no_rows rows e);
        }

    -- each edge of the spanning seed joins two pins at their distance
    module _ (two : 2 ≤ n.pins) (E : List Edge) (s : SpanningSeed n.pins (λ u v. W.between (spot_of n.spots u) (spot_of n.spots v)) E) where
      sound_spanned : Sound n.pins E
      sound_spanned i x h =
          let f = (s.steps i x h).pair in
          let e = get_or E i x in
          let nar : W.width ≤ LONGEST = t.narrow (omega (arith, t.pins)) in
          let P : ℕ → Type 0 = λ v. Joined (take i E) 0 v in
          let ne : e.a ≡ e.b → ⊥ = λ q. f.outside (subst P q f.inside) in
          let m = (laws.metric nar).within (spot_of n.spots e.a) (spot_of n.spots e.b) (t.admitted e.a (omega (arith, t.pins, f.inner))) (t.admitted e.b (omega (arith, t.pins, f.outer))) in
          (f.inner, f.outer, omega (arith, f.long, t.apart e.a e.b f.inner f.outer ne), omega (arith, f.long, m, nar), λ j. f.outside (joined_on f.inside j))

      long_spanned : (e : Edge) → Among e E → (e.a < n.pins) × (e.b < n.pins) × (e.length ≡ d (spot_of n.spots e.a) (spot_of n.spots e.b))
      long_spanned e a =
          let r = among_place E e a in
          let f = (s.steps r.0 e r.1).pair in
          let P : Edge → Type 0 = λ x. (x.a < n.pins) × (x.b < n.pins) × (x.length ≡ d (spot_of n.spots x.a) (spot_of n.spots x.b)) in
          subst P r.2 (f.inner, f.outer, f.long)

      tied_span : T (with_seed n E)
      tied_span =
          let u = tied_unseed in
          let front = take n.pins n.spots in
          let l = front_length n.pins n.spots t.pins in
          let is : (k : ℕ) → k < n.pins → spot_of front k ≡ spot_of n.spots k = λ k h. get_or-take n.pins n.spots k origin h in
          record {
            narrow = u.narrow;
            pins = u.pins;
            allowed = u.allowed;
            admitted = u.admitted;
            apart = u.apart;
            edges = sound_wider n.pins (length front) E (omega (arith, l)) sound_spanned;
            lengths = λ e a.
                let g = long_spanned e a in
                g.2 ∙ sym (ap (λ x. d x (spot_of front e.b)) (is e.a g.0) ∙ ap (d (spot_of n.spots e.a)) (is e.b g.1));
            rows = λ rows e. absurd (no_rows rows e);
          }

    tied_tree : (rows : List Row) → Placed W.admitted W.between n rows → T (with_tree n rows)
    tied_tree rows p = record {
      narrow = t.narrow;
      pins = t.pins;
      allowed = t.allowed;
      admitted = t.admitted;
      apart = t.apart;
      edges = t.edges;
      lengths = t.lengths;
      rows = λ rows' e.
          let P : List Row → Type 0 = λ xs. Placed W.admitted W.between (with_tree n rows) xs in
          subst P (same_some rows rows' e) (record { two = p.two; tree = p.tree; more = p.more; spots = p.spots; admitted = p.admitted; lengths = p.lengths });
    }

    -- ---- the trees that the calls build and change

    pub placed_straight : 2 ≤ n.pins → (p q : ℕ) → n.allowance ≡ Some (p, q) → (rows : List Row) → StraightTree W.between n.spots n.pins p q n.edges rows → Placed W.admitted W.between n rows
    placed_straight two p q al rows s =
        let P : List Row → Type 0 = λ xs. Placed W.admitted W.between n xs in
        subst P (sym s.built) (straight_placed W laws n t two p q (t.allowed p q al).1 s.planted)

    pub placed_joined : 2 ≤ n.pins → (p q : ℕ) → n.allowance ≡ Some (p, q) → (rows : List Row) → JoinedTree W.between W.meeting n.spots n.pins p q n.edges rows → Placed W.admitted W.between n rows
    placed_joined two p q al rows s =
        let hq = (t.allowed p q al).1 in
        let nar : W.width ≤ LONGEST = t.narrow (omega (arith, t.pins)) in
        let before = placed_straight two p q al s.unjoined s.straight in
        let G : List Row → Type 0 = λ xs. Grouped W.between W.meeting W.admitted xs (breakpoints (marks_of W.between n.spots n.pins p q n.edges s.straight.planted) (length n.spots)) in
        let g = subst G (sym s.straight.built) (straight_grouped W laws n t two p q hq s.straight.planted) in
        lies_placed W n s.unjoined rows before (joins_lie W laws.metric laws.meets nar before.tree (placed_measured W n s.unjoined nar before) g s.joins)

    module _ (rows : List Row) (e : n.tree ≡ Some rows) where
      pub standing_placed : Placed W.admitted W.between n rows
      standing_placed = t.rows rows e

      pub standing_narrow : W.width ≤ LONGEST
      standing_narrow = t.narrow (omega (arith, t.pins, standing_placed.two))

      pub placed_hook : (w : ℕ) (after : List Row) → Hooks W.between rows w after → Placed W.admitted W.between n after
      placed_hook w after h =
          let p = standing_placed in
          let P : List Row → Type 0 = λ xs. Placed W.admitted W.between n xs in
          subst P (sym h.hung) (lies_placed W n rows _ p (hook_lies W laws.metric laws.meets rows p.tree (placed_measured W n rows standing_narrow p) h.move h.best.0))

      pub placed_share : (w : ℕ) (after : List Row) → Shares W.between W.meeting rows w after → Placed W.admitted W.between n after
      placed_share w after h =
          let p = standing_placed in
          let P : List Row → Type 0 = λ xs. Placed W.admitted W.between n xs in
          subst P (sym h.shared) (lies_placed W n rows _ p (share_lies W laws.metric laws.meets rows p.tree (placed_measured W n rows standing_narrow p) h.move h.best.0))

  pub tied_step : (n m : State) (c : JoinCall) (r : Result ℕ Fault) → T n → JoinAnswers W n m c r → T m
  tied_step n m (Wire (Pin z)) (Ok k) t a = subst T (sym a.0.1.1.1.1.1) (tied_pin n t z a.0.0 a.0.1.0 a.0.1.1.1.0)
  tied_step n m (Wire (Pin z)) (Err e) t a = subst T (sym a.1) t
  tied_step n m (Wire (Allow p q)) (Ok k) t a = subst T (sym a.0.1) (tied_allow n t p q a.0.0)
  tied_step n m (Wire (Allow p q)) (Err e) t a = subst T (sym a.1) t
  tied_step n m (Wire (Steiner z)) (Ok k) t a = subst T (sym a.0.1.1.1.1) (tied_point n t z a.0.0 a.0.1.0)
  tied_step n m (Wire (Steiner z)) (Err e) t a = subst T (sym a.1) t
  tied_step n m (Wire (EdgeOf x y)) (Ok l) t a =
      let q = a.0.1 in
      subst T (sym q.1.1.1.1) (tied_edge n t x y l a.0.0 q.0.0 q.0.1 q.1.0 q.1.1.0 q.1.1.1.0)
  tied_step n m (Wire (EdgeOf x y)) (Err e) t a = subst T (sym a.1) t
  tied_step n m (Wire Unseed) (Ok k) t a = subst T (sym a.0) (tied_unseed n t)
  tied_step n m (Wire Unseed) (Err e) t a = subst T (sym a.1) t
  tied_step n m (Wire Span) (Ok w) t a = subst T (sym a.0.1.3) (tied_span n t a.0.0 a.0.1.0 a.0.1.1)
  tied_step n m (Wire Span) (Err e) t a = subst T (sym a.1) t
  tied_step n m (Wire Straight) (Ok w) t a =
      let b = a.0.1.1.1 in
      subst T (sym b.6) (tied_tree n t b.2 (placed_straight n t a.0.0 b.0 b.1 b.3 b.2 b.4))
  tied_step n m (Wire Straight) (Err e) t a = subst T (sym a.1) t
  tied_step n m (Wire Hook) (Ok w) t a =
      let b = a.0.1.1 in
      subst T (sym b.4) (tied_tree n t b.1 (placed_hook n t b.0 b.2 w b.1 b.3))
  tied_step n m (Wire Hook) (Err e) t a = subst T (sym a.1) t
  tied_step n m JoinedCall (Ok w) t a =
      let b = a.0.1.1.1 in
      subst T (sym b.6) (tied_tree n t b.2 (placed_joined n t a.0.0 b.0 b.1 b.3 b.2 b.4))
  tied_step n m JoinedCall (Err e) t a = subst T (sym a.1) t
  tied_step n m Share (Ok w) t a =
      let b = a.0.1.1.1 in
      subst T (sym b.4) (tied_tree n t b.1 (placed_share n t b.0 b.2 w b.1 b.3))
  tied_step n m Share (Err e) t a = subst T (sym a.1) t
