-- On a net that is tied to its space nothing is cut: what a call answers by cut distances, it answers by the space's own. Assumes nothing.
use Rattle.std.proofs.Common.{◌≡◌, ℕ, suc, ◌<◌, ◌≤◌, max, true, ◌&&◌, List, [], ◌∷◌, map, length, get_or, Some, Ok, Err, Result, sym, refl, ap, ◌∙◌, subst, inl, inr, arith}
use Rattle.std.proofs.lemmas.Bool.{and_from}
use Rattle.build_laws.specs.Joining.{Grouped, Joins}
use Rattle.build_laws.specs.Straight.{straight, net_rules}
use Rattle.build_laws.proofs.Owning.{own_joins}
use Rattle.tree_laws.specs.Shares.{ShareMove}
use Rattle.tree_laws.proofs.ShareMoves as sharing
use Rattle.tree_laws.specs.declared.share.Share.{Share}
use Rattle.space.specs.declared.TheConstants.{LONGEST}
use Rattle.space.specs.declared.spot.Spot.{Spot}
use Rattle.space.specs.Spots.{origin, spot_of}
use Rattle.span_laws.proofs.Steps.{spanning_agrees}
use Rattle.tree_laws.specs.Distances.{Measured}
use Rattle.tree_laws.proofs.HookMoves.{measured, move_cut, move_own, settled, uncut}
use Rattle.tree_laws.specs.Trees.{hang}
use Rattle.tree_laws.specs.declared.Row.{Row}
use Rattle.walk_laws.specs.Walk.{start, walk}
use Rattle.net_laws.specs.Answers.{EdgeAnswer, HookAnswer, Hooks, JoinedAnswer, JoinedTree, PinAnswer, ShareAnswer, Shares, SpanAnswer, SpanBy, Stands, StraightAnswer, StraightTree, breakpoints, marks_of}
use Rattle.net_laws.specs.Geometry.{Geometry}
use Rattle.net_laws.specs.States.{State}
use Rattle.net_laws.specs.Spaces.{Keeps, Tied, made_total}
use Rattle.net_laws.specs.declared.fault.Fault.{Fault}
use Rattle.net_laws.proofs.Moving.{ghosts, join_ghosts, placed_measured}
use Rattle.net_laws.proofs.Straights.{straight_grouped}
use Rattle.net_laws.proofs.Tying.{placed_straight, standing_narrow}

module _ (W : Geometry) (laws : Keeps W) where
  -- between two admitted spots of a space that is not too wide
  pub cut_is : W.width ≤ LONGEST → (a b : Spot) → W.admitted a ≡ true → W.admitted b ≡ true → (made_total W).between a b ≡ W.between a b
  cut_is nar a b x y = uncut (W.between a b) W.width (W.admitted a && W.admitted b) (and_from _ _ x y) ((laws.metric nar).within a b x y) nar

  module _ (n : State) (t : Tied W.admitted W.width W.between n) where
    nodes_cut : (u v : ℕ) → u < length n.spots → v < length n.spots → (made_total W).between (spot_of n.spots u) (spot_of n.spots v) ≡ W.between (spot_of n.spots u) (spot_of n.spots v)
    nodes_cut u v h i = cut_is (t.narrow (omega arith)) (spot_of n.spots u) (spot_of n.spots v) (t.admitted u h) (t.admitted v i)

    pin_cut : (z : Spot) → W.width ≤ LONGEST → W.admitted z ≡ true → (k : ℕ) → k < n.pins → (made_total W).between (spot_of n.spots k) z ≡ W.between (spot_of n.spots k) z
    pin_cut z nar adm k h = cut_is nar (spot_of n.spots k) z (t.admitted k (omega (arith, t.pins))) adm

    pub own_pin : (m : State) (z : Spot) (r : Result ℕ Fault) → PinAnswer (made_total W) n m z r → PinAnswer W n m z r
    own_pin m z (Ok k) a = (a.0, (a.1.0, (a.1.1.0, (λ k h. omega (arith, a.1.1.1.0 k h, pin_cut z a.0 a.1.0 k h), a.1.1.1.1))))
    own_pin m z (Err e) (inl x) = inl x
    own_pin m z (Err e) (inr (q, inl x)) = inr (q, inl x)
    own_pin m z (Err e) (inr (q, inr (s, inl x))) = inr (q, inr (s, inl x))
    own_pin m z (Err e) (inr (q, inr (s, inr (u, inl x)))) =
        inr (q, inr (s, inr (u, inl (λ f. x.0 (λ k h. omega (arith, f k h, pin_cut z q s k h)), x.1))))
    own_pin m z (Err e) (inr (q, inr (s, inr (u, inr (v, x))))) = absurd x

    pub own_edge : (m : State) (a b : ℕ) (r : Result ℕ Fault) → EdgeAnswer (made_total W) n m a b r → EdgeAnswer W n m a b r
    own_edge m a b (Ok l) x =
        let e = nodes_cut a b x.1.0.0 x.1.0.1 in
        (x.0, (x.1.0, (x.1.1.0, (omega (arith, x.1.1.1.0, e), (x.1.1.1.1.0 ∙ e, x.1.1.1.1.1)))))
    own_edge m a b (Err f) (inl x) = inl x
    own_edge m a b (Err f) (inr (q, inl x)) = inr (q, inl x)
    own_edge m a b (Err f) (inr (q, inr (s, inl x))) = inr (q, inr (s, inl x))
    own_edge m a b (Err f) (inr (q, inr (s, inr (u, inl x)))) =
        inr (q, inr (s, inr (u, inl (λ h. x.0 (omega (arith, h, nodes_cut a b s.0 s.1)), x.1))))
    own_edge m a b (Err f) (inr (q, inr (s, inr (u, inr (v, x))))) = absurd x

    -- the lengths of a spanning seed, which are cut to at least 1 too
    pub own_span : (m : State) (d : Spot → Spot → ℕ) → ((a b : Spot) → d a b ≡ max 1 ((made_total W).between a b)) → (r : Result ℕ Fault) → SpanBy W n m d r → SpanAnswer W n m r
    own_span m d is (Ok w) a =
        let b = a.1 in (
          a.0,
          (
            b.0,
            spanning_agrees n.pins (λ u v. d (spot_of n.spots u) (spot_of n.spots v)) (λ u v. W.between (spot_of n.spots u) (spot_of n.spots v))
                (λ u v h i ne. omega (arith, is (spot_of n.spots u) (spot_of n.spots v), nodes_cut u v (omega (arith, t.pins)) (omega (arith, t.pins)), t.apart u v h i ne))
                b.0 b.1,
            b.2,
            b.3,
          ),
        )
    own_span m d is (Err e) (inl x) = inl x
    own_span m d is (Err e) (inr (q, x)) = absurd x

    -- ---- straight trees

    directs_cut : 0 < length n.spots → map ((made_total W).between (spot_of n.spots 0)) n.spots ≡ map (W.between (spot_of n.spots 0)) n.spots
    directs_cut some =
        map_same ((made_total W).between (spot_of n.spots 0)) (W.between (spot_of n.spots 0)) n.spots (λ k h. nodes_cut 0 k some h)
      where
        map_same : (f g : Spot → ℕ) (xs : List Spot) → ((k : ℕ) → k < length xs → f (get_or xs k origin) ≡ g (get_or xs k origin)) → map f xs ≡ map g xs
        map_same f g [] e = refl
        map_same f g (x ∷ xs) e = ap (λ y. y ∷ map f xs) (e 0 (omega arith)) ∙ ap (λ ys. g x ∷ ys) (map_same f g xs (λ k h. e (suc k) (omega arith)))

    pub rules_cut : 0 < length n.spots → (p q : ℕ) → net_rules (made_total W).between n.spots n.pins p q ≡ net_rules W.between n.spots n.pins p q
    rules_cut some p q = ap (λ xs. record { p = p; q = q; pins = n.pins; direct = λ v. get_or xs v 0 }) (directs_cut some)

    pub own_straight_tree : 0 < length n.spots → (p q : ℕ) (rows : List Row) → StraightTree (made_total W).between n.spots n.pins p q n.edges rows → StraightTree W.between n.spots n.pins p q n.edges rows
    own_straight_tree some p q rows s = record {
      planted = s.planted;
      built = s.built ∙ ap (λ R. straight R (walk R 0 s.planted.forest start) (spot_of n.spots) (length n.spots)) (rules_cut some p q);
    }

    pub own_straight : (m : State) (r : Result ℕ Fault) → StraightAnswer (made_total W) n m r → StraightAnswer W n m r
    own_straight m (Ok w) a =
        let b = a.1.1.1 in
        (a.0, (a.1.0, (a.1.1.0, (b.0, b.1, b.2, b.3, own_straight_tree (omega (arith, t.pins, a.0)) b.0 b.1 b.2 b.4, b.5, b.6))))
    own_straight m (Err e) (inl x) = inl x
    own_straight m (Err e) (inr (q, inl x)) = inr (q, inl x)
    own_straight m (Err e) (inr (q, inr (s, inl x))) = inr (q, inr (s, inl x))
    own_straight m (Err e) (inr (q, inr (s, inr (u, x)))) = absurd x

    -- ---- moves

    measured_now : (rows : List Row) → Stands n rows → Measured (ghosts W) tt rows
    measured_now rows e = placed_measured W n rows (standing_narrow W laws n t rows e) (t.rows rows e)

    own_hooks : (rows : List Row) → Stands n rows → (w : ℕ) (after : List Row) → Hooks (made_total W).between rows w after → Hooks W.between rows w after
    own_hooks rows e w after h =
        let p = settled (ghosts W) tt rows laws.metric (measured_now rows e) in
        let q = h.best.0 in
        let m = h.move in
        record {
          move = m;
          best = (move_own (ghosts W) tt rows laws.metric p m q, λ x y. h.best.1 x (move_cut (ghosts W) tt rows laws.metric p x y));
          saves = h.saves;
          hung = h.hung ∙ ap (hang rows m.v m.u) (measured (ghosts W) tt rows laws.metric p m.u m.v q.hangs.parent q.hangs.row);
        }

    pub own_hook : (m : State) (r : Result ℕ Fault) → HookAnswer (made_total W) n m r → HookAnswer W n m r
    own_hook m (Ok w) a =
        let b = a.1.1 in
        let rows = b.0 in
        let p = settled (ghosts W) tt rows laws.metric (measured_now rows b.2) in
        let h = own_hooks rows b.2 w b.1 b.3 in
        (a.0, ((rows, b.2, (h.move, h.best.0)), (rows, b.1, b.2, h, b.4)))
    own_hook m (Err e) (inl x) = inl x
    own_hook m (Err e) (inr (q, inl x)) =
        inr (q, inl (λ y. x.0 (y.0, y.1, (y.2.0, move_cut (ghosts W) tt y.0 laws.metric (settled (ghosts W) tt y.0 laws.metric (measured_now y.0 y.1)) y.2.0 y.2.1)), x.1))
    own_hook m (Err e) (inr (q, inr (s, x))) = absurd x

    module _ (rows : List Row) (e : Stands n rows) where
      to_own : (m : Share) → ShareMove rows (made_total W).between (made_total W).meeting m → ShareMove rows W.between W.meeting m
      to_own m q = sharing.move_own (ghosts W) (join_ghosts W) tt rows laws.metric laws.meets (measured_now rows e) m q

      to_cut : (m : Share) → ShareMove rows W.between W.meeting m → ShareMove rows (made_total W).between (made_total W).meeting m
      to_cut m q = sharing.move_cut (ghosts W) (join_ghosts W) tt rows laws.metric laws.meets (measured_now rows e) m q

      own_shares : (w : ℕ) (after : List Row) → Shares (made_total W).between (made_total W).meeting rows w after → Shares W.between W.meeting rows w after
      own_shares w after h =
          let q = h.best.0 in
          let m = h.move in
          record {
            move = m;
            best = (to_own m q, λ x y. h.best.1 x (to_cut x y));
            saves = h.saves;
            shared = h.shared ∙ sharing.shared_is (ghosts W) (join_ghosts W) tt rows laws.metric laws.meets (measured_now rows e) m q.row q.first.row q.second.row;
          }

    pub own_share : (m : State) (r : Result ℕ Fault) → ShareAnswer (made_total W) n m r → ShareAnswer W n m r
    own_share m (Ok w) a =
        let b = a.1.1.1 in
        let h = own_shares b.0 b.2 w b.1 b.3 in
        (a.0, ((b.0, b.2, (h.move, h.best.0)), (a.1.1.0, (b.0, b.1, b.2, h, b.4))))
    own_share m (Err e) (inl x) = inl x
    own_share m (Err e) (inr (q, inl x)) = inr (q, inl (λ y. x.0 (y.0, y.1, (y.2.0, to_cut y.0 y.1 y.2.0 y.2.1)), x.1))
    own_share m (Err e) (inr (q, inr (s, inl x))) = inr (q, inr ((s.0, s.1, (s.2.0, to_own s.0 s.1 s.2.0 s.2.1)), inl x))
    own_share m (Err e) (inr (q, inr (s, inr (u, x)))) = absurd x

    -- ---- joined trees

    own_joined_tree : 2 ≤ n.pins → (p q : ℕ) → n.allowance ≡ Some (p, q) → (rows : List Row) → JoinedTree (made_total W).between (made_total W).meeting n.spots n.pins p q n.edges rows → JoinedTree W.between W.meeting n.spots n.pins p q n.edges rows
    unfolding own_straight_tree
    own_joined_tree two p q al rows j =
        let some : 0 < length n.spots = omega (arith, t.pins) in
        let s = own_straight_tree some p q j.unjoined j.straight in
        let F = j.straight.planted in
        let nar : W.width ≤ LONGEST = t.narrow some in
        let placed = placed_straight W laws n t two p q al j.unjoined s in
        let group = breakpoints (marks_of W.between n.spots n.pins p q n.edges F) (length n.spots) in
        let same : breakpoints (marks_of (made_total W).between n.spots n.pins p q n.edges F) (length n.spots) ≡ group =
        ap (λ R. breakpoints (walk R 0 F.forest start) (length n.spots)) (rules_cut some p q) in
        let J : List ℕ → Type 0 = λ g. Joins (made_total W).between (made_total W).meeting j.unjoined g rows in
        let G : List Row → Type 0 = λ xs. Grouped W.between W.meeting W.admitted xs group in
        let g = subst G (sym s.built) (straight_grouped W laws n t two p q (t.allowed p q al).1 F) in
        record {
          unjoined = j.unjoined;
          straight = s;
          joins = (own_joins (ghosts W) (join_ghosts W) tt laws.metric laws.meets placed.tree (placed_measured W n j.unjoined nar placed)
              (λ v a. record { row = g.rows_of v a; moves = g.others v a; parent = g.hung v a }) (subst J same j.joins)).0;
        }

    pub own_joined : (m : State) (r : Result ℕ Fault) → JoinedAnswer (made_total W) n m r → JoinedAnswer W n m r
    own_joined m (Ok w) a =
        let b = a.1.1.1 in
        (a.0, (a.1.0, (a.1.1.0, (b.0, b.1, b.2, b.3, own_joined_tree a.0 b.0 b.1 b.3 b.2 b.4, b.5, b.6))))
    own_joined m (Err e) (inl x) = inl x
    own_joined m (Err e) (inr (q, inl x)) = inr (q, inl x)
    own_joined m (Err e) (inr (q, inr (s, inl x))) = inr (q, inr (s, inl x))
    own_joined m (Err e) (inr (q, inr (s, inr (u, x)))) = absurd x
