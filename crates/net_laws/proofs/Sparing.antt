-- Seeds within the allowance are built edge for edge, and a joined tree has no more wire than the straight one. Assumes nothing.
use Rattle.std.proofs.Common.{◌≡◌, ℕ, zero, suc, ◌+◌, ◌*◌, ◌<◌, ◌≤◌, true, false, is_ok, List, [], ◌++◌, length, Some, Ok, Err, Result, sym, refl, ap, ◌∙◌, subst, mul-le-mul_left, arith}
use Rattle.std.proofs.lemmas.Bool.{both_ways}
use Rattle.build_laws.specs.Joining.{Grouped, Joins, JoinedKeeps}
use Rattle.build_laws.specs.Joining.Joins.{done, join}
use Rattle.build_laws.specs.Straight.{straight, net_rules}
use Rattle.build_laws.proofs.Building.{straight_length}
use Rattle.build_laws.proofs.Joined.{joining_keeps_lem}
use Rattle.forest.specs.Growth.{Planted}
use Rattle.forest.specs.Rooted.{Forest}
use Rattle.order.specs.Firsts.{Among}
use Rattle.order.proofs.Finding.{among_none}
use Rattle.space.specs.declared.TheConstants.{LONGEST}
use Rattle.space.specs.declared.spot.Spot.{Spot}
use Rattle.space.specs.Spots.{spot_of}
use Rattle.tree_laws.specs.Trees.{row_length, path_length, up, wire_of}
use Rattle.tree_laws.proofs.Ways.{hung}
use Rattle.tree_laws.specs.declared.Row.{Row}
use Rattle.walk_laws.specs.Promise.{Branch, Spares}
use Rattle.walk_laws.specs.Walk.{Marks, start, walk}
use Rattle.walk_laws.proofs.Seeing.{planted_seen}
use Rattle.net_laws.specs.Answers.{JoinedAnswer, JoinedTree, Stands, StraightAnswer, StraightTree, breakpoints, broken_if, marks_of}
use Rattle.net_laws.specs.Geometry.{Geometry}
use Rattle.net_laws.specs.Builds.{Bounds, EdgeForEdge, NoMoreThanStraight, WithinBounds}
use Rattle.net_laws.specs.States.{State}
use Rattle.net_laws.specs.declared.fault.Fault.{Fault}
use Rattle.net_laws.specs.Spaces.{Keeps, Tied}
use Rattle.net_laws.proofs.Straights.{among_breakpoints, branch_long, direct_is, kept, straight_allowed, straight_grouped, walked}
use Rattle.net_laws.proofs.Tying.{placed_straight, same_some}

-- without breakpoints there is nothing to join
no_breakpoints : (S : Marks) (n : ℕ) → ((v : ℕ) → v < n → (S v).broken ≡ false) → breakpoints S n ≡ []
no_breakpoints S zero f = refl
no_breakpoints S (suc n) f =
    ap (λ xs. xs ++ broken_if (S n).broken n) (no_breakpoints S n (λ v h. f v (omega arith))) ∙ ap (λ b. broken_if b n) (f n (omega arith))

joins_none : (d : Spot → Spot → ℕ) (m : Spot → Spot → Spot → Spot) {rows after : List Row} {group : List ℕ} → group ≡ [] → Joins d m rows group after → after ≡ rows
joins_none d m e (done h) = refl
joins_none d m e (join a b f h rest) = absurd (among_none (subst (λ (xs : List ℕ). Among a xs) e f.pair.first))

module _ (W : Geometry) (laws : Keeps W) (n m : State) (t : Tied W.admitted W.width W.between n) where
  -- a seed is seen from the driver in one way
  pub same_forest : (F P : Planted (length n.spots) n.edges) → F.forest ≡ P.forest
  same_forest F P = (planted_seen (length n.spots) n.edges t.edges P).only F.forest F.grows

  pub straight_only : (p q : ℕ) (rows before : List Row) → StraightTree W.between n.spots n.pins p q n.edges rows → StraightTree W.between n.spots n.pins p q n.edges before → rows ≡ before
  straight_only p q rows before a b =
      a.built
      ∙ ap (λ (F : Forest). straight (net_rules W.between n.spots n.pins p q) (walk (net_rules W.between n.spots n.pins p q) 0 F start) (spot_of n.spots) (length n.spots)) (same_forest a.planted b.planted)
      ∙ sym b.built

  module _ (two : 2 ≤ n.pins) (p q : ℕ) (al : n.allowance ≡ Some (p, q)) where
    spared_rows : (rows : List Row) → StraightTree W.between n.spots n.pins p q n.edges rows → (F : Planted (length n.spots) n.edges) → Spares (net_rules W.between n.spots n.pins p q) F.forest →
        (length rows ≡ length n.spots) × ((u w l : ℕ) → Branch 0 F.forest u w l → (up rows w ≡ u) × (row_length rows w ≡ l))
    spared_rows rows s F h =
        let hq = (t.allowed p q al).1 in
        let R = net_rules W.between n.spots n.pins p q in
        let e = straight_only p q rows (straight R (marks_of W.between n.spots n.pins p q n.edges F) (spot_of n.spots) (length n.spots)) s (record { planted = F; built = refl }) in
        let Q : List Row → Type 0 = λ xs. (u w l : ℕ) → Branch 0 F.forest u w l → (up xs w ≡ u) × (row_length xs w ≡ l) in (
          ap length e ∙ straight_length R (marks_of W.between n.spots n.pins p q n.edges F) (spot_of n.spots) (length n.spots),
          subst Q (sym e) (λ u w l b. (kept W laws n t two p q hq F).spared h u w l (branch_long W laws n t two p q hq F u w l b).1 b),
        )

    -- then the joined tree is the straight one
    unjoined : (rows : List Row) (j : JoinedTree W.between W.meeting n.spots n.pins p q n.edges rows) (F : Planted (length n.spots) n.edges) → Spares (net_rules W.between n.spots n.pins p q) F.forest → rows ≡ j.unjoined
    unjoined rows j F h =
        let P = j.straight.planted in
        let Q : Forest → Type 0 = λ x. Spares (net_rules W.between n.spots n.pins p q) x in
        let g = walked W laws n t two p q (t.allowed p q al).1 P in
        joins_none W.between W.meeting (no_breakpoints (marks_of W.between n.spots n.pins p q n.edges P) (length n.spots) (g.unbroken (subst Q (same_forest F P) h))) j.joins

    pub straight_within : (rows : List Row) → StraightTree W.between n.spots n.pins p q n.edges rows → WithinBounds W n p q rows
    straight_within rows s =
        let hq = (t.allowed p q al).1 in
        let R = net_rules W.between n.spots n.pins p q in
        let P = s.planted in
        let keeps = kept W laws n t two p q hq P in
        let Q : List Row → Type 0 = λ xs. (k : ℕ) → k < n.pins → q * path_length xs k ≤ (p + q) * W.between (spot_of n.spots 0) (spot_of n.spots k) in
        let placed = placed_straight W laws n t two p q al rows s in
        record {
          tree = hung placed.tree;
          wire = omega (arith, keeps.wire, ap (λ xs. p * wire_of xs) s.built, ap (λ x. (p + 2 * q) * x) P.long);
          allowed = subst Q (sym s.built) (straight_allowed W laws n t two p q hq P t.pins);
          direct = λ F v a.
              let S = marks_of W.between n.spots n.pins p q n.edges F in
              let b = among_breakpoints S (length n.spots) v a in
              let e = straight_only p q rows (straight R S (spot_of n.spots) (length n.spots)) s (record { planted = F; built = refl }) in
              ap (λ xs. path_length xs v) e ∙ (kept W laws n t two p q hq F).breakpoints v b.0 b.1 ∙ direct_is W laws n t two p q hq F v b.0;
        }

    joined_kept : (rows : List Row) (j : JoinedTree W.between W.meeting n.spots n.pins p q n.edges rows) → JoinedKeeps W.between W.meeting j.unjoined rows
    joined_kept rows j =
        let b = j.straight in
        let hq = (t.allowed p q al).1 in
        let nar : W.width ≤ LONGEST = t.narrow (omega (arith, t.pins)) in
        let first = placed_straight W laws n t two p q al j.unjoined b in
        let G : List Row → Type 0 = λ xs. Grouped W.between W.meeting W.admitted xs (breakpoints (marks_of W.between n.spots n.pins p q n.edges b.planted) (length n.spots)) in
        let grouped = subst G (sym b.built) (straight_grouped W laws n t two p q hq b.planted) in
        joining_keeps_lem W.between W.meeting W.admitted (laws.meets nar) j.unjoined rows _ first.tree grouped j.joins

    pub joined_within : (rows : List Row) → JoinedTree W.between W.meeting n.spots n.pins p q n.edges rows → WithinBounds W n p q rows
    joined_within rows j =
        let k = joined_kept rows j in
        let w = straight_within j.unjoined j.straight in
        let first = placed_straight W laws n t two p q al j.unjoined j.straight in
        record {
          tree = hung k.tree;
          wire = omega (arith, w.wire, mul-le-mul_left p k.wire);
          allowed = λ i h. omega (arith, w.allowed i h, ap (λ x. q * x) (k.paths i (omega (arith, t.pins, first.more))));
          direct = λ F v a.
              let b = among_breakpoints (marks_of W.between n.spots n.pins p q n.edges F) (length n.spots) v a in
              k.paths v (omega (arith, first.more, b.0)) ∙ w.direct F v a;
        }

    joined_wire : (rows before : List Row) → JoinedTree W.between W.meeting n.spots n.pins p q n.edges rows → StraightTree W.between n.spots n.pins p q n.edges before → wire_of rows ≤ wire_of before
    joined_wire rows before j s = omega (arith, (joined_kept rows j).wire, ap wire_of (straight_only p q j.unjoined before j.straight s))

  module _ (w : ℕ) (a : StraightAnswer W n m (Ok w)) (rows : List Row) (e : Stands m rows) (p q : ℕ) (al : n.allowance ≡ Some (p, q)) where
    straight_now : StraightTree W.between n.spots n.pins p q n.edges rows
    straight_now =
        let b = a.1.1.1 in
        let same : ◌≡◌ {A = ℕ × ℕ} (b.0, b.1) (p, q) = same_some (b.0, b.1) (p, q) (sym b.3 ∙ al) in
        let S : ℕ × ℕ → Type 0 = λ x. StraightTree W.between n.spots n.pins x.0 x.1 n.edges b.2 in
        let is : b.2 ≡ rows = same_some b.2 rows (sym (ap (λ x. x.tree) b.6) ∙ e) in
        let T : List Row → Type 0 = λ xs. StraightTree W.between n.spots n.pins p q n.edges xs in
        subst T is (subst S same b.4)

  pub straight_spared : (w : ℕ) → StraightAnswer W n m (Ok w) → EdgeForEdge W n m
  straight_spared w a rows e p q al F h = spared_rows a.0 p q al rows (straight_now w a rows e p q al) F h

  pub straight_bounds : (w : ℕ) → StraightAnswer W n m (Ok w) → Bounds W n m
  straight_bounds w a rows e p q al = straight_within a.0 p q al rows (straight_now w a rows e p q al)

  module _ (w : ℕ) (a : JoinedAnswer W n m (Ok w)) (rows : List Row) (e : Stands m rows) (p q : ℕ) (al : n.allowance ≡ Some (p, q)) where
    joined_now : JoinedTree W.between W.meeting n.spots n.pins p q n.edges rows
    joined_now =
        let b = a.1.1.1 in
        let same : ◌≡◌ {A = ℕ × ℕ} (b.0, b.1) (p, q) = same_some (b.0, b.1) (p, q) (sym b.3 ∙ al) in
        let S : ℕ × ℕ → Type 0 = λ x. JoinedTree W.between W.meeting n.spots n.pins x.0 x.1 n.edges b.2 in
        let is : b.2 ≡ rows = same_some b.2 rows (sym (ap (λ x. x.tree) b.6) ∙ e) in
        let T : List Row → Type 0 = λ xs. JoinedTree W.between W.meeting n.spots n.pins p q n.edges xs in
        subst T is (subst S same b.4)

    spared_joined : (F : Planted (length n.spots) n.edges) → Spares (net_rules W.between n.spots n.pins p q) F.forest → (length rows ≡ length n.spots) × ((u w l : ℕ) → Branch 0 F.forest u w l → (up rows w ≡ u) × (row_length rows w ≡ l))
    spared_joined F h =
        let j = joined_now in
        let T : List Row → Type 0 = λ xs. StraightTree W.between n.spots n.pins p q n.edges xs in
        spared_rows a.0 p q al rows (subst T (sym (unjoined a.0 p q al rows j F h)) j.straight) F h

    shorter_joined : (before : List Row) → StraightTree W.between n.spots n.pins p q n.edges before → wire_of rows ≤ wire_of before
    shorter_joined before s = joined_wire a.0 p q al rows before joined_now s

  pub joined_spared : (w : ℕ) → JoinedAnswer W n m (Ok w) → EdgeForEdge W n m
  joined_spared w a rows e p q al F h = spared_joined w a rows e p q al F h

  pub joined_shorter : (w : ℕ) → JoinedAnswer W n m (Ok w) → NoMoreThanStraight W n m
  joined_shorter w a rows before e p q al s = shorter_joined w a rows e p q al before s

  pub joined_bounds : (w : ℕ) → JoinedAnswer W n m (Ok w) → Bounds W n m
  joined_bounds w a rows e p q al = joined_within a.0 p q al rows (joined_now w a rows e p q al)

  -- of an accepted build
  accepted : {P : Type 0} → false ≡ true → P
  accepted h = absurd (both_ways false refl h)

  pub straight_keeps_bounds : (r : Result ℕ Fault) → StraightAnswer W n m r → is_ok r ≡ true → Bounds W n m
  straight_keeps_bounds (Ok w) a e = straight_bounds w a
  straight_keeps_bounds (Err f) a e = accepted e

  pub straight_keeps_seed : (r : Result ℕ Fault) → StraightAnswer W n m r → is_ok r ≡ true → EdgeForEdge W n m
  straight_keeps_seed (Ok w) a e = straight_spared w a
  straight_keeps_seed (Err f) a e = accepted e

  pub joined_keeps_bounds : (r : Result ℕ Fault) → JoinedAnswer W n m r → is_ok r ≡ true → Bounds W n m
  joined_keeps_bounds (Ok w) a e = joined_bounds w a
  joined_keeps_bounds (Err f) a e = accepted e

  pub joined_keeps_seed : (r : Result ℕ Fault) → JoinedAnswer W n m r → is_ok r ≡ true → EdgeForEdge W n m
  joined_keeps_seed (Ok w) a e = joined_spared w a
  joined_keeps_seed (Err f) a e = accepted e

  pub joined_no_longer : (r : Result ℕ Fault) → JoinedAnswer W n m r → is_ok r ≡ true → NoMoreThanStraight W n m
  joined_no_longer (Ok w) a e = joined_shorter w a
  joined_no_longer (Err f) a e = accepted e
