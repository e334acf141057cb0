-- The straight tree of a net that is tied to its space: it lies in the space, and its sinks' paths are within the allowance. Assumes nothing.
use Rattle.std.proofs.Common.{◌≡◌, ℕ, zero, suc, ◌+◌, ◌*◌, ◌<◌, ◌≤◌, Bool, true, false, cond, ◌||◌, eqb, List, length, sym, refl, ap, ◌∙◌, ⊎_elim, arith}
use Rattle.std.proofs.lemmas.List.{get_or-map}
use Rattle.std.proofs.lemmas.Bool.{cases_Bool, cases_eq, cond-false, cond-true, ne_eqb, or_from, or_right}
use Rattle.order.specs.Firsts.{Among}
use Rattle.order.proofs.Finding.{among_either, among_none, among_one}
use Rattle.build_laws.specs.Joining.{Grouped}
use Rattle.build_laws.specs.Straight.{Straight, straight, straight_row, net_rules}
use Rattle.build_laws.proofs.Building.{straight_length, straight_of, straight_row_lem}
use Rattle.forest.specs.Edges.{Near}
use Rattle.forest.specs.Growth.{Planted}
use Rattle.forest.proofs.Accepted.{accepted, accepted_good}
use Rattle.space.specs.Laws.{Metric}
use Rattle.space.specs.declared.TheConstants.{LONGEST}
use Rattle.space.specs.declared.spot.Spot.{Spot}
use Rattle.space.specs.Spots.{origin, spot_of}
use Rattle.tree_laws.specs.Trees.{row_length, path_length, row_of, row_spot, up}
use Rattle.tree_laws.specs.declared.Row.{Row}
use Rattle.tree_laws.proofs.Ways.{path_driver}
use Rattle.walk_laws.specs.Promise.{Branch, WalkGuarantee, RootedTree, Triangle}
use Rattle.walk_laws.specs.Walk.{Rules, Marks}
use Rattle.walk_laws.proofs.Keeps.{walk_keeps_lem}
use Rattle.walk_laws.proofs.Planting.{branch_near, planted_spans}
use Rattle.net_laws.specs.Answers.{breakpoints, broken_if, marks_of}
use Rattle.net_laws.specs.Geometry.{Geometry}
use Rattle.net_laws.specs.States.{State}
use Rattle.net_laws.specs.Spaces.{Keeps, Placed, Tied}

-- a breakpoint of the list is a node that is one
among_broken : (b : Bool) (v x : ℕ) → Among x (broken_if b v) → (x ≡ v) × (b ≡ true)
among_broken true v x a = (among_one a, refl)
among_broken false v x a = absurd (among_none a)

pub among_breakpoints : (S : Marks) (n x : ℕ) → Among x (breakpoints S n) → (x < n) × ((S x).broken ≡ true)
among_breakpoints S zero x a = absurd (among_none a)
among_breakpoints S (suc n) x a =
    ⊎_elim
    (λ (i : Among x (breakpoints S n)). let r = among_breakpoints S n x i in (omega (arith, r.0), r.1))
    (λ (i : Among x (broken_if (S n).broken n)). let r = among_broken (S n).broken n x i in (omega (arith, r.0), ap (λ v. (S v).broken) r.0 ∙ r.1))
    (among_either (breakpoints S n) (broken_if (S n).broken n) a)

module _ (W : Geometry) (laws : Keeps W) (n : State) (t : Tied W.admitted W.width W.between n) (two : 2 ≤ n.pins) where
  abbrev pub d : Spot → Spot → ℕ
  d = W.between

  abbrev pub N : ℕ
  N = length n.spots

  abbrev pub spot : ℕ → Spot
  spot = spot_of n.spots

  pub narrow : W.width ≤ LONGEST
  narrow = t.narrow (omega (arith, t.pins))

  pub metric : Metric W.admitted W.width W.between
  metric = laws.metric narrow

  -- the ends of an edge are nodes, and its length is their distance
  pub near_long : (u w l : ℕ) → Near n.edges u w l → (u < N) × (w < N) × (l ≡ d (spot u) (spot w))
  near_long u w l k =
      let e = k.edge in
      let g = accepted_good (accepted N n.edges t.edges) e k.stands in
      let long : l ≡ d (spot e.a) (spot e.b) = sym k.long ∙ t.lengths e k.stands in
      ⊎_elim
      (λ (p : (e.a ≡ u) × (e.b ≡ w)).
      let x : u < N = omega (arith, p.0, g.0) in
      let y : w < N = omega (arith, p.1, g.1) in
      (x, y, long ∙ ap (λ z. d (spot z) (spot e.b)) p.0 ∙ ap (λ z. d (spot u) (spot z)) p.1))
      (λ (p : (e.a ≡ w) × (e.b ≡ u)).
      let x : u < N = omega (arith, p.1, g.1) in
      let y : w < N = omega (arith, p.0, g.0) in
      (x, y, long ∙ ap (λ z. d (spot z) (spot e.b)) p.0 ∙ ap (λ z. d (spot w) (spot z)) p.1 ∙ metric.symmetric (spot w) (spot u) (t.admitted w y) (t.admitted u x)))
      k.between

  module _ (p q : ℕ) (hq : 0 < q) (F : Planted (length n.spots) n.edges) where
    abbrev pub R : Rules
    R = net_rules W.between n.spots n.pins p q

    abbrev pub S : Marks
    S = marks_of W.between n.spots n.pins p q n.edges F

    abbrev pub rows : List Row
    rows = straight R S (spot_of n.spots) N

    spans : RootedTree N F.rank F.forest
    spans = planted_spans N n.edges t.edges F

    pub walked : WalkGuarantee R N F.forest S
    walked = walk_keeps_lem R N F.rank F.forest hq spans

    pub kept : Straight R N F.forest S rows
    kept = straight_of R N F.rank F.forest S spot hq spans walked

    pub direct_is : (v : ℕ) → v < N → R.direct v ≡ d (spot 0) (spot v)
    direct_is v h = get_or-map (d (spot 0)) n.spots v origin 0 h

    pub branch_long : (u w l : ℕ) → Branch 0 F.forest u w l → (u < N) × (w < N) × (l ≡ d (spot u) (spot w))
    branch_long u w l b = near_long u w l (branch_near F.grows u w l b)

    pub triangle : Triangle R F.forest
    triangle u w l b =
        let x = branch_long u w l b in
        let o = t.admitted 0 (omega (arith, t.pins)) in
        let au = t.admitted u x.0 in
        let aw = t.admitted w x.1 in (
          omega (arith, direct_is w x.1, direct_is u x.0, x.2, metric.triangle (spot 0) (spot u) (spot w) o au aw),
          omega (arith, direct_is w x.1, direct_is u x.0, x.2, metric.triangle (spot 0) (spot w) (spot u) o aw au, metric.symmetric (spot w) (spot u) aw au),
        )

    pub from_driver : R.direct 0 ≡ 0
    from_driver = direct_is 0 (omega (arith, t.pins)) ∙ metric.itself (spot 0) (t.admitted 0 (omega (arith, t.pins)))

    rows_length : length rows ≡ N
    rows_length = straight_length R S spot N

    row_is : (k : ℕ) → k < N → row_of rows k ≡ straight_row R S spot k
    row_is k h = straight_row_lem R S spot N k h

    pub spot_is : (k : ℕ) → k < N → row_spot rows k ≡ spot k
    spot_is k h = ap (λ (r : Row). r.spot) (row_is k h)

    -- a row that hangs on u, a node, at its distance from it
    long_on : (k u : ℕ) → k < N → u < N → up rows k ≡ u → row_length rows k ≡ d (spot u) (spot k) → row_length rows k ≡ d (row_spot rows (up rows k)) (row_spot rows k)
    long_on k u h hu e l =
        l ∙ ap (λ (z : Spot). d z (spot k)) (sym (ap (row_spot rows) e ∙ spot_is u hu)) ∙ ap (d (row_spot rows (up rows k))) (sym (spot_is k h))

    long_broken : (k : ℕ) → k < N → (k ≡ 0 → ⊥) → (S k).broken ≡ true → row_length rows k ≡ d (row_spot rows (up rows k)) (row_spot rows k)
    long_broken k h ne b =
        long_on k 0 h (omega arith)
        (ap (λ (r : Row). r.parent) (row_is k h) ∙ cond-true (eqb k 0 || (S k).broken) 0 (S k).parent (or_right _ _ b))
        (ap (λ (r : Row). r.length) (row_is k h) ∙ cond-false (eqb k 0) 0 (cond (S k).broken (R.direct k) (S k).edge) (ne_eqb k 0 ne) ∙ cond-true (S k).broken (R.direct k) (S k).edge b ∙ direct_is k h)

    long_hung : (k : ℕ) → k < N → (k ≡ 0 → ⊥) → (S k).broken ≡ false → row_length rows k ≡ d (row_spot rows (up rows k)) (row_spot rows k)
    long_hung k h ne b =
        let e = walked.told k h in
        let g = walked.hangs k e.0 h ne b e.1 in
        let u = (S k).parent in
        let x : (u < N) × ((S k).edge ≡ d (spot u) (spot k)) =
        ⊎_elim
        (λ (c : Branch 0 F.forest u k (S k).edge). let y = branch_long u k (S k).edge c in (y.0, y.2))
        (λ (c : Branch 0 F.forest k u (S k).edge).
        let y = branch_long k u (S k).edge c in
        (y.1, y.2 ∙ metric.symmetric (spot k) (spot u) (t.admitted k h) (t.admitted u y.1)))
        g.neighbour in
        long_on k u h x.0
        (ap (λ (r : Row). r.parent) (row_is k h) ∙ cond-false (eqb k 0 || (S k).broken) 0 (S k).parent (or_from _ _ (ne_eqb k 0 ne) b))
        (ap (λ (r : Row). r.length) (row_is k h) ∙ cond-false (eqb k 0) 0 (cond (S k).broken (R.direct k) (S k).edge) (ne_eqb k 0 ne) ∙ cond-false (S k).broken (R.direct k) (S k).edge b ∙ x.1)

    pub straight_placed : Placed W.admitted W.between n rows
    straight_placed = record {
      two = two;
      tree = kept.tree;
      more = omega (arith, rows_length);
      spots = spot_is;
      admitted = λ k h. let i : k < N = omega (arith, rows_length) in ap (λ (z : Spot). W.admitted z) (spot_is k i) ∙ t.admitted k i;
      lengths = λ k h ne.
          let i : k < N = omega (arith, rows_length) in
          ⊎_elim (λ (b : (S k).broken ≡ true). long_broken k i ne b) (λ (b : (S k).broken ≡ false). long_hung k i ne b) (cases_Bool (S k).broken);
    }

    -- every pin's path is within the allowance
    pub straight_allowed : n.pins ≤ N → (k : ℕ) → k < n.pins → q * path_length rows k ≤ (p + q) * d (spot 0) (spot k)
    straight_allowed h k i =
        ⊎_elim
        (λ (z : k ≡ 0).
        let none : path_length rows k ≡ 0 = ap (path_length rows) z ∙ path_driver kept.tree in
        omega (arith, ap (λ x. q * x) none))
        (λ (ne : k ≡ 0 → ⊥).
        let j : k < N = omega arith in
        omega (arith, kept.allowed triangle from_driver k j (omega arith, i), ap (λ x. (p + q) * x) (direct_is k j)))
        (cases_eq k 0)

    -- the breakpoints hang on the driver at their distance from it
    pub straight_grouped : Grouped W.between W.meeting W.admitted rows (breakpoints S (length n.spots))
    straight_grouped =
        let is = among_breakpoints S N in
        let p = straight_placed in
        let low : 0 < N = omega (arith, t.pins) in
        let high : (v : ℕ) → Among v (breakpoints S N) → v ≡ 0 → ⊥ = λ v a z. omega (arith, (walked.sinks v (is v a).0 (is v a).1).0) in
        let hung : (v : ℕ) → Among v (breakpoints S N) → up rows v ≡ 0 = λ v a.
        ap (λ (r : Row). r.parent) (row_is v (is v a).0) ∙ cond-true (eqb v 0 || (S v).broken) 0 (S v).parent (or_right _ _ (is v a).1) in
        record {
          driver = p.admitted 0 (omega (arith, rows_length));
          rows_of = λ v a. omega (arith, rows_length, (is v a).0);
          others = high;
          hung = hung;
          long = λ v a. long_broken v (is v a).0 (high v a) (is v a).1 ∙ ap (λ x. d (row_spot rows x) (row_spot rows v)) (hung v a);
          admits = λ v a. p.admitted v (omega (arith, rows_length, (is v a).0));
        }
