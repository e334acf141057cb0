-- The whole guarantee, from what holds at the end of the walk. Assumes a seed that is a tree and q at least 1.
use Rattle.std.proofs.Common.{◌≡◌, ℕ, zero, suc, ◌+◌, ◌*◌, ◌<◌, ◌≤◌, true, false, cond, ◌||◌, eqb, ◌⊎◌, Some, sym, refl, ap, ◌∙◌, inl, inr, ⊎_elim, le_refl, mul-add, arith}
use Rattle.std.proofs.lemmas.Bool.{cases_eq, cases_Bool, both_ways, cond-false, eq-eqb, ne_eqb, eqb-false}
use Rattle.forest.specs.Rooted.{Forest, wire_of}
use Rattle.walk_laws.specs.Walk.{Marks, Rules, is_a_sink, hung, start, walk}
use Rattle.walk_laws.specs.Promise.{Branch, PathLength, RootedTree, Sink, Triangle, Spares, sum_to, owed_at, wire_at, HangsOnNeighbour, climb, Anchor, Ways, WalkGuarantee, WalkKeeps}
use Rattle.walk_laws.proofs.Steps.{some_inj, start_blank, start_est}
use Rattle.walk_laws.proofs.Branches.{in_branch, ranked_up, branch_rank, branch_up}
use Rattle.walk_laws.proofs.Sums.{sum_same, sum_none, sum_le}
use Rattle.walk_laws.proofs.Standing.{Standing, Good, HangsAt, standing_down, standing_up, walk_by}
use Rattle.walk_laws.proofs.Wire.{load, hook_once, both_le, load_sum, load_low, load_high}
use Rattle.walk_laws.proofs.Climbs.{lower, lower_falls, lower_fewer, way_by_climb, way_driver, way_broken, way_other, way_settled}
use Rattle.walk_laws.proofs.Spare.{sink_from, sink_is, walk_spares, Ready}

start_owed : (R : Rules) (k : ℕ) → (k ≡ 0) ⊎ (k ≡ 0 → ⊥) → owed_at R start k ≡ 0
start_owed R k (inl s) = ap (λ z. cond (start z).broken (R.direct k) 0) s
start_owed R k (inr s) = ap (λ m. cond m.broken (R.direct k) 0) (start_blank k s)

module _ (R : Rules) (n : ℕ) (rank : ℕ → ℕ) (F : Forest) (q : 0 < R.q) (T : RootedTree n rank F) where
  pub start_standing : Standing R n rank F 1 0 0 start
  start_standing =
      record {
        driver = refl;
        fresh = λ y h. start_blank y (λ s. omega (arith, ap rank s, T.first));
        good = λ u w k d h. absurd (omega (arith, (branch_rank n rank 1 F n T.ranked 0 u w k d).0));
        within = λ y e h. omega (arith, (start_est y e h (cases_eq y 0)).1);
        near = λ t d0 y e h. omega (arith, d0, ap R.direct (start_est y e h (cases_eq y 0)).0);
        here = 0;
        told = refl;
        owes =
            omega (
              arith,
              ap (λ x. R.p * x)
                  (sum_same (owed_at R start) (λ k. 0) n (λ k _. start_owed R k (cases_eq k 0)) ∙ sum_none n),
            );
      }

  -- What holds at the end of the walk.
  pub walk_standing : Standing R n rank F n (0 + 2 * wire_of F) 0 (walk R 0 F start)
  walk_standing =
      walk_by R n rank F (λ r g x S. Standing R n rank F r g x S) (standing_down R n rank F T q) (standing_up R n rank F T) F 0 1 n 0 start
      (λ x w k e. e) T.ranked start_standing

  pub first_below : 0 < n
  first_below = ranked_up n rank 1 F n T.ranked

  -- Both ends of an edge are nodes below n.
  pub ends_below : (u w l : ℕ) → Branch 0 F u w l → (u < n) × (w < n)
  ends_below u w l d =
      let z : rank 0 < 1 = omega (arith, T.first) in
      ((branch_up n rank 1 F n T.ranked 0 u w l z first_below d).1, (branch_rank n rank 1 F n T.ranked 0 u w l d).2)

  module _ (S : Marks) (s : Standing R n rank F n (0 + 2 * wire_of F) 0 S) where
    good : (v : ℕ) → v < n → (v ≡ 0 → ⊥) → Good R F S v (S v)
    good v h ne =
        let d = in_branch (T.all v h ne) 0 in
        s.good d.0 v d.1 d.2 (branch_rank n rank 1 F n T.ranked 0 d.0 v d.1 d.2).1

    told_at : (v : ℕ) → v < n → (v ≡ 0) ⊎ (v ≡ 0 → ⊥) → (e : ℕ) × ((S v).est ≡ Some e)
    told_at v h (inl z) = (0, ap (λ m. m.est) (ap S z ∙ s.driver))
    told_at v h (inr ne) = ((good v h ne).at, (good v h ne).told)

    told : (v : ℕ) → v < n → (e : ℕ) × ((S v).est ≡ Some e) × (e ≤ 2 * wire_of F)
    told v h =
        let t = told_at v h (cases_eq v 0) in (t.0, t.1, omega (arith, s.within v t.0 t.1))

    allowed : (v e : ℕ) → v < n → Sink R v → (S v).est ≡ Some e → R.q * e ≤ (R.p + R.q) * R.direct v
    allowed v e h k t =
        let G : Good R F S v (S v) = good v h (λ z. omega (arith, k.0)) in
        let same : G.at ≡ e = some_inj (sym G.told ∙ t) in
        omega (arith, G.allowed (sink_is R v k), ap (λ x. R.q * x) same)

    -- A breakpoint is not the driver, is a sink, and its estimate is at most its direct distance.
    broken_at : (v : ℕ) → v < n → (S v).broken ≡ true → (v ≡ 0) ⊎ (v ≡ 0 → ⊥) →
        (is_a_sink R v ≡ true) × ((e : ℕ) → (S v).est ≡ Some e → e ≤ R.direct v)
    broken_at v h b (inl z) = absurd (both_ways (S v).broken (ap (λ m. m.broken) (ap S z ∙ s.driver)) b)
    broken_at v h b (inr ne) = go (good v h ne).link
      where
        G : Good R F S v (S v)
        G = good v h ne

        go :
            (((S v).broken ≡ true) × (is_a_sink R v ≡ true) × (G.at ≤ R.direct v)) ⊎ (((S v).broken ≡ false) × HangsAt F S v (S v) G.at) →
            (is_a_sink R v ≡ true) × ((e : ℕ) → (S v).est ≡ Some e → e ≤ R.direct v)
        go (inl l) = (l.1, λ e t. omega (arith, some_inj (sym G.told ∙ t), l.2))
        go (inr l) = absurd (both_ways (S v).broken l.0 b)

    sinks : (v : ℕ) → v < n → (S v).broken ≡ true → Sink R v
    sinks v h b = sink_from R v (broken_at v h b (cases_eq v 0)).0

    positive : (v u l : ℕ) → Branch 0 F u v l ⊎ Branch 0 F v u l → 0 < l
    positive v u l (inl d) = T.long u v l d
    positive v u l (inr d) = T.long v u l d

    hangs : (v e : ℕ) → v < n → (v ≡ 0 → ⊥) → (S v).broken ≡ false → (S v).est ≡ Some e → HangsOnNeighbour F S v e
    hangs v e h ne nb t = go (good v h ne).link
      where
        G : Good R F S v (S v)
        G = good v h ne

        go :
            (((S v).broken ≡ true) × (is_a_sink R v ≡ true) × (G.at ≤ R.direct v)) ⊎ (((S v).broken ≡ false) × HangsAt F S v (S v) G.at) →
            HangsOnNeighbour F S v e
        go (inl l) = absurd (both_ways (S v).broken nb l.0)
        go (inr l) =
            let same : G.at ≡ e = some_inj (sym G.told ∙ t) in
            record {
              neighbour = l.1.neighbour;
              above = l.1.above;
              told = l.1.told;
              room = omega (arith, l.1.room, same);
              falls = omega (arith, l.1.room, same, positive v (S v).parent (S v).edge l.1.neighbour);
            }

    parent_below : (v : ℕ) → Branch 0 F (S v).parent v (S v).edge ⊎ Branch 0 F v (S v).parent (S v).edge → (S v).parent < n
    parent_below v (inl d) = (ends_below (S v).parent v (S v).edge d).0
    parent_below v (inr d) = (ends_below v (S v).parent (S v).edge d).1

    -- Each parent has a smaller estimate, so the steps to the driver or a breakpoint are no more than the nodes with smaller estimates.
    ends_by : (fuel v e : ℕ) → v < n → (S v).est ≡ Some e → e < fuel → (k : ℕ) × (k ≤ lower S n e) × Anchor S (climb S k v)
    ends_by zero v e h t f = absurd (omega arith)
    ends_by (suc fuel) v e h t f = go (λ w d. ends_by fuel w d) (cases_eq v 0) (cases_Bool (S v).broken)
      where
        go : ((w d : ℕ) → w < n → (S w).est ≡ Some d → d < fuel → (k : ℕ) × (k ≤ lower S n d) × Anchor S (climb S k w)) →
            (v ≡ 0) ⊎ (v ≡ 0 → ⊥) → ((S v).broken ≡ true) ⊎ ((S v).broken ≡ false) → (k : ℕ) × (k ≤ lower S n e) × Anchor S (climb S k v)
        go ih (inl z) b = (0, omega arith, inl z)
        go ih (inr ne) (inl b) = (0, omega arith, inr b)
        go ih (inr ne) (inr nb) =
            let H : HangsOnNeighbour F S v e = hangs v e h ne nb t in
            let w : (S v).parent < n = parent_below v H.neighbour in
            let k = ih (S v).parent H.above w H.told (omega (arith, H.falls)) in
            (suc k.0, omega (arith, k.1, lower_falls S n H.above e (S v).parent w H.told H.falls), k.2)

    ends : (v : ℕ) → v < n → (k : ℕ) × (k < n) × Anchor S (climb S k v)
    ends v h =
        let t = told v h in
        let k = ends_by (suc t.0) v t.0 h t.1 (le_refl (suc t.0)) in
        (k.0, omega (arith, k.1, lower_fewer S n t.0 v h t.1), k.2)

    -- A node that is neither driver nor breakpoint is one edge further than its parent.
    way_at : (m v : ℕ) → n ≡ m → v < n → (v ≡ 0 → ⊥) → (S v).broken ≡ false → way_by_climb R S m v ≡ way_by_climb R S m (S v).parent + (S v).edge
    way_at zero v is h ne nb = absurd (omega arith)
    way_at (suc m) v is h ne nb =
        let t = told v h in
        let k = ends (S v).parent (parent_below v (hangs v t.0 h ne nb t.1).neighbour) in
        way_other R S m v (ne_eqb v 0 ne) nb ∙
        ap (λ x. x + (S v).edge) (sym (way_settled R S k.0 m (S v).parent k.2 (omega (arith, k.1, is))))

    paths : (path : ℕ → ℕ) × Ways R n S path
    paths = (
      way_by_climb R S n,
      record {
        driver = way_driver R S n 0 refl;
        breakpoint =
            λ v h b.
            way_broken R S n v b ∙ cond-false (eqb v 0) 0 (R.direct v) (ne_eqb v 0 (λ z. omega (arith, (sinks v h b).0)));
        other = λ v h ne nb. way_at n v refl h ne nb;
      },
    )

    near : Triangle R F → R.direct 0 ≡ 0 → (v e : ℕ) → v < n → (S v).est ≡ Some e → R.direct v ≤ e
    near t d0 v e h k = s.near t d0 v e k

    exact : Triangle R F → R.direct 0 ≡ 0 → (v : ℕ) → v < n → (S v).broken ≡ true → (S v).est ≡ Some (R.direct v)
    exact t d0 v h b =
        let k = told v h in
        let same : k.0 ≡ R.direct v =
        omega (arith, s.near t d0 v k.0 k.1, (broken_at v h b (cases_eq v 0)).1 k.0 k.1) in
        k.1 ∙ ap (λ x. Some x) same

    ways_by : Triangle R F → R.direct 0 ≡ 0 → (path : ℕ → ℕ) → Ways R n S path →
        (fuel v e : ℕ) → v < n → (S v).est ≡ Some e → e < fuel → path v ≤ e
    ways_by t d0 path w zero v e h k f = absurd (omega arith)
    ways_by t d0 path w (suc fuel) v e h k f =
        go (λ x d. ways_by t d0 path w fuel x d) (cases_eq v 0) (cases_Bool (S v).broken)
      where
        go : ((x d : ℕ) → x < n → (S x).est ≡ Some d → d < fuel → path x ≤ d) →
            (v ≡ 0) ⊎ (v ≡ 0 → ⊥) → ((S v).broken ≡ true) ⊎ ((S v).broken ≡ false) → path v ≤ e
        go ih (inl z) b = omega (arith, ap path z, w.driver)
        go ih (inr ne) (inl b) = omega (arith, w.breakpoint v h b, s.near t d0 v e k)
        go ih (inr ne) (inr nb) =
            let H : HangsOnNeighbour F S v e = hangs v e h ne nb k in
            omega (
              arith,
              w.other v h ne nb,
              H.room,
              ih (S v).parent H.above (parent_below v H.neighbour) H.told (omega (arith, H.falls)),
            )

    owed : R.p * sum_to (owed_at R S) n ≤ 2 * (R.q * wire_of F)
    owed = omega (arith, s.owes, two R.q (wire_of F))
      where
        two : (a b : ℕ) → a * (0 + 2 * b) ≡ 2 * (a * b)
        two a b =
            let e : 0 + 2 * b ≡ b + b = omega arith in
            omega (arith, ap (λ x. a * x) e, mul-add a b b)

    -- Two nodes do not hang on each other.
    apart : (u w : ℕ) → u < n → w < n → eqb w 0 ≡ false → (S w).broken ≡ false → (S w).parent ≡ u → eqb u 0 ≡ false → (S u).broken ≡ false →
        (S u).parent ≡ w → ⊥
    apart u w hu hw zw bw pw zu bu pu =
        let tu = told u hu in
        let tw = told w hw in
        let Hw : HangsOnNeighbour F S w tw.0 = hangs w tw.0 hw (eqb-false w 0 zw) bw tw.1 in
        let Hu : HangsOnNeighbour F S u tu.0 = hangs u tu.0 hu (eqb-false u 0 zu) bu tu.1 in
        let one : Hw.above ≡ tu.0 = some_inj (sym Hw.told ∙ (ap (λ x. (S x).est) pw ∙ tu.1)) in
        let two : Hu.above ≡ tw.0 = some_inj (sym Hu.told ∙ (ap (λ x. (S x).est) pu ∙ tw.1)) in
        omega (arith, one, two, Hw.falls, Hu.falls)

    wire_at_lem : (v : ℕ) → v < n → (v ≡ 0) ⊎ (v ≡ 0 → ⊥) → ((S v).broken ≡ true) ⊎ ((S v).broken ≡ false) → wire_at S v ≤ load S 0 F v
    wire_at_lem v h (inl z) b =
        omega (arith, ap (λ x. cond (x || (S v).broken) 0 (S v).edge) (eq-eqb v 0 z))
    wire_at_lem v h (inr ne) (inl b) =
        omega (arith, ap (λ x. cond (x || (S v).broken) 0 (S v).edge) (ne_eqb v 0 ne), ap (λ x. cond x 0 (S v).edge) b)
    wire_at_lem v h (inr ne) (inr nb) = go (told v h)
      where
        pick : Branch 0 F (S v).parent v (S v).edge ⊎ Branch 0 F v (S v).parent (S v).edge → wire_at S v ≤ load S 0 F v
        pick (inl d) = load_low S 0 F (S v).parent v (S v).edge d refl refl
        pick (inr d) = load_high S 0 F v (S v).parent (S v).edge d refl refl

        go : (e : ℕ) × ((S v).est ≡ Some e) × (e ≤ 2 * wire_of F) → wire_at S v ≤ load S 0 F v
        go k = pick (hangs v k.0 h ne nb k.1).neighbour

    wire : sum_to (wire_at S) n ≤ wire_of F
    wire =
        omega (
          arith,
          sum_le (wire_at S) (load S 0 F) n (λ v h. wire_at_lem v h (cases_eq v 0) (cases_Bool (S v).broken)),
          load_sum S n rank 0 1 F n first_below T.ranked,
          both_le S 0 F
              (λ u w l d. hook_once S w u l (apart u w (ends_below u w l d).0 (ends_below u w l d).1)),
        )

  spared : Spares R F → (u w l : ℕ) → Branch 0 F u w l → (d : ℕ) × PathLength 0 F w d × (walk R 0 F start w ≡ hung u l d false)
  spared keeps u w l d = (walk_spares R n rank 1 F n 0 0 start T.ranked ready).marks u w l d
    where
      ready : Ready R rank 1 0 0 F start
      ready =
          record {
            told = refl;
            before = omega (arith, T.first);
            fresh = start_standing.fresh;
            keeps = λ v e k p. keeps v e k p;
            long = T.long;
          }

  -- Then no node is a breakpoint: each but the driver is the lower end of an edge.
  unbroken : Spares R F → (v : ℕ) → v < n → (walk R 0 F start v).broken ≡ false
  unbroken keeps v h =
      ⊎_elim
      (λ (z : v ≡ 0). ap (λ x. (walk R 0 F start x).broken) z ∙ ap (λ m. m.broken) walk_standing.driver)
      (λ (nz : v ≡ 0 → ⊥). let b = in_branch (T.all v h nz) 0 in ap (λ m. m.broken) (spared keeps b.0 v b.1 b.2).2)
      (cases_eq v 0)

  pub guarantee : WalkGuarantee R n F (walk R 0 F start)
  guarantee =
      let S : Marks = walk R 0 F start in
      let s : Standing R n rank F n (0 + 2 * wire_of F) 0 (walk R 0 F start) = walk_standing in
      record {
        driver = s.driver;
        told = told S s;
        allowed = allowed S s;
        sinks = sinks S s;
        hangs = hangs S s;
        ends = ends S s;
        paths = paths S s;
        near = near S s;
        exact = exact S s;
        ways = λ t d0 path w v e h k. ways_by S s t d0 path w (suc e) v e h k (le_refl (suc e));
        owed = owed S s;
        wire = wire S s;
        spared = spared;
        unbroken = unbroken;
      }

pub walk_keeps_lem : WalkKeeps
walk_keeps_lem R n rank F q T = guarantee R n rank F q T
