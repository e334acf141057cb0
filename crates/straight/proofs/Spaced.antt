-- Where the spots and the edges are laid, the straight tree is one by the space's own distances. Assumes nothing.
use Rattle.std.proofs.Common.{◌≡◌, ℕ, ◌+◌, ◌*◌, ◌<◌, ◌≤◌, true, false, ◌&&◌, List, map, length, get_or, sym, ap, ◌∙◌, subst, ⊎_elim, arith}
use Rattle.std.proofs.lemmas.List.{ext_get_or, get_or-map, length-map}
use Rattle.std.proofs.lemmas.Bool.{cases_Bool}
use Rattle.space.specs.declared.TheConstants.{LONGEST}
use Rattle.order.specs.Firsts.{Among}
use Rattle.space.specs.Laws.{Metric}
use Rattle.space.specs.declared.Space.{Ghosts}
use Rattle.space.specs.declared.spot.Spot.{Spot}
use Rattle.forest.specs.declared.Edge.{Edge}
use Rattle.forest.specs.Edges.{Near, Sound}
use Rattle.forest.proofs.Accepted.{accepted, accepted_good}
use Rattle.walk_laws.specs.Walk.{Rules}
use Rattle.walk_laws.specs.Promise.{Branch, Triangle}
use Rattle.tree_laws.specs.declared.Row.{Row}
use Rattle.tree_laws.specs.Trees.{row_length, row_of, row_spot, up}
use Rattle.tree_laws.specs.Distances.{Measured}
use Rattle.space.specs.Totals.{capped_distance}
use Rattle.tree_laws.proofs.HookMoves.{uncut}
use Rattle.build_laws.specs.Straight.{straight_row, net_rules}
use Rattle.build_laws.proofs.Building.{among_breakpoints, straight_length, straight_row_lem}
use Rattle.straight.specs.Built.{MeasuredSeed, Measures, StraightBy, Straightened, origin}
use Rattle.space.specs.Spots.{spot_of}
use Rattle.straight.proofs.Rows.{row_broken, row_hung}

module _ {X : Type 0} (G : Ghosts X) (s : X) (law : G.width s ≤ LONGEST → Metric (G.admitted s) (G.width s) (G.between s)) (spots : List Spot) (n : ℕ) (E : List Edge) (sound : Sound n E) (size : n ≡ length spots) (a : MeasuredSeed G s spots E) where
  abbrev far : ℕ → ℕ → ℕ
  far u v = G.between s (spot_of spots u) (spot_of spots v)

  abbrev metric : Metric (G.admitted s) (G.width s) (G.between s)
  metric = law a.narrow

  admits : (k : ℕ) → k < n → G.admitted s (spot_of spots k) ≡ true
  admits k h = a.admitted k (omega (arith, size))

  swap : (u v : ℕ) → u < n → v < n → far u v ≡ far v u
  swap u v h k = metric.symmetric (spot_of spots u) (spot_of spots v) (admits u h) (admits v k)

  -- an edge between two nodes has their distance as its length
  near_far : (u v l : ℕ) → Near E u v l → (u < n) × (v < n) × (l ≡ far u v)
  near_far u v l k =
      let e = k.edge in
      let g = accepted_good (accepted n E sound) e k.stands in
      let long : l ≡ far e.a e.b = sym k.long ∙ a.edges e k.stands in
      ⊎_elim
      (λ (p : (e.a ≡ u) × (e.b ≡ v)).
      let hu : u < n = omega (arith, p.0, g.0) in
      let hv : v < n = omega (arith, p.1, g.1) in
      let same : l ≡ far u v = long ∙ ap (λ x. far x e.b) p.0 ∙ ap (far u) p.1 in
      (hu, hv, same))
      (λ (p : (e.a ≡ v) × (e.b ≡ u)).
      let hv : v < n = omega (arith, p.0, g.0) in
      let hu : u < n = omega (arith, p.1, g.1) in
      let same : l ≡ far u v = long ∙ ap (λ x. far x e.b) p.0 ∙ ap (far v) p.1 ∙ swap v u hv hu in
      (hu, hv, same))
      k.between

  -- no distance from the driver is cut
  reach_far : 0 < n → (k : ℕ) → k < n → capped_distance G s (spot_of spots 0) (spot_of spots k) ≡ far 0 k
  reach_far some k h =
      let x = admits 0 some in
      let y = admits k h in
      let both : G.admitted s (spot_of spots 0) && G.admitted s (spot_of spots k) ≡ true = rw (x, y) in
      uncut (far 0 k) (G.width s) (G.admitted s (spot_of spots 0) && G.admitted s (spot_of spots k)) both (metric.within (spot_of spots 0) (spot_of spots k) x y) a.narrow

  reaches_far : 0 < n → map (capped_distance G s (spot_of spots 0)) spots ≡ map (G.between s (spot_of spots 0)) spots
  reaches_far some =
      let f = capped_distance G s (spot_of spots 0) in
      let g = G.between s (spot_of spots 0) in
      ext_get_or 0 (map f spots) (map g spots) (length-map spots f ∙ sym (length-map spots g))
      (λ k h.
      let m : k < length spots = omega (arith, length-map spots f) in
      get_or-map f spots k origin 0 m ∙ reach_far some k (omega (arith, size)) ∙ sym (get_or-map g spots k origin 0 m))

  module _ (p q pins : ℕ) where
    abbrev R : Rules
    R = net_rules (G.between s) spots pins p q

    rules_far : 0 < n → net_rules (capped_distance G s) spots pins p q ≡ net_rules (G.between s) spots pins p q
    rules_far some = ap (λ (xs : List ℕ). record { p = p; q = q; pins = pins; direct = λ v. get_or xs v 0 }) (reaches_far some)

    direct_far : (v : ℕ) → v < n → R.direct v ≡ far 0 v
    direct_far v h = get_or-map (G.between s (spot_of spots 0)) spots v origin 0 (omega (arith, size))

    nearer : 0 < n → (u v l : ℕ) → Near E u v l → R.direct v ≤ R.direct u + l
    nearer some u v l k =
        let e = near_far u v l k in
        omega (arith, e.2, direct_far u e.0, direct_far v e.1, metric.triangle (spot_of spots 0) (spot_of spots u) (spot_of spots v) (admits 0 some) (admits u e.0) (admits v e.1))

    module _ (found : List ℕ) (w : ℕ) (built : List Row) (some : 0 < n) (b : Straightened (G.between s) spots p q pins n E found w built) where
      triangle : Triangle R b.walked.planted.forest
      triangle u v l d =
          let k = b.walked.seen.edges u v l d in
          let e = near_far u v l k in
          (nearer some u v l k, omega (arith, e.2, swap u v e.0 e.1, direct_far u e.0, direct_far v e.1, metric.triangle (spot_of spots 0) (spot_of spots v) (spot_of spots u) (admits 0 some) (admits v e.1) (admits u e.0)))

      start : R.direct 0 ≡ 0
      start = direct_far 0 some ∙ metric.itself (spot_of spots 0) (admits 0 some)

      row_at : (k : ℕ) → k < n → row_of built k ≡ straight_row R b.marks (spot_of spots) k
      row_at k h = ap (λ (rows : List Row). row_of rows k) b.rows ∙ straight_row_lem R b.marks (spot_of spots) n k h

      spot_at_lem : (k : ℕ) → k < n → row_spot built k ≡ spot_of spots k
      spot_at_lem k h = ap (λ (r : Row). r.spot) (row_at k h)

      count : length built ≡ n
      count = ap length b.rows ∙ straight_length R b.marks (spot_of spots) n

      -- the length of a row whose parent is u
      long_at : (k u : ℕ) → k < n → u < n → up built k ≡ u → row_length built k ≡ far u k → row_length built k ≡ G.between s (row_spot built (up built k)) (row_spot built k)
      long_at k u h m e l =
          l
          ∙ ap (λ (z : Spot). G.between s z (spot_of spots k)) (sym (ap (row_spot built) e ∙ spot_at_lem u m))
          ∙ ap (G.between s (row_spot built (up built k))) (sym (spot_at_lem k h))

      long_broken : (k : ℕ) → k < n → (k ≡ 0 → ⊥) → (b.marks k).broken ≡ true → row_length built k ≡ G.between s (row_spot built (up built k)) (row_spot built k)
      long_broken k h nz o =
          let e = row_at k h ∙ sym (row_broken R b.marks (spot_of spots) k nz o) in
          long_at k 0 h some (ap (λ (r : Row). r.parent) e) (ap (λ (r : Row). r.length) e ∙ direct_far k h)

      long_hung : (k : ℕ) → k < n → (k ≡ 0 → ⊥) → (b.marks k).broken ≡ false → row_length built k ≡ G.between s (row_spot built (up built k)) (row_spot built k)
      long_hung k h nz o =
          let S = b.marks in
          let F = b.walked.planted.forest in
          let e = row_at k h ∙ sym (row_hung R S (spot_of spots) k nz o) in
          let t = b.walked.keeps.told k h in
          let near : ((S k).parent < n) × ((S k).edge ≡ far (S k).parent k) =
          ⊎_elim
          (λ (d : Branch 0 F (S k).parent k (S k).edge). let r = near_far (S k).parent k (S k).edge (b.walked.seen.edges (S k).parent k (S k).edge d) in (r.0, r.2))
          (λ (d : Branch 0 F k (S k).parent (S k).edge). let r = near_far k (S k).parent (S k).edge (b.walked.seen.edges k (S k).parent (S k).edge d) in (r.1, r.2 ∙ swap k (S k).parent r.0 r.1))
          (b.walked.keeps.hangs k t.0 h nz o t.1).neighbour in
          long_at k (S k).parent h near.0 (ap (λ (r : Row). r.parent) e) (ap (λ (r : Row). r.length) e ∙ near.1)

      measured : Measured G s built
      measured = record {
        narrow = a.narrow;
        admitted = λ k h. let m : k < n = omega (arith, count) in ap (G.admitted s) (spot_at_lem k m) ∙ admits k m;
        lengths = λ k h nz.
            let m : k < n = omega (arith, count) in
            ⊎_elim (long_broken k m nz) (long_hung k m nz) (cases_Bool (b.marks k).broken);
      }

      measures : Measures G s spots p q pins n E found w built
      measures = record {
        straightened = b;
        measured = measured;
        allowed = λ v h k m. ap_le v m (b.keeps.allowed triangle start v m (h, k));
        breakpoints = λ v m.
            let P : List ℕ → Type 0 = λ xs. Among v xs in
            let r = among_breakpoints b.marks n v (subst P b.broken m) in
            b.keeps.breakpoints v r.0 r.1 ∙ direct_far v r.0;
      }
        where
          ap_le : {x : ℕ} (v : ℕ) → v < n → x ≤ (p + q) * R.direct v → x ≤ (p + q) * far 0 v
          ap_le {x} v m h = let Q : ℕ → Type 0 = λ y. x ≤ (p + q) * y in subst Q (direct_far v m) h

    pub laid_measures : (found : List ℕ) (w : ℕ) (built : List Row) → Straightened (capped_distance G s) spots p q pins n E found w built → Measures G s spots p q pins n E found w built
    laid_measures found w built b =
        let some : 0 < n = omega (arith, b.walked.planted.many) in
        let P : Rules → Type 0 = λ rules. StraightBy rules (spot_of spots) n E found w built in
        measures found w built some (subst P (rules_far some) b)
