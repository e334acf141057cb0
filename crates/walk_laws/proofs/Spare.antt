-- A seed whose own paths keep the allowance: the walk marks each node with its path and its parent in the seed. Assumes ranks and edges of length at least 1.
use Rattle.std.proofs.Common.{◌≡◌, ℕ, ◌+◌, ◌*◌, ◌<◌, ◌≤◌, true, false, ltb, ◌⊎◌, Some, sym, refl, ap, ◌∙◌, inl, inr, arith}
use Rattle.std.proofs.lemmas.Bool.{cases_eq, ltb-true, lt-ltb, and_parts, and_from}
use Rattle.forest.specs.Rooted.{Forest, none, kid, Ranked}
use Rattle.walk_laws.specs.Walk.{Marks, Rules, is_a_sink, hung, blank, relax, walk}
use Rattle.walk_laws.specs.Promise.{Branch, PathLength, Sink}
use Rattle.walk_laws.proofs.Steps.{Took, Kept, relax_at, relax_other, Within, Breaks, down, down_other, down_at}
use Rattle.walk_laws.proofs.Branches.{ranked_up, branch_rank}

pub sink_from : (R : Rules) (v : ℕ) → is_a_sink R v ≡ true → Sink R v
sink_from R v h =
    let both = and_parts (ltb 0 v) (ltb v R.pins) h in (ltb-true 0 v both.0, ltb-true v R.pins both.1)

pub sink_is : (R : Rules) (v : ℕ) → Sink R v → is_a_sink R v ≡ true
sink_is R v h = and_from (ltb 0 v) (ltb v R.pins) (lt-ltb 0 v h.0) (lt-ltb v R.pins h.1)

-- The walk below v, which is e away from the driver, changes S to S': nodes of other ranks are left alone, and each node has its path and its parent.
pub record Spared (rank : ℕ → ℕ) (lo hi v e : ℕ) (F : Forest) (S S' : Marks) : Type 0 where
  pub frame : (y : ℕ) → (rank y < lo) ⊎ (hi ≤ rank y) → S' y ≡ S y
  pub marks : (u w l : ℕ) → Branch v F u w l → (d : ℕ) × PathLength e F w d × (S' w ≡ hung u l d false)

-- What the walk below v needs: v is e away and comes before, all nodes to come are fresh, and all sinks to come keep the allowance.
pub record Ready (R : Rules) (rank : ℕ → ℕ) (lo v e : ℕ) (F : Forest) (S : Marks) : Type 0 where
  pub told : (S v).est ≡ Some e
  pub before : rank v < lo
  pub fresh : (y : ℕ) → lo ≤ rank y → S y ≡ blank
  pub keeps : (w d : ℕ) → Sink R w → PathLength e F w d → R.q * d ≤ (R.p + R.q) * R.direct w
  pub long : (u w l : ℕ) → Branch v F u w l → 0 < l

module _ (R : Rules) (n : ℕ) (rank : ℕ → ℕ) (lo hi v e c k : ℕ) (b o : Forest) (r : Ranked n rank lo (kid c k b o) hi) (S : Marks) (ready : Ready R rank lo v e (kid c k b o) S) where
  v≢c : v ≡ c → ⊥
  v≢c h = omega (arith, ap rank h, ready.before, r.1)

  -- the child, entered
  entered_c : down R v c k S c ≡ hung v k (e + k) false
  entered_c = go (down_at R S v c k e ready.told (ready.fresh c (omega (arith, r.1))))
    where
      go : Within R v c k e (down R v c k S c) ⊎ Breaks R v c k e (down R v c k S c) → down R v c k S c ≡ hung v k (e + k) false
      go (inl w) = w.0
      go (inr w) = absurd (omega (arith, w.2, ready.keeps c (e + k) (sink_from R c w.1) (inl (refl, refl))))

  ready_below : Ready R rank (lo + 1) c (e + k) b (down R v c k S)
  ready_below =
      record {
        told = ap (λ m. m.est) entered_c;
        before = omega (arith, r.1);
        fresh = λ y h. down_other R S v c k y (λ y≡c. omega (arith, ap rank y≡c, r.1)) ∙ ready.fresh y (omega arith);
        keeps = λ w d s p. ready.keeps w d s (inr (inl p));
        long = λ u w l d. ready.long u w l (inr (inl d));
      }

  module _ (S2 : Marks) (below : Spared rank (lo + 1) r.2.0 c (e + k) b (down R v c k S) S2) where
    was_v : S2 v ≡ S v
    was_v = below.frame v (inl (omega (arith, ready.before))) ∙ down_other R S v c k v v≢c

    was_c : S2 c ≡ hung v k (e + k) false
    was_c = below.frame c (inl (omega (arith, r.1))) ∙ entered_c

    -- the way back up changes nothing
    back_v : relax c v k S2 v ≡ S2 v
    back_v = go (relax_at S2 c v k (e + k) (ap (λ m. m.est) was_c))
      where
        go : Took c k (e + k) (S2 v) (relax c v k S2 v) ⊎ Kept k (e + k) (S2 v) (relax c v k S2 v) → relax c v k S2 v ≡ S2 v
        go (inl t) =
            absurd
            (omega (arith, t.1 e (ap (λ m. m.est) was_v ∙ ready.told), ready.long v c k (inl (refl, refl, refl))))
        go (inr t) = t.0

    back_at : (y : ℕ) → (y ≡ v) ⊎ (y ≡ v → ⊥) → relax c v k S2 y ≡ S2 y
    back_at y (inl h) = ap (relax c v k S2) h ∙ (back_v ∙ sym (ap S2 h))
    back_at y (inr h) = relax_other S2 c v k y h

    back : (y : ℕ) → relax c v k S2 y ≡ S2 y
    back y = back_at y (cases_eq y v)

    up : lo + 1 ≤ r.2.0
    up = ranked_up n rank (lo + 1) b r.2.0 r.2.1

    -- nodes outside of the child and what is below it
    outside : (y : ℕ) → (y ≡ c → ⊥) → (rank y < lo + 1) ⊎ (r.2.0 ≤ rank y) → relax c v k S2 y ≡ S y
    outside y ne h = back y ∙ (below.frame y h ∙ down_other R S v c k y ne)

    ready_others : Ready R rank r.2.0 v e o (relax c v k S2)
    ready_others =
        record {
          told = ap (λ m. m.est) (back v ∙ was_v) ∙ ready.told;
          before = omega (arith, ready.before, up);
          fresh = λ y h. outside y (λ y≡c. omega (arith, ap rank y≡c, r.1, up)) (inr h) ∙ ready.fresh y (omega (arith, up));
          keeps = λ w d s p. ready.keeps w d s (inr (inr p));
          long = λ u w l d. ready.long u w l (inr (inr d));
        }

    spared_kid : (S4 : Marks) → Spared rank r.2.0 hi v e o (relax c v k S2) S4 → Spared rank lo hi v e (kid c k b o) S S4
    spared_kid S4 others = record { frame = frame; marks = marks }
      where
        up' : r.2.0 ≤ hi
        up' = ranked_up n rank r.2.0 o hi r.2.2

        frame : (y : ℕ) → (rank y < lo) ⊎ (hi ≤ rank y) → S4 y ≡ S y
        frame y (inl h) =
            others.frame y (inl (omega (arith, up))) ∙
            outside y (λ y≡c. omega (arith, ap rank y≡c, r.1)) (inl (omega arith))
        frame y (inr h) =
            others.frame y (inr h) ∙ outside y (λ y≡c. omega (arith, ap rank y≡c, r.1, up, up')) (inr (omega (arith, up')))

        marks : (u w l : ℕ) → Branch v (kid c k b o) u w l → (d : ℕ) × PathLength e (kid c k b o) w d × (S4 w ≡ hung u l d false)
        marks u w l (inl d) =
            let at : S4 c ≡ hung v k (e + k) false = others.frame c (inl (omega (arith, r.1, up))) ∙ (back c ∙ was_c) in
            let u≡v : u ≡ v = d.0 in
            let l≡k : l ≡ k = d.2 in
            let w≡c : w ≡ c = d.1 in
            let s4 : S4 w ≡ S4 c = ap S4 w≡c in
            let one : hung v k (e + k) false ≡ hung u k (e + k) false = ap (λ x. hung x k (e + k) false) (sym u≡v) in
            let two : hung u k (e + k) false ≡ hung u l (e + k) false = ap (λ x. hung u x (e + k) false) (sym l≡k) in
            (e + k, inl (w≡c, refl), s4 ∙ (at ∙ (one ∙ two)))
        marks u w l (inr (inl d)) =
            let m = below.marks u w l d in
            let rk = branch_rank n rank (lo + 1) b r.2.0 r.2.1 c u w l d in
            (m.0, inr (inl m.1), others.frame w (inl rk.1) ∙ (back w ∙ m.2))
        marks u w l (inr (inr d)) =
            let m = others.marks u w l d in (m.0, inr (inr m.1), m.2)

pub walk_spares : (R : Rules) (n : ℕ) (rank : ℕ → ℕ) (lo : ℕ) (F : Forest) (hi v e : ℕ) (S : Marks) → Ranked n rank lo F hi →
    Ready R rank lo v e F S → Spared rank lo hi v e F S (walk R v F S)
unfolding walk
walk_spares R n rank lo none hi v e S r ready = record { frame = λ y h. refl; marks = λ u w l d. absurd d }
walk_spares R n rank lo (kid c k b o) hi v e S r ready =
    let S1 : Marks = down R v c k S in
    let S2 : Marks = walk R c b S1 in
    let below = walk_spares R n rank (lo + 1) b r.2.0 c (e + k) S1 r.2.1 (ready_below R n rank lo hi v e c k b o r S ready) in
    let others =
    walk_spares R n rank r.2.0 o hi v e (relax c v k S2) r.2.2 (ready_others R n rank lo hi v e c k b o r S ready S2 below) in
    spared_kid R n rank lo hi v e c k b o r S ready S2 below (walk R v o (relax c v k S2)) others
