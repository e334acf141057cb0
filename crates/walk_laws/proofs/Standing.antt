-- What holds at every moment of the walk, kept by each step down and each step up. Assumes a seed that is a tree.
use Rattle.std.proofs.Common.{◌≡◌, ℕ, ◌+◌, ◌*◌, ◌<◌, ◌≤◌, Bool, true, false, cond, ◌⊎◌, Some, sym, refl, ap, ◌∙◌, subst, inl, inr, le_refl, add-mul, mul-le-mul_left, mul-add, arith}
use mathlib.Core.Path.{fun_ext}
use Rattle.std.proofs.lemmas.Bool.{cases_eq, cases_lt}
use Rattle.forest.specs.Rooted.{Forest, none, kid, Ranked, wire_of}
use Rattle.walk_laws.specs.Walk.{Mark, Marks, Rules, is_a_sink, hung, blank, home, relax, walk}
use Rattle.walk_laws.specs.Promise.{Branch, RootedTree, Triangle, sum_to, owed_at}
use Rattle.walk_laws.proofs.Steps.{some_inj, none_some, Took, Kept, relax_at, relax_other, Within, Breaks, down, down_other, down_at}
use Rattle.walk_laws.proofs.Branches.{branch_rank, branch_same, branch_up, branch_above}
use Rattle.walk_laws.proofs.Sums.{sum_same, sum_change}

-- The node v, with the mark m and the estimate e, hangs on a neighbour that is at least its edge nearer.
pub record HangsAt (F : Forest) (S : Marks) (v : ℕ) (m : Mark) (e : ℕ) : Type 0 where
  pub neighbour : Branch 0 F m.parent v m.edge ⊎ Branch 0 F v m.parent m.edge
  pub above : ℕ
  pub told : (S m.parent).est ≡ Some above
  pub room : above + m.edge ≤ e

-- A node w that was entered, with the mark m.
pub record Good (R : Rules) (F : Forest) (S : Marks) (w : ℕ) (m : Mark) : Type 0 where
  pub at : ℕ
  pub told : m.est ≡ Some at
  pub allowed : is_a_sink R w ≡ true → R.q * at ≤ (R.p + R.q) * R.direct w
  pub link :
      ((m.broken ≡ true) × (is_a_sink R w ≡ true) × (at ≤ R.direct w)) ⊎ ((m.broken ≡ false) × HangsAt F S w m at)

-- The walk stands at x, has gone g, and the next node that it enters has rank r.
pub record Standing (R : Rules) (n : ℕ) (rank : ℕ → ℕ) (F : Forest) (r g x : ℕ) (S : Marks) : Type 0 where
  pub driver : S 0 ≡ home
  pub fresh : (y : ℕ) → r ≤ rank y → S y ≡ blank
  pub good : (u w k : ℕ) → Branch 0 F u w k → rank w < r → Good R F S w (S w)
  pub within : (y e : ℕ) → (S y).est ≡ Some e → e ≤ g
  pub near : Triangle R F → R.direct 0 ≡ 0 → (y e : ℕ) → (S y).est ≡ Some e → R.direct y ≤ e
  pub here : ℕ
  pub told : (S x).est ≡ Some here
  pub owes : R.q * here + R.p * sum_to (owed_at R S) n ≤ R.q * g

-- No estimate of S is lost or grows in S'.
abbrev pub Falls : Marks → Marks → Type 0
Falls S S' = (z f : ℕ) → (S z).est ≡ Some f → (f' : ℕ) × ((S' z).est ≡ Some f') × (f' ≤ f)

pub good_falls : (R : Rules) (F : Forest) (S S' : Marks) → Falls S S' → (w : ℕ) (m : Mark) → Good R F S w m → Good R F S' w m
good_falls R F S S' falls w m G =
    record { at = G.at; told = G.told; allowed = G.allowed; link = go G.link }
  where
    go :
        ((m.broken ≡ true) × (is_a_sink R w ≡ true) × (G.at ≤ R.direct w)) ⊎ ((m.broken ≡ false) × HangsAt F S w m G.at) →
        ((m.broken ≡ true) × (is_a_sink R w ≡ true) × (G.at ≤ R.direct w)) ⊎ ((m.broken ≡ false) × HangsAt F S' w m G.at)
    go (inl b) = inl b
    go (inr h) =
        let k = falls m.parent h.1.above h.1.told in
        inr (
          h.0,
          record { neighbour = h.1.neighbour; above = k.0; told = k.1; room = omega (arith, h.1.room, k.2) },
        )

-- A node u that was offered the estimate o and entered: it is a breakpoint or not, and has the estimate e.
pub record Entered (R : Rules) (u o : ℕ) (b : Bool) (e : ℕ) : Type 0 where
  pub allowed : is_a_sink R u ≡ true → R.q * e ≤ (R.p + R.q) * R.direct u
  pub link : ((b ≡ true) × (is_a_sink R u ≡ true) × (e ≤ R.direct u)) ⊎ ((b ≡ false) × (o ≤ e))
  pub le : e ≤ o
  pub owes : R.q * e + R.p * cond b (R.direct u) 0 ≤ R.q * o
  pub near : R.direct u ≤ o → R.direct u ≤ e

-- Plain numbers: a breakpoint's direct distance is below what it was offered, and pays for itself.
pub breaks_below : (p q d o : ℕ) → 0 < q → (p + q) * d < q * o → d ≤ o
breaks_below p q d o h b = go (cases_lt o d)
  where
    go : (o < d) ⊎ (d ≤ o) → d ≤ o
    go (inl c) =
        let o≤d : o ≤ d = omega arith in
        absurd (omega (arith, add-mul p q d, mul-le-mul_left q o≤d))
    go (inr c) = c

module _ (R : Rules) where
  pub entered_within : (v u l e : ℕ) (m : Mark) → Within R v u l e m → Entered R u (e + l) false (e + l)
  entered_within v u l e m w =
      record {
        allowed = w.1;
        link = inr (refl, le_refl (e + l));
        le = le_refl (e + l);
        owes = omega arith;
        near = λ h. h;
      }

  pub entered_breaks : 0 < R.q → (v u l e : ℕ) (m : Mark) → Breaks R v u l e m → Entered R u (e + l) true (R.direct u)
  entered_breaks q v u l e m w =
      record {
        allowed = λ _. omega (arith, add-mul R.p R.q (R.direct u));
        link = inl (refl, w.1, le_refl (R.direct u));
        le = breaks_below R.p R.q (R.direct u) (e + l) q w.2;
        owes = omega (arith, add-mul R.p R.q (R.direct u), w.2);
        near = λ h. le_refl (R.direct u);
      }

-- Plain numbers: the bound after a step along an edge of length l.
owes_more : (p q here l g e c o o' : ℕ) → q * here + p * o ≤ q * g → q * e + p * c ≤ q * (here + l) → o' ≡ o + c →
    q * e + p * o' ≤ q * (g + l)
owes_more p q here l g e c o o' h k s =
    omega (arith, h, k, mul-add q here l, mul-add q g l, ap (λ x. p * x) s, mul-add p o c)

module _ (R : Rules) (n : ℕ) (rank : ℕ → ℕ) (F : Forest) (T : RootedTree n rank F) where
  -- A step down to u, which was fresh.
  pub down_stands : (v u l r g : ℕ) (S S' : Marks) → Branch 0 F v u l → rank u ≡ r → (s : Standing R n rank F r g v S) →
      ((x : ℕ) → (x ≡ u → ⊥) → S' x ≡ S x) → (e : ℕ) (b : Bool) → S' u ≡ hung v l e b → Entered R u (s.here + l) b e →
      Standing R n rank F (r + 1) (g + l) u S'
  down_stands v u l r g S S' edge ru s other e b new ent =
      record {
        driver = other 0 (untold 0 0 (ap (λ m. m.est) s.driver)) ∙ s.driver;
        fresh = λ y h. other y (λ y≡u. omega (arith, ap rank y≡u)) ∙ s.fresh y (omega arith);
        good = λ x w k d h. good x w k d (cases_lt (rank w) r) h;
        within = λ y f h. within y f h (cases_eq y u);
        near = λ t d0 y f h. near t d0 y f h (cases_eq y u);
        here = e;
        told = ap (λ m. m.est) new;
        owes =
            owes_more R.p R.q s.here l g e (cond b (R.direct u) 0) (sum_to (owed_at R S) n) (sum_to (owed_at R S') n)
            s.owes ent.owes owed;
      }
    where
      was : S u ≡ blank
      was = s.fresh u (omega arith)

      untold : (y f : ℕ) → (S y).est ≡ Some f → y ≡ u → ⊥
      untold y f h y≡u = none_some (sym (ap (λ m. m.est) (ap S y≡u ∙ was)) ∙ h)

      falls : Falls S S'
      falls z f h = (f, ap (λ m. m.est) (other z (untold z f h)) ∙ h, le_refl f)

      link : ((b ≡ true) × (is_a_sink R u ≡ true) × (e ≤ R.direct u)) ⊎ ((b ≡ false) × (s.here + l ≤ e)) →
          ((b ≡ true) × (is_a_sink R u ≡ true) × (e ≤ R.direct u)) ⊎ ((b ≡ false) × HangsAt F S' u (hung v l e b) e)
      link (inl h) = inl h
      link (inr h) =
          inr (h.0, record { neighbour = inl edge; above = s.here; told = (falls v s.here s.told).1; room = h.1 })

      good_u : Good R F S' u (hung v l e b)
      good_u = record { at = e; told = refl; allowed = ent.allowed; link = link ent.link }

      good : (x w k : ℕ) → Branch 0 F x w k → (rank w < r) ⊎ (r ≤ rank w) → rank w < r + 1 → Good R F S' w (S' w)
      good x w k d (inl h) _ =
          let P : Mark → Type 0 = λ m. Good R F S' w m in
          subst P (sym (other w (λ w≡u. omega (arith, ap rank w≡u)))) (good_falls R F S S' falls w (S w) (s.good x w k d h))
      good x w k d (inr h) h' =
          let P : ℕ → Type 0 = λ z. Good R F S' z (S' z) in
          let Q : Mark → Type 0 = λ m. Good R F S' u m in
          let same : u ≡ w = (branch_same n rank 1 F n T.ranked 0 v u l x w k edge d (omega arith)).1 in
          subst P same (subst Q (sym new) good_u)

      new_est : (y f : ℕ) → (S' y).est ≡ Some f → y ≡ u → e ≡ f
      new_est y f h y≡u = some_inj (sym (ap (λ m. m.est) (ap S' y≡u ∙ new)) ∙ h)

      old_est : (y f : ℕ) → (S' y).est ≡ Some f → (y ≡ u → ⊥) → (S y).est ≡ Some f
      old_est y f h ne = sym (ap (λ m. m.est) (other y ne)) ∙ h

      within : (y f : ℕ) → (S' y).est ≡ Some f → (y ≡ u) ⊎ (y ≡ u → ⊥) → f ≤ g + l
      within y f h (inl y≡u) = omega (arith, new_est y f h y≡u, ent.le, s.within v s.here s.told)
      within y f h (inr ne) = omega (arith, s.within y f (old_est y f h ne))

      near : Triangle R F → R.direct 0 ≡ 0 → (y f : ℕ) → (S' y).est ≡ Some f → (y ≡ u) ⊎ (y ≡ u → ⊥) → R.direct y ≤ f
      near t d0 y f h (inl y≡u) =
          let here : R.direct v ≤ s.here = s.near t d0 v s.here s.told in
          let step : R.direct u ≤ R.direct v + l = (t v u l edge).0 in
          let o : R.direct u ≤ s.here + l = omega arith in
          omega (arith, new_est y f h y≡u, ent.near o, ap R.direct y≡u)
      near t d0 y f h (inr ne) = s.near t d0 y f (old_est y f h ne)

      owed : sum_to (owed_at R S') n ≡ sum_to (owed_at R S) n + cond b (R.direct u) 0
      owed =
          let c : sum_to (owed_at R S') n + owed_at R S u ≡ sum_to (owed_at R S) n + owed_at R S' u =
          sum_change (owed_at R S) (owed_at R S') n u (branch_rank n rank 1 F n T.ranked 0 v u l edge).2
          (λ k ne. ap (λ m. cond m.broken (R.direct k) 0) (other k ne)) in
          omega (arith, c, ap (λ m. cond m.broken (R.direct u) 0) was, ap (λ m. cond m.broken (R.direct u) 0) new)

  -- A step up to v that changes nothing.
  pub stay_stands : (v u l r g : ℕ) (S : Marks) → (s : Standing R n rank F r g u S) → (f : ℕ) → (S v).est ≡ Some f → f ≤ s.here + l →
      Standing R n rank F r (g + l) v S
  stay_stands v u l r g S s f told le =
      record {
        driver = s.driver;
        fresh = s.fresh;
        good = s.good;
        within = λ y e h. omega (arith, s.within y e h);
        near = s.near;
        here = f;
        told = told;
        owes =
            owes_more R.p R.q s.here l g f 0 (sum_to (owed_at R S) n) (sum_to (owed_at R S) n) s.owes
            (omega (arith, mul-le-mul_left R.q le)) (omega arith);
      }

  -- A step up to v, which takes u for its parent.
  pub take_stands : (v u l r g : ℕ) (S S' : Marks) → Branch 0 F v u l → (s : Standing R n rank F r g u S) →
      ((x : ℕ) → (x ≡ v → ⊥) → S' x ≡ S x) → Took u l s.here (S v) (S' v) → Standing R n rank F r (g + l) v S'
  take_stands v u l r g S S' edge s other took =
      record {
        driver = other 0 (λ h. v≢0 (sym h)) ∙ s.driver;
        fresh = λ y h. other y (λ y≡v. omega (arith, rank_v, ap rank y≡v)) ∙ s.fresh y h;
        good = λ x w k d h. good x w k d h (cases_eq w v);
        within = λ y f h. within y f h (cases_eq y v);
        near = λ t d0 y f h. near t d0 y f h (cases_eq y v);
        here = s.here + l;
        told = ap (λ m. m.est) new;
        owes =
            owes_more R.p R.q s.here l g (s.here + l) 0 (sum_to (owed_at R S) n) (sum_to (owed_at R S') n) s.owes
            (omega arith) (omega (arith, owed));
      }
    where
      new : S' v ≡ hung u l (s.here + l) (S v).broken
      new = took.0

      long : 0 < l
      long = T.long v u l edge

      v≢0 : v ≡ 0 → ⊥
      v≢0 h = omega (arith, took.1 0 (ap (λ m. m.est) (ap S h ∙ s.driver)), long)

      u≢v : u ≡ v → ⊥
      u≢v h = omega (arith, took.1 s.here (sym (ap (λ z. (S z).est) h) ∙ s.told), long)

      rank_u : (rank u < r) ⊎ (r ≤ rank u) → rank u < r
      rank_u (inl h) = h
      rank_u (inr h) = absurd (none_some (sym (ap (λ m. m.est) (s.fresh u h)) ∙ s.told))

      rank_v : rank v < r
      rank_v =
          let 0<1 : rank 0 < 1 = omega (arith, T.first) in
          let 0<n : 0 < n = omega (arith, (branch_rank n rank 1 F n T.ranked 0 v u l edge).2) in
          omega (arith, rank_u (cases_lt (rank u) r), (branch_up n rank 1 F n T.ranked 0 v u l 0<1 0<n edge).0)

      was_good : (v ≡ 0) ⊎ ((x : ℕ) × (k : ℕ) × Branch 0 F x v k) → Good R F S v (S v)
      was_good (inl h) = absurd (v≢0 h)
      was_good (inr h) = s.good h.0 v h.1 h.2 rank_v

      G : Good R F S v (S v)
      G = was_good (branch_above F 0 v u l edge)

      less : s.here + l ≤ G.at
      less = took.1 G.at G.told

      new_est : (y f : ℕ) → (S' y).est ≡ Some f → y ≡ v → s.here + l ≡ f
      new_est y f h y≡v = some_inj (sym (ap (λ m. m.est) (ap S' y≡v ∙ new)) ∙ h)

      old_est : (y f : ℕ) → (S' y).est ≡ Some f → (y ≡ v → ⊥) → (S y).est ≡ Some f
      old_est y f h ne = sym (ap (λ m. m.est) (other y ne)) ∙ h

      falls_at : (z f : ℕ) → (S z).est ≡ Some f → (z ≡ v) ⊎ (z ≡ v → ⊥) → (f' : ℕ) × ((S' z).est ≡ Some f') × (f' ≤ f)
      falls_at z f h (inl z≡v) =
          (s.here + l, ap (λ m. m.est) (ap S' z≡v ∙ new), took.1 f (sym (ap (λ y. (S y).est) z≡v) ∙ h))
      falls_at z f h (inr ne) = (f, ap (λ m. m.est) (other z ne) ∙ h, le_refl f)

      falls : Falls S S'
      falls z f h = falls_at z f h (cases_eq z v)

      link :
          (((S v).broken ≡ true) × (is_a_sink R v ≡ true) × (G.at ≤ R.direct v)) ⊎ (((S v).broken ≡ false) × HangsAt F S v (S v) G.at) →
          (((S v).broken ≡ true) × (is_a_sink R v ≡ true) × (s.here + l ≤ R.direct v)) ⊎
          (((S v).broken ≡ false) × HangsAt F S' v (hung u l (s.here + l) (S v).broken) (s.here + l))
      link (inl h) = inl (h.0, h.1, omega (arith, h.2, less))
      link (inr h) =
          inr (
            h.0,
            record {
              neighbour = inr edge;
              above = s.here;
              told = ap (λ m. m.est) (other u u≢v) ∙ s.told;
              room = le_refl (s.here + l);
            },
          )

      good_v : Good R F S' v (hung u l (s.here + l) (S v).broken)
      good_v =
          record {
            at = s.here + l;
            told = refl;
            allowed = λ h. omega (arith, G.allowed h, mul-le-mul_left R.q less);
            link = link G.link;
          }

      good : (x w k : ℕ) → Branch 0 F x w k → rank w < r → (w ≡ v) ⊎ (w ≡ v → ⊥) → Good R F S' w (S' w)
      good x w k d h (inl w≡v) =
          let P : ℕ → Type 0 = λ z. Good R F S' z (S' z) in
          let Q : Mark → Type 0 = λ m. Good R F S' v m in
          subst P (sym w≡v) (subst Q (sym new) good_v)
      good x w k d h (inr ne) =
          let P : Mark → Type 0 = λ m. Good R F S' w m in
          subst P (sym (other w ne)) (good_falls R F S S' falls w (S w) (s.good x w k d h))

      within : (y f : ℕ) → (S' y).est ≡ Some f → (y ≡ v) ⊎ (y ≡ v → ⊥) → f ≤ g + l
      within y f h (inl y≡v) = omega (arith, new_est y f h y≡v, s.within u s.here s.told)
      within y f h (inr ne) = omega (arith, s.within y f (old_est y f h ne))

      near : Triangle R F → R.direct 0 ≡ 0 → (y f : ℕ) → (S' y).est ≡ Some f → (y ≡ v) ⊎ (y ≡ v → ⊥) → R.direct y ≤ f
      near t d0 y f h (inl y≡v) =
          omega
          (arith, s.near t d0 u s.here s.told, (t v u l edge).1, new_est y f h y≡v, ap R.direct y≡v)
      near t d0 y f h (inr ne) = s.near t d0 y f (old_est y f h ne)

      same_owed : (k : ℕ) → (k ≡ v) ⊎ (k ≡ v → ⊥) → owed_at R S' k ≡ owed_at R S k
      same_owed k (inl k≡v) =
          ap (λ z. cond z (R.direct k) 0) (ap (λ m. m.broken) (ap S' k≡v ∙ new) ∙ sym (ap (λ z. (S z).broken) k≡v))
      same_owed k (inr ne) = ap (λ m. cond m.broken (R.direct k) 0) (other k ne)

      owed : sum_to (owed_at R S') n ≡ sum_to (owed_at R S) n
      owed = sum_same (owed_at R S') (owed_at R S) n (λ k _. same_owed k (cases_eq k v))

  -- Each step down and each step up keeps it.
  pub standing_down : 0 < R.q → (v u l : ℕ) → Branch 0 F v u l → (r g : ℕ) (S : Marks) → rank u ≡ r → Standing R n rank F r g v S →
      Standing R n rank F (r + 1) (g + l) u (down R v u l S)
  standing_down q v u l edge r g S ru s =
      go (down_at R S v u l s.here s.told (s.fresh u (omega arith)))
    where
      go : Within R v u l s.here (down R v u l S u) ⊎ Breaks R v u l s.here (down R v u l S u) →
          Standing R n rank F (r + 1) (g + l) u (down R v u l S)
      go (inl w) =
          down_stands v u l r g S (down R v u l S) edge ru s (down_other R S v u l) (s.here + l) false w.0
          (entered_within R v u l s.here (down R v u l S u) w)
      go (inr w) =
          down_stands v u l r g S (down R v u l S) edge ru s (down_other R S v u l) (R.direct u) true w.0
          (entered_breaks R q v u l s.here (down R v u l S u) w)

  pub standing_up : (v u l : ℕ) → Branch 0 F v u l → (r g : ℕ) (S : Marks) → Standing R n rank F r g u S →
      Standing R n rank F r (g + l) v (relax u v l S)
  standing_up v u l edge r g S s = go (relax_at S u v l s.here s.told)
    where
      same : relax u v l S v ≡ S v → (x : ℕ) → (x ≡ v) ⊎ (x ≡ v → ⊥) → S x ≡ relax u v l S x
      same h x (inl x≡v) = ap S x≡v ∙ (sym h ∙ sym (ap (relax u v l S) x≡v))
      same h x (inr ne) = sym (relax_other S u v l x ne)

      go : Took u l s.here (S v) (relax u v l S v) ⊎ Kept l s.here (S v) (relax u v l S v) →
          Standing R n rank F r (g + l) v (relax u v l S)
      go (inl t) = take_stands v u l r g S (relax u v l S) edge s (relax_other S u v l) t
      go (inr k) =
          let P : Marks → Type 0 = λ X. Standing R n rank F r (g + l) v X in
          subst P (fun_ext (λ x. same k.0 x (cases_eq x v))) (stay_stands v u l r g S s k.1.0 k.1.1 k.1.2)

-- What each step of the walk keeps, the walk keeps. I is a property of the next rank, the way gone, the place and the marks.
module _ (R : Rules) (n : ℕ) (rank : ℕ → ℕ) (T : Forest) where
  pub walk_by : (I : ℕ → ℕ → ℕ → Marks → Type 0) →
      ((v u l : ℕ) → Branch 0 T v u l → (r g : ℕ) (S : Marks) → rank u ≡ r → I r g v S → I (r + 1) (g + l) u (down R v u l S)) →
      ((v u l : ℕ) → Branch 0 T v u l → (r g : ℕ) (S : Marks) → I r g u S → I r (g + l) v (relax u v l S)) →
      (F : Forest) (v lo hi g : ℕ) (S : Marks) → ((x w k : ℕ) → Branch v F x w k → Branch 0 T x w k) → Ranked n rank lo F hi →
      I lo g v S → I hi (g + 2 * wire_of F) v (walk R v F S)
  unfolding walk
  walk_by I dn up none v lo hi g S sub r i =
      let P : ℕ → Type 0 = λ h. I h (g + 2 * 0) v S in
      let Q : ℕ → Type 0 = λ x. I lo x v S in
      let e : g ≡ g + 2 * 0 = omega arith in
      subst P (sym r) (subst Q e i)
  walk_by I dn up (kid u l b o) v lo hi g S sub r i =
      let edge = sub v u l (inl (refl, refl, refl)) in
      let mid : ℕ = r.2.0 in
      let one = dn v u l edge lo g S r.1 i in
      let S1 : Marks = down R v u l S in
      let two = walk_by I dn up b u (lo + 1) mid (g + l) S1 (λ x w k e. sub x w k (inr (inl e))) r.2.1 one in
      let S2 : Marks = walk R u b S1 in
      let g2 : ℕ = g + l + 2 * wire_of b in
      let three = up v u l edge mid g2 S2 two in
      let four = walk_by I dn up o v mid hi (g2 + l) (relax u v l S2) (λ x w k e. sub x w k (inr (inr e))) r.2.2 three in
      let Q : ℕ → Type 0 = λ x. I hi x v (walk R v o (relax u v l S2)) in
      let e : g2 + l + 2 * wire_of o ≡ g + 2 * (l + wire_of b + wire_of o) = omega arith in
      subst Q e four
