-- A tree hung below a node of another tree, in ascending place.
use Rattle.std.proofs.Common.{◌≡◌, ℕ, ◌+◌, ◌<◌, ◌≤◌, ◌⊎◌, List, sym, refl, subst, inl, inr, ⊎_elim, arith}
use Rattle.std.proofs.lemmas.Bool.{cases_eq, cases_order}
use Rattle.forest.specs.declared.Edge.{Edge}
use Rattle.forest.specs.Edges.{Near}
use Rattle.forest.specs.Rooted.{Forest, In}
use Rattle.forest.specs.Rooted.Forest.{none, kid}
use Rattle.forest.specs.Rooted.In.{here, under, beside}
use Rattle.forest.specs.Growth.{Least, Grows}
use Rattle.forest.specs.Growth.Grows.{bare, grown}

-- No node stands in the forest twice.
abbrev pub Apart : Forest → Type 0
Apart none = Unit {0}
Apart (kid u l below others) =
    (In u below → ⊥) × (In u others → ⊥) × ((x : ℕ) → In x below → In x others → ⊥) × Apart below × Apart others

-- The sum of w over the lengths of the edges.
abbrev pub total_of : (ℕ → ℕ) → Forest → ℕ
total_of w none = 0
total_of w (kid u l below others) = w l + total_of w below + total_of w others

pub in_cases : {x u l : ℕ} {below others : Forest} → In x (kid u l below others) → (x ≡ u) ⊎ (In x below ⊎ In x others)
in_cases here = inl refl
in_cases (under i) = inr (inl i)
in_cases (beside i) = inr (inr i)

-- The forest after is the forest before with the tree of b, whose edge is l long, hung somewhere in it.
pub record Grafted (b l : ℕ) (tree before after : Forest) : Type 0 where
  pub old : (x : ℕ) → In x before → In x after
  pub top : In b after
  pub new : (x : ℕ) → In x tree → In x after
  pub only : (x : ℕ) → In x after → In x before ⊎ ((x ≡ b) ⊎ In x tree)
  pub apart : Apart after
  pub total : (w : ℕ → ℕ) → total_of w after ≡ total_of w before + (w l + total_of w tree)

-- Neither b nor a node of the tree stands in the forest.
abbrev pub Foreign : (b : ℕ) (tree : Forest) → Forest → Type 0
Foreign b tree F = (x : ℕ) → In x F → (x ≡ b → ⊥) × (In x tree → ⊥)

module _ (b l : ℕ) (tree : Forest) (clean : Apart tree) (off : In b tree → ⊥) where
  graft_front : (F : Forest) → Apart F → Foreign b tree F → Grafted b l tree F (kid b l tree F)
  graft_front F d o =
      record {
        old = λ x i. beside i;
        top = here;
        new = λ x i. under i;
        only = λ x i. ⊎_elim (λ e. inr (inl e)) (⊎_elim (λ j. inr (inr j)) inl) (in_cases i);
        apart = (off, (λ i. (o b i).0 refl), (λ x i j. (o x j).1 i), clean, d);
        total = λ w. omega arith;
      }

  graft_beside : (u k : ℕ) (B R R' : Forest) → Apart (kid u k B R) → Foreign b tree (kid u k B R) → Grafted b l tree R R' → Grafted b l tree (kid u k B R) (kid u k B R')
  graft_beside u k B R R' d o g =
      record {
        old = λ x i. ⊎_elim (λ e. let P : ℕ → Type 0 = λ z. In z (kid u k B R') in subst P (sym e) here) (⊎_elim (λ j. under j) (λ j. beside (g.old x j))) (in_cases i);
        top = beside g.top;
        new = λ x i. beside (g.new x i);
        only = λ x i.
            ⊎_elim
            (λ e. let P : ℕ → Type 0 = λ z. In z (kid u k B R) in inl (subst P (sym e) here))
            (⊎_elim (λ j. inl (under j)) (λ j. ⊎_elim (λ m. inl (beside m)) inr (g.only x j)))
            (in_cases i);
        apart = (
          d.0,
          (λ i. ⊎_elim d.1 (⊎_elim (o u here).0 (o u here).1) (g.only u i)),
          (λ x i j. ⊎_elim (d.2 x i) (⊎_elim (o x (under i)).0 (o x (under i)).1) (g.only x j)),
          d.3,
          g.apart,
        );
        total = λ w. omega (arith, g.total w);
      }

  graft_under : (u k : ℕ) (B B' R : Forest) → Apart (kid u k B R) → Foreign b tree (kid u k B R) → Grafted b l tree B B' → Grafted b l tree (kid u k B R) (kid u k B' R)
  graft_under u k B B' R d o g =
      record {
        old = λ x i. ⊎_elim (λ e. let P : ℕ → Type 0 = λ z. In z (kid u k B' R) in subst P (sym e) here) (⊎_elim (λ j. under (g.old x j)) (λ j. beside j)) (in_cases i);
        top = under g.top;
        new = λ x i. under (g.new x i);
        only = λ x i.
            ⊎_elim
            (λ e. let P : ℕ → Type 0 = λ z. In z (kid u k B R) in inl (subst P (sym e) here))
            (⊎_elim (λ j. ⊎_elim (λ m. inl (under m)) inr (g.only x j)) (λ j. inl (beside j)))
            (in_cases i);
        apart = (
          (λ i. ⊎_elim d.0 (⊎_elim (o u here).0 (o u here).1) (g.only u i)),
          d.1,
          (λ x i j. ⊎_elim (λ m. d.2 x m j) (⊎_elim (o x (beside j)).0 (o x (beside j)).1) (g.only x i)),
          g.apart,
          d.4,
        );
        total = λ w. omega (arith, g.total w);
      }

-- ---- the same forests over one more edge, between a and b

pub record New (E E' : List Edge) (a b l : ℕ) : Type 0 where
  pub old : (u v k : ℕ) → Near E u v k → Near E' u v k
  pub new : Near E' a b l
  pub cases : (u v k : ℕ) → Near E' u v k → Near E u v k ⊎ (((u ≡ a) × (v ≡ b)) ⊎ ((u ≡ b) × (v ≡ a)))

-- Neither end of the new edge stands in the forest.
abbrev pub Clear : (a b : ℕ) → Forest → Type 0
Clear a b F = (x : ℕ) → In x F → (x ≡ a → ⊥) × (x ≡ b → ⊥)

module _ (E E' : List Edge) (a b l : ℕ) (new : New E E' a b l) (two : a ≡ b → ⊥) where
  near_same : (v x k : ℕ) → (v ≡ a → ⊥) → (v ≡ b → ⊥) → Near E' v x k → Near E v x k
  near_same v x k na nb n = ⊎_elim (λ o. o) (⊎_elim (λ p. absurd (na p.0)) (λ p. absurd (nb p.0))) (new.cases v x k n)

  least_same : (v w c u k : ℕ) → (v ≡ a → ⊥) → (v ≡ b → ⊥) → Least E v w c u k → Least E' v w c u k
  least_same v w c u k na nb h =
      record {
        near = new.old v u k h.near;
        from = h.from;
        other = h.other;
        least = λ x j n le ne. h.least x j (near_same v x j na nb n) le ne;
      }

  pub grows_same : {v w c : ℕ} {F : Forest} → (v ≡ a → ⊥) → (v ≡ b → ⊥) → Clear a b F → Grows E v w c F → Grows E' v w c F
  grows_same {v} na nb f (bare h) = bare (λ x k n le ne. h x k (near_same v x k na nb n) le ne)
  grows_same {v} {w} {c} na nb f (grown {u = u} {l = k} h g r) =
      grown (least_same v w c u k na nb h)
      (grows_same (f u here).0 (f u here).1 (λ x i. f x (under i)) g)
      (grows_same na nb (λ x i. f x (beside i)) r)

  -- the neighbours of a but for b
  near_rest : (x k : ℕ) → (x ≡ b → ⊥) → Near E' a x k → Near E a x k
  near_rest x k ne n = ⊎_elim (λ o. o) (⊎_elim (λ p. absurd (ne p.1)) (λ p. absurd (two p.0))) (new.cases a x k n)

  -- past b nothing is new to a
  grows_past : {w c : ℕ} {F : Forest} → b < c → Clear a b F → Grows E a w c F → Grows E' a w c F
  grows_past lt f (bare h) = bare (λ x k n le ne. h x k (near_rest x k (λ e. past b _ x lt le e) n) le ne)
    where
      past : (b c x : ℕ) → b < c → c ≤ x → x ≡ b → ⊥
      past b c x lt le e = omega arith
  grows_past {w} {c} lt f (grown {u = u} {l = k} h g r) =
      let from : c ≤ u = h.from in
      grown
      (record {
        near = new.old a u k h.near;
        from = h.from;
        other = h.other;
        least = λ x j n le ne. h.least x j (near_rest x j (λ e. past b c x lt le e) n) le ne;
      })
      (grows_same (f u here).0 (f u here).1 (λ x i. f x (under i)) g)
      (grows_past (omega arith) (λ x i. f x (beside i)) r)
    where
      past : (b c x : ℕ) → b < c → c ≤ x → x ≡ b → ⊥
      past b c x lt le e = omega arith

  -- the tree of b, entered from a
  module _ (loopless : (k : ℕ) → Near E b b k → ⊥) where
    near_turn : (x k : ℕ) → (x ≡ a → ⊥) → Near E' b x k → Near E b x k × (x ≡ b → ⊥)
    near_turn x k ne n =
        let o : Near E b x k = ⊎_elim (λ o. o) (⊎_elim (λ p. absurd (two (sym p.0))) (λ p. absurd (ne p.1))) (new.cases b x k n) in
        (o, λ e. loopless k (let P : ℕ → Type 0 = λ z. Near E b z k in subst P e o))

    pub grows_turn : {c : ℕ} {F : Forest} → Clear a b F → Grows E b b c F → Grows E' b a c F
    grows_turn f (bare h) = bare (λ x k n le ne. let o = near_turn x k ne n in h x k o.0 le o.1)
    grows_turn {c} f (grown {u = u} {l = k} h g r) =
        grown
        (record {
          near = new.old b u k h.near;
          from = h.from;
          other = (f u here).0;
          least = λ x j n le ne. let o = near_turn x j ne n in h.least x j o.0 le o.1;
        })
        (grows_same (f u here).0 (f u here).1 (λ x i. f x (under i)) g)
        (grows_turn (λ x i. f x (beside i)) r)

  -- ---- hanging the tree of b below a

  module _ (tree : Forest) (clean : Apart tree) (off : In b tree → ⊥) (turned : Grows E' b a 0 tree) where
    insert_front : {w c : ℕ} → (b ≡ w → ⊥) → c ≤ b → (F : Forest) → ((x k : ℕ) → Near E a x k → c ≤ x → (x ≡ w → ⊥) → b ≤ x) → Apart F → Foreign b tree F → Grows E' a w (b + 1) F →
        (F' : Forest) × Grows E' a w c F' × Grafted b l tree F F'
    insert_front {w} {c} bw cb F least d o g = (
      kid b l tree F,
      grown
          (record {
            near = new.new;
            from = cb;
            other = bw;
            least = λ x k n le ne.
                ⊎_elim
                (λ (e : x ≡ b). let h : b ≤ x = omega arith in h)
                (λ (e : x ≡ b → ⊥). least x k (near_rest x k e n) le ne)
                (cases_eq x b);
          })
          turned g,
      graft_front b l tree clean off F d o,
    )

    pub insert : {w c : ℕ} {F : Forest} → (b ≡ w → ⊥) → c ≤ b → Clear a b F → Apart F → Foreign b tree F → Grows E a w c F → (F' : Forest) × Grows E' a w c F' × Grafted b l tree F F'
    insert {w} {c} bw cb f d o (bare h) =
        insert_front bw cb none (λ x k n le ne. absurd (h x k n le ne)) d o
        (bare (λ x k n le ne. let cx : c ≤ x = omega arith in h x k (near_rest x k (λ e. past b x le e) n) cx ne))
      where
        past : (b x : ℕ) → b + 1 ≤ x → x ≡ b → ⊥
        past b x le e = omega arith
    insert {w} {c} bw cb f d o (grown {u = u} {l = k} {below = B} {others = R} h g r) =
        let same : Grows E' u a 0 B = grows_same (f u here).0 (f u here).1 (λ x i. f x (under i)) g in
        ⊎_elim
        (λ (e : u ≡ b). absurd ((f u here).1 e))
        (⊎_elim
        (λ (lt : u < b).
        let ub : u + 1 ≤ b = omega arith in
        let s = insert bw ub (λ x i. f x (beside i)) d.4 (λ x i. o x (beside i)) r in (
          kid u k B s.0,
          grown
              (record {
                near = new.old a u k h.near;
                from = h.from;
                other = h.other;
                least = λ x j n le ne.
                    ⊎_elim
                    (λ (e : x ≡ b). let q : u ≤ x = omega arith in q)
                    (λ (e : x ≡ b → ⊥). h.least x j (near_rest x j e n) le ne)
                    (cases_eq x b);
              })
              same s.1,
          graft_beside b l tree clean off u k B R s.0 d o s.2,
        ))
        (λ (lt : b < u).
        let bu : b + 1 ≤ u = omega arith in
        insert_front bw cb (kid u k B R)
        (λ x j n le ne. let q : u ≤ x = h.least x j n le ne in let z : b ≤ x = omega arith in z)
        d o
        (grown
        (record {
          near = new.old a u k h.near;
          from = bu;
          other = h.other;
          least = λ x j n le ne. let cx : c ≤ x = omega arith in h.least x j (near_rest x j (λ e. past b x le e) n) cx ne;
        })
        same
        (grows_past (omega arith) (λ x i. f x (beside i)) r))))
        (cases_order u b)
      where
        past : (b x : ℕ) → b + 1 ≤ x → x ≡ b → ⊥
        past b x le e = omega arith

    pub graft : {v w c : ℕ} {F : Forest} → In a F → (v ≡ a → ⊥) → (v ≡ b → ⊥) → Apart F → Foreign b tree F → Grows E v w c F → (F' : Forest) × Grows E' v w c F' × Grafted b l tree F F'
    graft {v} {w} {c} here na nb d o (grown {l = k} {below = B} {others = R} h g r) =
        let s = insert (λ e. nb (sym e)) zero_le_b (λ x i. (λ e. d.0 (moved e i), (o x (under i)).0)) d.3 (λ x i. o x (under i)) g in (
          kid a k s.0 R,
          grown (least_same v w c a k na nb h) s.1 (grows_same na nb (λ x i. (λ e. d.1 (moved e i), (o x (beside i)).0)) r),
          graft_under b l tree clean off a k B s.0 R d o s.2,
        )
      where
        zero_le_b : 0 ≤ b
        zero_le_b = omega arith

        moved : {x : ℕ} {F : Forest} → x ≡ a → In x F → In a F
        moved {x} {F} e i = let P : ℕ → Type 0 = λ z. In z F in subst P e i
    graft {v} {w} {c} (under i) na nb d o (grown {u = u} {l = k} {below = B} {others = R} h g r) =
        let s = graft {v = u} {w = v} {c = 0} {F = B} i (λ e. d.0 (let P : ℕ → Type 0 = λ z. In z B in subst P (sym e) i)) (o u here).0 d.3 (λ x j. o x (under j)) g in (
          kid u k s.0 R,
          grown (least_same v w c u k na nb h) s.1 (grows_same na nb (λ x j. (λ e. d.2 a i (let P : ℕ → Type 0 = λ z. In z R in subst P e j), (o x (beside j)).0)) r),
          graft_under b l tree clean off u k B s.0 R d o s.2,
        )
    graft {v} {w} {c} (beside i) na nb d o (grown {u = u} {l = k} {below = B} {others = R} h g r) =
        let s = graft {v = v} {w = w} {c = u + 1} {F = R} i na nb d.4 (λ x j. o x (beside j)) r in (
          kid u k B s.0,
          grown (least_same v w c u k na nb h)
              (grows_same (λ e. d.1 (let P : ℕ → Type 0 = λ z. In z R in subst P (sym e) i)) (o u here).0 (λ x j. (λ e. d.2 a (let P : ℕ → Type 0 = λ z. In z B in subst P e j) i, (o x (under j)).0)) g)
              s.1,
          graft_beside b l tree clean off u k B R s.0 d o s.2,
        )
