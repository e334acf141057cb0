-- The walk as a loop that keeps its place in the rows: where each node was entered from, over which length, and the next child to try.
-- Assumes sound edges that are planted.
use Rattle.std.proofs.Common.{◌≡◌, ℕ, ◌+◌, ◌*◌, ◌<◌, ◌≤◌, ◌⊎◌, List, Some, sym, refl, ap, ◌∙◌, subst, inl, inr, arith}
use Rattle.forest.specs.declared.Edge.{Edge}
use Rattle.forest.specs.Edges.{Near, Joined, Between}
use Rattle.forest.specs.Growth.{Nothing, Least, Grows, Planted}
use Rattle.forest.specs.Growth.Grows.{bare, grown}
use Rattle.forest.specs.Rooted.{Forest, none, kid, wire_of, size_of, Ranked}
use Rattle.forest.proofs.Accepted.{Accepted, start, more}
use Rattle.forest.proofs.Chains.{near_none, near_cases, joined_one, joined_back, Newly}
use Rattle.walk_laws.specs.Walk as laws
use Rattle.walk_laws.specs.Walk.{Marks, Rules, relax, walk}
use Rattle.walk_laws.specs.Trail.{Trail, arrived, back, finish, steps_left, way_left}
use Rattle.walk_laws.proofs.Steps.{down}
use Rattle.walk_laws.proofs.Bounds.{Bounded, start_bounded, relax_bounded, down_bounded}
use Rattle.walk_laws.proofs.Trails.{finish_start, finish_down, finish_up, steps_down, steps_up, way_down, way_up, steps_none, Placed, placed_down, placed_up, Along, along_map}

-- Two nodes have one edge at most.
pub near_length : {n : ℕ} {E : List Edge} → Accepted n E → (u v l k : ℕ) → Near E u v l → Near E u v k → l ≡ k
near_length start u v l k a b = absurd (near_none a)
near_length (more {E} {e} h f) u v l k a b = go (λ x y. near_length h u v l k x y) (near_cases E e a) (near_cases E e b)
  where
    clash : (j : ℕ) → Near E u v j → Between e u v → ⊥
    clash j x (inl s) =
        f.4 (let Q : ℕ → Type 0 = λ p. Joined E p e.b in let T : ℕ → Type 0 = λ q. Joined E u q in subst Q (sym s.0) (subst T (sym s.1) (joined_one x)))
    clash j x (inr s) =
        f.4 (let Q : ℕ → Type 0 = λ p. Joined E p e.b in let T : ℕ → Type 0 = λ q. Joined E v q in subst Q (sym s.0) (subst T (sym s.1) (joined_back (joined_one x))))

    go : (Near E u v l → Near E u v k → l ≡ k) → Near E u v l ⊎ Newly e u v l → Near E u v k ⊎ Newly e u v k → l ≡ k
    go ih (inl x) (inl y) = ih x y
    go ih (inl x) (inr y) = absurd (clash l x y.0)
    go ih (inr x) (inl y) = absurd (clash k y x.0)
    go ih (inr x) (inr y) = sym x.1 ∙ y.1

-- The child that a search finds is the forest's next.
pub record Next (E : List Edge) (v w u l : ℕ) (F : Forest) : Type 0 where
  pub below : Forest
  pub others : Forest
  pub is : F ≡ kid u l below others
  pub grows_below : Grows E u v 0 below
  pub grows_others : Grows E v w (u + 1) others

pub grows_next : {n : ℕ} {E : List Edge} {v w c : ℕ} {F : Forest} → Accepted n E → Grows E v w c F → (u l : ℕ) → Least E v w c u l →
    Next E v w u l F
grows_next acc (bare h) u l f = absurd (h u l f.near f.from f.other)
grows_next {E = E} {v} {w} acc (grown {u = x} {l = k} {below} {others} g b o) u l f =
    let u≡x : u ≡ x = omega (arith, f.least x k g.near g.from g.other, g.least u l f.near f.from f.other) in
    let P : ℕ → Type 0 = λ z. Near E v z l in
    let l≡k : l ≡ k = near_length acc v x l k (subst P u≡x f.near) g.near in
    let Q : ℕ → Type 0 = λ z. Next E v w z l (kid x k below others) in
    let T : ℕ → Type 0 = λ z. Next E v w x z (kid x k below others) in
    subst Q (sym u≡x)
    (subst T (sym l≡k) (record { below = below; others = others; is = refl; grows_below = b; grows_others = o }))

pub grows_none : {E : List Edge} {v w c : ℕ} {F : Forest} → Grows E v w c F → Nothing E v w c → F ≡ none
grows_none (bare h) k = refl
grows_none (grown g b o) k = absurd (k _ _ g.near g.from g.other)

-- A node u on the way back: it was entered from v, a node below n, over the length l, and `o` is what v has still to take.
abbrev pub Open : (n : ℕ) → List Edge → (from from_length next : ℕ → ℕ) → (u v l : ℕ) → Forest → Type 0
Open n E from from_length next u v l o = (from u ≡ v) × (from_length u ≡ l) × (v < n) × Grows E v (from v) (next v) o

-- The loop stands at v after `done` of `total` steps, and will end with the marks `final`. No estimate and no offer is above `limit`.
pub record Place (R : Rules) (n : ℕ) (E : List Edge) (rank : ℕ → ℕ) (total limit : ℕ) (final : Marks) (from from_length next : ℕ → ℕ) (S : Marks) (v done : ℕ) : Type 0 where
  pub left : Forest
  pub trail : Trail
  pub lo : ℕ
  pub mid : ℕ
  pub gone : ℕ
  pub grows : Grows E v (from v) (next v) left
  pub along : Along (Open n E from from_length next) v trail
  pub before : rank v < lo
  pub ranked : Ranked n rank lo left mid
  pub placed : Placed n rank mid v trail n
  pub below : v < n
  pub ends : finish R v trail (walk R v left S) ≡ final
  pub steps : done + (steps_left trail + 2 * size_of left) ≡ total
  pub bounded : Bounded gone S
  pub way : gone + (way_left trail + 2 * wire_of left) ≤ limit

-- What a step down to u changes in the rows.
pub record Descent (v u l : ℕ) (from from_length next from' from_length' next' : ℕ → ℕ) : Type 0 where
  pub from_new : from' u ≡ v
  pub from_length_new : from_length' u ≡ l
  pub next_new : next' u ≡ 0
  pub next_more : next' v ≡ u + 1
  pub from_old : (x : ℕ) → (x ≡ u → ⊥) → from' x ≡ from x
  pub from_length_old : (x : ℕ) → (x ≡ u → ⊥) → from_length' x ≡ from_length x
  pub next_old : (x : ℕ) → (x ≡ u → ⊥) → (x ≡ v → ⊥) → next' x ≡ next x

-- A step up from v.
pub record Rise (R : Rules) (n : ℕ) (E : List Edge) (rank : ℕ → ℕ) (total limit : ℕ) (final : Marks) (from from_length next : ℕ → ℕ) (S : Marks) (v done : ℕ) : Type 0 where
  pub below : from v < n
  pub other : from v ≡ v → ⊥
  pub fits : (e : ℕ) → (S v).est ≡ Some e → e + from_length v ≤ limit
  pub place : Place R n E rank total limit final from from_length next (relax v (from v) (from_length v) S) (from v) (done + 1)

module _ {R : Rules} {n : ℕ} {E : List Edge} {rank : ℕ → ℕ} {total limit : ℕ} {final : Marks} (q : 0 < R.q) (acc : Accepted n E) where
  module _ {from from_length next : ℕ → ℕ} {S : Marks} {v done : ℕ} (P : Place R n E rank total limit final from from_length next S v done) {u l : ℕ} (found : Least E v (from v) (next v) u l) where
    next_kid : Next E v (from v) u l P.left
    next_kid = grows_next acc P.grows u l found

    kid_ranked : Ranked n rank P.lo (kid u l next_kid.below next_kid.others) P.mid
    kid_ranked = let T : Forest → Type 0 = λ X. Ranked n rank P.lo X P.mid in subst T next_kid.is P.ranked

    -- The node to go down to is one, and not v, and v's offer to it fits.
    pub down_below : u < n
    down_below = kid_ranked.0

    pub down_other : u ≡ v → ⊥
    down_other h = omega (arith, ap rank h, kid_ranked.1, P.before)

    pub down_fits : (e : ℕ) → (S v).est ≡ Some e → e + l ≤ limit
    down_fits e h =
        omega
        (arith, P.bounded v e h, P.way, ap (λ X. wire_of X) next_kid.is)

    pub down_room : (e : ℕ) → (relax v u l S u).est ≡ Some e → e ≤ limit
    down_room e h =
        omega (arith, relax_bounded v u l P.gone S P.bounded u e h, P.way, ap (λ X. wire_of X) next_kid.is)

    pub place_down : {from' from_length' next' : ℕ → ℕ} → Descent v u l from from_length next from' from_length' next' →
        Place R n E rank total limit final from' from_length' next' (down R v u l S) u (done + 1)
    place_down {from'} {from_length'} {next'} D =
        let b : Forest = next_kid.below in
        let o : Forest = next_kid.others in
        let is : P.left ≡ kid u l b o = next_kid.is in
        let new = placed_down n rank P.lo P.mid n v u l b o P.trail P.before kid_ranked P.placed in
        record {
          left = b;
          trail = back v l o P.trail;
          lo = P.lo + 1;
          mid = kid_ranked.2.0;
          gone = P.gone + l;
          grows = grows_u;
          along = ((D.from_new, D.from_length_new, P.below, grows_v), along);
          before = new.0;
          ranked = new.1;
          placed = new.2;
          below = down_below;
          ends = sym (finish_down R v u l b o P.trail S) ∙ (ap (λ X. finish R v P.trail (walk R v X S)) (sym is) ∙ P.ends);
          steps = omega (arith, P.steps, ap (λ X. size_of X) is, steps_down v u l b o P.trail);
          bounded = down_bounded R q v u l P.gone S P.bounded;
          way = omega (arith, P.way, ap (λ X. wire_of X) is, way_down v u l b o P.trail);
        }
      where
        v≢u : v ≡ u → ⊥
        v≢u h = down_other (sym h)

        grows_u : Grows E u (from' u) (next' u) next_kid.below
        grows_u =
            let A : ℕ → Type 0 = λ x. Grows E u x (next' u) next_kid.below in
            let B : ℕ → Type 0 = λ x. Grows E u v x next_kid.below in
            subst A (sym D.from_new) (subst B (sym D.next_new) next_kid.grows_below)

        grows_v : Grows E v (from' v) (next' v) next_kid.others
        grows_v =
            let A : ℕ → Type 0 = λ x. Grows E v x (next' v) next_kid.others in
            let B : ℕ → Type 0 = λ x. Grows E v (from v) x next_kid.others in
            subst A (sym (D.from_old v v≢u)) (subst B (sym D.next_more) next_kid.grows_others)

        kept : (x w k : ℕ) (o : Forest) → rank x < rank v + 1 → rank w < rank x → Open n E from from_length next x w k o → Open n E from' from_length' next' x w k o
        kept x w k o hx hw h =
            let x≢u : x ≡ u → ⊥ = λ s. omega (arith, ap rank s, kid_ranked.1, P.before) in
            let w≢u : w ≡ u → ⊥ = λ s. omega (arith, ap rank s, kid_ranked.1, P.before) in
            let w≢v : w ≡ v → ⊥ = λ s. omega (arith, ap rank s) in
            let A : ℕ → Type 0 = λ z. Grows E w z (next' w) o in
            let B : ℕ → Type 0 = λ z. Grows E w (from w) z o in (
              D.from_old x x≢u ∙ h.0,
              D.from_length_old x x≢u ∙ h.1,
              h.2,
              subst A (sym (D.from_old w w≢u)) (subst B (sym (D.next_old w w≢u w≢v)) h.3),
            )

        along : Along (Open n E from' from_length' next') v P.trail
        along =
            along_map n rank (Open n E from from_length next) (Open n E from' from_length' next') (rank v + 1) kept v P.trail P.mid n (omega arith)
            P.placed P.along

  -- Going up from v, where no child is left and steps are: to the node w that v was entered from, over the length l.
  module _ {from from_length next : ℕ → ℕ} {S : Marks} {v done : ℕ} (P : Place R n E rank total limit final from from_length next S v done) where
    rise : (K : Trail) → P.trail ≡ K → P.left ≡ none → done < total → Rise R n E rank total limit final from from_length next S v done
    unfolding steps_left
    rise arrived is empty early = absurd (omega (arith, P.steps, ap (λ X. size_of X) empty, ap steps_left is))
    rise (back w l o K) is empty early =
        let T : Trail → Type 0 = λ X. Along (Open n E from from_length next) v X in
        let at : Along (Open n E from from_length next) v (back w l o K) = subst T is P.along in
        let U : Trail → Type 0 = λ X. Placed n rank P.mid v X n in
        let placed : Placed n rank P.mid v (back w l o K) n = subst U is P.placed in
        let V : Forest → Type 0 = λ X. Ranked n rank P.lo X P.mid in
        let ranked : Ranked n rank P.lo none P.mid = subst V empty P.ranked in
        let new = placed_up n rank P.lo P.mid n w v l o K P.before ranked placed in
        let to : from v ≡ w = at.0.0 in
        let far : from_length v ≡ l = at.0.1 in
        let size : size_of P.left ≡ 0 = ap (λ X. size_of X) empty in
        let wire : wire_of P.left ≡ 0 = ap (λ X. wire_of X) empty in
        let A : ℕ → Type 0 = λ x. Place R n E rank total limit final from from_length next (relax v x (from_length v) S) x (done + 1) in
        let B : ℕ → Type 0 = λ x. Place R n E rank total limit final from from_length next (relax v w x S) w (done + 1) in
        let here : Place R n E rank total limit final from from_length next (relax v w l S) w (done + 1) =
        record {
          left = o;
          trail = K;
          lo = P.mid;
          mid = placed.1.0;
          gone = P.gone + l;
          grows = at.0.3;
          along = at.1;
          before = new.0;
          ranked = new.1;
          placed = new.2;
          below = at.0.2;
          ends =
              sym (finish_up R w v l o K S) ∙
              (ap (λ X. finish R v (back w l o K) (walk R v X S)) (sym empty) ∙
              (ap (λ X. finish R v X (walk R v P.left S)) (sym is) ∙ P.ends));
          steps = omega (arith, P.steps, size, ap steps_left is, steps_up w l o K);
          bounded = relax_bounded v w l P.gone S P.bounded;
          way = omega (arith, P.way, wire, ap way_left is, way_up w l o K);
        } in
        record {
          below = omega (arith, to, at.0.2);
          other = λ h. omega (arith, ap rank (sym to ∙ h), placed.0);
          fits = λ e h. omega (arith, P.bounded v e h, P.way, wire, far, ap way_left is, way_up w l o K);
          place = subst A (sym to) (subst B (sym far) here);
        }

    pub climbs : Nothing E v (from v) (next v) → done < total → Rise R n E rank total limit final from from_length next S v done
    climbs nothing early = rise P.trail refl (grows_none P.grows nothing) early

  -- All steps done: the marks are the walk's.
  pub place_end : {from from_length next : ℕ → ℕ} {S : Marks} {v : ℕ} → Place R n E rank total limit final from from_length next S v total → S ≡ final
  place_end {S = S} {v} P =
      sym (steps_none R v P.trail P.left S (omega (arith, P.steps))) ∙ P.ends

-- Before the first step.
pub place_start : (R : Rules) (n : ℕ) (E : List Edge) (P : Planted n E) (limit : ℕ) (from from_length next : ℕ → ℕ) → from 0 ≡ 0 → next 0 ≡ 0 →
    2 * wire_of P.forest ≤ limit →
    Place R n E P.rank (2 * size_of P.forest) limit (walk R 0 P.forest laws.start) from from_length next laws.start 0 0
unfolding steps_left way_left
place_start R n E P limit from from_length next h k fits =
    let A : ℕ → Type 0 = λ x. Grows E 0 x (next 0) P.forest in
    let B : ℕ → Type 0 = λ x. Grows E 0 0 x P.forest in
    record {
      left = P.forest;
      trail = arrived;
      lo = 1;
      mid = n;
      gone = 0;
      grows = subst A (sym h) (subst B (sym k) P.grows);
      along = tt;
      before = omega (arith, P.root);
      ranked = P.ranked;
      placed = refl;
      below = omega (arith, P.many);
      ends = finish_start R 0 P.forest laws.start;
      steps = omega arith;
      bounded = start_bounded;
      way = omega (arith, fits);
    }
