-- The loop over the rows: what holds at each turn. Assumes sound edges that are planted.
use Rattle.std.proofs.Common.{◌≡◌, ℕ, ◌+◌, ◌*◌, ◌<◌, ◌≤◌, List, length, get_or, sym, refl, ap, ◌∙◌, subst, arith}
use mathlib.Core.Path.{fun_ext}
use Rattle.seed.specs.declared.store.TheConstants.{NODES}
use Rattle.forest.specs.declared.Edge.{Edge}
use Rattle.forest.specs.Edges.{Sound}
use Rattle.forest.specs.Growth.{Planted, Least, Nothing}
use Rattle.forest.specs.Rooted.{size_of}
use Rattle.forest.proofs.Accepted.{Accepted, accepted}
use Rattle.walk_laws.specs.Walk as laws
use Rattle.walk_laws.specs.Promise.{WalkGuarantee}
use Rattle.walk_laws.proofs.Keeps.{walk_keeps_lem}
use Rattle.walk_laws.proofs.Planting.{planted_spans, planted_fits}
use Rattle.walk_laws.proofs.Seeing.{planted_seen}
use Rattle.walk_laws.proofs.Looping.{Place, Rise, down_below, down_other, down_fits, down_room, place_down, climbs, place_start, place_end}
use Rattle.walk.specs.declared.row.NodeRow.{NodeRow}
use Rattle.walk.specs.Limits.{Low, highest}
use Rattle.walk.specs.Marks.{idle, marks, froms, from_lengths, nexts, directs, walk_rules, Places, Gone}
use Rattle.walk.specs.Walked.{Ready, Walked}

pub record Looping (p q pins n : ℕ) (E : List Edge) (first rows : List NodeRow) (v step : ℕ) : Type 0 where
  pub planted : Planted n E
  pub place : Place (walk_rules p q pins first) n E planted.rank (2 * size_of planted.forest) highest (laws.walk (walk_rules p q pins first) 0 planted.forest laws.start) (froms rows) (from_lengths rows) (nexts rows) (marks rows) v step
  pub count : length rows ≡ n
  pub direct : (x : ℕ) → directs rows x ≡ directs first x

pub loop_start : (p q pins n : ℕ) (E : List Edge) (rows : List NodeRow) → Sound n E → n ≤ NODES → Planted n E → Ready n rows → Looping p q pins n E rows rows 0 0
loop_start p q pins n E rows s few T ready =
    let P : laws.Marks → Type 0 =
    λ S. Place (walk_rules p q pins rows) n E T.rank (2 * size_of T.forest) highest (laws.walk (walk_rules p q pins rows) 0 T.forest laws.start) (froms rows) (from_lengths rows) (nexts rows) S 0 0 in
    record {
      planted = T;
      place =
          subst P (sym ready.fresh)
          (place_start (walk_rules p q pins rows) n E T highest (froms rows) (from_lengths rows) (nexts rows) ready.from ready.next (planted_fits n E s T few));
      count = ready.count;
      direct = λ x. refl;
    }

-- The way down needs another node, and estimates that are not too large.
pub record Down (rows : List NodeRow) (v u l : ℕ) : Type 0 where
  pub apart : u ≡ v → ⊥
  pub far : u < length rows
  pub told : Low (get_or rows v idle).mark.est l
  pub room : Low (laws.relax v u l (marks rows) u).est 0

-- The way up too.
pub record Up (rows : List NodeRow) (v u l : ℕ) : Type 0 where
  pub far : u < length rows
  pub told : Low (get_or rows v idle).mark.est l

module _ {p q pins n : ℕ} {E : List Edge} {first rows : List NodeRow} {v step : ℕ} (pos : 0 < q) (s : Sound n E) (L : Looping p q pins n E first rows v step) where
  abbrev R : laws.Rules
  R = walk_rules p q pins first

  abbrev total : ℕ
  total = 2 * size_of L.planted.forest

  abbrev final : laws.Marks
  final = laws.walk R 0 L.planted.forest laws.start

  acc : Accepted n E
  acc = accepted n E s

  pub loop_end : step ≡ 2 * size_of L.planted.forest → Walked (walk_rules p q pins first) n E (marks rows)
  loop_end h =
      let A : ℕ → Type 0 = λ k. Place R n E L.planted.rank total highest final (froms rows) (from_lengths rows) (nexts rows) (marks rows) v k in
      let is : marks rows ≡ final = place_end pos acc (subst A h L.place) in
      let T : laws.Marks → Type 0 = λ S. WalkGuarantee R n L.planted.forest S in
      record {
        planted = L.planted;
        seen = planted_seen n E s L.planted;
        is = is;
        keeps = subst T (sym is) (walk_keeps_lem R n L.planted.rank L.planted.forest pos (planted_spans n E s L.planted));
      }

  pub loop_needs : {u l : ℕ} → Least E v (froms rows v) (nexts rows v) u l → Down rows v u l
  loop_needs found =
      record {
        apart = down_other pos acc L.place found;
        far = omega (arith, down_below pos acc L.place found, L.count);
        told = down_fits pos acc L.place found;
        room = λ e h. omega (arith, down_room pos acc L.place found e h);
      }

  pub loop_down : {u l : ℕ} → Least E v (froms rows v) (nexts rows v) u l → (rows' : List NodeRow) → Gone p q pins v u l rows rows' →
      Looping p q pins n E first rows' u (step + 1)
  loop_down {u} {l} found rows' g =
      let D : directs rows ≡ directs first = fun_ext (λ z. L.direct z) in
      let is : marks rows' ≡ laws.enter R u (laws.relax v u l (marks rows)) =
      g.marked ∙ ap (λ d. laws.enter (record { p = p; q = q; pins = pins; direct = d }) u (laws.relax v u l (marks rows))) D in
      let T : laws.Marks → Type 0 =
      λ S. Place R n E L.planted.rank total highest final (froms rows') (from_lengths rows') (nexts rows') S u (step + 1) in
      record {
        planted = L.planted;
        place =
            subst T (sym is)
            (place_down pos acc L.place found
            (record {
              from_new = g.from_new;
              from_length_new = g.from_length_new;
              next_new = g.next_new;
              next_more = g.next_more;
              from_old = g.from_old;
              from_length_old = g.from_length_old;
              next_old = g.next_old;
            }));
        count = g.count ∙ L.count;
        direct = λ z. g.direct z ∙ L.direct z;
      }

  rise : Nothing E v (froms rows v) (nexts rows v) → step < total → Rise R n E L.planted.rank total highest final (froms rows) (from_lengths rows) (nexts rows) (marks rows) v step
  rise none early = climbs pos acc L.place none early

  pub loop_rise : Nothing E v (froms rows v) (nexts rows v) → step < 2 * size_of L.planted.forest → Up rows v (froms rows v) (from_lengths rows v)
  loop_rise none early =
      let r = rise none early in
      record { far = omega (arith, r.below, L.count); told = λ e h. r.fits e h }

  pub loop_up : Nothing E v (froms rows v) (nexts rows v) → step < 2 * size_of L.planted.forest → (rows' : List NodeRow) →
      marks rows' ≡ laws.relax v (froms rows v) (from_lengths rows v) (marks rows) → Places rows rows' →
      Looping p q pins n E first rows' (froms rows v) (step + 1)
  loop_up none early rows' is same =
      let S : laws.Marks = laws.relax v (froms rows v) (from_lengths rows v) (marks rows) in
      let P : (ℕ → ℕ) → (ℕ → ℕ) → (ℕ → ℕ) → laws.Marks → Type 0 =
      λ f g h T. Place R n E L.planted.rank total highest final f g h T (froms rows v) (step + 1) in
      let F : froms rows ≡ froms rows' = fun_ext (λ z. sym (same.from z)) in
      let G : from_lengths rows ≡ from_lengths rows' = fun_ext (λ z. sym (same.from_length z)) in
      let N : nexts rows ≡ nexts rows' = fun_ext (λ z. sym (same.next z)) in
      let from : P (froms rows') (from_lengths rows) (nexts rows) S = subst (λ f. P f (from_lengths rows) (nexts rows) S) F (rise none early).place in
      let length_ : P (froms rows') (from_lengths rows') (nexts rows) S = subst (λ g. P (froms rows') g (nexts rows) S) G from in
      let next : P (froms rows') (from_lengths rows') (nexts rows') S = subst (λ h. P (froms rows') (from_lengths rows') h S) N length_ in
      record {
        planted = L.planted;
        place = subst (P (froms rows') (from_lengths rows') (nexts rows')) (sym is) next;
        count = same.count ∙ L.count;
        direct = λ z. same.direct z ∙ L.direct z;
      }

-- The steps of the loop are twice the edges, and those are the nodes of the forest.
pub loop_steps : (n : ℕ) (E : List Edge) (T : Planted n E) (k : ℕ) → k ≡ length E → length E + 1 ≡ n → 2 * k ≡ 2 * size_of T.forest
loop_steps n E T k h t = omega (arith, t, T.many)
