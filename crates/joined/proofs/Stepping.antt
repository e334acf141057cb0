-- One step of joining: what the group and its first pairs are then. Assumes nothing.
use Rattle.std.proofs.Common.{◌≡◌, ℕ, ◌+◌, ◌<◌, ◌≤◌, true, List, [], ◌∷◌, ◌++◌, length, get_or, filter, sym, refl, ap, ◌∙◌, subst, inl, inr, ⊎_elim, arith}
use Rattle.std.proofs.lemmas.List.{length_push}
use Rattle.std.proofs.lemmas.List.Kept.{IsStrictlyIncreasing-filter}
use Rattle.std.proofs.lemmas.Bool.{cases_eq}
use Rattle.order.specs.Firsts.{Among}
use Rattle.space.specs.declared.spot.Spot.{Spot}
use Rattle.tree_laws.specs.declared.Row.{Row}
use Rattle.tree_laws.specs.Trees.{Child, RowTree}
use Rattle.share.specs.Meets.{Insertable}
use Rattle.build_laws.specs.Joining.{Farthest, PairOf, far_of, meet_group, meet_row, others}
use Rattle.build_laws.specs.Joining.Joins.{join}
use Rattle.build_laws.specs.declared.pair.Pair.{Pair}
use Rattle.build_laws.proofs.Joined.{among_kept}
use Rattle.build_laws.proofs.Meeting.{Old, far_kept, member_of, new_member, old_member, others_first, others_second, step_hung, step_length}
use Rattle.joined.specs.Joinings.{Joinable, Rising, Rows, JoiningState, Stepped}
use Rattle.joined.specs.Pairs.{FirstPairs, Partner, PairsReady}
use Rattle.joined.proofs.Keeping.{among_here, kept_two_less}
use Rattle.joined.proofs.Partnering.{then_lead}
use Rattle.joined.proofs.Rising.{rising_few, rising_push}

-- ---- the group and its pairs after a step

module _ (d : Spot → Spot → ℕ) (j : Spot → Spot → Spot → Spot) (rows : List Row) (t : RowTree rows) (group : List ℕ) (hung : (g : ℕ) → Among g group → Child rows 0 g) (a b : ℕ) (q : PairOf d j group a b) where
  abbrev after : List Row
  after = meet_row d j rows a b

  abbrev left : List ℕ
  left = meet_group d j group a b (length rows)

  abbrev Stayed : ℕ → Type 0
  Stayed = Old d j rows t group hung a b q

  -- the new row's number is above all others
  pub step_rising : Rising group → Rising left
  step_rising r =
      rising_push (filter (others a b) group) (length rows) (IsStrictlyIncreasing-filter (others a b) group r)
      (λ x i. (hung x (among_kept (others a b) group x i).0).row)

  pub step_shorter : length left + 1 ≤ length group
  step_shorter =
      omega (
        arith,
        length_push (filter (others a b) group) (length rows),
        kept_two_less (others a b) group a b q.first q.second (λ e. omega (arith, q.ordered, e)) (others_first a b a refl) (others_second a b b refl),
      )

  -- ---- the pairs then

  partner_back : (x : ℕ) → Among x group → (m : Pair) → Partner d j after left x m → Partner d j rows group x m
  partner_back x i m p =
      let hx = (hung x i).row in
      let ha : m.a < length rows = omega (arith, p.lower) in
      let hb : m.b < length rows = omega (arith, p.second) in
      ⊎_elim
      (λ (o : Stayed m.a). record { member = o.stood; lower = p.lower; second = p.second; long = p.long ∙ far_kept d j rows t group hung a b q m.a m.b ha hb })
      (λ (e : m.a ≡ length rows). absurd (omega (arith, e, ha)))
      (member_of d j rows t group hung a b q m.a p.member)

  partner_on : (x : ℕ) → Among x group → (m : Pair) → Partner d j rows group x m → (m.a ≡ a → ⊥) → (m.a ≡ b → ⊥) → Partner d j after left x m
  partner_on x i m p na nb =
      let hx = (hung x i).row in
      let ha : m.a < length rows = omega (arith, p.lower) in
      let hb : m.b < length rows = omega (arith, p.second) in
      record { member = old_member d j rows t group hung a b q m.a p.member na nb; lower = p.lower; second = p.second; long = p.long ∙ sym (far_kept d j rows t group hung a b q m.a m.b ha hb) }

  module _ (F : List Pair) (f : FirstPairs d j rows group F) where
    pub step_ready : length F < 768 → PairsReady d j after left a b (length rows) F
    step_ready few =
        record {
          stale = λ old i.
              let h = f.each old i in
              record {
                member = λ na nb. old_member d j rows t group hung a b q old.b h.member na nb;
                near = λ na nb n r. then_lead old.far n.far _ (h.best.1 n (partner_back old.b h.member n r));
                stays = λ na nb ma mb. (partner_on old.b h.member old h.best.0 ma mb, λ n r. h.best.1 n (partner_back old.b h.member n r));
              };
          member = new_member d j rows t group hung a b q;
          all = λ x i m p.
              ⊎_elim
              (λ (o : Stayed x). let r = f.all x o.stood m (partner_back x o.stood m p) in inr (r.0, r.1, r.2, o.first, o.second))
              (λ (e : x ≡ length rows). inl e)
              (member_of d j rows t group hung a b q x i);
          few = few;
        }

-- ---- what a step needs and keeps

module _ (d : Spot → Spot → ℕ) (j : Spot → Spot → Spot → Spot) (rows : List Row) (t : RowTree rows) (group : List ℕ) (F : List Pair) (s : JoiningState d j rows group F) (a b : ℕ) (q : PairOf d j group a b) where
  pub step_parts : Insertable rows 0 a b
  step_parts =
      record {
        first = s.hung a q.first;
        second = s.hung b q.second;
        other = λ e. omega (arith, q.ordered, e);
        room = omega (arith, s.room, step_shorter d j rows t group s.hung a b q);
      }

  pub step_standing : (G : List Pair) → FirstPairs d j (meet_row d j rows a b) (meet_group d j group a b (length rows)) G → length G ≤ length F + 1 → JoiningState d j (meet_row d j rows a b) (meet_group d j group a b (length rows)) G
  step_standing G f h =
      let n = step_length d j rows t group s.hung a b q in
      record {
        hung = step_hung d j rows t group s.hung a b q;
        rising = step_rising d j rows t group s.hung a b q s.rising;
        room = omega (arith, s.room, n, step_shorter d j rows t group s.hung a b q);
        few = omega (arith, s.few, n, h);
        firsts = f;
      }

  -- the same where the rows, the group and the old pairs are known by equations
  module _ (rows' : List Row) (group' : List ℕ) (new : ℕ) (er : rows' ≡ meet_row d j rows a b) (en : new ≡ length rows) (eg : group' ≡ filter (others a b) group ++ new ∷ []) where
    grouped : group' ≡ meet_group d j group a b (length rows)
    grouped = eg ∙ ap (λ n. filter (others a b) group ++ n ∷ []) en

    pub shorter_at : length group' + 1 ≤ length group
    shorter_at = omega (arith, ap length grouped, step_shorter d j rows t group s.hung a b q)

    pub rising_at : Rising group'
    rising_at = subst Rising (sym grouped) (step_rising d j rows t group s.hung a b q s.rising)

    pub rows_at : Rows rows' group'
    rows_at =
        let P : List Row → Type 0 = λ xs. Rows xs group' in
        let Q : List ℕ → Type 0 = λ xs. Rows (meet_row d j rows a b) xs in
        subst P (sym er) (subst Q (sym grouped) (λ g i. (step_hung d j rows t group s.hung a b q g i).row))

    pub ready_at : (olds : List Pair) → olds ≡ F → PairsReady d j rows' group' a b new olds
    ready_at olds eo =
        let P : List Row → Type 0 = λ xs. PairsReady d j xs group' a b new olds in
        let Q : List ℕ → Type 0 = λ xs. PairsReady d j (meet_row d j rows a b) xs a b new olds in
        let R : ℕ → Type 0 = λ n. PairsReady d j (meet_row d j rows a b) (meet_group d j group a b (length rows)) a b n olds in
        let S : List Pair → Type 0 = λ xs. PairsReady d j (meet_row d j rows a b) (meet_group d j group a b (length rows)) a b (length rows) xs in
        subst P (sym er) (subst Q (sym grouped) (subst R (sym en) (subst S (sym eo) (step_ready d j rows t group s.hung a b q F s.firsts (omega (arith, s.few, s.room))))))

    pub stepped_at : (G : List Pair) → FirstPairs d j rows' group' G → length G ≤ length F + 1 → Farthest d j rows group a b → 0 < far_of d j rows a b → Stepped d j rows group true rows' group' G
    stepped_at G f h far some =
        let P : List Row → Type 0 = λ xs. FirstPairs d j xs group' G in
        let Q : List ℕ → Type 0 = λ xs. FirstPairs d j (meet_row d j rows a b) xs G in
        let R : List Row → Type 0 = λ xs. Stepped d j rows group true xs group' G in
        let S : List ℕ → Type 0 = λ xs. Stepped d j rows group true (meet_row d j rows a b) xs G in
        subst R (sym er) (subst S (sym grouped) (
          step_standing G (subst Q grouped (subst P er f)) h,
          step_shorter d j rows t group s.hung a b q,
          λ end k. join a b far some k,
        ))

-- ---- the start

pub standing_start : (d : Spot → Spot → ℕ) (j : Spot → Spot → Spot → Spot) (rows : List Row) (group : List ℕ) (F : List Pair) → RowTree rows → Joinable rows group → FirstPairs d j rows group F → length F ≤ length group → JoiningState d j rows group F
standing_start d j rows group F t h f few =
    let at : (k : ℕ) → k < length group → Child rows 0 (get_or group k 0) = λ k l. h.hung (get_or group k 0) (among_here group k 0 l) in
    let n : length group < length rows =
    rising_few group (length rows) h.rising
    (λ k l. ⊎_elim (λ (e : get_or group k 0 ≡ 0). absurd ((at k l).moves e)) (λ (ne : get_or group k 0 ≡ 0 → ⊥). omega arith) (cases_eq (get_or group k 0) 0))
    (λ k l. (at k l).row) t.some in
    record { hung = h.hung; rising = h.rising; room = h.room; few = omega arith; firsts = f }
