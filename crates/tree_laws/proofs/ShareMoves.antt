-- On measured rows the moves are the space's own, and a move keeps all paths and shortens the wire by what it saves. Assumes nothing.
use Rattle.std.proofs.Common.{◌≡◌, ℕ, ◌+◌, ◌<◌, ◌≤◌, Bool, true, false, ◌&&◌, List, length, Some, None, Option, unwrap_or, sym, refl, ap, ◌∙◌, subst, ⊎_elim, arith}
use Rattle.std.proofs.lemmas.Bool.{cases_eq, cases_lt}
use Rattle.space.specs.Laws.{Meets, Metric, answered}
use Rattle.space.specs.declared.TheConstants.{LONGEST}
use Rattle.space.specs.declared.Space.{Ghosts}
use Rattle.space.specs.declared.Joining.{Ghosts as JoinGhosts}
use Rattle.space.specs.declared.spot.Spot.{Spot}
use Rattle.tree_laws.specs.declared.Row.{Row}
use Rattle.tree_laws.specs.Trees.{Child, RowTree, between, row_length, path_length, row_of, row_spot, up, wire_of}
use Rattle.tree_laws.proofs.Sharing.{between_first, between_length, between_new, between_other, between_paths, between_second, between_wire}
use Rattle.order.specs.Bests.{BestOf}
use Rattle.tree_laws.specs.declared.share.Share.{Share}
use Rattle.tree_laws.specs.Distances.{Measured}
use Rattle.space.specs.Totals.{meet_or_start, capped_distance}
use Rattle.tree_laws.specs.Shares.{ShareMove, meet_of, share_before, shared_by}
use Rattle.tree_laws.proofs.HookMoves.{uncut}

-- ---- two ways to measure that agree on the rows

Agree : List Row → (d e : Spot → Spot → ℕ) (j i : Spot → Spot → Spot → Spot) → Type 0
Agree rows d e j i = (m : Share) → m.v < length rows → m.a < length rows → m.b < length rows → d (row_spot rows m.v) (meet_of rows j m) ≡ e (row_spot rows m.v) (meet_of rows i m)

move_other : (rows : List Row) (d e : Spot → Spot → ℕ) (j i : Spot → Spot → Spot → Spot) → Agree rows d e j i → (m : Share) → ShareMove rows d j m → ShareMove rows e i m
unfolding Agree
move_other rows d e j i a m q =
    record { row = q.row; first = q.first; second = q.second; order = q.order; saves = q.saves ∙ a m q.row q.first.row q.second.row; counts = q.counts }

agree_back : (rows : List Row) (d e : Spot → Spot → ℕ) (j i : Spot → Spot → Spot → Spot) → Agree rows d e j i → Agree rows e d i j
unfolding Agree
agree_back rows d e j i a m h k l = sym (a m h k l)

best_other : (rows : List Row) (d e : Spot → Spot → ℕ) (j i : Spot → Spot → Spot → Spot) → Agree rows d e j i → (o : Option Share) → BestOf share_before (ShareMove rows d j) o → BestOf share_before (ShareMove rows e i) o
best_other rows d e j i a None b = λ m q. b m (move_other rows e d i j (agree_back rows d e j i a) m q)
best_other rows d e j i a (Some m) b = (move_other rows d e j i a m b.0, λ n q. b.1 n (move_other rows e d i j (agree_back rows d e j i a) n q))

-- ---- the space's own distances and meets

given_so : (b : Bool) (x o : Spot) → b ≡ true → unwrap_or (answered b x) o ≡ x
given_so true x o e = refl
given_so false x o e = let z : ◌≡◌ {A = ℕ} 0 1 = cc in absurd (omega arith)

module _ {X : Type 0} (G : Ghosts X) (J : JoinGhosts X) (s : X) (rows : List Row) (metric : G.width s ≤ LONGEST → Metric (G.admitted s) (G.width s) (G.between s)) (meets : G.width s ≤ LONGEST → Meets (G.admitted s) (G.between s) (J.meeting s)) (p : Measured G s rows) where
  reach_is : (x y : Spot) → G.admitted s x ≡ true → G.admitted s y ≡ true → capped_distance G s x y ≡ G.between s x y
  reach_is x y a b =
      let both : G.admitted s x && G.admitted s y ≡ true = rw (a, b) in
      uncut (G.between s x y) (G.width s) (G.admitted s x && G.admitted s y) both ((metric p.narrow).within x y a b) p.narrow

  join_is : (o x y : Spot) → G.admitted s o ≡ true → G.admitted s x ≡ true → G.admitted s y ≡ true → meet_or_start G J s o x y ≡ J.meeting s o x y
  join_is o x y a b c =
      let all : G.admitted s o && G.admitted s x && G.admitted s y ≡ true = rw (a, b, c) in
      given_so (G.admitted s o && G.admitted s x && G.admitted s y) (J.meeting s o x y) o all

  module _ (m : Share) (hv : m.v < length rows) (ha : m.a < length rows) (hb : m.b < length rows) where
    abbrev z : Spot
    z = meet_of rows (J.meeting s) m

    meet_inside : G.admitted s z ≡ true
    meet_inside =
        (meets p.narrow).inside (row_spot rows m.v) (row_spot rows m.a) (row_spot rows m.b) (p.admitted m.v hv) (p.admitted m.a ha) (p.admitted m.b hb)

    meet_is : meet_of rows (meet_or_start G J s) m ≡ z
    meet_is = join_is (row_spot rows m.v) (row_spot rows m.a) (row_spot rows m.b) (p.admitted m.v hv) (p.admitted m.a ha) (p.admitted m.b hb)

    pub saves_is : capped_distance G s (row_spot rows m.v) (meet_of rows (meet_or_start G J s) m) ≡ G.between s (row_spot rows m.v) z
    saves_is = ap (capped_distance G s (row_spot rows m.v)) meet_is ∙ reach_is (row_spot rows m.v) z (p.admitted m.v hv) meet_inside

    pub shared_is : shared_by rows (capped_distance G s) (meet_or_start G J s) m ≡ shared_by rows (G.between s) (J.meeting s) m
    shared_is =
        let d = capped_distance G s in
        let e = G.between s in
        let sv = row_spot rows m.v in
        let sa = row_spot rows m.a in
        let sb = row_spot rows m.b in
        ap (λ x. between rows m.v x (d sv x) m.a (d x sa) m.b (d x sb)) meet_is
        ∙ ap (λ x. between rows m.v z x m.a (d z sa) m.b (d z sb)) (reach_is sv z (p.admitted m.v hv) meet_inside)
        ∙ ap (λ x. between rows m.v z (e sv z) m.a x m.b (d z sb)) (reach_is z sa meet_inside (p.admitted m.a ha))
        ∙ ap (λ x. between rows m.v z (e sv z) m.a (e z sa) m.b x) (reach_is z sb meet_inside (p.admitted m.b hb))

  agrees : Agree rows (capped_distance G s) (G.between s) (meet_or_start G J s) (J.meeting s)
  unfolding Agree
  agrees m hv ha hb = saves_is m hv ha hb

  pub best_measured : (o : Option Share) → BestOf share_before (ShareMove rows (capped_distance G s) (meet_or_start G J s)) o → BestOf share_before (ShareMove rows (G.between s) (J.meeting s)) o
  best_measured o b = best_other rows (capped_distance G s) (G.between s) (meet_or_start G J s) (J.meeting s) agrees o b

  -- a move by the cut distances is one by the space's own, and the other way round
  pub move_own : (m : Share) → ShareMove rows (capped_distance G s) (meet_or_start G J s) m → ShareMove rows (G.between s) (J.meeting s) m
  move_own m q = move_other rows (capped_distance G s) (G.between s) (meet_or_start G J s) (J.meeting s) agrees m q

  pub move_cut : (m : Share) → ShareMove rows (G.between s) (J.meeting s) m → ShareMove rows (capped_distance G s) (meet_or_start G J s) m
  move_cut m q =
      move_other rows (G.between s) (capped_distance G s) (J.meeting s) (meet_or_start G J s) (agree_back rows (capped_distance G s) (G.between s) (meet_or_start G J s) (J.meeting s) agrees) m q

  -- ---- a move on measured rows

  module _ (t : RowTree rows) (m : Share) (q : ShareMove rows (G.between s) (J.meeting s) m) where
    abbrev w : Spot
    w = meet_of rows (J.meeting s) m

    abbrev l : ℕ
    l = G.between s (row_spot rows m.v) w

    abbrev la : ℕ
    la = G.between s w (row_spot rows m.a)

    abbrev lb : ℕ
    lb = G.between s w (row_spot rows m.b)

    abbrev after : List Row
    after = between rows m.v w l m.a la m.b lb

    distinct : m.b ≡ m.a → ⊥
    distinct e = omega (arith, q.order, e)

    long : (c : ℕ) → Child rows m.v c → row_length rows c ≡ G.between s (row_spot rows m.v) (row_spot rows c)
    long c k = p.lengths c k.row k.moves ∙ ap (λ x. G.between s (row_spot rows x) (row_spot rows c)) k.parent

    first_splits : l + la ≡ row_length rows m.a
    first_splits =
        (meets p.narrow).first (row_spot rows m.v) (row_spot rows m.a) (row_spot rows m.b) (p.admitted m.v q.row) (p.admitted m.a q.first.row) (p.admitted m.b q.second.row)
        ∙ sym (long m.a q.first)

    second_splits : l + lb ≡ row_length rows m.b
    second_splits =
        (meets p.narrow).second (row_spot rows m.v) (row_spot rows m.a) (row_spot rows m.b) (p.admitted m.v q.row) (p.admitted m.a q.first.row) (p.admitted m.b q.second.row)
        ∙ sym (long m.b q.second)

    pub wire_falls : wire_of after + l ≡ wire_of rows
    wire_falls = between_wire t m.v q.row w l m.a la m.b lb q.first q.second distinct first_splits second_splits

    pub paths_stay : (k : ℕ) → k < length rows → path_length after k ≡ path_length rows k
    paths_stay = between_paths t m.v q.row w l m.a la m.b lb q.first q.second distinct first_splits second_splits

    row_new : row_of after (length rows) ≡ record { parent = m.v; spot = w; length = l }
    row_new = between_new t m.v q.row w l m.a la m.b lb q.first q.second distinct

    row_first : row_of after m.a ≡ record { parent = length rows; spot = row_spot rows m.a; length = la }
    row_first = between_first t m.v q.row w l m.a la m.b lb q.first q.second distinct

    row_second : row_of after m.b ≡ record { parent = length rows; spot = row_spot rows m.b; length = lb }
    row_second = between_second t m.v q.row w l m.a la m.b lb q.first q.second distinct

    row_other : (k : ℕ) → k < length rows → (k ≡ m.a → ⊥) → (k ≡ m.b → ⊥) → row_of after k ≡ row_of rows k
    row_other = between_other t m.v q.row w l m.a la m.b lb q.first q.second distinct

    spot_new : row_spot after (length rows) ≡ w
    spot_new = ap (λ (r : Row). r.spot) row_new

    pub spot_kept : (k : ℕ) → k < length rows → row_spot after k ≡ row_spot rows k
    spot_kept k h =
        ⊎_elim
        (λ (e : k ≡ m.a). ap (row_spot after) e ∙ ap (λ (r : Row). r.spot) row_first ∙ ap (row_spot rows) (sym e))
        (λ (na : k ≡ m.a → ⊥).
        ⊎_elim
        (λ (e : k ≡ m.b). ap (row_spot after) e ∙ ap (λ (r : Row). r.spot) row_second ∙ ap (row_spot rows) (sym e))
        (λ (nb : k ≡ m.b → ⊥). ap (λ (r : Row). r.spot) (row_other k h na nb))
        (cases_eq k m.b))
        (cases_eq k m.a)

    Long : ℕ → Type 0
    Long k = row_length after k ≡ G.between s (row_spot after (up after k)) (row_spot after k)

    -- a row that is known has its distance as its length
    by_row : (k : ℕ) (r : Row) → row_of after k ≡ r → r.length ≡ G.between s (row_spot after r.parent) r.spot → Long k
    unfolding Long
    by_row k r e h = let P : Row → Type 0 = λ x. x.length ≡ G.between s (row_spot after x.parent) x.spot in subst P (sym e) h

    long_new : Long (length rows)
    long_new =
        by_row (length rows) (record { parent = m.v; spot = w; length = l }) row_new (ap (λ x. G.between s x w) (sym (spot_kept m.v q.row)))

    long_first : Long m.a
    long_first =
        by_row m.a (record { parent = length rows; spot = row_spot rows m.a; length = la }) row_first (ap (λ x. G.between s x (row_spot rows m.a)) (sym spot_new))

    long_second : Long m.b
    long_second =
        by_row m.b (record { parent = length rows; spot = row_spot rows m.b; length = lb }) row_second (ap (λ x. G.between s x (row_spot rows m.b)) (sym spot_new))

    long_other : (k : ℕ) → k < length rows → (k ≡ 0 → ⊥) → (k ≡ m.a → ⊥) → (k ≡ m.b → ⊥) → Long k
    long_other k h ne na nb =
        by_row k (row_of rows k) (row_other k h na nb) (p.lengths k h ne ∙ ap (λ x. G.between s x (row_spot rows k)) (sym (spot_kept (up rows k) (t.parents k h))))

    long_all : (k : ℕ) → k < length after → (k ≡ 0 → ⊥) → Long k
    long_all k h ne =
        ⊎_elim
        (λ (o : k < length rows).
        ⊎_elim
        (λ (e : k ≡ m.a). subst Long (sym e) long_first)
        (λ (na : k ≡ m.a → ⊥). ⊎_elim (λ (e : k ≡ m.b). subst Long (sym e) long_second) (λ (nb : k ≡ m.b → ⊥). long_other k o ne na nb) (cases_eq k m.b))
        (cases_eq k m.a))
        (λ (o : length rows ≤ k).
        let e : length rows ≡ k = omega (arith, between_length t m.v q.row w l m.a la m.b lb q.first q.second distinct) in
        subst Long e long_new)
        (cases_lt k (length rows))

    admitted_all : (k : ℕ) → k < length after → G.admitted s (row_spot after k) ≡ true
    admitted_all k h =
        ⊎_elim
        (λ (o : k < length rows). ap (λ x. G.admitted s x) (spot_kept k o) ∙ p.admitted k o)
        (λ (o : length rows ≤ k).
        let e : k ≡ length rows = omega (arith, between_length t m.v q.row w l m.a la m.b lb q.first q.second distinct) in
        ap (λ x. G.admitted s (row_spot after x)) e ∙ ap (λ x. G.admitted s x) spot_new ∙ meet_inside m q.row q.first.row q.second.row)
        (cases_lt k (length rows))

    pub measured_again : Measured G s after
    unfolding Long
    measured_again = record { narrow = p.narrow; admitted = admitted_all; lengths = long_all }
