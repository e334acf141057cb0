-- Joining measured rows is joining by the space's own distances and meets. Assumes nothing.
use Rattle.std.proofs.Common.{◌≡◌, ℕ, ◌<◌, ◌≤◌, false, List, length, sym, refl, ap, ◌∙◌, subst, arith}
use Rattle.order.specs.Firsts.{Among}
use Rattle.space.specs.Laws.{Meets, Metric}
use Rattle.space.specs.declared.TheConstants.{LONGEST}
use Rattle.space.specs.declared.Space.{Ghosts}
use Rattle.space.specs.declared.Joining.{Ghosts as JoinGhosts}
use Rattle.space.specs.declared.spot.Spot.{Spot}
use Rattle.tree_laws.specs.declared.Row.{Row}
use Rattle.tree_laws.specs.Trees.{Child, RowTree, row_spot}
use Rattle.tree_laws.specs.declared.share.Share.{Share}
use Rattle.tree_laws.specs.Distances.{Measured}
use Rattle.space.specs.Totals.{meet_or_start, capped_distance}
use Rattle.tree_laws.specs.Shares.{ShareMove}
use Rattle.tree_laws.proofs.ShareMoves.{measured_again, saves_is, shared_is}
use Rattle.build_laws.specs.Joining.{Farthest, Grouped, Joins, PairOf, far_of, meet_group, meet_row}
use Rattle.build_laws.specs.Joining.Joins.{done, join}
use Rattle.build_laws.specs.Pairs.{pair_before}
use Rattle.build_laws.proofs.Meeting.{step_hung, step_tree}

module _ {X : Type 0} (G : Ghosts X) (J : JoinGhosts X) (s : X) (metric : G.width s ≤ LONGEST → Metric (G.admitted s) (G.width s) (G.between s)) (meets : G.width s ≤ LONGEST → Meets (G.admitted s) (G.between s) (J.meeting s)) where
  abbrev d : Spot → Spot → ℕ
  d = capped_distance G s

  abbrev j : Spot → Spot → Spot → Spot
  j = meet_or_start G J s

  abbrev e : Spot → Spot → ℕ
  e = G.between s

  abbrev i : Spot → Spot → Spot → Spot
  i = J.meeting s

  -- a pair as a move that saves how far its meet is
  abbrev share_of : List Row → (a b : ℕ) → Share
  share_of rows a b = record { saving = far_of e i rows a b; v = 0; a = a; b = b }

  own_pair : (group : List ℕ) (a b : ℕ) → PairOf d j group a b → PairOf e i group a b
  own_pair group a b p = record { first = p.first; second = p.second; ordered = p.ordered }

  cut_pair : (group : List ℕ) (a b : ℕ) → PairOf e i group a b → PairOf d j group a b
  cut_pair group a b p = record { first = p.first; second = p.second; ordered = p.ordered }

  module _ (rows : List Row) (t : RowTree rows) (p : Measured G s rows) (group : List ℕ) (hung : (g : ℕ) → Among g group → Child rows 0 g) where
    far_is : (a b : ℕ) → PairOf d j group a b → far_of d j rows a b ≡ far_of e i rows a b
    far_is a b q = saves_is G J s rows metric meets p (share_of rows a b) t.some (hung a q.first).row (hung b q.second).row

    rows_is : (a b : ℕ) → PairOf d j group a b → meet_row d j rows a b ≡ meet_row e i rows a b
    rows_is a b q = shared_is G J s rows metric meets p (share_of rows a b) t.some (hung a q.first).row (hung b q.second).row

    own_farthest : (a b : ℕ) → Farthest d j rows group a b → Farthest e i rows group a b
    own_farthest a b f = record {
      pair = own_pair group a b f.pair;
      first = λ x y q.
          let r = cut_pair group x y q in
          let P : ℕ → Type 0 = λ n. pair_before (record { far = far_of e i rows x y; a = x; b = y }) (record { far = n; a = a; b = b }) ≡ false in
          let Q : ℕ → Type 0 = λ n. pair_before (record { far = n; a = x; b = y }) (record { far = far_of d j rows a b; a = a; b = b }) ≡ false in
          subst P (far_is a b f.pair) (subst Q (far_is x y r) (f.first x y r));
    }

    own_measured : (a b : ℕ) → PairOf d j group a b → 0 < far_of d j rows a b → Measured G s (meet_row d j rows a b)
    own_measured a b q h =
        let P : List Row → Type 0 = λ xs. Measured G s xs in
        let m : ShareMove rows e i (share_of rows a b) =
        record { row = t.some; first = hung a q.first; second = hung b q.second; order = q.ordered; saves = refl; counts = omega (arith, far_is a b q) } in
        subst P (sym (rows_is a b q)) (measured_again G J s rows metric meets p t (share_of rows a b) m)

    pub own_grouped : Grouped e i (G.admitted s) rows group
    own_grouped = record {
      driver = p.admitted 0 t.some;
      rows_of = λ g m. (hung g m).row;
      others = λ g m. (hung g m).moves;
      hung = λ g m. (hung g m).parent;
      long = λ g m. p.lengths g (hung g m).row (hung g m).moves ∙ ap (λ x. e (row_spot rows x) (row_spot rows g)) (hung g m).parent;
      admits = λ g m. p.admitted g (hung g m).row;
    }

  -- joining by cut distances is joining by the space's own, and the rows are measured again
  pub own_joins : {rows after : List Row} {group : List ℕ} → RowTree rows → Measured G s rows → ((g : ℕ) → Among g group → Child rows 0 g) → Joins d j rows group after → Joins e i rows group after × Measured G s after
  own_joins {rows} {after} {group} t p hung (done h) = (done (λ a b q. sym (far_is rows t p group hung a b (cut_pair group a b q)) ∙ h a b (cut_pair group a b q)), p)
  own_joins {rows} {after} {group} t p hung (join a b f h rest) =
      let q = f.pair in
      let r = own_joins (step_tree d j rows t group hung a b q) (own_measured rows t p group hung a b q h) (step_hung d j rows t group hung a b q) rest in
      let P : List Row → Type 0 = λ xs. Joins e i xs (meet_group e i group a b (length rows)) after in
      (join a b (own_farthest rows t p group hung a b f) (omega (arith, far_is rows t p group hung a b q)) (subst P (rows_is rows t p group hung a b q) r.0), r.1)
