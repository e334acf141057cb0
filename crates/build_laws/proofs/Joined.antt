-- Joining keeps the tree, every path and no more wire. Assumes nothing.
use Rattle.std.proofs.Common.{◌≡◌, ℕ, ◌+◌, ◌<◌, Bool, true, false, cond, not, ◌&&◌, eqb, ◌⊎◌, List, [], ◌∷◌, length, filter, sym, refl, ap, ◌∙◌, subst, inl, inr, ⊎_elim, arith}
use Rattle.std.proofs.lemmas.Bool.{and_parts, cases_Bool, eqb-false, not-true}
use Rattle.order.specs.Firsts.{Among}
use Rattle.order.specs.Firsts.Among.{here, there}
use Rattle.order.proofs.Finding.{among_either, among_none, among_one}
use Rattle.space.specs.Laws.{Meets}
use Rattle.space.specs.declared.spot.Spot.{Spot}
use Rattle.tree_laws.specs.declared.Row.{Row}
use Rattle.tree_laws.specs.Trees.{Child, RowTree, row_length, path_length, row_of, row_spot, up, wire_of}
use Rattle.tree_laws.proofs.Sharing.{between_length, between_new, between_other, between_paths, between_tree, between_wire}
use Rattle.build_laws.specs.Joining.{Grouped, JoiningKeeps, Joins, JoinedKeeps, PairOf, far_of, meet_group, driver_meet, meet_row}
use Rattle.build_laws.specs.Joining.Joins.{done, join}

-- what stands in a group without two members stood in it
pub among_kept : (p : ℕ → Bool) (xs : List ℕ) (x : ℕ) → Among x (filter p xs) → Among x xs × (p x ≡ true)
among_kept p [] x m = absurd (among_none m)
among_kept p (y ∷ xs) x m =
    let Q : Bool → Type 0 = λ b. Among x (cond b (y ∷ filter p xs) (filter p xs)) in
    ⊎_elim
    (λ (e : p y ≡ true).
    ⊎_elim
    (λ (k : Among x (y ∷ [])). let i : x ≡ y = among_one k in (subst (λ (z : ℕ). Among x (z ∷ xs)) i here, ap p i ∙ e))
    (λ (k : Among x (filter p xs)). let r = among_kept p xs x k in (there r.0, r.1))
    (among_either (y ∷ []) (filter p xs) (subst Q e m)))
    (λ (e : p y ≡ false). let r = among_kept p xs x (subst Q e m) in (there r.0, r.1))
    (cases_Bool (p y))

module _ (d : Spot → Spot → ℕ) (m : Spot → Spot → Spot → Spot) (admitted : Spot → Bool) (laws : Meets admitted d m) where
  module _ (rows : List Row) (group : List ℕ) (t : RowTree rows) (g : Grouped d m admitted rows group) (a b : ℕ) (p : PairOf d m group a b) where
    abbrev z : Spot
    z = driver_meet d m rows a b

    pub first_child : Child rows 0 a
    first_child = record { row = g.rows_of a p.first; moves = g.others a p.first; parent = g.hung a p.first }

    first_splits : far_of d m rows a b + d z (row_spot rows a) ≡ row_length rows a
    first_splits = laws.first (row_spot rows 0) (row_spot rows a) (row_spot rows b) g.driver (g.admits a p.first) (g.admits b p.second) ∙ sym (g.long a p.first)

    pub second_child : Child rows 0 b
    second_child = record { row = g.rows_of b p.second; moves = g.others b p.second; parent = g.hung b p.second }

    second_splits : far_of d m rows a b + d z (row_spot rows b) ≡ row_length rows b
    second_splits = laws.second (row_spot rows 0) (row_spot rows a) (row_spot rows b) g.driver (g.admits a p.first) (g.admits b p.second) ∙ sym (g.long b p.second)

    apart : b ≡ a → ⊥
    apart e = omega (arith, p.ordered)

    pub step_tree : RowTree (meet_row d m rows a b)
    step_tree = between_tree t 0 t.some z (far_of d m rows a b) a _ b _ first_child second_child apart

    step_paths : (k : ℕ) → k < length rows → path_length (meet_row d m rows a b) k ≡ path_length rows k
    step_paths = between_paths t 0 t.some z (far_of d m rows a b) a _ b _ first_child second_child apart first_splits second_splits

    step_wire : wire_of (meet_row d m rows a b) + far_of d m rows a b ≡ wire_of rows
    step_wire = between_wire t 0 t.some z (far_of d m rows a b) a _ b _ first_child second_child apart first_splits second_splits

    pub step_length : length (meet_row d m rows a b) ≡ length rows + 1
    step_length = between_length t 0 t.some z (far_of d m rows a b) a _ b _ first_child second_child apart

    pub row_same : (k : ℕ) → k < length rows → (k ≡ a → ⊥) → (k ≡ b → ⊥) → row_of (meet_row d m rows a b) k ≡ row_of rows k
    row_same = between_other t 0 t.some z (far_of d m rows a b) a _ b _ first_child second_child apart

    pub row_new : row_of (meet_row d m rows a b) (length rows) ≡ record { parent = 0; spot = z; length = far_of d m rows a b }
    row_new = between_new t 0 t.some z (far_of d m rows a b) a _ b _ first_child second_child apart

    driver_same : row_of (meet_row d m rows a b) 0 ≡ row_of rows 0
    driver_same = row_same 0 t.some (λ e. g.others a p.first (sym e)) (λ e. g.others b p.second (sym e))

    -- a member of the group after the step: an old one that is neither a nor b, or the new row
    pub record Old (k : ℕ) : Type 0 where
      pub stood : Among k group
      pub row : row_of (meet_row d m rows a b) k ≡ row_of rows k

    member : (k : ℕ) → Among k (meet_group d m group a b (length rows)) → Old k ⊎ (k ≡ length rows)
    member k i =
        ⊎_elim
        (λ (j : Among k (filter (λ x. not (eqb x a) && not (eqb x b)) group)).
        let r = among_kept (λ x. not (eqb x a) && not (eqb x b)) group k j in
        let q = and_parts _ _ r.1 in
        inl (record { stood = r.0; row = row_same k (g.rows_of k r.0) (eqb-false _ _ (not-true _ q.0)) (eqb-false _ _ (not-true _ q.1)) }))
        (λ (j : Among k (length rows ∷ [])). inr (among_one j))
        (among_either (filter (λ x. not (eqb x a) && not (eqb x b)) group) (length rows ∷ []) i)

    pub step_grouped : Grouped d m admitted (meet_row d m rows a b) (meet_group d m group a b (length rows))
    step_grouped = record {
      driver = ap (λ r. admitted r.spot) driver_same ∙ g.driver;
      rows_of = λ k i. ⊎_elim (λ (o : Old k). omega (arith, step_length, g.rows_of k o.stood)) (λ (e : k ≡ length rows). omega (arith, step_length)) (member k i);
      others = λ k i z. ⊎_elim (λ (o : Old k). g.others k o.stood z) (λ (e : k ≡ length rows). omega (arith, t.some)) (member k i);
      hung = λ k i.
          ⊎_elim
          (λ (o : Old k). ap (λ r. r.parent) o.row ∙ g.hung k o.stood)
          (λ (e : k ≡ length rows). ap (up (meet_row d m rows a b)) e ∙ ap (λ r. r.parent) row_new)
          (member k i);
      long = λ k i.
          let o-spot : row_spot rows 0 ≡ row_spot (meet_row d m rows a b) 0 = sym (ap (λ r. r.spot) driver_same) in
          ⊎_elim
          (λ (o : Old k).
          ap (λ r. r.length) o.row ∙ g.long k o.stood ∙ ap (λ s. d s (row_spot rows k)) o-spot ∙ ap (d (row_spot (meet_row d m rows a b) 0)) (sym (ap (λ r. r.spot) o.row)))
          (λ (e : k ≡ length rows).
          ap (row_length (meet_row d m rows a b)) e ∙ ap (λ r. r.length) row_new ∙ ap (λ s. d s z) o-spot
          ∙ ap (d (row_spot (meet_row d m rows a b) 0)) (sym (ap (λ r. r.spot) row_new)) ∙ ap (λ j. d (row_spot (meet_row d m rows a b) 0) (row_spot (meet_row d m rows a b) j)) (sym e))
          (member k i);
      admits = λ k i.
          ⊎_elim
          (λ (o : Old k). ap (λ r. admitted r.spot) o.row ∙ g.admits k o.stood)
          (λ (e : k ≡ length rows).
          ap (λ j. admitted (row_spot (meet_row d m rows a b) j)) e ∙ ap (λ r. admitted r.spot) row_new
          ∙ laws.inside (row_spot rows 0) (row_spot rows a) (row_spot rows b) g.driver (g.admits a p.first) (g.admits b p.second))
          (member k i);
    }

  joins_keep : {rows after : List Row} {group : List ℕ} → RowTree rows → Grouped d m admitted rows group → Joins d m rows group after → JoinedKeeps d m rows after
  joins_keep t g (done h) = record { tree = t; more = omega arith; paths = λ k l. refl; wire = omega arith }
  joins_keep {rows} {after} {group} t g (join a b f h rest) =
      let p = f.pair in
      let r = joins_keep (step_tree rows group t g a b p) (step_grouped rows group t g a b p) rest in
      record {
        tree = r.tree;
        more = omega (arith, r.more, step_length rows group t g a b p);
        paths = λ k l. r.paths k (omega (arith, step_length rows group t g a b p)) ∙ step_paths rows group t g a b p k l;
        wire = omega (arith, r.wire, step_wire rows group t g a b p);
      }

pub joining_keeps_lem : JoiningKeeps
joining_keeps_lem d m admitted laws rows after group t g j = joins_keep d m admitted laws t g j
