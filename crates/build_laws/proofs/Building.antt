-- The straight tree keeps what the walk guarantees. Assumes nothing.
use Rattle.std.proofs.Common.{◌≡◌, ℕ, zero, suc, ◌+◌, ◌*◌, ◌<◌, ◌≤◌, Bool, true, false, cond, ◌||◌, eqb, List, [], ◌∷◌, ◌++◌, length, Some, sym, refl, ap, ◌∙◌, subst, ⊎_elim, mul_assoc, add-mul, mul-le-mul_left, mul-add, arith}
use Rattle.std.proofs.lemmas.List.{length_push, get_or_push, get_or_append_left}
use Rattle.std.proofs.lemmas.Bool.{cases_Bool, cases_eq, cases_lt, eq-eqb, ne_eqb, cond-true, cond-false, or_left, or_right, or_from}
use Rattle.space.specs.declared.spot.Spot.{Spot}
use Rattle.forest.specs.Rooted.{Forest}
use Rattle.forest.specs.Rooted as rooted
use Rattle.walk_laws.specs.Walk.{Rules, Marks}
use Rattle.walk_laws.specs.Promise.{Branch, RootedTree, WalkGuarantee, HangsOnNeighbour, Ways, owed_at, sum_to, wire_at}
use Rattle.walk_laws.proofs.Branches.{branch_rank}
use Rattle.walk_laws.proofs.Keeps.{ends_below, first_below}
use Rattle.tree_laws.specs.declared.Row.{Row}
use Rattle.tree_laws.specs.Trees.RowWay.{home, down}
use Rattle.tree_laws.specs.Trees.{RowTree, RowWay, blank, row_length, path_length, row_of, up, wire_of}
use Rattle.tree_laws.proofs.Adding.{add_wire}
use Rattle.tree_laws.proofs.Ways.{path_driver, path_step, tree_from}
use Rattle.build_laws.specs.Straight.{Straight, breakpoints, broken_if, straight, straight_row}
use Rattle.order.specs.Firsts.{Among}
use Rattle.order.proofs.Finding.{among_either, among_none, among_one}

-- what is listed is a breakpoint
among_broken : (b : Bool) (v x : ℕ) → Among x (broken_if b v) → (x ≡ v) × (b ≡ true)
among_broken true v x a = (among_one a, refl)
among_broken false v x a = absurd (among_none a)

pub among_breakpoints : (S : Marks) (n x : ℕ) → Among x (breakpoints S n) → (x < n) × ((S x).broken ≡ true)
among_breakpoints S zero x a = absurd (among_none a)
among_breakpoints S (suc n) x a =
    ⊎_elim
    (λ (i : Among x (breakpoints S n)). let r = among_breakpoints S n x i in (omega (arith, r.0), r.1))
    (λ (i : Among x (broken_if (S n).broken n)). let r = among_broken (S n).broken n x i in (omega (arith, r.0), ap (λ v. (S v).broken) r.0 ∙ r.1))
    (among_either (breakpoints S n) (broken_if (S n).broken n) a)

module _ (R : Rules) (S : Marks) (spots : ℕ → Spot) where
  pub straight_length : (n : ℕ) → length (straight R S spots n) ≡ n
  straight_length zero = refl
  straight_length (suc n) = length_push (straight R S spots n) (straight_row R S spots n) ∙ omega (arith, straight_length n)

  pub straight_row_lem : (n k : ℕ) → k < n → row_of (straight R S spots n) k ≡ straight_row R S spots k
  straight_row_lem zero k h = absurd (none k h)
    where
      none : (k : ℕ) → k < 0 → ⊥
      none k h = omega arith
  straight_row_lem (suc n) k h =
      let rows = straight R S spots n in
      let new = straight_row R S spots n in
      ⊎_elim
      (λ (l : k < n). get_or_append_left rows (new ∷ []) blank k (omega (arith, straight_length n)) ∙ straight_row_lem n k l)
      (λ (l : n ≤ k).
      let e : k ≡ n = omega arith in
      get_or_push rows new blank k (straight_length n ∙ sym e) ∙ ap (straight_row R S spots) (sym e))
      (cases_lt k n)

  wire_push : (rows : List Row) (r : Row) → wire_of (rows ++ r ∷ []) ≡ wire_of rows + r.length
  wire_push rows r = add_wire rows r.parent r.spot r.length

  -- what a row costs: what its node owes as a breakpoint or costs on its parent
  cost : (v : ℕ) → ((S v).broken ≡ true → v ≡ 0 → ⊥) → (straight_row R S spots v).length ≡ wire_at S v + owed_at R S v
  cost v low =
      ⊎_elim
      (λ (z : v ≡ 0).
      ⊎_elim
      (λ (b : (S v).broken ≡ true). absurd (low b z))
      (λ (b : (S v).broken ≡ false).
      let t = eq-eqb v 0 z in
      omega (arith, cond-true (eqb v 0) 0 (cond (S v).broken (R.direct v) (S v).edge) t, cond-true (eqb v 0 || (S v).broken) 0 (S v).edge (or_left _ _ t), cond-false (S v).broken (R.direct v) 0 b))
      (cases_Bool (S v).broken))
      (λ (nz : v ≡ 0 → ⊥).
      let t = ne_eqb v 0 nz in
      let first = cond-false (eqb v 0) 0 (cond (S v).broken (R.direct v) (S v).edge) t in
      ⊎_elim
      (λ (b : (S v).broken ≡ true).
      omega (arith, first, cond-true (S v).broken (R.direct v) (S v).edge b, cond-true (eqb v 0 || (S v).broken) 0 (S v).edge (or_right _ _ b), cond-true (S v).broken (R.direct v) 0 b))
      (λ (b : (S v).broken ≡ false).
      omega (arith, first, cond-false (S v).broken (R.direct v) (S v).edge b, cond-false (eqb v 0 || (S v).broken) 0 (S v).edge (or_from _ _ t b), cond-false (S v).broken (R.direct v) 0 b))
      (cases_Bool (S v).broken))
      (cases_eq v 0)

  pub straight_wire : (n : ℕ) → ((v : ℕ) → v < n → (S v).broken ≡ true → v ≡ 0 → ⊥) → wire_of (straight R S spots n) ≡ sum_to (wire_at S) n + sum_to (owed_at R S) n
  straight_wire zero low = omega arith
  straight_wire (suc n) low =
      omega (arith, wire_push (straight R S spots n) (straight_row R S spots n), straight_wire n (λ v h. low v (omega arith)), cost n (low n (omega arith)))

module _ (R : Rules) (n : ℕ) (F : Forest) (S : Marks) (spots : ℕ → Spot) (g : WalkGuarantee R n F S) (some : 0 < n) (inside : (u w l : ℕ) → Branch 0 F u w l → (u < n) × (w < n)) (without : (u l : ℕ) → Branch 0 F u 0 l → ⊥) where
  abbrev pub rows : List Row
  rows = straight R S spots n

  abbrev high : (v : ℕ) → v < n → (S v).broken ≡ true → v ≡ 0 → ⊥
  high v h b z = omega (arith, (g.sinks v h b).0)

  up_driver : up rows 0 ≡ 0
  up_driver = ap (λ r. r.parent) (straight_row_lem R S spots n 0 some)

  still : row_length rows 0 ≡ 0
  still = ap (λ r. r.length) (straight_row_lem R S spots n 0 some)

  up_broken : (v : ℕ) → v < n → (S v).broken ≡ true → up rows v ≡ 0
  up_broken v h b = ap (λ r. r.parent) (straight_row_lem R S spots n v h) ∙ cond-true (eqb v 0 || (S v).broken) 0 (S v).parent (or_right _ _ b)

  up_hung : (v : ℕ) → v < n → (v ≡ 0 → ⊥) → (S v).broken ≡ false → up rows v ≡ (S v).parent
  up_hung v h nz b = ap (λ r. r.parent) (straight_row_lem R S spots n v h) ∙ cond-false (eqb v 0 || (S v).broken) 0 (S v).parent (or_from _ _ (ne_eqb v 0 nz) b)

  long_broken : (v : ℕ) → v < n → (S v).broken ≡ true → row_length rows v ≡ R.direct v
  long_broken v h b =
      ap (λ r. r.length) (straight_row_lem R S spots n v h)
      ∙ cond-false (eqb v 0) 0 (cond (S v).broken (R.direct v) (S v).edge) (ne_eqb v 0 (high v h b))
      ∙ cond-true (S v).broken (R.direct v) (S v).edge b

  long_hung : (v : ℕ) → v < n → (v ≡ 0 → ⊥) → (S v).broken ≡ false → row_length rows v ≡ (S v).edge
  long_hung v h nz b =
      ap (λ r. r.length) (straight_row_lem R S spots n v h)
      ∙ cond-false (eqb v 0) 0 (cond (S v).broken (R.direct v) (S v).edge) (ne_eqb v 0 nz)
      ∙ cond-false (S v).broken (R.direct v) (S v).edge b

  -- the parent of a node that hangs is a node
  parent_below : (v e : ℕ) → HangsOnNeighbour F S v e → (S v).parent < n
  parent_below v e h =
      ⊎_elim
      (λ (d : Branch 0 F (S v).parent v (S v).edge). (inside (S v).parent v (S v).edge d).0)
      (λ (d : Branch 0 F v (S v).parent (S v).edge). (inside v (S v).parent (S v).edge d).1)
      h.neighbour

  -- every node comes up to the driver, since the estimates fall from a node to its parent
  way_by : (fuel v e : ℕ) → v < n → (S v).est ≡ Some e → e < fuel → (ns : List ℕ) × RowWay rows v ns
  way_by zero v e h t f = absurd (omega arith)
  way_by (suc fuel) v e h t f =
      let P : ℕ → Type 0 = λ x. (ns : List ℕ) × RowWay rows x ns in
      ⊎_elim
      (λ (z : v ≡ 0). subst P (sym z) (0 ∷ [], home))
      (λ (nz : v ≡ 0 → ⊥).
      ⊎_elim
      (λ (b : (S v).broken ≡ true).
      let w = subst P (sym (up_broken v h b)) (0 ∷ [], home) in
      (w.0 ++ v ∷ [], down nz w.1))
      (λ (b : (S v).broken ≡ false).
      let k = g.hangs v e h nz b t in
      let w = subst P (sym (up_hung v h nz b)) (way_by fuel (S v).parent k.above (parent_below v e k) k.told (omega (arith, k.falls))) in
      (w.0 ++ v ∷ [], down nz w.1))
      (cases_Bool (S v).broken))
      (cases_eq v 0)

  rows_length : length rows ≡ n
  rows_length = straight_length R S spots n

  up_below : (v : ℕ) → v < n → up rows v < n
  up_below v h =
      ⊎_elim
      (λ (z : v ≡ 0). omega (arith, ap (up rows) z, up_driver))
      (λ (nz : v ≡ 0 → ⊥).
      ⊎_elim
      (λ (b : (S v).broken ≡ true). omega (arith, up_broken v h b))
      (λ (b : (S v).broken ≡ false).
      let t = g.told v h in
      omega (arith, up_hung v h nz b, parent_below v t.0 (g.hangs v t.0 h nz b t.1)))
      (cases_Bool (S v).broken))
      (cases_eq v 0)

  pub straight_tree : RowTree rows
  straight_tree =
      tree_from rows (omega (arith, rows_length)) up_driver still
      (λ j h. omega (arith, rows_length, up_below j (omega (arith, rows_length))))
      (λ k h. let t = g.told k (omega (arith, rows_length)) in way_by (t.0 + 1) k t.0 (omega (arith, rows_length)) t.1 (omega arith))

  -- the paths of the rows are the ways along the parents
  pub straight_ways : Ways R n S (path_length rows)
  straight_ways = record {
    driver = path_driver straight_tree;
    breakpoint = λ v h b.
        omega (arith, path_step straight_tree v (omega (arith, rows_length)) (high v h b), ap (path_length rows) (up_broken v h b), path_driver straight_tree, long_broken v h b);
    other = λ v h nz b.
        omega (arith, path_step straight_tree v (omega (arith, rows_length)) nz, ap (path_length rows) (up_hung v h nz b), long_hung v h nz b);
  }

  total : (p q a b w x : ℕ) → x ≡ a + b → a ≤ w → p * b ≤ 2 * (q * w) → p * x ≤ (p + 2 * q) * w
  total p q a b w x e h k = omega (arith, ap (λ y. p * y) e, mul-add p a b, mul-le-mul_left p h, add-mul p (2 * q) w, mul_assoc 2 q w)

  pub straight_keeps_lem : Straight R n F S rows
  straight_keeps_lem = record {
    tree = straight_tree;
    wire = total R.p R.q (sum_to (wire_at S) n) (sum_to (owed_at R S) n) (rooted.wire_of F) (wire_of rows) (straight_wire R S spots n high) g.wire g.owed;
    allowed = λ t d0 v h s.
        let e = g.told v h in
        omega (arith, mul-le-mul_left R.q (g.ways t d0 (path_length rows) straight_ways v e.0 h e.1), g.allowed v e.0 h s e.1);
    breakpoints = λ v h b. straight_ways.breakpoint v h b;
    spared = λ s u w l h d.
        let k = g.spared s u w l d in
        let broken : (S w).broken ≡ false = ap (λ m. m.broken) k.2 in
        let nz : w ≡ 0 → ⊥ = λ z. without u l (subst (λ (x : ℕ). Branch 0 F u x l) z d) in
        (up_hung w h nz broken ∙ ap (λ m. m.parent) k.2, long_hung w h nz broken ∙ ap (λ m. m.edge) k.2);
  }

-- the same over a seed that is a tree on the nodes below n
pub straight_of : (R : Rules) (n : ℕ) (rank : ℕ → ℕ) (F : Forest) (S : Marks) (spots : ℕ → Spot) → 0 < R.q → RootedTree n rank F → WalkGuarantee R n F S → Straight R n F S (straight R S spots n)
straight_of R n rank F S spots q T g =
    straight_keeps_lem R n F S spots g (first_below R n rank F q T) (ends_below R n rank F q T)
    (λ u l d. omega (arith, (branch_rank n rank 1 F n T.ranked 0 u 0 l d).0, T.first))
