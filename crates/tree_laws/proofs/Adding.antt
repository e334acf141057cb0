-- A row added to a tree, and two rows hung on an added one: still a tree, and how paths and wire change. Assumes nothing.
use Rattle.std.proofs.Common.{◌≡◌, ℕ, ◌+◌, ◌<◌, ◌≤◌, List, [], ◌∷◌, ◌++◌, length, get_or, sym, refl, ap, ◌∙◌, subst, ⊎_elim, arith}
use Rattle.std.proofs.lemmas.List.{length_push, get_or_append_left, get_or_push, get_or_past}
use Rattle.std.proofs.lemmas.List.Sums.{sum_by_push}
use Rattle.std.proofs.lemmas.Bool.{cases_eq, cases_lt}
use Rattle.space.specs.declared.spot.Spot.{Spot}
use Rattle.tree_laws.specs.declared.Row.{Row}
use Rattle.tree_laws.specs.Trees.{RowTree, RowWay, blank, up, row_length, path_length, wire_of, along, add}
use Rattle.tree_laws.specs.Trees.RowWay.{home, down}
use Rattle.tree_laws.proofs.Ways.{placed, path_of_lem, tree_from}

abbrev fresh : (u : ℕ) (z : Spot) (l : ℕ) → Row
fresh u z l = record { parent = u; spot = z; length = l }

pub add_length : (rows : List Row) (u : ℕ) (z : Spot) (l : ℕ) → length (add rows u z l) ≡ length rows + 1
add_length rows u z l = length_push rows (fresh u z l)

pub add_wire : (rows : List Row) (u : ℕ) (z : Spot) (l : ℕ) → wire_of (add rows u z l) ≡ wire_of rows + l
add_wire rows u z l = sum_by_push (λ (r : Row). r.length) rows (fresh u z l)

module _ (rows : List Row) (u : ℕ) (z : Spot) (l : ℕ) where
  pub add_old : (k : ℕ) → k < length rows → get_or (add rows u z l) k blank ≡ get_or rows k blank
  add_old k h = get_or_append_left rows (fresh u z l ∷ []) blank k h

  pub add_new : get_or (add rows u z l) (length rows) blank ≡ fresh u z l
  add_new = get_or_push rows (fresh u z l) blank (length rows) refl

  -- an old row keeps its way, with the same lengths
  pub add_way : RowTree rows → {k : ℕ} {ns : List ℕ} → RowWay rows k ns → k < length rows → RowWay (add rows u z l) k ns × (along (add rows u z l) ns ≡ along rows ns)
  add_way t home h = (home, ap (λ (r : Row). 0 + r.length) (add_old 0 h))
  add_way t (down {k} {ns} ne w) h =
      let r = add_way t w (t.parents k h) in
      let Q : ℕ → Type 0 = λ x. RowWay (add rows u z l) x ns in
      let parent : up (add rows u z l) k ≡ up rows k = ap (λ (r : Row). r.parent) (add_old k h) in
      let long : row_length (add rows u z l) k ≡ row_length rows k = ap (λ (r : Row). r.length) (add_old k h) in
      (down ne (subst Q (sym parent) r.0), omega (arith, r.1, long, sum_by_push (row_length (add rows u z l)) ns k, sum_by_push (row_length rows) ns k))

  pub add_new_way : RowTree rows → u < length rows → (ns : List ℕ) → RowWay rows u ns → RowWay (add rows u z l) (length rows) (ns ++ length rows ∷ [])
  add_new_way t h ns w =
      let Q : ℕ → Type 0 = λ x. RowWay (add rows u z l) x ns in
      let parent : up (add rows u z l) (length rows) ≡ u = ap (λ (r : Row). r.parent) add_new in
      down (λ e. omega (arith, t.some)) (subst Q (sym parent) (add_way t w h).0)

  pub add_tree : RowTree rows → u < length rows → RowTree (add rows u z l)
  add_tree t h =
      let n = add_length rows u z l in
      tree_from (add rows u z l) (omega (arith, n))
      (ap (λ (r : Row). r.parent) (add_old 0 t.some) ∙ t.driver)
      (ap (λ (r : Row). r.length) (add_old 0 t.some) ∙ t.still)
      (λ k m.
      ⊎_elim
      (λ (old : k < length rows). omega (arith, n, t.parents k old, ap (λ (r : Row). r.parent) (add_old k old)))
      (λ (late : length rows ≤ k).
      let e : k ≡ length rows = omega (arith, n) in
      omega (arith, n, ap (up (add rows u z l)) e, ap (λ (r : Row). r.parent) add_new))
      (cases_lt k (length rows)))
      (λ k m.
      ⊎_elim
      (λ (old : k < length rows). let p = placed t k old in (p.ways, (add_way t p.way old).0))
      (λ (late : length rows ≤ k).
      let e : k ≡ length rows = omega (arith, n) in
      let p = placed t u h in
      let Q : ℕ → Type 0 = λ x. RowWay (add rows u z l) x (p.ways ++ length rows ∷ []) in
      (p.ways ++ length rows ∷ [], subst Q (sym e) (add_new_way t h p.ways p.way)))
      (cases_lt k (length rows)))

  pub add_keeps : RowTree rows → u < length rows → (k : ℕ) → k < length rows → path_length (add rows u z l) k ≡ path_length rows k
  add_keeps t h k m =
      let p = placed t k m in
      let w = add_way t p.way m in
      path_of_lem (add_tree t h) (omega (arith, add_length rows u z l)) w.0 ∙ w.1 ∙ sym (path_of_lem t m p.way)

  pub add_path : RowTree rows → u < length rows → path_length (add rows u z l) (length rows) ≡ path_length rows u + l
  add_path t h =
      let p = placed t u h in
      let long : row_length (add rows u z l) (length rows) ≡ l = ap (λ (r : Row). r.length) add_new in
      omega (arith, path_of_lem (add_tree t h) (omega (arith, add_length rows u z l)) (add_new_way t h p.ways p.way), path_of_lem t h p.way, (add_way t p.way h).1, long, sum_by_push (row_length (add rows u z l)) p.ways (length rows))

-- no length is above c then, if none was
pub add_lengths : (rows : List Row) (u : ℕ) (z : Spot) (l c : ℕ) → l ≤ c → ((k : ℕ) → row_length rows k ≤ c) → (k : ℕ) → row_length (add rows u z l) k ≤ c
add_lengths rows u z l c m f k =
    ⊎_elim
    (λ (old : k < length rows). omega (arith, f k, ap (λ (r : Row). r.length) (add_old rows u z l k old)))
    (λ (late : length rows ≤ k).
    ⊎_elim
    (λ (e : k ≡ length rows). omega (arith, ap (row_length (add rows u z l)) e, ap (λ (r : Row). r.length) (add_new rows u z l)))
    (λ (ne : k ≡ length rows → ⊥). omega (arith, ap (λ (r : Row). r.length) (get_or_past (add rows u z l) k blank (omega (arith, add_length rows u z l)))))
    (cases_eq k (length rows)))
    (cases_lt k (length rows))
