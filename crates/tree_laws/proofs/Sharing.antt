-- A new row between a row and two of its children, on the ways to both: still a tree, every path as it was, and less wire. Assumes nothing.
use Rattle.std.proofs.Common.{◌≡◌, ℕ, ◌+◌, ◌<◌, List, [], ◌∷◌, ◌++◌, length, sym, ap, ◌∙◌, subst, ⊎_elim, arith}
use Rattle.std.proofs.lemmas.List.{get_or-set_other, get_or-set_same}
use Rattle.order.specs.Firsts.{Among}
use Rattle.order.proofs.Finding.{among_either, among_one}
use Rattle.space.specs.declared.spot.Spot.{Spot}
use Rattle.tree_laws.specs.declared.Row.{Row}
use Rattle.tree_laws.specs.Trees.{Child, RowTree, RowWay, MayHang, blank, row_length, row_spot, row_of, path_length, wire_of, hang, add, between}
use Rattle.tree_laws.proofs.Ways.{placed, path_step, not_above, off_under}
use Rattle.tree_laws.proofs.Hanging.{hang_length, hang_wire, hang_tree, hang_level, long_other, way_stays}
use Rattle.tree_laws.proofs.Adding.{add_length, add_wire, add_old, add_new, add_tree, add_keeps, add_path, add_new_way}

module _ {rows : List Row} (t : RowTree rows) (v : ℕ) (hv : v < length rows) (z : Spot) (l a la b lb : ℕ) (ca : Child rows v a) (cb : Child rows v b) (apart : b ≡ a → ⊥) where
  -- a child of v does not stand on the way to the new row
  off : (c : ℕ) → Child rows v c → Among c ((placed t v hv).ways ++ length rows ∷ []) → ⊥
  off c k i =
      let p = placed t v hv in
      let P : ℕ → Type 0 = λ x. RowWay rows x p.ways in
      ⊎_elim
      (λ (j : Among c p.ways). not_above k.moves (subst P (sym k.parent) p.way) j)
      (λ (j : Among c (length rows ∷ [])). omega (arith, among_one j, k.row))
      (among_either p.ways (length rows ∷ []) i)

  new_way : RowWay (add rows v z l) (length rows) ((placed t v hv).ways ++ length rows ∷ [])
  new_way = add_new_way rows v z l t hv (placed t v hv).ways (placed t v hv).way

  tree_one : RowTree (add rows v z l)
  tree_one = add_tree rows v z l t hv

  pub first_hangs : MayHang (add rows v z l) a (length rows)
  first_hangs = record {
    row = omega (arith, add_length rows v z l, ca.row);
    moves = ca.moves;
    parent = omega (arith, add_length rows v z l);
    above = off_under tree_one new_way a (off a ca);
  }

  tree_two : RowTree (hang (add rows v z l) a (length rows) la)
  tree_two = hang_tree tree_one la first_hangs

  pub second_hangs : MayHang (hang (add rows v z l) a (length rows) la) b (length rows)
  second_hangs = record {
    row = omega (arith, hang_length (add rows v z l) a (length rows) la, add_length rows v z l, cb.row);
    moves = cb.moves;
    parent = omega (arith, hang_length (add rows v z l) a (length rows) la, add_length rows v z l);
    above = off_under tree_two (way_stays (add rows v z l) a (length rows) la new_way (off a ca)) b (off b cb);
  }

  pub between_tree : RowTree (between rows v z l a la b lb)
  between_tree = hang_tree tree_two lb second_hangs

  -- ---- the rows

  pub between_length : length (between rows v z l a la b lb) ≡ length rows + 1
  between_length =
      omega (arith, hang_length (hang (add rows v z l) a (length rows) la) b (length rows) lb, hang_length (add rows v z l) a (length rows) la, add_length rows v z l)

  abbrev below : Spot → ℕ → Row
  below s m = record { parent = length rows; spot = s; length = m }

  abbrev one : List Row
  one = add rows v z l

  abbrev two : List Row
  two = hang one a (length rows) la

  pub between_other : (k : ℕ) → k < length rows → (k ≡ a → ⊥) → (k ≡ b → ⊥) → row_of (between rows v z l a la b lb) k ≡ row_of rows k
  between_other k h na nb =
      get_or-set_other two b k (below (row_spot two b) lb) blank nb ∙ get_or-set_other one a k (below (row_spot one a) la) blank na ∙ add_old rows v z l k h

  pub between_new : row_of (between rows v z l a la b lb) (length rows) ≡ record { parent = v; spot = z; length = l }
  between_new =
      get_or-set_other two b (length rows) (below (row_spot two b) lb) blank (λ e. omega (arith, e, cb.row))
      ∙ get_or-set_other one a (length rows) (below (row_spot one a) la) blank (λ e. omega (arith, e, ca.row))
      ∙ add_new rows v z l

  pub between_first : row_of (between rows v z l a la b lb) a ≡ record { parent = length rows; spot = row_spot rows a; length = la }
  between_first =
      get_or-set_other two b a (below (row_spot two b) lb) blank (λ e. apart (sym e))
      ∙ get_or-set_same one a (below (row_spot one a) la) blank first_hangs.row
      ∙ ap (λ (r : Row). below r.spot la) (add_old rows v z l a ca.row)

  pub between_second : row_of (between rows v z l a la b lb) b ≡ record { parent = length rows; spot = row_spot rows b; length = lb }
  between_second =
      get_or-set_same two b (below (row_spot two b) lb) blank second_hangs.row
      ∙ ap (λ (r : Row). below r.spot lb) (get_or-set_other one a b (below (row_spot one a) la) blank apart ∙ add_old rows v z l b cb.row)

  -- ---- where the new row lies on the ways from v to both

  module _ (sa : l + la ≡ row_length rows a) (sb : l + lb ≡ row_length rows b) where
    child_path : (c m : ℕ) → Child rows v c → l + m ≡ row_length rows c → path_length rows v + l + m ≡ path_length rows c
    child_path c m k e = omega (arith, path_step t c k.row k.moves, ap (path_length rows) k.parent, e)

    first_paths : (k : ℕ) → k < length rows + 1 → path_length (hang (add rows v z l) a (length rows) la) k ≡ path_length (add rows v z l) k
    first_paths k h =
        hang_level tree_one la first_hangs
        (omega (arith, add_path rows v z l t hv, add_keeps rows v z l t hv a ca.row, child_path a la ca sa))
        k (omega (arith, add_length rows v z l))

    pub between_paths : (k : ℕ) → k < length rows → path_length (between rows v z l a la b lb) k ≡ path_length rows k
    between_paths k h =
        hang_level tree_two lb second_hangs
        (omega (arith, first_paths (length rows) (omega arith), first_paths b (omega (arith, cb.row)), add_path rows v z l t hv, add_keeps rows v z l t hv b cb.row, child_path b lb cb sb))
        k (omega (arith, hang_length (add rows v z l) a (length rows) la, add_length rows v z l))
        ∙ first_paths k (omega arith) ∙ add_keeps rows v z l t hv k h

    pub between_wire : wire_of (between rows v z l a la b lb) + l ≡ wire_of rows
    between_wire =
        omega (
          arith,
          hang_wire (hang (add rows v z l) a (length rows) la) b (length rows) lb second_hangs.row,
          hang_wire (add rows v z l) a (length rows) la first_hangs.row,
          long_other (add rows v z l) a (length rows) la b apart,
          ap (λ (r : Row). r.length) (add_old rows v z l a ca.row),
          ap (λ (r : Row). r.length) (add_old rows v z l b cb.row),
          add_wire rows v z l,
          sa,
          sb,
        )
