-- A row of a tree hung on another parent that is not under it: still a tree, and how paths and wire change. Assumes nothing.
use Rattle.std.proofs.Common.{◌≡◌, ℕ, ◌+◌, ◌<◌, ◌≤◌, true, false, List, [], ◌∷◌, ◌++◌, length, sym, refl, ap, ◌∙◌, subst, ⊎_elim, arith}
use Rattle.std.proofs.lemmas.List.{length-set, get_or-set_same, get_or-set_other}
use Rattle.std.proofs.lemmas.List.Sums.{sum_by_push, sum_by-cons, sum_by-set}
use Rattle.std.proofs.lemmas.Bool.{cases_eq, cases_Bool}
use Rattle.order.specs.Firsts.{Among}
use Rattle.order.specs.Firsts.Among.{here, there}
use Rattle.order.proofs.Finding.{among_either, among_one, among_left, among_right}
use Rattle.tree_laws.specs.declared.Row.{Row}
use Rattle.tree_laws.specs.Trees.{RowTree, RowWay, MayHang, blank, up, row_length, row_spot, path_length, wire_of, under, along, hang}
use Rattle.tree_laws.specs.Trees.RowWay.{home, down}
use Rattle.tree_laws.proofs.Few.{among_or}
use Rattle.tree_laws.proofs.Ways.{way_only, placed, path_of_lem, not_under, under_among, tree_from}

abbrev moved : List Row → (v u l : ℕ) → Row
moved rows v u l = record { parent = u; spot = row_spot rows v; length = l }

pub hang_length : (rows : List Row) (v u l : ℕ) → length (hang rows v u l) ≡ length rows
hang_length rows v u l = length-set rows v (moved rows v u l)

pub hang_wire : (rows : List Row) (v u l : ℕ) → v < length rows → wire_of (hang rows v u l) + row_length rows v ≡ wire_of rows + l
hang_wire rows v u l h = sum_by-set (λ (r : Row). r.length) rows v (moved rows v u l) blank h

module _ (rows : List Row) (v u l : ℕ) where
  pub up_other : (k : ℕ) → (k ≡ v → ⊥) → up (hang rows v u l) k ≡ up rows k
  up_other k ne = ap (λ (r : Row). r.parent) (get_or-set_other rows v k (moved rows v u l) blank ne)

  pub long_other : (k : ℕ) → (k ≡ v → ⊥) → row_length (hang rows v u l) k ≡ row_length rows k
  long_other k ne = ap (λ (r : Row). r.length) (get_or-set_other rows v k (moved rows v u l) blank ne)

  pub up_same : v < length rows → up (hang rows v u l) v ≡ u
  up_same h = ap (λ (r : Row). r.parent) (get_or-set_same rows v (moved rows v u l) blank h)

  pub long_same : v < length rows → row_length (hang rows v u l) v ≡ l
  long_same h = ap (λ (r : Row). r.length) (get_or-set_same rows v (moved rows v u l) blank h)

  -- a way that does not come by v stays
  pub way_stays : {k : ℕ} {ns : List ℕ} → RowWay rows k ns → (Among v ns → ⊥) → RowWay (hang rows v u l) k ns
  way_stays home off = home
  way_stays (down {k} {ns} ne w) off =
      let P : ℕ → Type 0 = λ z. Among z (k ∷ []) in
      let Q : ℕ → Type 0 = λ z. RowWay (hang rows v u l) z ns in
      let other : k ≡ v → ⊥ = λ e. off (among_right ns (k ∷ []) (subst P e here)) in
      down ne (subst Q (sym (up_other k other)) (way_stays w (λ a. off (among_left ns (k ∷ []) a))))

  along_stays : (ns : List ℕ) → (Among v ns → ⊥) → along (hang rows v u l) ns ≡ along rows ns
  along_stays [] off = refl
  along_stays (x ∷ ns) off =
      let P : ℕ → Type 0 = λ z. Among z (x ∷ ns) in
      let other : row_length (hang rows v u l) x ≡ row_length rows x = long_other x (λ e. off (subst P e here)) in
      let rest : along (hang rows v u l) ns ≡ along rows ns = along_stays ns (λ a. off (there a)) in
      sum_by-cons (row_length (hang rows v u l)) x ns ∙ ap (λ n. n + along (hang rows v u l) ns) other ∙ ap (λ n. row_length rows x + n) rest ∙ sym (sum_by-cons (row_length rows) x ns)

  -- a way that comes by v begins with u's way then
  way_moves : {us vs : List ℕ} → v < length rows → RowWay rows u us → (Among v us → ⊥) → RowWay rows v vs → (v ≡ 0 → ⊥) → {k : ℕ} {ns : List ℕ} → RowWay rows k ns → Among v ns
      → (ms : List ℕ) × RowWay (hang rows v u l) k ms × (along (hang rows v u l) ms + along rows vs ≡ along rows ns + along rows us + l)
  way_moves h wu off wv nv home a = absurd (nv (among_one a))
  way_moves {us} {vs} h wu off wv nv (down {k} {ns} ne w) a =
      let H = hang rows v u l in
      ⊎_elim
      (λ (e : k ≡ v).
      let Q : ℕ → Type 0 = λ z. RowWay H z us in
      let parent : up H k ≡ u = ap (up H) e ∙ up_same h in
      let long : row_length H k ≡ l = ap (row_length H) e ∙ long_same h in
      let R : ℕ → Type 0 = λ z. RowWay rows z vs in
      let same : vs ≡ ns ++ k ∷ [] = way_only (subst R (sym e) wv) (down ne w) in (
        us ++ k ∷ [],
        down ne (subst Q (sym parent) (way_stays wu off)),
        omega (arith, long, ap (along rows) same, sum_by_push (row_length H) us k, along_stays us off),
      ))
      (λ (other : k ≡ v → ⊥).
      ⊎_elim
      (λ (b : Among v ns).
      let r = way_moves h wu off wv nv w b in
      let Q : ℕ → Type 0 = λ z. RowWay H z r.0 in (
        r.0 ++ k ∷ [],
        down ne (subst Q (sym (up_other k other)) r.1),
        omega (arith, r.2, long_other k other, sum_by_push (row_length H) r.0 k, sum_by_push (row_length rows) ns k),
      ))
      (λ (b : Among v (k ∷ [])). absurd (other (sym (among_one b))))
      (among_either ns (k ∷ []) a))
      (cases_eq k v)

module _ {rows : List Row} {v u : ℕ} (t : RowTree rows) (l : ℕ) (g : MayHang rows v u) where
  hang_up : (k : ℕ) → k < length (hang rows v u l) → up (hang rows v u l) k < length (hang rows v u l)
  hang_up k h =
      let n = hang_length rows v u l in
      ⊎_elim
      (λ (e : k ≡ v). omega (arith, n, g.parent, ap (up (hang rows v u l)) e, up_same rows v u l g.row))
      (λ (ne : k ≡ v → ⊥). omega (arith, n, up_other rows v u l k ne, t.parents k (omega (arith, n))))
      (cases_eq k v)

  pub hang_tree : RowTree (hang rows v u l)
  hang_tree =
      let n = hang_length rows v u l in
      let other : 0 ≡ v → ⊥ = λ e. g.moves (sym e) in
      tree_from (hang rows v u l) (omega (arith, n, t.some))
      (up_other rows v u l 0 other ∙ t.driver)
      (long_other rows v u l 0 other ∙ t.still)
      hang_up
      (λ k h.
      let p = placed t k (omega (arith, n)) in
      let pu = placed t u g.parent in
      let pv = placed t v g.row in
      ⊎_elim
      (λ (a : Among v p.ways). let r = way_moves rows v u l g.row pu.way (not_under t g.parent pu.way v g.above) pv.way g.moves p.way a in (r.0, r.1))
      (λ (off : Among v p.ways → ⊥). (p.ways, way_stays rows v u l p.way off))
      (among_or v p.ways))

  -- what is not under v keeps its path
  pub hang_keeps : (k : ℕ) → k < length rows → under rows k v ≡ false → path_length (hang rows v u l) k ≡ path_length rows k
  hang_keeps k h f =
      let n = hang_length rows v u l in
      let p = placed t k h in
      let off = not_under t h p.way v f in
      path_of_lem hang_tree (omega (arith, n)) (way_stays rows v u l p.way off) ∙ along_stays rows v u l p.ways off ∙ sym (path_of_lem t h p.way)

  -- what is under v moves as v does
  pub hang_moves : (k : ℕ) → k < length rows → under rows k v ≡ true → path_length (hang rows v u l) k + path_length rows v ≡ path_length rows k + path_length rows u + l
  hang_moves k h y =
      let n = hang_length rows v u l in
      let p = placed t k h in
      let pu = placed t u g.parent in
      let pv = placed t v g.row in
      let a = under_among t.driver p.way v (length rows) y in
      let r = way_moves rows v u l g.row pu.way (not_under t g.parent pu.way v g.above) pv.way g.moves p.way a in
      omega (arith, r.2, path_of_lem hang_tree (omega (arith, n)) r.1, path_of_lem t h p.way, path_of_lem t g.parent pu.way, path_of_lem t g.row pv.way)

  pub hang_never_grows : path_length rows u + l ≤ path_length rows v → (k : ℕ) → k < length rows → path_length (hang rows v u l) k ≤ path_length rows k
  hang_never_grows le k h =
      ⊎_elim
      (λ (y : under rows k v ≡ true). omega (arith, hang_moves k h y))
      (λ (f : under rows k v ≡ false). omega (arith, hang_keeps k h f))
      (cases_Bool (under rows k v))

  -- where the path of v stays, every path stays
  pub hang_level : path_length rows u + l ≡ path_length rows v → (k : ℕ) → k < length rows → path_length (hang rows v u l) k ≡ path_length rows k
  hang_level e k h =
      ⊎_elim
      (λ (y : under rows k v ≡ true). omega (arith, hang_moves k h y))
      (λ (f : under rows k v ≡ false). omega (arith, hang_keeps k h f))
      (cases_Bool (under rows k v))

-- no length is above c then, if none was
pub hang_lengths : (rows : List Row) (v u l c : ℕ) → v < length rows → l ≤ c → ((k : ℕ) → row_length rows k ≤ c) → (k : ℕ) → row_length (hang rows v u l) k ≤ c
hang_lengths rows v u l c h m f k =
    ⊎_elim
    (λ (e : k ≡ v). omega (arith, ap (row_length (hang rows v u l)) e, long_same rows v u l h))
    (λ (ne : k ≡ v → ⊥). omega (arith, long_other rows v u l k ne, f k))
    (cases_eq k v)

-- every row stays on its spot
pub hang_spot : (rows : List Row) (v u l k : ℕ) → v < length rows → row_spot (hang rows v u l) k ≡ row_spot rows k
hang_spot rows v u l k h =
    ⊎_elim
    (λ (e : k ≡ v). ap (row_spot (hang rows v u l)) e ∙ ap (λ (r : Row). r.spot) (get_or-set_same rows v (moved rows v u l) blank h) ∙ ap (row_spot rows) (sym e))
    (λ (ne : k ≡ v → ⊥). ap (λ (r : Row). r.spot) (get_or-set_other rows v k (moved rows v u l) blank ne))
    (cases_eq k v)
