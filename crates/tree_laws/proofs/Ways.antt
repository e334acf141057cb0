-- Ways of a tree: every row has exactly one, no row stands in it twice, and it is not longer than the table. Assumes nothing.
use Rattle.std.proofs.Common.{◌≡◌, ℕ, zero, suc, ◌+◌, ◌<◌, ◌≤◌, true, false, List, [], ◌∷◌, ◌++◌, length, sym, refl, ap, ◌∙◌, subst, ⊎_elim, arith}
use Rattle.std.proofs.lemmas.List.{length_push}
use Rattle.std.proofs.lemmas.List.Sums.{sum_by_push}
use Rattle.std.proofs.lemmas.Bool.{cases_eq, eq-eqb, ne_eqb, eqb-true, cases_Bool, both_ways}
use Rattle.order.specs.Firsts.{Among}
use Rattle.order.specs.Firsts.Among.{here}
use Rattle.order.proofs.Finding.{among_none, among_either, among_one, among_left, among_right}
use Rattle.forest.specs.Paths.{Different}
use Rattle.tree_laws.specs.declared.Row.{Row}
use Rattle.tree_laws.specs.Trees.{RowTree, RowWay, OnePath, up, row_length, climb_rows, path_in, path_length, under_in, under, along}
use Rattle.tree_laws.specs.Trees.RowWay.{home, down}
use Rattle.tree_laws.proofs.Few.{few, different_push}

-- ---- one way, and every rung has its own

pub way_only : {rows : List Row} {k : ℕ} {ns ms : List ℕ} → RowWay rows k ns → RowWay rows k ms → ns ≡ ms
way_only home home = refl
way_only home (down ne w) = absurd (ne refl)
way_only (down ne w) home = absurd (ne refl)
way_only (down {k} ne w) (down me x) = ap (λ ns. ns ++ k ∷ []) (way_only w x)

-- a rung of the way has a way that is not longer
pub rung_way : {rows : List Row} {k : ℕ} {ns : List ℕ} → RowWay rows k ns → (x : ℕ) → Among x ns → (ms : List ℕ) × RowWay rows x ms × (length ms ≤ length ns)
rung_way {rows} home x a = let P : ℕ → Type 0 = λ z. RowWay rows z (0 ∷ []) in (0 ∷ [], subst P (sym (among_one a)) home, omega arith)
rung_way {rows} (down {k} {ns} ne w) x a =
    ⊎_elim
    (λ (b : Among x ns). let r = rung_way w x b in (r.0, r.1, omega (arith, r.2, length_push ns k)))
    (λ (b : Among x (k ∷ [])). let P : ℕ → Type 0 = λ z. RowWay rows z (ns ++ k ∷ []) in (ns ++ k ∷ [], subst P (sym (among_one b)) (down ne w), omega arith))
    (among_either ns (k ∷ []) a)

-- no row stands on the way to its parent
pub not_above : {rows : List Row} {k : ℕ} {ns : List ℕ} → (k ≡ 0 → ⊥) → RowWay rows (up rows k) ns → Among k ns → ⊥
not_above {rows} {k} {ns} ne w a =
    let r = rung_way w k a in
    omega (arith, r.2, length_push ns k, ap length (way_only r.1 (down ne w)))

pub way_different : {rows : List Row} {k : ℕ} {ns : List ℕ} → RowWay rows k ns → Different ns
way_different home = (λ a. among_none a, tt)
way_different (down {k} {ns} ne w) = different_push ns k (way_different w) (not_above ne w)

-- ---- ways and climbing

pub way_from : (rows : List Row) (n k : ℕ) → climb_rows rows n k ≡ 0 → (ns : List ℕ) × RowWay rows k ns
way_from rows zero k e = let P : ℕ → Type 0 = λ z. RowWay rows z (0 ∷ []) in (0 ∷ [], subst P (sym e) home)
way_from rows (suc n) k e =
    ⊎_elim
    (λ (z : k ≡ 0). let P : ℕ → Type 0 = λ z. RowWay rows z (0 ∷ []) in (0 ∷ [], subst P (sym z) home))
    (λ (ne : k ≡ 0 → ⊥). let r = way_from rows n (up rows k) e in (r.0 ++ k ∷ [], down ne r.1))
    (cases_eq k 0)

climb_driver : (rows : List Row) → up rows 0 ≡ 0 → (n : ℕ) → climb_rows rows n 0 ≡ 0
climb_driver rows e zero = refl
climb_driver rows e (suc n) = ap (climb_rows rows n) e ∙ climb_driver rows e n

way_some : {rows : List Row} {k : ℕ} {ns : List ℕ} → RowWay rows k ns → length ns ≤ 0 → ⊥
way_some home h = omega arith
way_some (down {k} {ns} ne w) h = omega (arith, length_push ns k)

-- whoever has a way comes up to the driver in as many steps as the way has rungs, or more
pub way_climbs : {rows : List Row} {k : ℕ} {ns : List ℕ} → up rows 0 ≡ 0 → RowWay rows k ns → (n : ℕ) → length ns ≤ suc n → climb_rows rows n k ≡ 0
way_climbs {rows} e home n h = climb_driver rows e n
way_climbs e (down {k} {ns} ne w) zero h = absurd (way_some w (omega (arith, length_push ns k)))
way_climbs e (down {k} {ns} ne w) (suc n) h = way_climbs e w n (omega (arith, length_push ns k))

pub way_rows : {rows : List Row} {k : ℕ} {ns : List ℕ} → 0 < length rows → ((j : ℕ) → j < length rows → up rows j < length rows) → RowWay rows k ns → k < length rows → (x : ℕ) → Among x ns → x < length rows
way_rows {rows} some ps home h x a = let P : ℕ → Type 0 = λ z. z < length rows in subst P (sym (among_one a)) h
way_rows {rows} some ps (down {k} {ns} ne w) h x a =
    ⊎_elim
    (λ (b : Among x ns). way_rows some ps w (ps k h) x b)
    (λ (b : Among x (k ∷ [])). let P : ℕ → Type 0 = λ z. z < length rows in subst P (sym (among_one b)) h)
    (among_either ns (k ∷ []) a)

-- a way has at most as many rungs as there are rows
pub way_short : {rows : List Row} {k : ℕ} {ns : List ℕ} → 0 < length rows → ((j : ℕ) → j < length rows → up rows j < length rows) → RowWay rows k ns → k < length rows → length ns ≤ length rows
way_short {rows} {k} {ns} some ps w h = few (length rows) ns (way_different w) (way_rows some ps w h)

-- rows that all have a way are a tree
pub tree_from : (rows : List Row) → 0 < length rows → up rows 0 ≡ 0 → row_length rows 0 ≡ 0 → ((j : ℕ) → j < length rows → up rows j < length rows) → ((k : ℕ) → k < length rows → (ns : List ℕ) × RowWay rows k ns) → RowTree rows
tree_from rows some driver still ps ways = record {
  some = some;
  driver = driver;
  still = still;
  parents = ps;
  reaches = λ k h. let r = ways k h in way_climbs driver r.1 (length rows) (omega (arith, way_short some ps r.1 h));
}

-- ---- paths and ways

pub path_along : {rows : List Row} {k : ℕ} {ns : List ℕ} → row_length rows 0 ≡ 0 → RowWay rows k ns → (n : ℕ) → length ns ≤ suc n → path_in rows n k ≡ along rows ns
path_along {rows} e home zero h = omega (arith, e)
path_along {rows} e home (suc n) h = omega (arith, e)
path_along e (down {k} {ns} ne w) zero h = absurd (way_some w (omega (arith, length_push ns k)))
path_along {rows} e (down {k} {ns} ne w) (suc n) h =
    let below : path_in rows n (up rows k) ≡ along rows ns = path_along e w n (omega (arith, length_push ns k)) in
    rw (ne_eqb k 0 ne) (omega (arith, below, sum_by_push (row_length rows) ns k))

-- ---- below and ways

above_driver : (rows : List Row) (v n : ℕ) → v ≡ 0 → under_in rows n 0 v ≡ true
above_driver rows v zero e = eq-eqb 0 v (sym e)
above_driver rows v (suc n) e = rw (eq-eqb 0 v (sym e))

pub among_under : {rows : List Row} {u : ℕ} {ns : List ℕ} → RowWay rows u ns → (v n : ℕ) → length ns ≤ suc n → Among v ns → under_in rows n u v ≡ true
among_under {rows} home v n h a = above_driver rows v n (among_one a)
among_under (down {k} {ns} ne w) v zero h a = absurd (way_some w (omega (arith, length_push ns k)))
among_under {rows} (down {k} {ns} ne w) v (suc n) h a =
    ⊎_elim
    (λ (e : k ≡ v). rw (eq-eqb k v e))
    (λ (off : k ≡ v → ⊥).
    ⊎_elim
    (λ (b : Among v ns). let t : under_in rows n (up rows k) v ≡ true = among_under w v n (omega (arith, length_push ns k)) b in rw (ne_eqb k v off, t))
    (λ (b : Among v (k ∷ [])). absurd (off (sym (among_one b))))
    (among_either ns (k ∷ []) a))
    (cases_eq k v)

pub under_among : {rows : List Row} {u : ℕ} {ns : List ℕ} → up rows 0 ≡ 0 → RowWay rows u ns → (v n : ℕ) → under_in rows n u v ≡ true → Among v ns
under_among e home v zero t = let P : ℕ → Type 0 = λ z. Among z (0 ∷ []) in subst P (eqb-true 0 v t) here
under_among {rows} e home v (suc n) t =
    ⊎_elim
    (λ (z : 0 ≡ v). let P : ℕ → Type 0 = λ z. Among z (0 ∷ []) in subst P z here)
    (λ (off : 0 ≡ v → ⊥). let s : under_in rows n (up rows 0) v ≡ true = rw (ne_eqb 0 v off) at t in under_among e home v n (rw e at s))
    (cases_eq 0 v)
under_among e (down {k} {ns} ne w) v zero t = let P : ℕ → Type 0 = λ z. Among z (ns ++ k ∷ []) in subst P (eqb-true k v t) (among_right ns (k ∷ []) here)
under_among {rows} e (down {k} {ns} ne w) v (suc n) t =
    ⊎_elim
    (λ (z : k ≡ v). let P : ℕ → Type 0 = λ z. Among z (ns ++ k ∷ []) in subst P z (among_right ns (k ∷ []) here))
    (λ (off : k ≡ v → ⊥). among_left ns (k ∷ []) (under_among e w v n (rw (ne_eqb k v off) at t)))
    (cases_eq k v)

-- ---- what a tree says of each of its rows

-- the number of steps does not matter, from the number of rows on
pub record Placed (rows : List Row) (k : ℕ) : Type 0 where
  pub ways : List ℕ
  pub way : RowWay rows k ways
  pub short : length ways ≤ length rows
  pub path : (n : ℕ) → length rows ≤ suc n → path_in rows n k ≡ along rows ways
  pub arrives : (n : ℕ) → length rows ≤ suc n → climb_rows rows n k ≡ 0

pub placed : {rows : List Row} → RowTree rows → (k : ℕ) → k < length rows → Placed rows k
placed {rows} t k h =
    let r = way_from rows (length rows) k (t.reaches k h) in
    let s : length r.0 ≤ length rows = way_short t.some t.parents r.1 h in
    record {
      ways = r.0;
      way = r.1;
      short = s;
      path = λ n m. path_along t.still r.1 n (omega arith);
      arrives = λ n m. way_climbs t.driver r.1 n (omega arith);
    }

pub path_of_lem : {rows : List Row} → RowTree rows → {k : ℕ} {ns : List ℕ} → k < length rows → RowWay rows k ns → path_length rows k ≡ along rows ns
path_of_lem {rows} t h w = path_along t.still w (length rows) (omega (arith, way_short t.some t.parents w h))

pub not_under : {rows : List Row} → RowTree rows → {u : ℕ} {ns : List ℕ} → u < length rows → RowWay rows u ns → (v : ℕ) → under rows u v ≡ false → Among v ns → ⊥
not_under {rows} t h w v f a = both_ways _ f (among_under w v (length rows) (omega (arith, way_short t.some t.parents w h)) a)

pub off_under : {rows : List Row} → RowTree rows → {u : ℕ} {ns : List ℕ} → RowWay rows u ns → (v : ℕ) → (Among v ns → ⊥) → under rows u v ≡ false
off_under {rows} t {u} w v off =
    ⊎_elim
    (λ (y : under rows u v ≡ true). absurd (off (under_among t.driver w v (length rows) y)))
    (λ f. f)
    (cases_Bool (under rows u v))

pub hung : {rows : List Row} → RowTree rows → (k : ℕ) → k < length rows → OnePath rows k
hung {rows} t k h =
    let p = placed t k h in
    record {
      rungs = p.ways;
      way = p.way;
      within = way_rows t.some t.parents p.way h;
      different = way_different p.way;
      only = λ ns w. way_only w p.way;
      path = path_of_lem t h p.way;
    }

pub path_driver : {rows : List Row} → RowTree rows → path_length rows 0 ≡ 0
path_driver {rows} t = path_of_lem t t.some home ∙ sum_one
  where
    sum_one : along rows (0 ∷ []) ≡ 0
    sum_one = omega (arith, t.still)

-- the path of a row is its parent's and its own length
pub path_step : {rows : List Row} → RowTree rows → (k : ℕ) → k < length rows → (k ≡ 0 → ⊥) → path_length rows k ≡ path_length rows (up rows k) + row_length rows k
path_step {rows} t k h ne =
    let p = placed t (up rows k) (t.parents k h) in
    omega (arith, path_of_lem t h (down ne p.way), path_of_lem t (t.parents k h) p.way, sum_by_push (row_length rows) p.ways k)
