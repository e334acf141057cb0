-- Steps of the loops that go up a tree, and bounds on paths and wire. Assumes nothing.
use Rattle.std.proofs.Common.{◌≡◌, ℕ, zero, suc, ◌+◌, ◌-◌, ◌*◌, ◌<◌, ◌≤◌, true, List, refl, ap, ◌∙◌, ⊎_elim, add-one, arith}
use Rattle.std.proofs.lemmas.Bool.{cases_eq, eq-eqb, ne_eqb}
use Rattle.tree_laws.specs.declared.Row.{Row}
use Rattle.tree_laws.specs.Trees.{RowTree, up, row_length, path_in, under_in}

path_none : (rows : List Row) (n : ℕ) → path_in rows n 0 ≡ 0
path_none rows zero = refl
path_none rows (suc n) = refl

-- one step up, from the driver too
pub path_more : {rows : List Row} → RowTree rows → (n k : ℕ) → path_in rows (n + 1) k ≡ row_length rows k + path_in rows n (up rows k)
path_more {rows} t n k =
    let e : path_in rows (n + 1) k ≡ path_in rows (suc n) k = ap (λ m. path_in rows m k) (add-one n) in
    ⊎_elim
    (λ (z : k ≡ 0).
    let home : path_in rows (suc n) k ≡ 0 = ap (path_in rows (suc n)) z in
    omega (arith, e, home, ap (row_length rows) z, t.still, ap (λ x. path_in rows n (up rows x)) z, ap (path_in rows n) t.driver, path_none rows n))
    (λ (ne : k ≡ 0 → ⊥).
    let on : path_in rows (suc n) k ≡ row_length rows k + path_in rows n (up rows k) = rw (ne_eqb k 0 ne) in
    e ∙ on)
    (cases_eq k 0)

pub path_bound : (rows : List Row) (c : ℕ) → ((k : ℕ) → row_length rows k ≤ c) → (n k : ℕ) → path_in rows n k ≤ n * c
path_bound rows c f zero k = omega arith
path_bound rows c f (suc n) k =
    let below = path_bound rows c f n (up rows k) in
    ⊎_elim
    (λ (z : k ≡ 0). rw (eq-eqb k 0 z) (omega arith))
    (λ (ne : k ≡ 0 → ⊥). rw (ne_eqb k 0 ne) (omega (arith, f k)))
    (cases_eq k 0)

pub under_here : (rows : List Row) (n u v : ℕ) → u ≡ v → under_in rows n u v ≡ true
under_here rows zero u v e = eq-eqb u v e
under_here rows (suc n) u v e = rw (eq-eqb u v e)

pub under_more : (rows : List Row) (n u v : ℕ) → (u ≡ v → ⊥) → under_in rows (n + 1) u v ≡ under_in rows n (up rows u) v
under_more rows n u v ne =
    let on : under_in rows (suc n) u v ≡ under_in rows n (up rows u) v = rw (ne_eqb u v ne) in
    ap (λ m. under_in rows m u v) (add-one n) ∙ on

-- one turn of the loop that sums a path
pub path_turn : {rows : List Row} → RowTree rows → (n i at path total : ℕ) → i < n → path + path_in rows (n - i) at ≡ total → path + row_length rows at + path_in rows (n - (i + 1)) (up rows at) ≡ total
path_turn {rows} t n i at path total h e =
    let m : n - i ≡ n - (i + 1) + 1 = omega arith in
    omega (arith, e, ap (λ x. path_in rows x at) m, path_more t (n - (i + 1)) at)

-- one turn of the loop that looks for v
pub under_turn : (rows : List Row) (n i at v : ℕ) → i < n → (at ≡ v → ⊥) → under_in rows (n - i) at v ≡ under_in rows (n - (i + 1)) (up rows at) v
under_turn rows n i at v h ne =
    let m : n - i ≡ n - (i + 1) + 1 = omega arith in
    ap (λ x. under_in rows x at v) m ∙ under_more rows (n - (i + 1)) at v ne
