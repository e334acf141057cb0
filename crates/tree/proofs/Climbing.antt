-- Going up a tree: nothing is above the driver, and no row has a shorter path than one that it hangs below. Assumes nothing.
use Rattle.std.proofs.Common.{◌≡◌, ℕ, zero, suc, ◌<◌, ◌≤◌, Bool, true, false, List, length, refl, ap, ◌∙◌, ⊎_elim, arith}
use Rattle.std.proofs.lemmas.Bool.{both_ways, cases_Bool, cases_eq, eqb-true, ne_eqb}
use Rattle.tree_laws.specs.declared.Row.{Row}
use Rattle.tree_laws.specs.Trees.{RowTree, path_length, under, under_in, up}
use Rattle.tree_laws.proofs.Ways.{path_driver, path_step}

-- the driver hangs below no other row
pub under_driver : {rows : List Row} → RowTree rows → (n v : ℕ) → (0 ≡ v → ⊥) → under_in rows n 0 v ≡ false
under_driver t zero v off = ne_eqb 0 v off
under_driver {rows} t (suc n) v off =
    let on : under_in rows (suc n) 0 v ≡ under_in rows n (up rows 0) v = rw (ne_eqb 0 v off) in
    on ∙ ap (λ k. under_in rows n k v) t.driver ∙ under_driver t n v off

-- a row has at least the path of its parent
path_grows : {rows : List Row} → RowTree rows → (k : ℕ) → k < length rows → path_length rows (up rows k) ≤ path_length rows k
path_grows {rows} t k h =
    ⊎_elim
    (λ (z : k ≡ 0). omega (arith, ap (path_length rows) z, ap (λ x. path_length rows (up rows x)) z, ap (path_length rows) t.driver))
    (λ (ne : k ≡ 0 → ⊥). omega (arith, path_step t k h ne))
    (cases_eq k 0)

below_longer : {rows : List Row} → RowTree rows → (n u v : ℕ) → u < length rows → under_in rows n u v ≡ true → path_length rows v ≤ path_length rows u
below_longer {rows} t zero u v h b = omega (arith, ap (path_length rows) (eqb-true u v b))
below_longer {rows} t (suc n) u v h b =
    ⊎_elim
    (λ (e : u ≡ v). omega (arith, ap (path_length rows) e))
    (λ (off : u ≡ v → ⊥).
    let above : under_in rows n (up rows u) v ≡ true = rw (ne_eqb u v off) at b in
    omega (arith, below_longer t n (up rows u) v (t.parents u h) above, path_grows t u h))
    (cases_eq u v)

-- a row with a shorter path does not hang below v
pub shorter_above : {rows : List Row} → RowTree rows → (u v : ℕ) → u < length rows → path_length rows u < path_length rows v → under rows u v ≡ false
shorter_above {rows} t u v h s =
    ⊎_elim
    (λ (b : under rows u v ≡ true). absurd (omega (arith, s, below_longer t (length rows) u v h b)))
    (λ f. f)
    (cases_Bool (under rows u v))
