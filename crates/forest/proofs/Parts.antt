-- Sums over the edges of one part, before and after one more edge.
use Rattle.std.proofs.Common.{◌≡◌, ℕ, ◌+◌, cond, eqb, ◌⊎◌, List, [], ◌∷◌, ◌++◌, length, sym, refl, ◌∙◌, ⊎_elim, arith}
use Rattle.std.proofs.lemmas.Bool.{cases_eq, eq-eqb, ne_eqb, cond-true, cond-false}
use Rattle.order.specs.Firsts.{Among}
use Rattle.order.specs.Firsts.Among.{here, there}
use Rattle.forest.specs.declared.Edge.{Edge}
use Rattle.forest.specs.Edges.{wire}

-- k where p and q are equal, else 0
pub pick : (p q k : ℕ) → ℕ
pick p q k = cond (eqb p q) k 0

pub pick_yes : (p q k : ℕ) → p ≡ q → pick p q k ≡ k
unfolding pick
pick_yes p q k h = cond-true (eqb p q) k 0 (eq-eqb p q h)

pub pick_no : (p q k : ℕ) → (p ≡ q → ⊥) → pick p q k ≡ 0
unfolding pick
pick_no p q k h = cond-false (eqb p q) k 0 (ne_eqb p q h)

-- the sum of w over the lengths of the edges whose end a has the label z
pub part_sum : (w f : ℕ → ℕ) (z : ℕ) → List Edge → ℕ
part_sum w f z [] = 0
part_sum w f z (e ∷ E) = pick (f e.a) z (w e.length) + part_sum w f z E

pub part_none : (w f : ℕ → ℕ) (z : ℕ) → part_sum w f z [] ≡ 0
unfolding part_sum
part_none w f z = refl

pub part_push : (w f : ℕ → ℕ) (z : ℕ) (E : List Edge) (e : Edge) → part_sum w f z (E ++ e ∷ []) ≡ part_sum w f z E + pick (f e.a) z (w e.length)
unfolding part_sum
part_push w f z [] e = omega arith
part_push w f z (d ∷ E) e = omega (arith, part_push w f z E e)

module _ (w f g : ℕ → ℕ) (p q z : ℕ) (apart : p ≡ q → ⊥) where
  -- the part labelled z joins the parts that were labelled p and q
  pub part_join : ((x : ℕ) → f x ≡ p → g x ≡ z) → ((x : ℕ) → f x ≡ q → g x ≡ z) → ((x : ℕ) → g x ≡ z → (f x ≡ p) ⊎ (f x ≡ q)) → (E : List Edge) →
      part_sum w g z E ≡ part_sum w f p E + part_sum w f q E
  unfolding part_sum
  part_join hp hq only [] = omega arith
  part_join hp hq only (e ∷ E) =
      let k = w e.length in
      let x = e.a in
      let one : pick (g x) z k ≡ pick (f x) p k + pick (f x) q k =
      ⊎_elim
      (λ (i : f x ≡ p). omega (arith, pick_yes (g x) z k (hp x i), pick_yes (f x) p k i, pick_no (f x) q k (λ j. apart (sym i ∙ j))))
      (λ (ni : f x ≡ p → ⊥).
      ⊎_elim
      (λ (i : f x ≡ q). omega (arith, pick_yes (g x) z k (hq x i), pick_yes (f x) q k i, pick_no (f x) p k ni))
      (λ (nj : f x ≡ q → ⊥). omega (arith, pick_no (g x) z k (λ h. ⊎_elim ni nj (only x h)), pick_no (f x) p k ni, pick_no (f x) q k nj))
      (cases_eq (f x) q))
      (cases_eq (f x) p)
      in
      omega (arith, one, part_join hp hq only E)

-- the part labelled z is as it was
pub part_keep : (w f g : ℕ → ℕ) (z : ℕ) → ((x : ℕ) → f x ≡ z → g x ≡ z) → ((x : ℕ) → g x ≡ z → f x ≡ z) → (E : List Edge) → part_sum w g z E ≡ part_sum w f z E
unfolding part_sum
part_keep w f g z to back [] = refl
part_keep w f g z to back (e ∷ E) =
    let k = w e.length in
    let x = e.a in
    let one : pick (g x) z k ≡ pick (f x) z k =
    ⊎_elim
    (λ (i : f x ≡ z). pick_yes (g x) z k (to x i) ∙ sym (pick_yes (f x) z k i))
    (λ (ni : f x ≡ z → ⊥). pick_no (g x) z k (λ h. ni (back x h)) ∙ sym (pick_no (f x) z k ni))
    (cases_eq (f x) z)
    in
    omega (arith, one, part_keep w f g z to back E)

-- one part: all edges count
pub part_wire : (f : ℕ → ℕ) (z : ℕ) (E : List Edge) → ((e : Edge) → Among e E → f e.a ≡ z) → part_sum (λ x. x) f z E ≡ wire E
unfolding part_sum
part_wire f z [] h = refl
part_wire f z (e ∷ E) h = omega (arith, pick_yes (f e.a) z e.length (h e here), part_wire f z E (λ d i. h d (there i)))

pub part_count : (f : ℕ → ℕ) (z : ℕ) (E : List Edge) → ((e : Edge) → Among e E → f e.a ≡ z) → part_sum (λ x. 1) f z E ≡ length E
unfolding part_sum
part_count f z [] h = refl
part_count f z (e ∷ E) h = omega (arith, pick_yes (f e.a) z 1 (h e here), part_count f z E (λ d i. h d (there i)))
