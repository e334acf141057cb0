-- Lemmas on the labels that a seed keeps.
use Rattle.std.proofs.Common.{◌≡◌, ℕ, ◌<◌, ◌≤◌, cond, eqb, List, [], ◌∷◌, ◌++◌, length, get_or, Decides, sym, refl, ap, ◌∙◌, ⊎_elim, arith}
use Rattle.std.proofs.lemmas.Bool.{cases_lt, eq-eqb, eqb-true}
use Rattle.std.proofs.lemmas.List.{get_or_append_left, get_or_push, get_or_read_under, length_push}
use Rattle.forest.specs.declared.Edge.{Edge}
use Rattle.forest.specs.Edges.{Joined, Sound}
use Rattle.forest.specs.Labels.{label_of}
use Rattle.forest.proofs.Accepted.{accepted, near_below}
use Rattle.forest.proofs.Chains.{joined_alone, joined_back, near_back}
use Rattle.forest.proofs.Labelled.{label_head, label_joined, joined_label, label_push}
use Rattle.seed.specs.Labelled.{Labelled}

-- what is read at a node is its label
pub label_read : (E : List Edge) (xs : List ℕ) (v x : ℕ) → Labelled E xs → v < length xs → x ≡ get_or xs v x → x ≡ label_of E v
label_read E xs v x h l e = get_or_read_under xs v (length xs) x 0 e l refl ∙ h v l

pub labels_decide : (E : List Edge) (a b x y : ℕ) → x ≡ label_of E a → y ≡ label_of E b → Decides (eqb x y) (Joined E a b)
labels_decide E a b x y p q = (
  (λ t. label_joined E a b (sym p ∙ eqb-true x y t ∙ q)),
  (λ j. eq-eqb x y (p ∙ joined_label j ∙ sym q)),
)

-- the label of v after one more edge, from what was read before it
pub label_after : (E : List Edge) (e : Edge) (v x y from to : ℕ) → x ≡ cond (eqb y from) to y → y ≡ label_of E v → from ≡ label_of E e.b → to ≡ label_of E e.a → x ≡ label_of (E ++ e ∷ []) v
label_after E e v x y from to p q r s =
    let f : ℕ → ℕ = label_of E in
    p
    ∙ ap (λ z. cond (eqb z from) to z) q
    ∙ ap (λ z. cond (eqb (f v) z) to (f v)) r
    ∙ ap (λ z. cond (eqb (f v) (f e.b)) z (f v)) s
    ∙ sym (label_push E e v)

-- ---- one more node

-- a node that no edge touches has its own number as its label
pub label_alone : (n : ℕ) (E : List Edge) (v : ℕ) → Sound n E → n ≤ v → label_of E v ≡ v
label_alone n E v s h =
    sym
    (joined_alone
    (λ x k near. past v (near_below (accepted n E s) (near_back near)) h)
    (joined_back (label_joined E (label_of E v) v (label_head E v))))
  where
    past : (v : ℕ) → v < n → n ≤ v → ⊥
    past v l h = omega arith

-- one more label, the number of a node that no edge touches
pub labelled_add : (E : List Edge) (xs : List ℕ) → label_of E (length xs) ≡ length xs → Labelled E xs → Labelled E (xs ++ length xs ∷ [])
labelled_add E xs own h v l =
    ⊎_elim
    (λ (k : v < length xs). get_or_append_left xs (length xs ∷ []) 0 v k ∙ h v k)
    (λ (k : length xs ≤ v).
    let e : length xs ≡ v = omega (arith, length_push xs (length xs)) in
    get_or_push xs (length xs) 0 v e ∙ sym own ∙ ap (label_of E) e)
    (cases_lt v (length xs))
