-- The last children of rows, found row after row. Assumes nothing.
use Rattle.std.proofs.Common.{◌≡◌, ℕ, ◌+◌, ◌<◌, ◌≤◌, List, [], ◌∷◌, ◌++◌, length, slice_index, slice_set, refl, ap, sym, ◌∙◌, subst, ⊎_elim, arith}
use Rattle.std.proofs.lemmas.Bool.{cases_eq, cases_lt}
use Rattle.std.proofs.lemmas.Grind.{get_or-set_at}
use Rattle.std.proofs.lemmas.List.{get_or_append_left, get_or_push, get_or-set_other, length-set, length_push}
use Rattle.tree_laws.specs.declared.Row.{Row}
use Rattle.tree_laws.specs.Trees.{up}
use Rattle.share.specs.Siblings.{LastBelow}

-- the row c is the last child of its parent below c + 1
pub last_is : (rows : List Row) (c : ℕ) → LastBelow rows (up rows c) (c + 1) c
last_is rows c = record { below = omega arith; child = λ n. refl; last = λ a h k e. omega (arith, h, k) }

-- the row c is no child of another row
pub last_stays : {rows : List Row} {v c e : ℕ} → LastBelow rows v c e → (up rows c ≡ v → ⊥) → LastBelow rows v (c + 1) e
last_stays {rows} {v} {c} {e} l off = record {
  below = omega (arith, l.below);
  child = l.child;
  last = λ a h k q.
      ⊎_elim
      (λ (m : a < c). l.last a h m q)
      (λ (m : c ≤ a). let is : a ≡ c = omega (arith, m, k) in off (sym (ap (up rows) is) ∙ q))
      (cases_lt a c);
}

-- The rows below c have their siblings before them, and each row has its last child below c.
pub record Linked (rows : List Row) (c : ℕ) (es ls : List ℕ) : Type 0 where
  pub count : length es ≡ c
  pub room : length ls ≡ length rows
  pub driver : slice_index es 0 ≡ 0
  pub before : (k : ℕ) → 0 < k → k < c → LastBelow rows (up rows k) k (slice_index es k)
  pub last : (v : ℕ) → v < length rows → LastBelow rows v c (slice_index ls v)

pub linked_start : (rows : List Row) (es ls : List ℕ) → es ≡ 0 ∷ [] → length ls ≡ length rows → ((v : ℕ) → slice_index ls v ≡ 0) → Linked rows 1 es ls
linked_start rows es ls e long zeros = record {
  count = ap length e;
  room = long;
  driver = ap (λ xs. slice_index xs 0) e;
  before = λ k h m. omega (arith, h, m);
  last = λ v h. let P : ℕ → Type 0 = λ x. LastBelow rows v 1 x in subst P (sym (zeros v)) (record { below = omega arith; child = λ n. absurd (n refl); last = λ a g m q. omega (arith, g, m) });
}

pub linked_more : {rows : List Row} {c : ℕ} {es ls : List ℕ} → Linked rows c es ls → (p e : ℕ) → 0 < c → p ≡ up rows c → p < length rows → e ≡ slice_index ls p → Linked rows (c + 1) (es ++ e ∷ []) (slice_set ls p c)
linked_more {rows} {c} {es} {ls} l p e some parent held is = record {
  count = omega (arith, length_push es e, l.count);
  room = length-set ls p c ∙ l.room;
  driver = get_or_append_left es (e ∷ []) 0 0 (omega (arith, l.count, some)) ∙ l.driver;
  before = λ k h m.
      ⊎_elim
      (λ (g : k < c). let P : ℕ → Type 0 = λ x. LastBelow rows (up rows k) k x in subst P (sym (get_or_append_left es (e ∷ []) 0 k (omega (arith, g, l.count)))) (l.before k h g))
      (λ (g : c ≤ k).
      let same : c ≡ k = omega (arith, g, m) in
      let P : ℕ → Type 0 = λ x. LastBelow rows (up rows x) x (slice_index (es ++ e ∷ []) x) in
      let Q : ℕ → Type 0 = λ x. LastBelow rows x c (slice_index (es ++ e ∷ []) c) in
      let R : ℕ → Type 0 = λ x. LastBelow rows p c x in
      subst P same (subst Q parent (subst R (sym (get_or_push es e 0 c l.count ∙ is)) (l.last p held))))
      (cases_lt k c);
  last = λ v h.
      ⊎_elim
      (λ (s : v ≡ p).
      let P : ℕ → Type 0 = λ x. LastBelow rows v (c + 1) x in
      let Q : ℕ → Type 0 = λ x. LastBelow rows x (c + 1) c in
      subst P (sym (get_or-set_at ls p v c 0 s (omega (arith, held, l.room)))) (subst Q (sym (s ∙ parent)) (last_is rows c)))
      (λ (n : v ≡ p → ⊥).
      let P : ℕ → Type 0 = λ x. LastBelow rows v (c + 1) x in
      subst P (sym (get_or-set_other ls p v c 0 n)) (last_stays (l.last v h) (λ q. n (sym q ∙ sym parent))))
      (cases_eq v p);
}
