-- The first links of the outer pins stand in ascending number of these pins. Assumes nothing.
use Rattle.std.proofs.Common.{◌≡◌, ℕ, zero, suc, ◌+◌, ◌<◌, ◌≤◌, true, false, not, List, [], ◌∷◌, map, length, get_or, filter, sym, refl, ap, ◌∙◌, ⊎_elim, arith}
use Rattle.std.specs.Bool.{nat_lt}
use Rattle.std.specs.List.{remove}
use Rattle.std.specs.List.Sorted.{IsNonDecreasingBy, IsPartitionPoint}
use Rattle.std.proofs.lemmas.Bool.{cases_lt, eq-eqb, ltb-false, ltb-true, ne_eqb}
use Rattle.std.proofs.lemmas.List.{get_or-map, get_or_append_left, get_or_push, length-map, length_push}
use Rattle.std.proofs.lemmas.List.Edits.{get_or-remove_above, get_or-remove_below, length-remove}
use Rattle.order.specs.Firsts.{Among}
use Rattle.order.specs.Firsts.Among.{here, there}
use Rattle.order.proofs.Finding.{among_none}
use Rattle.span_laws.specs.Spanning.{link}
use Rattle.span_laws.specs.declared.link.Link.{Link}
use Rattle.span.specs.Growth.{Rising, elsewhere, fan}

-- ---- what rises

length-fan : (d : ℕ → ℕ → ℕ) (k : ℕ) → length (fan d k) ≡ k
length-fan d zero = refl
length-fan d (suc k) = let e = length_push (fan d k) (link d 0 (suc k)) in omega (arith, e, length-fan d k)

fan_pin : (d : ℕ → ℕ → ℕ) (k i : ℕ) (x : Link) → i < k → (get_or (fan d k) i x).v ≡ i + 1
fan_pin d zero i x h = absurd (omega arith)
fan_pin d (suc k) i x h =
    ⊎_elim
    (λ (l : i < k). ap (λ y. y.v) (get_or_append_left (fan d k) (link d 0 (suc k) ∷ []) x i (omega (arith, length-fan d k))) ∙ fan_pin d k i x l)
    (λ (l : k ≤ i).
    let e : length (fan d k) ≡ i = omega (arith, length-fan d k) in
    let q : suc k ≡ i + 1 = omega arith in
    ap (λ y. y.v) (get_or_push (fan d k) (link d 0 (suc k)) x i e) ∙ q)
    (cases_lt i k)

pub rising_fan : (d : ℕ → ℕ → ℕ) (k : ℕ) → Rising (fan d k)
rising_fan d k i j x lt h =
    let n = length-fan d k in
    omega (arith, fan_pin d k i x (omega (arith, n)), fan_pin d k j x (omega (arith, n)))

pub rising_map : (f : Link → Link) → ((x : Link) → (f x).v ≡ x.v) → (F : List Link) → Rising F → Rising (map f F)
rising_map f same F h i j x lt l =
    let m : j < length F = omega (arith, length-map F f) in
    let at : (k : ℕ) → k < length F → (get_or (map f F) k x).v ≡ (get_or F k x).v = λ k n. ap (λ y. y.v) (get_or-map f F k x x n) ∙ same (get_or F k x) in
    omega (arith, at i (omega arith), at j m, h i j x lt m)

pub rising_remove : (F : List Link) (k : ℕ) → k < length F → Rising F → Rising (remove F k)
rising_remove F k within h i j x lt l =
    let n = length-remove F k within in
    let below : (m : ℕ) → m < k → (get_or (remove F k) m x).v ≡ (get_or F m x).v = λ m p. ap (λ y. y.v) (get_or-remove_below F k x m p within) in
    let above : (m : ℕ) → k ≤ m → (get_or (remove F k) m x).v ≡ (get_or F (m + 1) x).v = λ m p. ap (λ y. y.v) (get_or-remove_above F k x m p within) in
    ⊎_elim
    (λ (p : i < k).
    ⊎_elim
    (λ (q : j < k). omega (arith, below i p, below j q, h i j x lt (omega arith)))
    (λ (q : k ≤ j). omega (arith, below i p, above j q, h i (j + 1) x (omega arith) (omega (arith, n))))
    (cases_lt j k))
    (λ (p : k ≤ i). omega (arith, above i p, above j (omega arith), h (i + 1) (j + 1) x (omega arith) (omega (arith, n))))
    (cases_lt i k)

-- ---- the one that is left out

tail_rises : (y : Link) (F : List Link) → Rising (y ∷ F) → Rising F
tail_rises y F h i j x lt l = h (suc i) (suc j) x (omega arith) (omega arith)

kept_all : (v : ℕ) (F : List Link) → ((k : ℕ) (x : Link) → k < length F → (get_or F k x).v ≡ v → ⊥) → filter (elsewhere v) F ≡ F
kept_all v [] h = refl
kept_all v (y ∷ F) h =
    let e : elsewhere v y ≡ true = ap not (ne_eqb y.v v (h 0 y (omega arith))) in
    rw e (ap (λ z. y ∷ z) (kept_all v F (λ k x l. h (suc k) x (omega arith))))

pub left_out : (v : ℕ) (F : List Link) (k : ℕ) (x : Link) → Rising F → k < length F → (get_or F k x).v ≡ v → remove F k ≡ filter (elsewhere v) F
left_out v [] k x h l e = absurd (omega arith)
left_out v (y ∷ F) zero x h l e =
    let q : elsewhere v y ≡ false = ap not (eq-eqb y.v v e) in
    rw q (sym (kept_all v F (λ m z n p. let r = h 0 (suc m) z (omega arith) (omega arith) in omega (arith, r, e, p))))
left_out v (y ∷ F) (suc k) x h l e =
    let r = h 0 (suc k) x (omega arith) l in
    let ne : y.v ≡ v → ⊥ = λ p. omega (arith, r, e, p) in
    let q : elsewhere v y ≡ true = ap not (ne_eqb y.v v ne) in
    rw q (ap (λ z. y ∷ z) (left_out v F k x (tail_rises y F h) (omega arith) e))

-- ---- where it stands

pub non_decreasing : (F : List Link) → Rising F → IsNonDecreasingBy (λ x. x.v) F
non_decreasing F h i j x le l =
    ⊎_elim
    (λ (p : i < j). let r = h i j x p l in omega (arith, r))
    (λ (p : j ≤ i). let e : i ≡ j = omega arith in let q = ap (λ k. (get_or F k x).v) e in omega (arith, q))
    (cases_lt i j)

among_index : (F : List Link) (x : Link) → Among x F → (k : ℕ) × (k < length F) × (get_or F k x ≡ x)
among_index [] x a = absurd (among_none a)
among_index (y ∷ F) x here = (0, omega arith, refl)
among_index (y ∷ F) x (there a) = let r = among_index F x a in (suc r.0, omega (arith, r.1), r.2)

pub found : (F : List Link) (x : Link) (k : ℕ) → Rising F → Among x F → IsPartitionPoint (λ y. nat_lt y.v x.v ≡ true) (λ y. nat_lt y.v x.v ≡ false) F k → (k < length F) × ((get_or F k x).v ≡ x.v)
found F x k h a point =
    let r = among_index F x a in
    let j = r.0 in
    let same : (get_or F j x).v ≡ x.v = ap (λ y. y.v) r.2 in
    let from : k ≤ j = ⊎_elim (λ (p : j < k). let b = ltb-true _ _ (point.0 j x (omega arith) p) in absurd (omega (arith, b, same))) (λ (p : k ≤ j). p) (cases_lt j k) in
    let in_range : k < length F = omega (arith, from, r.1) in
    let low = ltb-false _ _ (point.1 k x (omega arith) in_range) in
    ⊎_elim
    (λ (p : k < j). let b = h k j x p r.1 in absurd (omega (arith, b, low, same)))
    (λ (p : j ≤ k). let e : k ≡ j = omega arith in (in_range, ap (λ m. (get_or F m x).v) e ∙ same))
    (cases_lt k j)
