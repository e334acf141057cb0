-- Lists that rise. Assumes nothing.
use Rattle.std.proofs.Common.{◌≡◌, ℕ, zero, suc, ◌+◌, ◌-◌, ◌<◌, ◌≤◌, Bool, true, false, List, [], ◌∷◌, ◌++◌, length, get_or, sym, refl, ap, ⊎_elim, add-one, nat_lt, Decides, arith}
use Rattle.std.specs.List.{IsAllAdjacentAnswer}
use Rattle.joined.specs.Joinings.{Rising}
use Rattle.std.proofs.lemmas.Bool.{both_ways, cases_lt, ltb-false, ltb-true}
use Rattle.std.proofs.lemmas.List.{get_or_append_left, get_or_push, length_push}
use Rattle.std.proofs.lemmas.List.Kept.{AllPairs-from_increasing}
use Rattle.order.specs.Firsts.{Among}
use Rattle.joined.proofs.Keeping.{among_here}

-- whether a list rises, by each number and the next
pub rising_decided : (xs : List ℕ) (r : Bool) → IsAllAdjacentAnswer (λ x y b. b ≡ nat_lt x y) xs r → Decides r (Rising xs)
rising_decided xs true a = (λ t i h. ltb-true (get_or xs i 0) (get_or xs (i + 1) 0) (sym (a i 0 h)), λ f. refl)
rising_decided xs false a = (λ t. absurd (both_ways false refl t), λ f. absurd (omega (arith, f a.0 a.1, ltb-false (get_or xs a.0 0) (get_or xs (a.0 + 1) 0) (sym (a.2 0)))))

-- a list of numbers from 1 on that rises has at each place more than the place's number
least : (xs : List ℕ) → ((k : ℕ) → k + 1 < length xs → get_or xs k 0 < get_or xs (k + 1) 0) → ((k : ℕ) → k < length xs → 0 < get_or xs k 0) → (i : ℕ) → i < length xs → i < get_or xs i 0
least xs f g zero h = g 0 h
least xs f g (suc i) h =
    let e : suc i ≡ i + 1 = sym (add-one i) in
    omega (arith, least xs f g i (omega arith), f i (omega (arith, e)), ap (λ n. get_or xs n 0) e)

-- so it is no longer than its greatest number
pub rising_few : (xs : List ℕ) (n : ℕ) → ((k : ℕ) → k + 1 < length xs → get_or xs k 0 < get_or xs (k + 1) 0) → ((k : ℕ) → k < length xs → 0 < get_or xs k 0) → ((k : ℕ) → k < length xs → get_or xs k 0 < n) → 0 < n → length xs < n
rising_few xs n f g h some =
    ⊎_elim
    (λ (l : 0 < length xs). omega (arith, least xs f g (length xs - 1) (omega arith), h (length xs - 1) (omega arith)))
    (λ (l : length xs ≤ 0). omega arith)
    (cases_lt 0 (length xs))

-- what stands later is not less
pub rising_later : (xs : List ℕ) → Rising xs → (i k : ℕ) → i ≤ k → k < length xs → get_or xs i 0 ≤ get_or xs k 0
rising_later xs r i k h l =
    ⊎_elim
    (λ (m : i < k). omega (arith, AllPairs-from_increasing xs r i k 0 m l))
    (λ (m : k ≤ i). let e : i ≡ k = omega arith in omega (arith, ap (λ n. get_or xs n 0) e))
    (cases_lt i k)

-- a number above all of them may come at the end
pub rising_push : (xs : List ℕ) (n : ℕ) → Rising xs → ((x : ℕ) → Among x xs → x < n) → Rising (xs ++ n ∷ [])
rising_push xs n r above i h =
    let l : i < length xs = omega (arith, h, length_push xs n) in
    let e = get_or_append_left xs (n ∷ []) 0 i l in
    ⊎_elim
    (λ (k : i + 1 < length xs). omega (arith, r i k, e, get_or_append_left xs (n ∷ []) 0 (i + 1) k))
    (λ (k : length xs ≤ i + 1). omega (arith, above (get_or xs i 0) (among_here xs i 0 l), e, get_or_push xs n 0 (i + 1) (omega arith)))
    (cases_lt (i + 1) (length xs))
