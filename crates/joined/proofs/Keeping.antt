-- Members of a list that grows or shrinks. Assumes nothing.
use Rattle.std.proofs.Common.{◌≡◌, ℕ, suc, ◌+◌, ◌<◌, ◌≤◌, Bool, Decides, MatchBool, true, false, ◌⊎◌, List, [], ◌∷◌, length, get_or, drop, take, filter, sym, refl, ap, ◌∙◌, subst, inl, inr, ⊎_elim, arith}
use Rattle.std.proofs.lemmas.List.{drop_more, get_or_default, take_more}
use Rattle.std.proofs.lemmas.Bool.{both_ways, cases_Bool, cond-false, cond-true}
use Rattle.std.specs.List.{AllWithin, HoldsAt}
use Rattle.order.specs.Firsts.{Among}
use Rattle.order.specs.Firsts.Among.{here, there}
use Rattle.order.proofs.Finding.{among_at, among_either, among_none, among_one}

-- what stands in one more of a list is what stood there or the next
pub among_next : {X : Type 0} (xs : List X) (i : ℕ) (y : X) → i < length xs → (x : X) → Among x (take (i + 1) xs) → Among x (take i xs) ⊎ (x ≡ get_or xs i y)
among_next {X} xs i y h x m =
    let P : List X → Type 0 = λ ys. Among x ys in
    ⊎_elim
    (λ (k : Among x (take i xs)). inl k)
    (λ (k : Among x (get_or xs i y ∷ [])). inr (among_one k))
    (among_either (take i xs) (get_or xs i y ∷ []) (subst P (take_more xs i y h) m))

-- what is read behind the front of a list that was changed at its front alone
pub read_behind : {X : Type 0} (xs ys : List X) (i : ℕ) (x : X) → drop i ys ≡ drop i xs → i < length ys → length ys ≡ length xs → x ≡ get_or ys i x → x ≡ get_or xs i x
read_behind xs ys i x h lt long is = is ∙ ap (λ l. get_or l 0 x) (sym (drop_more ys i x lt) ∙ h ∙ drop_more xs i x (omega (arith, lt, long)))

pub among_here : {X : Type 0} (xs : List X) (i : ℕ) (y : X) → i < length xs → Among (get_or xs i y) xs
among_here xs i y h = among_at xs i (get_or xs i y) h (get_or_default xs i y (get_or xs i y) h)

-- what stands in a list stands at a place
pub among_place : (xs : List ℕ) (x : ℕ) → Among x xs → (i : ℕ) × (i < length xs) × (x ≡ get_or xs i 0)
among_place [] x m = elim m [ ]
among_place (y ∷ xs) x here = (0, omega arith, refl)
among_place (y ∷ xs) x (there m) = let k = among_place xs x m in (suc k.0, omega (arith, k.1), k.2)

-- how many pass
kept_yes : (p : ℕ → Bool) (y : ℕ) (xs : List ℕ) → p y ≡ true → length (filter p (y ∷ xs)) ≡ length (filter p xs) + 1
kept_yes p y xs e = omega (arith, ap length (cond-true (p y) (y ∷ filter p xs) (filter p xs) e))

kept_no : (p : ℕ → Bool) (y : ℕ) (xs : List ℕ) → p y ≡ false → length (filter p (y ∷ xs)) ≡ length (filter p xs)
kept_no p y xs e = ap length (cond-false (p y) (y ∷ filter p xs) (filter p xs) e)

kept_one : (p : ℕ → Bool) (y : ℕ) (xs : List ℕ) → length (filter p (y ∷ xs)) ≤ length (filter p xs) + 1
kept_one p y xs =
    ⊎_elim (λ (e : p y ≡ true). omega (arith, kept_yes p y xs e)) (λ (e : p y ≡ false). omega (arith, kept_no p y xs e)) (cases_Bool (p y))

pub kept_few : (p : ℕ → Bool) (xs : List ℕ) → length (filter p xs) ≤ length xs
kept_few p [] = omega arith
kept_few p (y ∷ xs) = omega (arith, kept_one p y xs, kept_few p xs)

-- where one or two do not pass, so many fewer do
kept_less : (p : ℕ → Bool) (xs : List ℕ) (a : ℕ) → Among a xs → p a ≡ false → length (filter p xs) + 1 ≤ length xs
kept_less p [] a m e = elim m [ ]
kept_less p (y ∷ xs) a here e = omega (arith, kept_no p y xs e, kept_few p xs)
kept_less p (y ∷ xs) a (there m) e = omega (arith, kept_one p y xs, kept_less p xs a m e)

pub kept_two_less : (p : ℕ → Bool) (xs : List ℕ) (a b : ℕ) → Among a xs → Among b xs → (a ≡ b → ⊥) → p a ≡ false → p b ≡ false → length (filter p xs) + 2 ≤ length xs
kept_two_less p [] a b m n ne e f = elim m [ ]
kept_two_less p (y ∷ xs) a b here here ne e f = absurd (ne refl)
kept_two_less p (y ∷ xs) a b here (there n) ne e f = omega (arith, kept_no p y xs e, kept_less p xs b n f)
kept_two_less p (y ∷ xs) a b (there m) here ne e f = omega (arith, kept_no p y xs f, kept_less p xs a m e)
kept_two_less p (y ∷ xs) a b (there m) (there n) ne e f = omega (arith, kept_one p y xs, kept_two_less p xs a b m n ne e f)

-- nothing stands in a list without places
pub among_empty : (xs : List ℕ) (x : ℕ) → Among x xs → length xs ≡ 0 → ⊥
among_empty [] x m e = among_none m
among_empty (y ∷ xs) x m e = omega arith

-- whether each number of a list has P
pub all_decided : (P : ℕ → Type 0) (xs : List ℕ) (r : Bool) → MatchBool r (AllWithin P xs 0 (length xs)) ((k : ℕ) × (k < length xs) × HoldsAt (λ x. P x → ⊥) xs k) → Decides r ((x : ℕ) → Among x xs → P x)
all_decided P xs true a = (λ t x m. let k = among_place xs x m in subst P (sym k.2) (a k.0 0 (omega arith) k.1), λ f. refl)
all_decided P xs false a = (λ t. absurd (both_ways false refl t), λ f. absurd (a.2 0 (f (get_or xs a.0 0) (among_here xs a.0 0 a.1))))
