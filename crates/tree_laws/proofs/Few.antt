-- Different numbers below n are at most n. Assumes nothing.
use Rattle.std.proofs.Common.{◌≡◌, ℕ, zero, suc, ◌<◌, ◌≤◌, cond, eqb, ◌⊎◌, List, [], ◌∷◌, ◌++◌, length, sym, ◌∙◌, subst, inl, inr, ⊎_elim, arith}
use Rattle.std.proofs.lemmas.Bool.{cases_eq, eq-eqb, ne_eqb}
use Rattle.order.specs.Firsts.{Among}
use Rattle.order.specs.Firsts.Among.{here, there}
use Rattle.order.proofs.Finding.{among_none, among_either, among_left, among_one}
use Rattle.forest.specs.Paths.{Different}

-- the list without the first place where n stands
less : ℕ → List ℕ → List ℕ
less n [] = []
less n (x ∷ xs) = cond (eqb x n) xs (x ∷ less n xs)

less_here : (n x : ℕ) (xs : List ℕ) → x ≡ n → less n (x ∷ xs) ≡ xs
unfolding less
less_here n x xs e = rw (eq-eqb x n e)

less_on : (n x : ℕ) (xs : List ℕ) → (x ≡ n → ⊥) → less n (x ∷ xs) ≡ x ∷ less n xs
unfolding less
less_on n x xs ne = rw (ne_eqb x n ne)

less_length : (n : ℕ) (xs : List ℕ) → length xs ≤ suc (length (less n xs))
unfolding less
less_length n [] = omega arith
less_length n (x ∷ xs) =
    ⊎_elim
    (λ (e : x ≡ n). rw (less_here n x xs e) (omega arith))
    (λ (ne : x ≡ n → ⊥). rw (less_on n x xs ne) (omega (arith, less_length n xs)))
    (cases_eq x n)

less_among : (n y : ℕ) (xs : List ℕ) → Among y (less n xs) → Among y xs
unfolding less
less_among n y [] a = a
less_among n y (x ∷ xs) a =
    ⊎_elim
    (λ (e : x ≡ n). there (rw (less_here n x xs e) at a))
    (λ (ne : x ≡ n → ⊥).
    ⊎_elim
    (λ (b : Among y (x ∷ [])). among_left (x ∷ []) xs b)
    (λ (b : Among y (less n xs)). there (less_among n y xs b))
    (among_either (x ∷ []) (less n xs) (rw (less_on n x xs ne) at a)))
    (cases_eq x n)

less_different : (n : ℕ) (xs : List ℕ) → Different xs → Different (less n xs)
unfolding less
less_different n [] d = tt
less_different n (x ∷ xs) d =
    ⊎_elim
    (λ (e : x ≡ n). rw (less_here n x xs e) d.1)
    (λ (ne : x ≡ n → ⊥). rw (less_on n x xs ne) (λ a. d.0 (less_among n x xs a), less_different n xs d.1))
    (cases_eq x n)

less_gone : (n y : ℕ) (xs : List ℕ) → Different xs → Among y (less n xs) → y ≡ n → ⊥
unfolding less
less_gone n y [] d a e = among_none a
less_gone n y (x ∷ xs) d a e =
    ⊎_elim
    (λ (f : x ≡ n). let P : ℕ → Type 0 = λ z. Among z xs in d.0 (subst P (e ∙ sym f) (rw (less_here n x xs f) at a)))
    (λ (ne : x ≡ n → ⊥). ⊎_elim (λ (b : Among y (x ∷ [])). ne (sym (among_one b) ∙ e)) (λ (b : Among y (less n xs)). less_gone n y xs d.1 b e) (among_either (x ∷ []) (less n xs) (rw (less_on n x xs ne) at a)))
    (cases_eq x n)

pub few : (n : ℕ) (xs : List ℕ) → Different xs → ((x : ℕ) → Among x xs → x < n) → length xs ≤ n
few zero [] d f = omega arith
few zero (x ∷ xs) d f = absurd (none x (f x here))
  where
    none : (x : ℕ) → x < 0 → ⊥
    none x h = omega arith
few (suc n) xs d f =
    let rest = few n (less n xs) (less_different n xs d)
    (λ x a. below x (f x (less_among n x xs a)) (less_gone n x xs d a)) in
    omega (arith, less_length n xs)
  where
    below : (x : ℕ) → x < suc n → (x ≡ n → ⊥) → x < n
    below x h ne = omega arith

pub different_push : (xs : List ℕ) (x : ℕ) → Different xs → (Among x xs → ⊥) → Different (xs ++ x ∷ [])
different_push [] x d ne = (λ a. among_none a, tt)
different_push (y ∷ xs) x d ne = (
  λ a. ⊎_elim (λ (b : Among y xs). d.0 b) (λ (b : Among y (x ∷ [])). let P : ℕ → Type 0 = λ z. Among z (y ∷ xs) in ne (subst P (among_one b) here)) (among_either xs (x ∷ []) a),
  different_push xs x d.1 (λ a. ne (there a)),
)

pub among_or : (x : ℕ) (xs : List ℕ) → Among x xs ⊎ (Among x xs → ⊥)
among_or x [] = inr (λ a. among_none a)
among_or x (y ∷ xs) =
    ⊎_elim
    (λ (e : x ≡ y). let P : ℕ → Type 0 = λ z. Among z (y ∷ xs) in inl (subst P (sym e) here))
    (λ (ne : x ≡ y → ⊥).
    ⊎_elim
    (λ (a : Among x xs). inl (there a))
    (λ (off : Among x xs → ⊥). inr (λ a. ⊎_elim (λ (b : Among x (y ∷ [])). ne (among_one b)) off (among_either (y ∷ []) xs a)))
    (among_or x xs))
    (cases_eq x y)
