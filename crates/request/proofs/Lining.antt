-- The first line of a job.
use Rattle.std.proofs.Common.{◌≡◌, ℕ, suc, zero, ◌<◌, true, false, eqb, List, [], ◌∷◌, length, get_or, take, drop, ◌-◌, refl, arith}
use Rattle.std.proofs.lemmas.Bool.{ne_eqb, eq-eqb}
use Rattle.std.proofs.lemmas.List.{drop_all}
use Rattle.request.specs.Lines.{Lacks, lines_of}

pub no_end : (x : ℕ) (xs : List ℕ) → Lacks 10 (x ∷ xs) (suc (length xs)) → lines_of (x ∷ xs) ≡ (x ∷ xs) ∷ []
no_end x [] h =
    let no : eqb x 10 ≡ false = ne_eqb x 10 (h 0 (omega arith)) in
    rw no refl
no_end x (y ∷ xs) h =
    let no : eqb x 10 ≡ false = ne_eqb x 10 (h 0 (omega arith)) in
    let rest = no_end y xs (λ k l. h (suc k) (omega arith)) in
    rw (no, rest) refl

pub at_end : (xs : List ℕ) (i : ℕ) → i < length xs → get_or xs i 0 ≡ 10 → Lacks 10 xs i → lines_of xs ≡ take i xs ∷ lines_of (drop (suc i) xs)
at_end [] i l e h = absurd (omega arith)
at_end (x ∷ xs) zero l e h = let yes : eqb x 10 ≡ true = eq-eqb x 10 e in rw yes refl
at_end (x ∷ xs) (suc i) l e h =
    let no : eqb x 10 ≡ false = ne_eqb x 10 (h 0 (omega arith)) in
    let rest = at_end xs i (omega arith) e (λ k m. h (suc k) (omega arith)) in
    rw (no, rest) refl

pub whole_line : (xs : List ℕ) → 0 < length xs → Lacks 10 xs (length xs) → lines_of xs ≡ xs ∷ lines_of (take (length xs - length xs) (drop (length xs) xs))
whole_line [] l h = absurd (omega arith)
whole_line (x ∷ xs) l h =
    let none : drop (length (x ∷ xs)) (x ∷ xs) ≡ [] = drop_all (length (x ∷ xs)) (x ∷ xs) (omega arith) in
    let zero_left : length (x ∷ xs) - length (x ∷ xs) ≡ 0 = omega arith in
    rw (none, zero_left) (no_end x xs h)
