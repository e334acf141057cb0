-- A line cut at its first comma.
use Rattle.std.proofs.Common.{◌≡◌, ℕ, suc, zero, ◌+◌, ◌<◌, ◌≤◌, true, false, eqb, List, [], ◌∷◌, length, get_or, take, drop, sym, refl, ap, ◌∙◌, arith}
use Rattle.std.proofs.Common.{map, set, ◌++◌, append_assoc, Bor}
use Rattle.std.proofs.lemmas.List.{take_more_set, map_push, take_at, take_all, append-nil}
use Rattle.std.proofs.lemmas.Bool.{ne_eqb, eq-eqb}
use Rattle.std.specs.List.{slice_split}
use Rattle.request.specs.Lines.{Lacks}

pub no_comma : (xs : List ℕ) → Lacks 44 xs (length xs) → slice_split (λ b. eqb b 44) xs ≡ xs ∷ []
no_comma [] h = refl
no_comma (x ∷ xs) h =
    let no : eqb x 44 ≡ false = ne_eqb x 44 (h 0 (omega arith)) in
    let rest = no_comma xs (λ k l. h (suc k) (omega arith)) in
    rw (no, rest) refl

pub at_comma : (xs : List ℕ) (i : ℕ) → i < length xs → get_or xs i 0 ≡ 44 → Lacks 44 xs i → slice_split (λ b. eqb b 44) xs ≡ take i xs ∷ slice_split (λ b. eqb b 44) (drop (suc i) xs)
at_comma [] i l e h = absurd (omega arith)
at_comma (x ∷ xs) zero l e h = let yes : eqb x 44 ≡ true = eq-eqb x 44 e in rw yes refl
at_comma (x ∷ xs) (suc i) l e h =
    let no : eqb x 44 ≡ false = ne_eqb x 44 (h 0 (omega arith)) in
    let rest = at_comma xs i (omega arith) e (λ k m. h (suc k) (omega arith)) in
    rw (no, rest) refl

-- a part put behind the parts so far
pub stored : (fs : List (Bor (List ℕ))) (n : ℕ) (x : Bor (List ℕ)) (more : List (List ℕ)) → n < length fs → map (λ f. f.now) (take (n + 1) (set fs n x)) ++ more ≡ map (λ f. f.now) (take n fs) ++ (x.now ∷ more)
stored fs n x more l =
    ap (λ ys. map (λ f. f.now) ys ++ more) (take_more_set fs n x l)
    ∙ ap (λ ys. ys ++ more) (map_push (λ f. f.now) (take n fs) x)
    ∙ append_assoc (map (λ f. f.now) (take n fs)) (x.now ∷ []) more

-- the first n of the parts, and all of them where they are fewer
pub first_parts : (xs more all : List (List ℕ)) (n : ℕ) → xs ++ more ≡ all → length xs ≡ n → xs ≡ take n all
first_parts xs more all n e l = rw (← e) (sym (take_at xs more n l))

pub all_parts : (xs all : List (List ℕ)) (n : ℕ) → xs ++ [] ≡ all → length xs ≤ n → xs ≡ take n all
all_parts xs all n e l = let f : all ≡ xs = sym e ∙ append-nil xs in rw f (sym (take_all n xs l))
