-- A text put behind another.
use Rattle.std.proofs.Common.{◌≡◌, ℕ, ◌+◌, ◌≤◌, List, ◌++◌, length, take, drop, sym, ap, ◌∙◌, append_assoc, arith, Option, Some, None}
use Rattle.std.proofs.lemmas.List.{drop-drop, drop_at, length-append, length-drop, length-take-le, take_at}
use Rattle.job.specs.Places.{Puts, put_at}

pub put_put : (o : List ℕ) (a : ℕ) (t u : List ℕ) → a ≤ length o → put_at (put_at o a t) (a + length t) u ≡ put_at o a (t ++ u)
put_put o a t u h =
    let A = take a o in
    let D = drop (a + length t) o in
    let one : length A ≡ a = length-take-le a o h in
    let both : length (A ++ t) ≡ a + length t = omega (arith, length-append A t, one) in
    let all : put_at o a t ≡ (A ++ t) ++ D = sym (append_assoc A t D) in
    let front : take (a + length t) (put_at o a t) ≡ A ++ t = ap (take (a + length t)) all ∙ take_at (A ++ t) D (a + length t) both in
    let tail : drop (a + length t) (put_at o a t) ≡ D = ap (drop (a + length t)) all ∙ drop_at (A ++ t) D (a + length t) both in
    let past : drop (a + length t + length u) (put_at o a t) ≡ drop (a + length (t ++ u)) o =
    sym (drop-drop (length u) (a + length t) (put_at o a t)) ∙ ap (drop (length u)) tail ∙ drop-drop (length u) (a + length t) o
    ∙ ap (λ n. drop n o) (omega (arith, length-append t u)) in
    let E = drop (a + length (t ++ u)) o in
    ap (λ xs. xs ++ (u ++ drop (a + length t + length u) (put_at o a t))) front
    ∙ ap (λ xs. (A ++ t) ++ (u ++ xs)) past
    ∙ append_assoc A t (u ++ E)
    ∙ ap (λ xs. A ++ xs) (sym (append_assoc t u E))

pub length_put : (o : List ℕ) (a : ℕ) (t : List ℕ) → a + length t ≤ length o → length (put_at o a t) ≡ length o
length_put o a t h =
    let D = drop (a + length t) o in
    omega (arith, h, length-append (take a o) (t ++ D), length-append t D, length-take-le a o (omega (arith, h)), length-drop (a + length t) o)

-- The second text is put behind the first, where both fit.
pub put_both : (o : List ℕ) (a : ℕ) (t u : List ℕ) (r : Option ℕ) (new : List ℕ) → a + length t + length u ≤ length o → Puts (put_at o a t) (a + length t) u r new → Puts o a (t ++ u) r new
put_both o a t u None new h p =
    let long = length_put o a t (omega (arith, h)) in
    absurd (omega (arith, h, long, p.0))
put_both o a t u (Some end) new h p =
    let long = length_put o a t (omega (arith, h)) in
    (omega (arith, p.0, length-append t u), omega (arith, p.1, long), p.2 ∙ put_put o a t u (omega (arith, h)))
