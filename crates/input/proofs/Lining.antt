-- Entries whose lines do not fall. Assumes nothing.
use Rattle.std.proofs.Common.{◌≡◌, ℕ, ◌-◌, ◌<◌, ◌≤◌, List, [], ◌∷◌, ◌++◌, length, get_or, ap, arith}
use Rattle.std.proofs.lemmas.List.{get_or_push, length_push}
use Rattle.std.proofs.lemmas.List.Sorted.{IsNonDecreasingBy-push}
use Rattle.std.specs.List.Sorted.{IsNonDecreasingBy}
use Rattle.input.specs.declared.lines.Entry.{Entry}

-- the lines do not fall, and the last is at most n
abbrev pub Upto : List Entry → ℕ → Type 0
Upto xs n = IsNonDecreasingBy (λ (e : Entry). e.line) xs × ((d : Entry) → 0 < length xs → (get_or xs (length xs - 1) d).line ≤ n)

pub pushed : (xs : List Entry) (n : ℕ) (e : Entry) → n ≤ e.line → Upto xs n → Upto (xs ++ e ∷ []) e.line
pushed xs n e h u = (
  IsNonDecreasingBy-push (λ (e : Entry). e.line) xs e u.0 (λ d l. omega (arith, u.1 d l)),
  λ d l.
      let last : length xs ≡ length (xs ++ e ∷ []) - 1 = omega (arith, length_push xs e) in
      omega (arith, ap (λ (x : Entry). x.line) (get_or_push xs e d (length (xs ++ e ∷ []) - 1) last)),
)
