-- A line can be cut into three numbers in one way only. Assumes nothing.
use Rattle.std.proofs.Common.{◌≡◌, ℕ, ◌-◌, ◌<◌, ◌≤◌, Bool, true, false, cond, eqb, List, ◌∷◌, ◌++◌, length, get_or, drop, Some, None, Option, sym, refl, ap, ◌∙◌, subst, ⊎_elim, arith, length-drop, Bor}
use Rattle.std.specs.Str.Parse.{AllDigits, starts_with_minus as minus}
use Rattle.std.proofs.lemmas.List.{get_or-drop}
use Rattle.std.proofs.lemmas.Str.Parse.{digit_at}
use Rattle.std.proofs.lemmas.Str.Pattern.{IsSplitOnceResult, split_after, split_parts}
use Rattle.std.proofs.lemmas.Option.{MatchOption-at_none}
use Rattle.std.proofs.lemmas.Bool.{cases_lt, eqb-true}
use Rattle.space.specs.declared.spot.Spot.{Spot}
use Rattle.space.specs.Lines.{Writes, Numbers, SpotLine}

-- a byte that stands in no number
pub record Parts (c : ℕ) : Type 0 where
  pub plain : c < 128
  pub low : c < 48
  pub plus : c ≡ 43 → ⊥
  pub minus : c ≡ 45 → ⊥

abbrev pub Free : ℕ → List ℕ → Type 0
Free c bs = (i : ℕ) → i < length bs → get_or bs i 0 ≡ c → ⊥

-- digits after the first k bytes, of which k is at most one, and that one is not c
pub free_after : (c : ℕ) → Parts c → (bs : List ℕ) (k : ℕ) → k ≤ 1 → AllDigits 10 (drop k bs) → (0 < k → get_or bs 0 0 ≡ c → ⊥) → Free c bs
free_after c q bs k small digits sign i within at =
    ⊎_elim
    (λ (l : i < k). let z : i ≡ 0 = omega arith in sign (omega arith) (sym (ap (λ j. get_or bs j 0) z) ∙ at))
    (λ (l : k ≤ i).
    let there : i - k < length (drop k bs) = omega (arith, length-drop k bs) in
    let d = digit_at (drop k bs) (i - k) digits there in
    let same : get_or (drop k bs) (i - k) 0 ≡ get_or bs i 0 = get_or-drop k bs (i - k) 0 ∙ ap (λ j. get_or bs j 0) (omega arith) in
    omega (arith, d, same, at, q.low))
    (cases_lt i k)

signed_free : (c : ℕ) → Parts c → (bs : List ℕ) (s : Bool) (p : Bool) → minus bs ≡ s → eqb (get_or bs 0 0) 43 ≡ p → AllDigits 10 (cond s (drop 1 bs) (drop (cond p 1 0) bs)) → Free c bs
signed_free c q bs true p e f d = free_after c q bs 1 (omega arith) d (λ _ at. q.minus (sym at ∙ eqb-true _ _ e))
signed_free c q bs false true e f d = free_after c q bs 1 (omega arith) d (λ _ at. q.plus (sym at ∙ eqb-true _ _ f))
signed_free c q bs false false e f d = free_after c q bs 0 (omega arith) d (λ l. absurd (omega arith))

comma : Parts 44
comma = record { plain = omega arith; low = omega arith; plus = λ e. omega arith; minus = λ e. omega arith }

number_free : (bs : List ℕ) (z : _) → Writes bs z → Free 44 bs
number_free bs z w = signed_free 44 comma bs _ _ refl refl w.digits.1

abbrev pub Pieces : Type 0
Pieces = Option (Bor (List ℕ) × Bor (List ℕ))

-- no first comma, or no second one: no spot
pub no_comma : (bs : List ℕ) (r : Pieces) → IsSplitOnceResult 44 bs r → r ≡ None → (s : Spot) → SpotLine bs s → ⊥
no_comma bs r h e s l = MatchOption-at_none _ _ e (split_after 44 bs l.first _ r h (omega arith) l.parted (number_free _ _ l.numbers.x))

-- a text cut at its first c
module _ (c : ℕ) (q : Parts c) (bs : List ℕ) (r : Pieces) (f rest : Bor (List ℕ)) (h : IsSplitOnceResult c bs r) (e : r ≡ Some (f, rest)) where
  at_some : IsSplitOnceResult c bs (Some (f, rest))
  at_some = subst (λ (x : Pieces). IsSplitOnceResult c bs x) e h

  -- what is before and after it
  parts : bs ≡ f.now ++ (c ∷ rest.now)
  parts = (split_parts c bs (Some (f, rest)) at_some q.plain).0

  -- any cut at a c whose front has no c is this one
  pub only : (xs ys : List ℕ) → bs ≡ xs ++ (c ∷ ys) → Free c xs → (xs ≡ f.now) × (ys ≡ rest.now)
  only xs ys p free =
      let cut = split_after c bs xs ys (Some (f, rest)) at_some q.plain p free in
      (sym cut.0, sym cut.1)

module _ (bs : List ℕ) (r : Pieces) (f rest : Bor (List ℕ)) (h : IsSplitOnceResult 44 bs r) (e : r ≡ Some (f, rest)) where
  first_cut : (s : Spot) (l : SpotLine bs s) → (l.first ≡ f.now) × (l.second ++ (44 ∷ l.third) ≡ rest.now)
  first_cut s l = only 44 comma bs r f rest h e l.first _ l.parted (number_free _ _ l.numbers.x)

  pub no_second_comma : (q : Pieces) → IsSplitOnceResult 44 rest.now q → q ≡ None → (s : Spot) → SpotLine bs s → ⊥
  no_second_comma q k e' s l =
      MatchOption-at_none _ _ e'
      (split_after 44 rest.now l.second l.third q k (omega arith) (sym (first_cut s l).1) (number_free _ _ l.numbers.y))

-- the three pieces of a line: it is a spot's line exactly where they are the spot's numbers
pub record Pieced (bs f g t : List ℕ) : Type 0 where
  pub line : (s : Spot) → Numbers f g t s → SpotLine bs s
  pub numbers : (s : Spot) → SpotLine bs s → Numbers f g t s

pub cut_twice : (bs : List ℕ) (r q : Pieces) (f rest g t : Bor (List ℕ)) → IsSplitOnceResult 44 bs r → r ≡ Some (f, rest) → IsSplitOnceResult 44 rest.now q → q ≡ Some (g, t) → Pieced bs f.now g.now t.now
cut_twice bs r q f rest g t h e k e' = record {
  line = λ s n. record {
    first = f.now;
    second = g.now;
    third = t.now;
    parted = parts 44 comma bs r f rest h e ∙ ap (λ x. f.now ++ (44 ∷ x)) (parts 44 comma rest.now q g t k e');
    numbers = n;
  };
  numbers = λ s l.
      let one = first_cut bs r f rest h e s l in
      let two = only 44 comma rest.now q g t k e' l.second l.third (sym one.1) (number_free _ _ l.numbers.y) in
      rw (← one.0, ← two.0, ← two.1) l.numbers;
}
