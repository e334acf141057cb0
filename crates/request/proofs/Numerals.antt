-- A text is read exactly where it is a number's own text.
use Rattle.std.proofs.Common.{◌≡◌, ℕ, zero, suc, ◌<◌, ◌≤◌, ◌^◌, Some, List, [], ◌∷◌, drop, get_or, Result, Ok, Err, refl, sym, ap, ◌∙◌, ⊎_elim, length-drop, arith, rules}
use Rattle.std.specs.Prelude.{decimal}
use Rattle.std.specs.Result.{OkIff, result_ok}
use Rattle.std.specs.Str.Parse.{AllDigits, digits_value, ParsesUnsigned}
use Rattle.std.specs.Str.{IsUtf8}
use Rattle.std.proofs.lemmas.Str.{IsUtf8-from_ascii}
use Rattle.std.proofs.lemmas.Str.Parse.{IsNumeralModel, numerals_by_value, tells_digits, parse_plain}
use Rattle.std.proofs.lemmas.Fmt.{decimal_digit, decimal_injective, first_decimal, decimal-digits_value, IsAscii-decimal, parse-decimal}
use Rattle.request.specs.Decimals.{Begins, BeginsSigned, ReadsBelow, ReadsSigned}
use Rattle.std.specs.Fmt.{signed_decimal}
use Rattle.std.specs.Str.Parse.{ParsesSigned}
use lib.IntN.{ℤ, pos, negsuc, neg_ℤ}
use lib.Signed.{mag}
use Rattle.std.proofs.Common.{w32}
use Rattle.std.specs.Int.RustNames.{FitsSigned}
use Rattle.std.proofs.lemmas.Bool.{cases_order}
use Rattle.std.proofs.lemmas.List.{get_or-drop, drop_more}
use Rattle.std.proofs.lemmas.Str.Parse.{digit_at, parse_signed_plain, parse_signed_minus}
use Rattle.std.proofs.lemmas.Fmt.{decimal_is_IsNumeral, decimal_nonempty, parse-signed_decimal, IsAscii-signed}

own : IsNumeralModel (AllDigits 10) (digits_value 10)
own = numerals_by_value _ tells_digits

pub decimal_begins : (n : ℕ) → n < 2 ^ 64 → Begins (decimal n)
decimal_begins zero small = let e : decimal 0 ≡ 48 ∷ [] = decimal_digit 0 (omega arith) in rw e ((λ h. omega (arith, h)), λ h. refl)
decimal_begins (suc n) small =
    let first = first_decimal (suc n) (omega arith) small in
    ((λ h. omega (arith, first, h)), λ h. absurd (omega (arith, first, h)))

pub begins_not : (n : ℕ) (bs : List ℕ) → n < 2 ^ 64 → (Begins bs → ⊥) → bs ≡ decimal n → ⊥
begins_not n bs small never e = never (rw e (decimal_begins n small))

pub utf8_not : (n : ℕ) (bs : List ℕ) → n < 2 ^ 64 → (IsUtf8 bs → ⊥) → bs ≡ decimal n → ⊥
utf8_not n bs small never e = never (rw e (IsUtf8-from_ascii (decimal n) (IsAscii-decimal n small)))

pub read_below : {E : Type 0} (k : ℕ) (bs : List ℕ) (r : Result ℕ E) → 2 ^ k ≤ 2 ^ 64 → Begins bs → ParsesUnsigned k 10 bs r → ReadsBelow (2 ^ k) (result_ok r) bs
read_below {E} k bs (Ok n) small lead h =
    let p = parse_plain own {E = E} k bs (Ok n) h lead.0 in
    let text = decimal-digits_value own bs p.0.0 p.0.1 lead.1 (omega (arith, p.0.2)) in
    let e : n ≡ digits_value 10 bs = p.1 in
    rw e (p.0.2, sym text)
read_below k bs (Err e) small lead h = λ n l t. let w = parse-decimal k n bs (Err e) l (omega arith) t h in (cc)

-- ---- signed numbers

pub signed_begins : (z : ℤ) → mag z < 2 ^ 63 → BeginsSigned (signed_decimal z)
signed_begins (pos n) small =
    let lead = decimal_begins n (omega arith) in
    let first : get_or (decimal n) 0 0 ≡ 45 → ⊥ = no_minus n (omega arith) in
    (lead, λ h. absurd (first h))
  where
    no_minus : (n : ℕ) → n < 2 ^ 64 → get_or (decimal n) 0 0 ≡ 45 → ⊥
    no_minus n l h = omega (arith, digit_at (decimal n) 0 (decimal_is_IsNumeral n l).0.1 (decimal_nonempty n l), h)
signed_begins (negsuc n) small = let first = first_decimal (suc n) (omega arith) (omega arith) in (((λ h. omega (arith, h)), λ h. omega (arith, h)), λ _ h. omega (arith, first, h))

pub begins_signed_not : (z : ℤ) (bs : List ℕ) → mag z < 2 ^ 63 → (BeginsSigned bs → ⊥) → bs ≡ signed_decimal z → ⊥
begins_signed_not z bs small never e = never (rw e (signed_begins z small))

pub utf8_signed_not : (z : ℤ) (bs : List ℕ) → mag z < 2 ^ 63 → (IsUtf8 bs → ⊥) → bs ≡ signed_decimal z → ⊥
utf8_signed_not z bs small never e = never (rw e (IsUtf8-from_ascii (signed_decimal z) (IsAscii-signed z small)))

-- a minus in front of a number that is not 0
record Minus (z : ℤ) (v : ℕ) : Type 0 where
  fits : FitsSigned w32 z
  text : signed_decimal z ≡ 45 ∷ decimal v

negative : (z : ℤ) (v : ℕ) → (get_or (decimal v) 0 0 ≡ 48 → ⊥) → z ≡ neg_ℤ (pos v) → v ≤ 2 ^ 31 → Minus z v
negative z zero lead e small = let d : decimal 0 ≡ 48 ∷ [] = decimal_digit 0 (omega arith) in absurd (lead (rw d refl))
negative z (suc n) lead e small = rw e (record { fits = record { sfits = omega arith }; text = refl })

pub read_signed : {E : Type 0} (bs : List ℕ) (r : Result ℤ E) → BeginsSigned bs → ParsesSigned w32 10 bs r → ReadsSigned (result_ok r) bs
read_signed {E} bs (Ok z) lead h = ⊎_elim minus (⊎_elim (λ l. plain (below l)) (λ l. plain (above l))) (cases_order (get_or bs 0 0) 45)
  where
    below : get_or bs 0 0 < 45 → get_or bs 0 0 ≡ 45 → ⊥
    below l q = omega arith

    above : 45 < get_or bs 0 0 → get_or bs 0 0 ≡ 45 → ⊥
    above l q = omega arith

    plain : (get_or bs 0 0 ≡ 45 → ⊥) → ReadsSigned (Some z) bs
    plain q =
        let p = parse_signed_plain own {E = E} w32 bs (Ok z) h lead.0.0 q in
        let text = decimal-digits_value own bs p.0.0 p.0.1 lead.0.1 (omega (arith, p.0.2)) in
        rw p.1 (record { sfits = omega (arith, p.0.2) }, sym text)

    minus : get_or bs 0 0 ≡ 45 → ReadsSigned (Some z) bs
    minus q =
        let p = parse_signed_minus own {E = E} w32 bs (Ok z) h q in
        let ds = drop 1 bs in
        let first : get_or ds 0 0 ≡ 48 → ⊥ = λ e. lead.1 q (sym (get_or-drop 1 bs 0 0) ∙ e) in
        let text = decimal-digits_value own ds p.0.0 p.0.1 (λ e. absurd (first e)) (omega (arith, p.0.2)) in
        let m = negative z (digits_value 10 ds) (λ e. first (sym (ap (λ t. get_or t 0 0) text) ∙ e)) p.1 p.0.2 in
        let whole : bs ≡ get_or bs 0 0 ∷ ds = drop_more bs 0 0 (omega (arith, length-drop 1 bs, p.0.1)) in
        (m.fits, whole ∙ ap (λ x. x ∷ ds) q ∙ ap (λ t. 45 ∷ t) (sym text) ∙ sym m.text)
read_signed bs (Err e) lead h = λ z f t. let w = parse-signed_decimal w32 z bs (Err e) f (omega (arith, f)) t h in (cc)

-- A number of 32 bits, where it is below a smaller bound, and nothing where it is not.
pub narrowed : {E : Type 0} (bound n : ℕ) (bs : List ℕ) (q : Result ℕ E) → bound ≤ 2 ^ 32 → n < 2 ^ 32 → bs ≡ decimal n → OkIff q (n < bound) n → ReadsBelow bound (result_ok q) bs
narrowed bound n bs (Ok m) small l t h = let e : m ≡ n = search (rules, h) in rw e (search (rules, h), t)
narrowed bound n bs (Err x) small l t h = λ m k u.
    let same : n ≡ m = decimal_injective n m (omega arith) (omega arith) (sym t ∙ u) in
    let below : n < bound = rw same k in
    absurd (search (rules, h, below))
