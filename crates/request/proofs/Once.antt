-- A line reads in one way only.
use Rattle.std.proofs.Common.{◌≡◌, ℕ, suc, ◌<◌, ◌≤◌, ◌^◌, true, false, cond, ◌==◌, List, [], ◌∷◌, length, map, refl, sym, ap, ◌∙◌, subst, arith, rules, inl, inr, ◌⊎◌, Result, Ok, Err, Option, Some, None, w32, IsOk}
use Rattle.std.specs.Prelude.{decimal, ℤ}
use Rattle.std.specs.Fmt.{signed_decimal}
use Rattle.std.specs.Int.RustNames.{FitsSigned}
use Rattle.std.proofs.lemmas.Fmt.{decimal_injective, signed_decimal_injective}
use Rattle.space.specs.declared.spot.Spot.{Spot}
use Rattle.net_laws.specs.declared.call.Call.TheVariants.{Pin, Allow, Steiner, Edge, Unseed, Span, Straight, Hook}
use Rattle.net_laws.specs.declared.call.JoinCall.TheVariants.{Wire, Joined, Share}
use Rattle.request.specs.Lines.{fields_of}
use Rattle.request.specs.Requests.{FirstBad, Good, InGrammar, Ranged, Reads, ReadsFields, ReadsOnly, Sort, behind, count_fits, first_field, is_letter, sorts_of, spelled, word_of}
use Rattle.request.specs.Requests.Sort.{word, price, coordinate, small}
use Rattle.request.specs.declared.requests.Request.{Request}
use Rattle.request.specs.declared.requests.Request.TheVariants.{Space, Change, Rows, Path, Worst}
use Rattle.request.specs.declared.requests.Word.{Word}
use Rattle.request.specs.declared.requests.Word.TheVariants.{Plane, Air}
use Rattle.request.specs.declared.fault.TextFault.{TextFault}
use Rattle.request.specs.declared.fault.TextFault.TheVariants.{LongLine, NoLetter, WrongFields, BadField, OutOfPlace, NoCall, Net}

-- ---- a request as a letter and what its other fields write

pub data Operand : Type 0 where
  named : Word → Operand
  priced : ℕ → Operand
  placed : ℤ → Operand
  counted : ℕ → Operand

abbrev text_of : Operand → List ℕ
text_of (named w) = word_of w
text_of (priced n) = decimal n
text_of (placed z) = signed_decimal z
text_of (counted n) = decimal n

-- An operand of this sort, within its range.
abbrev IsOf : Sort → Operand → Type 0
IsOf word (named w) = Unit {0}
IsOf word (priced n) = ⊥
IsOf word (placed z) = ⊥
IsOf word (counted n) = ⊥
IsOf price (named w) = ⊥
IsOf price (priced n) = n < 2 ^ 32
IsOf price (placed z) = ⊥
IsOf price (counted n) = ⊥
IsOf coordinate (named w) = ⊥
IsOf coordinate (priced n) = ⊥
IsOf coordinate (placed z) = FitsSigned w32 z
IsOf coordinate (counted n) = ⊥
IsOf small (named w) = ⊥
IsOf small (priced n) = ⊥
IsOf small (placed z) = ⊥
IsOf small (counted n) = n < 2 ^ 16

abbrev Fits : List Sort → List Operand → Type 0
Fits ss [] = Unit {0}
Fits [] (o ∷ os) = ⊥
Fits (s ∷ ss) (o ∷ os) = IsOf s o × Fits ss os

abbrev letter_of : Request → ℕ
letter_of (Space w None) = 87
letter_of (Space w (Some c)) = 87
letter_of (Change (Wire (Pin z))) = 80
letter_of (Change (Wire (Allow p q))) = 65
letter_of (Change (Wire (Steiner z))) = 86
letter_of (Change (Wire (Edge a b))) = 69
letter_of (Change (Wire Unseed)) = 85
letter_of (Change (Wire Span)) = 77
letter_of (Change (Wire Straight)) = 68
letter_of (Change (Wire Hook)) = 72
letter_of (Change Joined) = 74
letter_of (Change Share) = 83
letter_of Rows = 84
letter_of (Path k) = 75
letter_of Worst = 88

abbrev operands_of : Request → List Operand
operands_of (Space w None) = named w ∷ []
operands_of (Space w (Some c)) = named w ∷ priced c ∷ []
operands_of (Change (Wire (Pin z))) = placed z.x ∷ placed z.y ∷ placed z.level ∷ []
operands_of (Change (Wire (Allow p q))) = counted p ∷ counted q ∷ []
operands_of (Change (Wire (Steiner z))) = placed z.x ∷ placed z.y ∷ placed z.level ∷ []
operands_of (Change (Wire (Edge a b))) = counted a ∷ counted b ∷ []
operands_of (Change (Wire Unseed)) = []
operands_of (Change (Wire Span)) = []
operands_of (Change (Wire Straight)) = []
operands_of (Change (Wire Hook)) = []
operands_of (Change Joined) = []
operands_of (Change Share) = []
operands_of Rows = []
operands_of (Path k) = counted k ∷ []
operands_of Worst = []

-- The request that they write.
abbrev space_by : List Operand → Option Request
space_by (named w ∷ []) = Some (Space w None)
space_by (named w ∷ priced c ∷ []) = Some (Space w (Some c))
space_by _ = None

abbrev spot_by : (Spot → Request) → List Operand → Option Request
spot_by f (placed x ∷ placed y ∷ placed l ∷ []) = Some (f (record { x = x; y = y; level = l }))
spot_by f _ = None

abbrev pair_by : (ℕ → ℕ → Request) → List Operand → Option Request
pair_by f (counted a ∷ counted b ∷ []) = Some (f a b)
pair_by f _ = None

abbrev number_by : (ℕ → Request) → List Operand → Option Request
number_by f (counted a ∷ []) = Some (f a)
number_by f _ = None

abbrev request_by : ℕ → List Operand → Option Request
request_by l os =
    cond (l == 87) (space_by os)
    (cond (l == 80) (spot_by (λ z. Change (Wire (Pin z))) os)
    (cond (l == 65) (pair_by (λ p q. Change (Wire (Allow p q))) os)
    (cond (l == 86) (spot_by (λ z. Change (Wire (Steiner z))) os)
    (cond (l == 69) (pair_by (λ a b. Change (Wire (Edge a b))) os)
    (cond (l == 85) (Some (Change (Wire Unseed)))
    (cond (l == 77) (Some (Change (Wire Span)))
    (cond (l == 68) (Some (Change (Wire Straight)))
    (cond (l == 72) (Some (Change (Wire Hook)))
    (cond (l == 74) (Some (Change Joined))
    (cond (l == 83) (Some (Change Share))
    (cond (l == 84) (Some Rows)
    (cond (l == 75) (number_by Path os)
    (cond (l == 88) (Some Worst) None)))))))))))))

written : (a : Request) → request_by (letter_of a) (operands_of a) ≡ Some a
written (Space w None) = refl
written (Space w (Some c)) = refl
written (Change (Wire (Pin z))) = refl
written (Change (Wire (Allow p q))) = refl
written (Change (Wire (Steiner z))) = refl
written (Change (Wire (Edge a b))) = refl
written (Change (Wire Unseed)) = refl
written (Change (Wire Span)) = refl
written (Change (Wire Straight)) = refl
written (Change (Wire Hook)) = refl
written (Change Joined) = refl
written (Change Share) = refl
written Rows = refl
written (Path k) = refl
written Worst = refl

texts : (a : Request) → spelled a ≡ (letter_of a ∷ []) ∷ map text_of (operands_of a)
texts (Space w None) = refl
texts (Space w (Some c)) = refl
texts (Change (Wire (Pin z))) = refl
texts (Change (Wire (Allow p q))) = refl
texts (Change (Wire (Steiner z))) = refl
texts (Change (Wire (Edge a b))) = refl
texts (Change (Wire Unseed)) = refl
texts (Change (Wire Span)) = refl
texts (Change (Wire Straight)) = refl
texts (Change (Wire Hook)) = refl
texts (Change Joined) = refl
texts (Change Share) = refl
texts Rows = refl
texts (Path k) = refl
texts Worst = refl

fits : (a : Request) → Ranged a → Fits (sorts_of (letter_of a ∷ [])) (operands_of a)
fits (Space w None) h = (tt, tt)
fits (Space w (Some c)) h = (tt, (h, tt))
fits (Change (Wire (Pin z))) h = (h.0, (h.1, (h.2, tt)))
fits (Change (Wire (Allow p q))) h = (h.0, (h.1, tt))
fits (Change (Wire (Steiner z))) h = (h.0, (h.1, (h.2, tt)))
fits (Change (Wire (Edge a b))) h = (h.0, (h.1, tt))
fits (Change (Wire Unseed)) h = tt
fits (Change (Wire Span)) h = tt
fits (Change (Wire Straight)) h = tt
fits (Change (Wire Hook)) h = tt
fits (Change Joined) h = tt
fits (Change Share) h = tt
fits Rows h = tt
fits (Path k) h = (h, tt)
fits Worst h = tt

lettered : (a : Request) → is_letter (letter_of a ∷ []) ≡ true
lettered (Space w None) = refl
lettered (Space w (Some c)) = refl
lettered (Change (Wire (Pin z))) = refl
lettered (Change (Wire (Allow p q))) = refl
lettered (Change (Wire (Steiner z))) = refl
lettered (Change (Wire (Edge a b))) = refl
lettered (Change (Wire Unseed)) = refl
lettered (Change (Wire Span)) = refl
lettered (Change (Wire Straight)) = refl
lettered (Change (Wire Hook)) = refl
lettered (Change Joined) = refl
lettered (Change Share) = refl
lettered Rows = refl
lettered (Path k) = refl
lettered Worst = refl

counts : (a : Request) → count_fits (letter_of a ∷ []) (length (spelled a)) ≡ true
counts (Space w None) = refl
counts (Space w (Some c)) = refl
counts (Change (Wire (Pin z))) = refl
counts (Change (Wire (Allow p q))) = refl
counts (Change (Wire (Steiner z))) = refl
counts (Change (Wire (Edge a b))) = refl
counts (Change (Wire Unseed)) = refl
counts (Change (Wire Span)) = refl
counts (Change (Wire Straight)) = refl
counts (Change (Wire Hook)) = refl
counts (Change Joined) = refl
counts (Change Share) = refl
counts Rows = refl
counts (Path k) = refl
counts Worst = refl

-- ---- an operand by its text

same_word : (v w : Word) → word_of v ≡ word_of w → v ≡ w
same_word Plane Plane e = refl
same_word Air Air e = refl
same_word Plane Air e = (cc)
same_word Air Plane e = (cc)

same_operand : (s : Sort) (o p : Operand) → IsOf s o → IsOf s p → text_of o ≡ text_of p → o ≡ p
same_operand word (named w) (named v) h k e = ap named (same_word w v e)
same_operand word (named w) (priced m) h k e = elim k [ ]
same_operand word (named w) (placed y) h k e = elim k [ ]
same_operand word (named w) (counted m) h k e = elim k [ ]
same_operand word (priced n) p h k e = elim h [ ]
same_operand word (placed z) p h k e = elim h [ ]
same_operand word (counted n) p h k e = elim h [ ]
same_operand price (named w) p h k e = elim h [ ]
same_operand price (priced n) (named v) h k e = elim k [ ]
same_operand price (priced n) (priced m) h k e = ap priced (decimal_injective n m (omega arith) (omega arith) e)
same_operand price (priced n) (placed y) h k e = elim k [ ]
same_operand price (priced n) (counted m) h k e = elim k [ ]
same_operand price (placed z) p h k e = elim h [ ]
same_operand price (counted n) p h k e = elim h [ ]
same_operand coordinate (named w) p h k e = elim h [ ]
same_operand coordinate (priced n) p h k e = elim h [ ]
same_operand coordinate (placed z) (named v) h k e = elim k [ ]
same_operand coordinate (placed z) (priced m) h k e = elim k [ ]
same_operand coordinate (placed z) (placed y) h k e = ap placed (signed_decimal_injective z y (omega (arith, h)) (omega (arith, k)) e)
same_operand coordinate (placed z) (counted m) h k e = elim k [ ]
same_operand coordinate (counted n) p h k e = elim h [ ]
same_operand small (named w) p h k e = elim h [ ]
same_operand small (priced n) p h k e = elim h [ ]
same_operand small (placed z) p h k e = elim h [ ]
same_operand small (counted n) (named v) h k e = elim k [ ]
same_operand small (counted n) (priced m) h k e = elim k [ ]
same_operand small (counted n) (placed y) h k e = elim k [ ]
same_operand small (counted n) (counted m) h k e = ap counted (decimal_injective n m (omega arith) (omega arith) e)

same_operands : (ss : List Sort) (os ps : List Operand) → Fits ss os → Fits ss ps → map text_of os ≡ map text_of ps → os ≡ ps
same_operands ss [] [] h k e = refl
same_operands ss [] (p ∷ ps) h k e = (cc)
same_operands ss (o ∷ os) [] h k e = (cc)
same_operands [] (o ∷ os) (p ∷ ps) h k e = elim h [ ]
same_operands (s ∷ ss) (o ∷ os) (p ∷ ps) h k e =
    let first : text_of o ≡ text_of p = (cc) in
    let rest : map text_of os ≡ map text_of ps = (cc) in
    let one = same_operand s o p h.0 k.0 first in
    let more = same_operands ss os ps h.1 k.1 rest in
    (cc)

same_request : (a b : Request) → Ranged a → Ranged b → spelled a ≡ spelled b → a ≡ b
same_request a b h k e =
    let both : (letter_of a ∷ []) ∷ map text_of (operands_of a) ≡ (letter_of b ∷ []) ∷ map text_of (operands_of b) = sym (texts a) ∙ e ∙ texts b in
    let letters : letter_of a ≡ letter_of b = (cc) in
    let rest : map text_of (operands_of a) ≡ map text_of (operands_of b) = (cc) in
    let P : ℕ → Type 0 = λ l. Fits (sorts_of (l ∷ [])) (operands_of b) in
    let os : operands_of a ≡ operands_of b = same_operands (sorts_of (letter_of a ∷ [])) (operands_of a) (operands_of b) (fits a h) (subst P (sym letters) (fits b k)) rest in
    let same : Some a ≡ Some b = sym (written a) ∙ ap (λ l. request_by l (operands_of a)) letters ∙ ap (request_by (letter_of b)) os ∙ written b in
    (cc)

-- ---- the refusals

good : (s : Sort) (o : Operand) → IsOf s o → Good s (text_of o)
good word (named w) h = (w, refl)
good word (priced n) h = elim h [ ]
good word (placed z) h = elim h [ ]
good word (counted n) h = elim h [ ]
good price (named w) h = elim h [ ]
good price (priced n) h = (n, h, refl)
good price (placed z) h = elim h [ ]
good price (counted n) h = elim h [ ]
good coordinate (named w) h = elim h [ ]
good coordinate (priced n) h = elim h [ ]
good coordinate (placed z) h = (z, h, refl)
good coordinate (counted n) h = elim h [ ]
good small (named w) h = elim h [ ]
good small (priced n) h = elim h [ ]
good small (placed z) h = elim h [ ]
good small (counted n) h = (n, h, refl)

none_bad : (ss : List Sort) (os : List Operand) (i f : ℕ) → Fits ss os → FirstBad ss (map text_of os) i f → ⊥
none_bad [] os i f h b = elim b [ ]
none_bad (s ∷ ss) [] i f h b = elim b [ ]
none_bad (s ∷ ss) (o ∷ os) i f h (inl b) = b.1 (good s o h.0)
none_bad (s ∷ ss) (o ∷ os) i f h (inr b) = none_bad ss os (suc i) f h.1 b.1

one_bad : (ss : List Sort) (ts : List (List ℕ)) (i f g : ℕ) → FirstBad ss ts i f → FirstBad ss ts i g → f ≡ g
one_bad [] ts i f g b c = elim b [ ]
one_bad (s ∷ ss) [] i f g b c = elim b [ ]
one_bad (s ∷ ss) (t ∷ ts) i f g (inl b) (inl c) = b.0 ∙ sym c.0
one_bad (s ∷ ss) (t ∷ ts) i f g (inl b) (inr c) = absurd (b.1 c.0)
one_bad (s ∷ ss) (t ∷ ts) i f g (inr b) (inl c) = absurd (c.1 b.0)
one_bad (s ∷ ss) (t ∷ ts) i f g (inr b) (inr c) = one_bad ss ts (suc i) f g b.1 c.1

-- a request's fields are not refused
not_letter : (fs : List (List ℕ)) (a : Request) → fs ≡ spelled a → is_letter (first_field fs) ≡ false → ⊥
not_letter fs a e h =
    let P : List (List ℕ) → Type 0 = λ x. is_letter (first_field x) ≡ false in
    let no = subst P (e ∙ texts a) h in
    let yes = lettered a in
    (cc)

not_fields : (fs : List (List ℕ)) (a : Request) → fs ≡ spelled a → count_fits (first_field fs) (length fs) ≡ false → ⊥
not_fields fs a e h =
    let P : List (List ℕ) → Type 0 = λ x. count_fits (first_field x) (length (spelled a)) ≡ false in
    let Q : List (List ℕ) → Type 0 = λ x. count_fits (first_field fs) (length x) ≡ false in
    let no = subst P (e ∙ texts a) (subst Q e h) in
    let yes = counts a in
    (cc)

not_bad : (fs : List (List ℕ)) (a : Request) (f : ℕ) → Ranged a → fs ≡ spelled a → FirstBad (sorts_of (first_field fs)) (behind fs) 2 f → ⊥
not_bad fs a f r e h =
    let P : List (List ℕ) → Type 0 = λ x. FirstBad (sorts_of (first_field x)) (behind x) 2 f in
    none_bad (sorts_of (letter_of a ∷ [])) (operands_of a) 2 f (fits a r) (subst P (e ∙ texts a) h)

once : (fs : List (List ℕ)) (r s : Result Request TextFault) → ReadsFields fs r → ReadsFields fs s → r ≡ s
once fs (Ok a) (Ok b) h k = ap Ok (same_request a b h.0 k.0 (sym h.1 ∙ k.1))
once fs (Ok a) (Err NoLetter) h k = absurd (not_letter fs a h.1 k)
once fs (Ok a) (Err WrongFields) h k = absurd (not_fields fs a h.1 k.1)
once fs (Ok a) (Err (BadField f)) h k = absurd (not_bad fs a f h.0 h.1 k.2)
once fs (Err NoLetter) (Ok b) h k = absurd (not_letter fs b k.1 h)
once fs (Err WrongFields) (Ok b) h k = absurd (not_fields fs b k.1 h.1)
once fs (Err (BadField f)) (Ok b) h k = absurd (not_bad fs b f k.0 k.1 h.2)
once fs (Err NoLetter) (Err NoLetter) h k = refl
once fs (Err WrongFields) (Err WrongFields) h k = refl
once fs (Err (BadField f)) (Err (BadField g)) h k = ap (λ x. Err (BadField x)) (one_bad (sorts_of (first_field fs)) (behind fs) 2 f g h.2 k.2)
once fs (Err NoLetter) (Err WrongFields) h k = let a = h in let b = k.0 in absurd (cc)
once fs (Err NoLetter) (Err (BadField g)) h k = let a = h in let b = k.0 in absurd (cc)
once fs (Err WrongFields) (Err NoLetter) h k = let a = h.0 in let b = k in absurd (cc)
once fs (Err WrongFields) (Err (BadField g)) h k = let a = h.1 in let b = k.1 in absurd (cc)
once fs (Err (BadField f)) (Err NoLetter) h k = let a = h.0 in let b = k in absurd (cc)
once fs (Err (BadField f)) (Err WrongFields) h k = let a = h.1 in let b = k.1 in absurd (cc)
once fs (Err LongLine) s h k = elim h [ ]
once fs (Err OutOfPlace) s h k = elim h [ ]
once fs (Err NoCall) s h k = elim h [ ]
once fs (Err (Net x)) s h k = elim h [ ]
once fs (Ok a) (Err LongLine) h k = elim k [ ]
once fs (Ok a) (Err OutOfPlace) h k = elim k [ ]
once fs (Ok a) (Err NoCall) h k = elim k [ ]
once fs (Ok a) (Err (Net x)) h k = elim k [ ]
once fs (Err NoLetter) (Err LongLine) h k = elim k [ ]
once fs (Err NoLetter) (Err OutOfPlace) h k = elim k [ ]
once fs (Err NoLetter) (Err NoCall) h k = elim k [ ]
once fs (Err NoLetter) (Err (Net x)) h k = elim k [ ]
once fs (Err WrongFields) (Err LongLine) h k = elim k [ ]
once fs (Err WrongFields) (Err OutOfPlace) h k = elim k [ ]
once fs (Err WrongFields) (Err NoCall) h k = elim k [ ]
once fs (Err WrongFields) (Err (Net x)) h k = elim k [ ]
once fs (Err (BadField f)) (Err LongLine) h k = elim k [ ]
once fs (Err (BadField f)) (Err OutOfPlace) h k = elim k [ ]
once fs (Err (BadField f)) (Err NoCall) h k = elim k [ ]
once fs (Err (BadField f)) (Err (Net x)) h k = elim k [ ]

-- the fields of a line that is not refused as too long
abbrev Short : List ℕ → Result Request TextFault → Type 0
Short line r = (length line ≤ 80) × ReadsFields (fields_of line) r

short : (line : List ℕ) (r : Result Request TextFault) → Reads line r → (Short line r) ⊎ ((r ≡ Err LongLine) × (80 < length line))
short line (Ok a) h = inl h
short line (Err LongLine) h = inr (refl, h)
short line (Err NoLetter) h = inl h
short line (Err WrongFields) h = inl h
short line (Err (BadField f)) h = inl h
short line (Err OutOfPlace) h = elim h [ ]
short line (Err NoCall) h = elim h [ ]
short line (Err (Net x)) h = elim h [ ]

both : (line : List ℕ) (r s : Result Request TextFault) → (Short line r) ⊎ ((r ≡ Err LongLine) × (80 < length line)) → (Short line s) ⊎ ((s ≡ Err LongLine) × (80 < length line)) → r ≡ s
both line r s (inl h) (inl k) = once (fields_of line) r s h.1 k.1
both line r s (inl h) (inr k) = absurd (omega (arith, h.0, k.1))
both line r s (inr h) (inl k) = absurd (omega (arith, k.0, h.1))
both line r s (inr h) (inr k) = h.0 ∙ sym k.0

pub reads_only : (line : List ℕ) (r : Result Request TextFault) → Reads line r → ReadsOnly line r
reads_only line r h = λ s k. both line s r (short line s k) (short line r h)

-- What is read is in the grammar, and what is in the grammar is read.
pub read_in : (line : List ℕ) (r : Result Request TextFault) → Reads line r → IsOk r → InGrammar line
read_in line (Ok a) h ok = (a, h.0, h.1.0, h.1.1)
read_in line (Err e) h ok = absurd (search (rules, ok))

pub in_read : (line : List ℕ) (r : Result Request TextFault) → Reads line r → InGrammar line → IsOk r
in_read line r h (a, l, ranged, text) = let e = reads_only line r h (Ok a) (l, (ranged, text)) in subst (λ x. IsOk x) e (search rules)
