-- Which lines ask what, and which refusal of the text the others get. Assumes nothing.
use Rattle.std.specs.Prelude.{◌≡◌, ℕ, suc, ◌<◌, ◌≤◌, ◌^◌, Bool, true, false, if◌then◌else◌, ◌||◌, ◌&&◌, ◌==◌, decimal, ◌⊎◌, List, [], ◌∷◌, length, codes, Ok, Err, Result, Some, None, Option, ℤ}
use Rattle.std.specs.Fmt.{signed_decimal}
use Rattle.std.specs.Int.RustNames.{FitsSigned}
use Rattle.std.specs.Int.{w32}
use Rattle.std.specs.Str.{bytes_eq}
use Rattle.space.specs.declared.spot.Spot.{Spot}
use Rattle.net_laws.specs.declared.call.Call.{Call}
use Rattle.net_laws.specs.declared.call.Call.TheVariants.{Pin, Allow, Steiner, Edge, Unseed, Span, Straight, Hook}
use Rattle.net_laws.specs.declared.call.JoinCall.TheVariants.{Wire, Joined, Share}
use Rattle.request.specs.Lines.{fields_of}
use Rattle.request.specs.declared.fault.TextFault.{TextFault}
use Rattle.request.specs.declared.fault.TextFault.TheVariants.{LongLine, NoLetter, WrongFields, BadField, OutOfPlace, NoCall, Net}
use Rattle.request.specs.declared.requests.Request.{Request}
use Rattle.request.specs.declared.requests.Request.TheVariants.{Space, Change, Rows, Path, Worst}
use Rattle.request.specs.declared.requests.Word.{Word}
use Rattle.request.specs.declared.requests.Word.TheVariants.{Plane, Air}

abbrev pub word_of : Word → List ℕ
word_of Plane = codes "plane"
word_of Air = codes "air"

-- ---- the grammar

abbrev pub spot_fields : Spot → List (List ℕ)
spot_fields z = signed_decimal z.x ∷ signed_decimal z.y ∷ signed_decimal z.level ∷ []

abbrev pub space_fields : Word → Option ℕ → List (List ℕ)
space_fields w None = codes "W" ∷ word_of w ∷ []
space_fields w (Some price) = codes "W" ∷ word_of w ∷ decimal price ∷ []

abbrev pub call_fields : Call → List (List ℕ)
call_fields (Pin z) = codes "P" ∷ spot_fields z
call_fields (Allow p q) = codes "A" ∷ decimal p ∷ decimal q ∷ []
call_fields (Steiner z) = codes "V" ∷ spot_fields z
call_fields (Edge a b) = codes "E" ∷ decimal a ∷ decimal b ∷ []
call_fields Unseed = codes "U" ∷ []
call_fields Span = codes "M" ∷ []
call_fields Straight = codes "D" ∷ []
call_fields Hook = codes "H" ∷ []

-- The fields of the line that asks this. There is one such line and no other.
abbrev pub spelled : Request → List (List ℕ)
spelled (Space w price) = space_fields w price
spelled (Change (Wire c)) = call_fields c
spelled (Change Joined) = codes "J" ∷ []
spelled (Change Share) = codes "S" ∷ []
spelled Rows = codes "T" ∷ []
spelled (Path k) = codes "K" ∷ decimal k ∷ []
spelled Worst = codes "X" ∷ []

-- The numbers of a request are within their ranges.
abbrev pub RangedSpot : Spot → Type 0
RangedSpot z = FitsSigned w32 z.x × FitsSigned w32 z.y × FitsSigned w32 z.level

abbrev pub RangedPrice : Option ℕ → Type 0
RangedPrice None = Unit {0}
RangedPrice (Some price) = price < 2 ^ 32

abbrev pub RangedCall : Call → Type 0
RangedCall (Pin z) = RangedSpot z
RangedCall (Allow p q) = (p < 2 ^ 16) × (q < 2 ^ 16)
RangedCall (Steiner z) = RangedSpot z
RangedCall (Edge a b) = (a < 2 ^ 16) × (b < 2 ^ 16)
RangedCall Unseed = Unit {0}
RangedCall Span = Unit {0}
RangedCall Straight = Unit {0}
RangedCall Hook = Unit {0}

abbrev pub Ranged : Request → Type 0
Ranged (Space w price) = RangedPrice price
Ranged (Change (Wire c)) = RangedCall c
Ranged (Change Joined) = Unit {0}
Ranged (Change Share) = Unit {0}
Ranged Rows = Unit {0}
Ranged (Path k) = k < 2 ^ 16
Ranged Worst = Unit {0}

-- ---- the refusals

-- What a field has to be: the word of a space, a price, a coordinate of a spot, or another number.
pub data Sort : Type 0 where
  word : Sort
  price : Sort
  coordinate : Sort
  small : Sort

abbrev pub Good : Sort → List ℕ → Type 0
Good word text = (w : Word) × (text ≡ word_of w)
Good price text = (n : ℕ) × (n < 2 ^ 32) × (text ≡ decimal n)
Good coordinate text = (z : ℤ) × FitsSigned w32 z × (text ≡ signed_decimal z)
Good small text = (n : ℕ) × (n < 2 ^ 16) × (text ≡ decimal n)

abbrev pub first_field : List (List ℕ) → List ℕ
first_field [] = []
first_field (f ∷ fs) = f

abbrev pub behind : List (List ℕ) → List (List ℕ)
behind [] = []
behind (f ∷ fs) = fs

abbrev pub is_letter : List ℕ → Bool
is_letter f =
    bytes_eq f (codes "W") || bytes_eq f (codes "P") || bytes_eq f (codes "A") || bytes_eq f (codes "V") || bytes_eq f (codes "E") || bytes_eq f (codes "U") || bytes_eq f (codes "M") || bytes_eq f (codes "D")
    || bytes_eq f (codes "J") || bytes_eq f (codes "H") || bytes_eq f (codes "S") || bytes_eq f (codes "T") || bytes_eq f (codes "K") || bytes_eq f (codes "X")

-- Whether a line with this letter has this many fields, its letter among them.
abbrev pub count_fits : List ℕ → ℕ → Bool
count_fits l n =
    (bytes_eq l (codes "W") && (n == 2 || n == 3)) || (bytes_eq l (codes "P") && n == 4) || (bytes_eq l (codes "A") && n == 3) || (bytes_eq l (codes "V") && n == 4) || (bytes_eq l (codes "E") && n == 3)
    || (bytes_eq l (codes "U") && n == 1) || (bytes_eq l (codes "M") && n == 1) || (bytes_eq l (codes "D") && n == 1) || (bytes_eq l (codes "J") && n == 1) || (bytes_eq l (codes "H") && n == 1)
    || (bytes_eq l (codes "S") && n == 1) || (bytes_eq l (codes "T") && n == 1) || (bytes_eq l (codes "K") && n == 2) || (bytes_eq l (codes "X") && n == 1)

-- What the fields behind a letter have to be; a price may be left out.
abbrev pub sorts_of : List ℕ → List Sort
sorts_of l =
    if bytes_eq l (codes "W") then word ∷ price ∷ []
    else if bytes_eq l (codes "P") || bytes_eq l (codes "V") then coordinate ∷ coordinate ∷ coordinate ∷ []
    else if bytes_eq l (codes "A") || bytes_eq l (codes "E") then small ∷ small ∷ []
    else if bytes_eq l (codes "K") then small ∷ []
    else []

-- Counted from i, the field f is the first that is not good.
abbrev pub FirstBad : List Sort → List (List ℕ) → (i f : ℕ) → Type 0
FirstBad [] ts i f = ⊥
FirstBad (s ∷ ss) [] i f = ⊥
FirstBad (s ∷ ss) (t ∷ ts) i f = ((f ≡ i) × (Good s t → ⊥)) ⊎ (Good s t × FirstBad ss ts (suc i) f)

-- What the fields ask, or their refusal.
abbrev pub ReadsFields : List (List ℕ) → Result Request TextFault → Type 0
ReadsFields fs (Ok r) = Ranged r × (fs ≡ spelled r)
ReadsFields fs (Err NoLetter) = is_letter (first_field fs) ≡ false
ReadsFields fs (Err WrongFields) = (is_letter (first_field fs) ≡ true) × (count_fits (first_field fs) (length fs) ≡ false)
ReadsFields fs (Err (BadField f)) =
    (is_letter (first_field fs) ≡ true) × (count_fits (first_field fs) (length fs) ≡ true) × FirstBad (sorts_of (first_field fs)) (behind fs) 2 f
ReadsFields fs (Err LongLine) = ⊥
ReadsFields fs (Err OutOfPlace) = ⊥
ReadsFields fs (Err NoCall) = ⊥
ReadsFields fs (Err (Net e)) = ⊥

-- What a line asks, or its refusal as text: at most 80 bytes, a known letter, that letter's fields, each field good.
abbrev pub Reads : List ℕ → Result Request TextFault → Type 0
Reads line (Err LongLine) = 80 < length line
Reads line (Ok r) = (length line ≤ 80) × ReadsFields (fields_of line) (Ok r)
Reads line (Err NoLetter) = (length line ≤ 80) × ReadsFields (fields_of line) (Err NoLetter)
Reads line (Err WrongFields) = (length line ≤ 80) × ReadsFields (fields_of line) (Err WrongFields)
Reads line (Err (BadField f)) = (length line ≤ 80) × ReadsFields (fields_of line) (Err (BadField f))
Reads line (Err OutOfPlace) = ⊥
Reads line (Err NoCall) = ⊥
Reads line (Err (Net e)) = ⊥

-- The line reads so, and in no other way.
abbrev pub ReadsOnly : List ℕ → Result Request TextFault → Type 0
ReadsOnly line r = (s : Result Request TextFault) → Reads line s → s ≡ r

-- The line is in the grammar: it spells a request whose numbers are within their ranges.
abbrev pub InGrammar : List ℕ → Type 0
InGrammar line = (r : Request) × (length line ≤ 80) × Ranged r × (fields_of line ≡ spelled r)
