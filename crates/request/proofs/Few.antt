-- The first five fields of a line tell what it asks.
use Rattle.std.proofs.Common.{◌≡◌, ℕ, ◌≤◌, Bool, true, false, eqb, ◌&&◌, List, [], ◌∷◌, length, take, refl, sym, subst, arith, Result, Ok, Err, Some, None}
use Rattle.std.proofs.lemmas.Bool.{ne_eqb}
use Rattle.request.specs.Lines.{fields_of}
use Rattle.net_laws.specs.declared.call.Call.TheVariants.{Pin, Allow, Steiner, Edge, Unseed, Span, Straight, Hook}
use Rattle.net_laws.specs.declared.call.JoinCall.TheVariants.{Wire, Joined, Share}
use Rattle.request.specs.Requests.{Reads, ReadsFields, count_fits, spelled}
use Rattle.request.specs.declared.requests.Request.{Request}
use Rattle.request.specs.declared.requests.Request.TheVariants.{Space, Change, Rows, Path, Worst}
use Rattle.request.specs.declared.fault.TextFault.{TextFault}
use Rattle.request.specs.declared.fault.TextFault.TheVariants.{LongLine, NoLetter, WrongFields, BadField, OutOfPlace, NoCall, Net}

and_false : (b : Bool) → (b && false) ≡ false
and_false true = refl
and_false false = refl

count_over : (l : List ℕ) (n : ℕ) → 5 ≤ n → count_fits l n ≡ false
count_over l n h =
    let one : eqb n 1 ≡ false = ne_eqb n 1 (λ e. omega (arith, e)) in
    let two : eqb n 2 ≡ false = ne_eqb n 2 (λ e. omega (arith, e)) in
    let three : eqb n 3 ≡ false = ne_eqb n 3 (λ e. omega (arith, e)) in
    let four : eqb n 4 ≡ false = ne_eqb n 4 (λ e. omega (arith, e)) in
    rw (one, two, three, four) (simp and_false)

short : (a : Request) → length (spelled a) ≤ 4
short (Space w None) = omega arith
short (Space w (Some c)) = omega arith
short (Change (Wire (Pin z))) = omega arith
short (Change (Wire (Allow p q))) = omega arith
short (Change (Wire (Steiner z))) = omega arith
short (Change (Wire (Edge a b))) = omega arith
short (Change (Wire Unseed)) = omega arith
short (Change (Wire Span)) = omega arith
short (Change (Wire Straight)) = omega arith
short (Change (Wire Hook)) = omega arith
short (Change Joined) = omega arith
short (Change Share) = omega arith
short Rows = omega arith
short (Path k) = omega arith
short Worst = omega arith

pub few : (fs : List (List ℕ)) (r : Result Request TextFault) → ReadsFields (take 5 fs) r → ReadsFields fs r
few [] r h = h
few (a ∷ []) r h = h
few (a ∷ b ∷ []) r h = h
few (a ∷ b ∷ c ∷ []) r h = h
few (a ∷ b ∷ c ∷ d ∷ []) r h = h
few (a ∷ b ∷ c ∷ d ∷ e ∷ []) r h = h
few (a ∷ b ∷ c ∷ d ∷ e ∷ f ∷ fs) (Ok x) h =
    let s = short x in
    let t : 5 ≤ 4 = subst (λ ys. length ys ≤ 4) (sym h.1) s in
    absurd (omega (arith, t))
few (a ∷ b ∷ c ∷ d ∷ e ∷ f ∷ fs) (Err NoLetter) h = h
few (a ∷ b ∷ c ∷ d ∷ e ∷ f ∷ fs) (Err WrongFields) h = (h.0, count_over a (length (a ∷ b ∷ c ∷ d ∷ e ∷ f ∷ fs)) (omega arith))
few (a ∷ b ∷ c ∷ d ∷ e ∷ f ∷ fs) (Err (BadField i)) h =
    let no = count_over a 5 (omega arith) in
    let yes = h.1 in
    absurd (cc)
few (a ∷ b ∷ c ∷ d ∷ e ∷ f ∷ fs) (Err LongLine) h = h
few (a ∷ b ∷ c ∷ d ∷ e ∷ f ∷ fs) (Err OutOfPlace) h = h
few (a ∷ b ∷ c ∷ d ∷ e ∷ f ∷ fs) (Err NoCall) h = h
few (a ∷ b ∷ c ∷ d ∷ e ∷ f ∷ fs) (Err (Net x)) h = h

-- The fields of a line that is not too long say what the line asks.
pub reads : (line : List ℕ) (r : Result Request TextFault) → length line ≤ 80 → ReadsFields (fields_of line) r → Reads line r
reads line (Ok x) l h = (l, h)
reads line (Err NoLetter) l h = (l, h)
reads line (Err WrongFields) l h = (l, h)
reads line (Err (BadField i)) l h = (l, h)
reads line (Err LongLine) l h = elim h [ ]
reads line (Err OutOfPlace) l h = elim h [ ]
reads line (Err NoCall) l h = elim h [ ]
reads line (Err (Net x)) l h = elim h [ ]
