-- A line can be cut into the fields of a row in one way only. Assumes nothing.
use Rattle.std.proofs.Common.{◌≡◌, ℕ, suc, [], ℤ, Bool, true, false, cond, eqb, List, ◌∷◌, ◌++◌, get_or, drop, Some, None, sym, refl, ◌∙◌, subst, arith, Bor}
use Rattle.std.specs.Bool.{⊤}
use Rattle.std.specs.Str.Parse.{AllDigits, starts_with_minus as minus}
use Rattle.std.proofs.lemmas.Str.Pattern.{IsSplitOnceResult, split_after}
use Rattle.std.proofs.lemmas.Option.{MatchOption-at_none}
use Rattle.std.proofs.lemmas.Bool.{eqb-true}
use Rattle.space.specs.Lines.{Writes}
use Rattle.space.proofs.Cuts.{Free, Parts, Pieces, free_after, only}
use Rattle.picture.specs.declared.row.DrawnRow.{DrawnRow}
use Rattle.picture.specs.AnswerLine.{NumberFirst, RowFields, SignedFirst, WritesNumber}

comma : Parts 44
comma = record { plain = omega arith; low = omega arith; plus = λ e. omega arith; minus = λ e. omega arith }

plus_free : (bs : List ℕ) (p : Bool) → eqb (get_or bs 0 0) 43 ≡ p → AllDigits 10 (drop (cond p 1 0) bs) → Free 44 bs
plus_free bs true f d = free_after 44 comma bs 1 (omega arith) d (λ _ at. comma.plus (sym at ∙ eqb-true _ _ f))
plus_free bs false f d = free_after 44 comma bs 0 (omega arith) d (λ l. absurd (omega arith))

-- no comma stands in a number
natural_free : (bs : List ℕ) (n : ℕ) → WritesNumber bs n → Free 44 bs
natural_free bs n w = plus_free bs _ refl w.digits.1

signed_free : (bs : List ℕ) (s : Bool) (p : Bool) → minus bs ≡ s → eqb (get_or bs 0 0) 43 ≡ p → AllDigits 10 (cond s (drop 1 bs) (drop (cond p 1 0) bs)) → Free 44 bs
signed_free bs true p e f d = free_after 44 comma bs 1 (omega arith) d (λ _ at. comma.minus (sym at ∙ eqb-true _ _ e))
signed_free bs false true e f d = free_after 44 comma bs 1 (omega arith) d (λ _ at. comma.plus (sym at ∙ eqb-true _ _ f))
signed_free bs false false e f d = free_after 44 comma bs 0 (omega arith) d (λ l. absurd (omega arith))

number_free : (bs : List ℕ) (z : ℤ) → Writes bs z → Free 44 bs
number_free bs z w = signed_free bs _ _ refl refl w.digits.1

-- no comma among the bytes
abbrev Lacks : List ℕ → Type 0
Lacks [] = ⊤
Lacks (x ∷ xs) = (x ≡ 44 → ⊥) × Lacks xs

lacks : (xs : List ℕ) → Free 44 xs → Lacks xs
lacks [] f = tt
lacks (x ∷ xs) f = (λ e. f 0 (omega arith) e, lacks xs (λ i h e. f (suc i) (omega arith) e))

two_cuts : (xs us ys vs : List ℕ) → Lacks xs → Lacks us → xs ++ (44 ∷ ys) ≡ us ++ (44 ∷ vs) → ys ≡ vs
two_cuts [] [] ys vs f g e = cc
two_cuts [] (u ∷ us) ys vs f g e = let same : u ≡ 44 = cc in absurd (g.0 same)
two_cuts (x ∷ xs) [] ys vs f g e = let same : x ≡ 44 = cc in absurd (f.0 same)
two_cuts (x ∷ xs) (u ∷ us) ys vs f g e = let same : xs ++ (44 ∷ ys) ≡ us ++ (44 ∷ vs) = cc in two_cuts xs us ys vs f.1 g.1 same

rest_only : (bs xs us ys vs : List ℕ) → bs ≡ xs ++ (44 ∷ ys) → bs ≡ us ++ (44 ∷ vs) → Free 44 xs → Free 44 us → ys ≡ vs
rest_only bs xs us ys vs p q f g = two_cuts xs us ys vs (lacks xs f) (lacks us g) (sym p ∙ q)

number_rest : (bs : List ℕ) (n m : ℕ) (ys vs : List ℕ) → NumberFirst bs n ys → NumberFirst bs m vs → ys ≡ vs
number_rest bs n m ys vs a b = rest_only bs a.first b.first ys vs a.parted b.parted (natural_free _ _ a.number) (natural_free _ _ b.number)

signed_rest : (bs : List ℕ) (y z : ℤ) (ys vs : List ℕ) → SignedFirst bs y ys → SignedFirst bs z vs → ys ≡ vs
signed_rest bs y z ys vs a b = rest_only bs a.first b.first ys vs a.parted b.parted (number_free _ _ a.number) (number_free _ _ b.number)

-- no comma, or no number before the first one
pub no_comma : (bs : List ℕ) (r : Pieces) → IsSplitOnceResult 44 bs r → r ≡ None → (n : ℕ) (rest : List ℕ) → NumberFirst bs n rest → ⊥
no_comma bs r h e n rest l = MatchOption-at_none _ _ e (split_after 44 bs l.first rest r h (omega arith) l.parted (natural_free _ _ l.number))

pub no_comma_signed : (bs : List ℕ) (r : Pieces) → IsSplitOnceResult 44 bs r → r ≡ None → (z : ℤ) (rest : List ℕ) → SignedFirst bs z rest → ⊥
no_comma_signed bs r h e z rest l = MatchOption-at_none _ _ e (split_after 44 bs l.first rest r h (omega arith) l.parted (number_free _ _ l.number))

module _ (bs : List ℕ) (r : Pieces) (f g : Bor (List ℕ)) (h : IsSplitOnceResult 44 bs r) (e : r ≡ Some (f, g)) where
  pub first_number : (n : ℕ) (rest : List ℕ) → NumberFirst bs n rest → WritesNumber f.now n
  first_number n rest l = subst (λ (t : List ℕ). WritesNumber t n) (only 44 comma bs r f g h e l.first rest l.parted (natural_free _ _ l.number)).0 l.number

  pub first_signed : (z : ℤ) (rest : List ℕ) → SignedFirst bs z rest → Writes f.now z
  first_signed z rest l = subst (λ (t : List ℕ). Writes t z) (only 44 comma bs r f g h e l.first rest l.parted (number_free _ _ l.number)).0 l.number

-- what is cut off a row's line are its fields, one after the other
module _ (bs : List ℕ) (n : ℕ) (r : DrawnRow) (l : RowFields bs n r) (m : ℕ) (a : List ℕ) (cut : NumberFirst bs m a) where
  pub second : NumberFirst a r.parent l.after_parent
  second = subst (λ (t : List ℕ). NumberFirst t r.parent l.after_parent) (number_rest bs _ _ _ _ l.number cut) l.parent

  module _ (p : ℕ) (b : List ℕ) (cut' : NumberFirst a p b) where
    pub third : SignedFirst b r.spot.x l.after_x
    third = subst (λ (t : List ℕ). SignedFirst t r.spot.x l.after_x) (number_rest a _ _ _ _ second cut') l.x

    module _ (x : ℤ) (d : List ℕ) (cut'' : SignedFirst b x d) where
      pub fourth : SignedFirst d r.spot.y l.after_y
      fourth = subst (λ (t : List ℕ). SignedFirst t r.spot.y l.after_y) (signed_rest b _ _ _ _ third cut'') l.y

      module _ (y : ℤ) (f : List ℕ) (cut''' : SignedFirst d y f) where
        pub fifth : SignedFirst f r.spot.level l.after_level
        fifth = subst (λ (t : List ℕ). SignedFirst t r.spot.level l.after_level) (signed_rest d _ _ _ _ fourth cut''') l.level

        pub last : (z : ℤ) (g : List ℕ) → SignedFirst f z g → WritesNumber g r.length
        last z g cut = subst (λ (t : List ℕ). WritesNumber t r.length) (signed_rest f _ _ _ _ fifth cut) l.length
