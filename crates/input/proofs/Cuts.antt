-- A text can be cut into two numbers with a slash between them in one way only. Assumes nothing.
use Rattle.std.proofs.Common.{◌≡◌, ℕ, Bool, true, false, cond, eqb, List, get_or, drop, Some, None, sym, refl, ◌∙◌, subst, arith, Bor}
use Rattle.std.specs.Str.Parse.{AllDigits}
use Rattle.std.proofs.lemmas.Str.Pattern.{IsSplitOnceResult, split_after}
use Rattle.std.proofs.lemmas.Option.{MatchOption-at_none}
use Rattle.std.proofs.lemmas.Bool.{eqb-true}
use Rattle.space.proofs.Cuts.{Parts, Free, Pieces, free_after, only}
use Rattle.input.specs.Numbers.{WritesNatural, Ratio}

slash : Parts 47
slash = record { plain = omega arith; low = omega arith; plus = λ e. omega arith; minus = λ e. omega arith }

plus_free : (bs : List ℕ) (p : Bool) → eqb (get_or bs 0 0) 43 ≡ p → AllDigits 10 (drop (cond p 1 0) bs) → Free 47 bs
plus_free bs true f d = free_after 47 slash bs 1 (omega arith) d (λ _ at. slash.plus (sym at ∙ eqb-true _ _ f))
plus_free bs false f d = free_after 47 slash bs 0 (omega arith) d (λ l. absurd (omega arith))

natural_free : (bs : List ℕ) (n : ℕ) → WritesNatural bs n → Free 47 bs
natural_free bs n w = plus_free bs _ refl w.digits.1

pub no_slash : (bs : List ℕ) (r : Pieces) → IsSplitOnceResult 47 bs r → r ≡ None → (x : ℕ × ℕ) → Ratio bs x → ⊥
no_slash bs r h e x l = MatchOption-at_none _ _ e (split_after 47 bs l.first l.second r h (omega arith) l.parted (natural_free _ _ l.over))

module _ (bs : List ℕ) (r : Pieces) (f g : Bor (List ℕ)) (h : IsSplitOnceResult 47 bs r) (e : r ≡ Some (f, g)) where
  ratio_cut : (x : ℕ × ℕ) (l : Ratio bs x) → (l.first ≡ f.now) × (l.second ≡ g.now)
  ratio_cut x l = only 47 slash bs r f g h e l.first l.second l.parted (natural_free _ _ l.over)

  pub ratio_over : (x : ℕ × ℕ) → Ratio bs x → WritesNatural f.now x.0
  ratio_over x l = subst (λ (t : List ℕ). WritesNatural t x.0) (ratio_cut x l).0 l.over

  pub ratio_under : (x : ℕ × ℕ) → Ratio bs x → WritesNatural g.now x.1
  ratio_under x l = subst (λ (t : List ℕ). WritesNatural t x.1) (ratio_cut x l).1 l.under
