-- A box that grows holds what it held. Assumes nothing.
use Rattle.std.proofs.Common.{◌≡◌, List, [], ◌∷◌, ◌++◌, Option, None, Some, All, MatchOption, length, refl, ap, subst, arith}
use Rattle.std.proofs.lemmas.Int.{ints}
use Rattle.std.proofs.Math.ListN.{get_or-append}
use Rattle.std.proofs.lemmas.List.{get_or_push, length_push}
use Rattle.std.proofs.lemmas.List.Elements.{All-nil, All-push, All-weaker}
use Rattle.picture.specs.declared.frame.Frame.{Frame}
use Rattle.picture.specs.declared.row.DrawnRow.{DrawnRow}
use Rattle.picture.specs.Frame.{Holds, IsWithin}
use Rattle.picture.specs.DrawnTable.{IsAround, IsBoxOf}

-- the least box of the rows; there is none just where there are no rows
abbrev pub Boxed : Option Frame → List DrawnRow → Type 0
Boxed o rows = MatchOption o (rows ≡ []) (λ f. IsBoxOf f rows)

holds-within : (f g : Frame) → IsWithin f g → (r : DrawnRow) → Holds f r.spot → Holds g r.spot
holds-within f g w r h = record {
  left = omega (arith, ints, w.left, h.left);
  right = omega (arith, ints, w.right, h.right);
  bottom = omega (arith, ints, w.bottom, h.bottom);
  top = omega (arith, ints, w.top, h.top);
}

-- what holds of one more holds of those before, and of that one
front : (P : DrawnRow → Type 0) (rows : List DrawnRow) (r : DrawnRow) → All P (rows ++ r ∷ []) → All P rows
front P rows r all = λ k d h. subst P (get_or-append rows (r ∷ []) d k h) (all k d (omega (arith, h, length_push rows r)))

last : (P : DrawnRow → Type 0) (rows : List DrawnRow) (r : DrawnRow) → All P (rows ++ r ∷ []) → P r
last P rows r all = subst P (get_or_push rows r r (length rows) refl) (all (length rows) r (omega (arith, length_push rows r)))

not_none : (rows : List DrawnRow) (r : DrawnRow) → rows ++ r ∷ [] ≡ [] → ⊥
not_none rows r e = let n : length (rows ++ r ∷ []) ≡ 0 = ap length e in absurd (omega (arith, n, length_push rows r))

pub boxed_push : (o : Option Frame) (rows : List DrawnRow) (g : Frame) (r : DrawnRow) → Boxed o rows → Holds g r.spot → IsAround o g → ((k : Frame) → IsAround o k → Holds k r.spot → IsWithin g k) → Boxed (Some g) (rows ++ r ∷ [])
boxed_push None rows g r b h a least = record {
  some = not_none rows r;
  holds = rw b (All-push (λ (x : DrawnRow). Holds g x.spot) [] r (All-nil (λ (x : DrawnRow). Holds g x.spot)) h);
  least = λ k all. least k tt (last (λ (x : DrawnRow). Holds k x.spot) rows r all);
}
boxed_push (Some f) rows g r b h a least = record {
  some = not_none rows r;
  holds = All-push (λ (x : DrawnRow). Holds g x.spot) rows r (All-weaker (λ (x : DrawnRow). Holds f x.spot) (λ (x : DrawnRow). Holds g x.spot) (holds-within f g a) rows b.holds) h;
  least = λ k all. least k (b.least k (front (λ (x : DrawnRow). Holds k x.spot) rows r all)) (last (λ (x : DrawnRow). Holds k x.spot) rows r all);
}
