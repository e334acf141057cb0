-- What the measuring, the walk and the laying come to. `d` is the distance of two spots. Assumes nothing.
use Rattle.std.proofs.Common.{◌≡◌, ℕ, ◌<◌, ◌≤◌, true, false, List, Ok, Err, OnOk, Result, is_ok, map, length, sym, refl, ap, ◌∙◌, subst, ⊎_elim, slice_index, arith}
use Rattle.std.proofs.lemmas.Bool.{both_ways}
use Rattle.space.specs.declared.TheConstants.{LONGEST}
use Rattle.space.specs.Spots.{spot_of}
use Rattle.space.specs.declared.spot.Spot.{Spot}
use Rattle.forest.specs.declared.Edge.{Edge}
use Rattle.forest.specs.Edges.{Sound}
use Rattle.walk_laws.specs.Walk.{Rules, Marks}
use Rattle.walk_laws.specs.Promise.{Branch}
use Rattle.walk_laws.proofs.Planting.{branch_length, planted_spans}
use Rattle.walk.specs.declared.table.WalkFault.{WalkFault}
use Rattle.walk.specs.Walked.{Walked}
use Rattle.tree_laws.specs.declared.Row.{Row}
use Rattle.tree_laws.specs.Trees.{RowTree, row_length, wire_of}
use Rattle.build_laws.specs.Straight.{Straight, breakpoints, net_rules, straight}
use Rattle.build_laws.proofs.Building.{straight_of}
use Rattle.straight.specs.Built.{Straightened}
use Rattle.straight.specs.Laying.{laying_rules}
use Rattle.straight.proofs.Rows.{straight_same, straight_short}

-- what a call ensures where it is not refused, and it is not
pub on_ok : {P : Type 0} (r : Result (Unit {0}) WalkFault) → is_ok r ≡ true → OnOk r P → P
on_ok (Ok x) e h = h
on_ok (Err x) e h = absurd (both_ways false refl e)

-- the edge of a node that hangs on its parent from the walk is one of the seed, so it is short
walked_short : (R : Rules) (n : ℕ) (E : List Edge) (S : Marks) → Sound n E → Walked R n E S → (v : ℕ) → v < n → (v ≡ 0 → ⊥) → (S v).broken ≡ false → (S v).edge ≤ LONGEST
walked_short R n E S s w v h nz b =
    let t = w.keeps.told v h in
    ⊎_elim
    (λ (d : Branch 0 w.planted.forest (S v).parent v (S v).edge). (branch_length n E s w.planted (S v).parent v (S v).edge d).1)
    (λ (d : Branch 0 w.planted.forest v (S v).parent (S v).edge). (branch_length n E s w.planted v (S v).parent (S v).edge d).1)
    (w.keeps.hangs v t.0 h nz b t.1).neighbour

module _ (d : Spot → Spot → ℕ) (spots : List Spot) (p q pins n : ℕ) (E : List Edge) (old new : List ℕ) (S : Marks) (pos : 0 < q) (sound : Sound n E) (size : n ≡ length spots)
    (measured : old ≡ map (d (spot_of spots 0)) spots) (walks : Walked (record { p = p; q = q; pins = pins; direct = slice_index old }) n E S) (kept : new ≡ old) where
  abbrev R : Rules
  R = net_rules d spots pins p q

  whole_walked : Walked R n E S
  whole_walked =
      let P : (ℕ → ℕ) → Type 0 = λ f. Walked (record { p = p; q = q; pins = pins; direct = f }) n E S in
      subst P (ap slice_index measured) walks

  abbrev laid : List Row
  laid = straight (laying_rules new) S (spot_of spots) (length spots)

  laid_is : laid ≡ straight R S (spot_of spots) n
  laid_is =
      let same : slice_index new ≡ R.direct = ap slice_index (kept ∙ measured) in
      straight_same (laying_rules new) R S (spot_of spots) (λ k. ap (λ f. f k) same) (length spots) ∙ ap (straight R S (spot_of spots)) (sym size)

  whole_keeps : Straight R n whole_walked.planted.forest S laid
  whole_keeps =
      let Q : List Row → Type 0 = λ rows. Straight R n whole_walked.planted.forest S rows in
      subst Q (sym laid_is)
      (straight_of R n whole_walked.planted.rank whole_walked.planted.forest S (spot_of spots) pos (planted_spans n E sound whole_walked.planted) whole_walked.keeps)

  pub whole_tree : RowTree laid
  whole_tree = whole_keeps.tree

  pub whole_short : ((k : ℕ) → slice_index new k ≤ LONGEST) → (k : ℕ) → row_length laid k ≤ LONGEST
  whole_short near =
      straight_short (laying_rules new) S (spot_of spots) (length spots) LONGEST near
      (λ v h. walked_short R n E S sound whole_walked v (omega (arith, size)))

  pub whole_straight : (found : List ℕ) (total : ℕ) (built : List Row) → built ≡ laid → found ≡ breakpoints S (length spots) → total ≡ wire_of built → Straightened d spots p q pins n E found total built
  whole_straight found total built e f t =
      let Q : List Row → Type 0 = λ rows. Straight R n whole_walked.planted.forest S rows in
      record {
        marks = S;
        walked = whole_walked;
        rows = e ∙ laid_is;
        keeps = subst Q (sym e) whole_keeps;
        broken = f ∙ ap (breakpoints S) (sym size);
        wire = t;
      }
