-- What callers see of a walk. Assumes nothing.
use Rattle.std.specs.Prelude.{◌≡◌, ℕ, ◌≤◌, List, [], ◌∷◌, map, length, slice_index}
use Rattle.std.proofs.Common.{zero, suc, refl, sym, ◌∙◌, subst}
use Rattle.std.proofs.lemmas.List.{length-map}
use Rattle.space.specs.declared.TheConstants.{LONGEST}
use Rattle.seed.specs.declared.store.TheConstants.{NODES}
use Rattle.walk.specs.declared.row.Mark.{Mark}
use Rattle.walk.specs.declared.row.NodeRow.{NodeRow}
use Rattle.walk.specs.Marks.{directs}

-- The mark and the direct distance of each node. The walk's place in the rows is not seen.
pub record WalkValue : Type 0 where
  pub marks : List Mark
  pub directs : List ℕ
  pub matched : length directs ≡ length marks
  pub few : length marks ≤ NODES
  pub near : (k : ℕ) → slice_index directs k ≤ LONGEST

abbrev pub marks_in : List NodeRow → List Mark
marks_in rows = map (λ r. r.mark) rows

abbrev pub directs_in : List NodeRow → List ℕ
directs_in rows = map (λ r. r.direct) rows

-- A direct distance in the rows is that in the list.
pub direct_in : (rows : List NodeRow) (k : ℕ) → directs rows k ≡ slice_index (directs_in rows) k
direct_in [] k = refl
direct_in (r ∷ rows) zero = refl
direct_in (r ∷ rows) (suc k) = direct_in rows k

-- What callers see of the rows.
abbrev pub value_of : (rows : List NodeRow) → length rows ≤ NODES → ((k : ℕ) → directs rows k ≤ LONGEST) → WalkValue
value_of rows few near =
    record {
      marks = marks_in rows;
      directs = directs_in rows;
      matched = length-map rows (λ r. r.direct) ∙ sym (length-map rows (λ r. r.mark));
      few = subst (λ n. n ≤ NODES) (sym (length-map rows (λ r. r.mark))) few;
      near = λ k. subst (λ d. d ≤ LONGEST) (direct_in rows k) (near k);
    }
