-- Rows made fresh one after another. Assumes nothing.
use Rattle.std.proofs.Common.{◌≡◌, ℕ, ◌<◌, ◌≤◌, false, eqb, ◌⊎◌, List, length, get_or, Some, None, Option, sym, ap, ◌∙◌, inl, inr, arith}
use mathlib.Core.Path.{fun_ext}
use Rattle.std.proofs.lemmas.List.{get_or_past}
use Rattle.std.proofs.lemmas.Bool.{cases_eq, cases_lt, cond-true, cond-false, eq-eqb, ne_eqb}
use Rattle.walk_laws.specs.Walk as laws
use Rattle.walk.specs.declared.row.NodeRow.{NodeRow}
use Rattle.walk.specs.Marks.{idle, mark_of, marks, directs, fresh_mark, fresh_row}
use Rattle.walk.specs.Tables.{Renewed}
use Rattle.walk.specs.Walked.{DirectsKept, Ready}

-- The rows below i are fresh, and the others are as they were.
pub record Renewing (rows rows' : List NodeRow) (i : ℕ) : Type 0 where
  pub count : length rows' ≡ length rows
  pub done : (k : ℕ) → k < i → get_or rows' k idle ≡ fresh_row k (directs rows k)
  pub rest : (k : ℕ) → i ≤ k → get_or rows' k idle ≡ get_or rows k idle

unreached : Option ℕ → laws.Mark
unreached o = record { est = o; parent = 0; edge = 0; broken = false }

fresh_seen : (k : ℕ) → (k ≡ 0) ⊎ (k ≡ 0 → ⊥) → mark_of (fresh_mark k) ≡ laws.start k
unfolding unreached
fresh_seen k (inl s) =
    ap (λ z. mark_of (fresh_mark z)) s ∙ sym (cond-true (eqb k 0) laws.home laws.blank (eq-eqb k 0 s))
fresh_seen k (inr ne) =
    ap (λ o. unreached o) (cond-false (eqb k 0) (Some 0) None (ne_eqb k 0 ne)) ∙
    sym (cond-false (eqb k 0) laws.home laws.blank (ne_eqb k 0 ne))

-- Fresh rows keep their direct distances.
module _ (rows rows' : List NodeRow) (R : Renewed rows rows') where
  pub renewed_directs : directs rows' ≡ directs rows
  renewed_directs = fun_ext (λ k. at k (cases_lt k (length rows)))
    where
      at : (k : ℕ) → (k < length rows) ⊎ (length rows ≤ k) → directs rows' k ≡ directs rows k
      at k (inl h) = ap (λ (r : NodeRow). r.direct) (R.each k h)
      at k (inr h) =
          ap (λ (r : NodeRow). r.direct) (get_or_past rows' k idle (omega (arith, R.count)) ∙ sym (get_or_past rows k idle h))

  pub renewed_kept : DirectsKept rows rows'
  renewed_kept = record { count = R.count; direct = λ k. ap (λ f. f k) renewed_directs }

  -- They are ready for a walk, where there is one for each of n nodes.
  pub renewed_ready : (n : ℕ) → 0 < n → length rows ≡ n → Ready n rows'
  renewed_ready n some count =
      let first : 0 < length rows = omega arith in
      record {
        count = R.count ∙ count;
        fresh = fun_ext (λ k. at k (cases_lt k (length rows)));
        from = ap (λ (r : NodeRow). r.from) (R.each 0 first);
        next = ap (λ (r : NodeRow). r.next) (R.each 0 first);
      }
    where
      at : (k : ℕ) → (k < length rows) ⊎ (length rows ≤ k) → marks rows' k ≡ laws.start k
      at k (inl h) = ap (λ (r : NodeRow). mark_of r.mark) (R.each k h) ∙ fresh_seen k (cases_eq k 0)
      at k (inr h) =
          ap (λ (r : NodeRow). mark_of r.mark) (get_or_past rows' k idle (omega (arith, R.count))) ∙
          sym (cond-false (eqb k 0) laws.home laws.blank (ne_eqb k 0 (λ s. omega arith)))
