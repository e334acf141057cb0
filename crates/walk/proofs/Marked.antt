-- A change of one row as a change of one mark. Assumes that the row is there.
use Rattle.std.proofs.Common.{◌≡◌, ℕ, ◌+◌, ◌<◌, ◌⊎◌, List, length, get_or, set, Some, None, Option, sym, refl, ap, ◌∙◌, inl, inr, arith, length-set, get_or-set_other, get_or-set_same}
use mathlib.Core.Path.{fun_ext}
use Rattle.std.proofs.lemmas.Bool.{cases_eq}
use Rattle.walk_laws.specs.Walk as laws
use Rattle.walk_laws.proofs.Steps.{put_same, put_other}
use Rattle.walk.specs.declared.row.Mark.{Mark}
use Rattle.walk.specs.declared.row.NodeRow.{NodeRow}
use Rattle.walk.specs.Marks.{mark_of, idle, marks, directs, Places, Gone, entered_by, opened, walk_rules}

pub marks_set : (rows : List NodeRow) (v : ℕ) (r : NodeRow) → v < length rows → marks (set rows v r) ≡ laws.put (marks rows) v (mark_of r.mark)
marks_set rows v r h = fun_ext (λ x. go x (cases_eq x v))
  where
    go : (x : ℕ) → (x ≡ v) ⊎ (x ≡ v → ⊥) → marks (set rows v r) x ≡ laws.put (marks rows) v (mark_of r.mark) x
    go x (inl s) =
        ap (λ z. marks (set rows v r) z) s ∙
        (ap (λ w. mark_of w.mark) (get_or-set_same rows v r idle h) ∙
        (sym (put_same (marks rows) v (mark_of r.mark)) ∙ sym (ap (laws.put (marks rows) v (mark_of r.mark)) s)))
    go x (inr ne) =
        ap (λ w. mark_of w.mark) (get_or-set_other rows v x r idle ne) ∙ sym (put_other (marks rows) v (mark_of r.mark) x ne)

pub relax_present : (rows : List NodeRow) (u v l e : ℕ) (r : NodeRow) → v < length rows → (get_or rows u idle).mark.est ≡ Some e →
    mark_of r.mark ≡ laws.offered u l (e + l) (get_or rows v idle).mark.est (mark_of (get_or rows v idle).mark) →
    marks (set rows v r) ≡ laws.relax u v l (marks rows)
relax_present rows u v l e r h k n =
    marks_set rows v r h ∙
    ap (laws.put (marks rows) v) (n ∙ sym (ap (λ o. laws.relaxed u l o (marks rows v)) k))

-- The node v is entered.
entered_by_lem : (R : laws.Rules) (v : ℕ) (o : Option ℕ) (m : laws.Mark) →
    entered_by (laws.is_a_sink R v) R.p R.q (R.direct v) o m ≡ laws.entered R v o m
entered_by_lem R v None m = refl
entered_by_lem R v (Some e) m = refl

pub enter_row : (rows : List NodeRow) (p q pins v : ℕ) (r : NodeRow) → v < length rows →
    mark_of r.mark ≡
    entered_by (laws.is_a_sink (walk_rules p q pins rows) v) p q (directs rows v) (get_or rows v idle).mark.est (mark_of (get_or rows v idle).mark) →
    marks (set rows v r) ≡ laws.enter (walk_rules p q pins rows) v (marks rows)
enter_row rows p q pins v r h n =
    marks_set rows v r h ∙
    ap (laws.put (marks rows) v) (n ∙ entered_by_lem (walk_rules p q pins rows) v (marks rows v).est (marks rows v))

-- A part of a row that is left as it was is left in all rows.
pub part_set : {X : Type 0} (f : NodeRow → X) (rows : List NodeRow) (v : ℕ) (r : NodeRow) → v < length rows → f r ≡ f (get_or rows v idle) → (x : ℕ) →
    f (get_or (set rows v r) x idle) ≡ f (get_or rows x idle)
part_set f rows v r h s x = go (cases_eq x v)
  where
    go : (x ≡ v) ⊎ (x ≡ v → ⊥) → f (get_or (set rows v r) x idle) ≡ f (get_or rows x idle)
    go (inl e) =
        ap (λ z. f (get_or (set rows v r) z idle)) e ∙
        (ap f (get_or-set_same rows v r idle h) ∙ (s ∙ sym (ap (λ z. f (get_or rows z idle)) e)))
    go (inr ne) = ap f (get_or-set_other rows v x r idle ne)

-- A row with the next child to try.
abbrev pub stepped : NodeRow → ℕ → NodeRow
stepped r k = record { mark = r.mark; direct = r.direct; from = r.from; from_length = r.from_length; next = k }

-- The rows once u was relaxed from v, its row b put back with the mark m; a is the row of v then.
module _ (p q pins v u l : ℕ) (rows rows1 : List NodeRow) (m : Mark) (hv : v < length rows) (hu : u < length rows) (ne : u ≡ v → ⊥) (one : marks rows1 ≡ laws.relax v u l (marks rows)) (same : Places rows rows1) where
  abbrev b : NodeRow
  b = get_or rows1 u idle

  abbrev row : NodeRow
  row = opened m b.direct v l

  abbrev rows2 : List NodeRow
  rows2 = set rows1 u row

  abbrev a : NodeRow
  a = get_or rows2 v idle

  abbrev rows3 : List NodeRow
  rows3 = set rows2 v (stepped a (u + 1))

  hu1 : u < length rows1
  hu1 = omega (arith, same.count)

  hv2 : v < length rows2
  hv2 = omega (arith, same.count, length-set rows1 u row)

  new : get_or rows2 u idle ≡ row
  new = get_or-set_same rows1 u row idle hu1

  D : directs rows1 ≡ directs rows
  D = fun_ext (λ x. same.direct x)

  pub gone_rows : mark_of m ≡ entered_by (laws.is_a_sink (walk_rules p q pins rows1) u) p q b.direct b.mark.est (mark_of b.mark) → Gone p q pins v u l rows rows3
  gone_rows n =
      record {
        marked =
            fun_ext (λ x. part_set (λ z. mark_of z.mark) rows2 v (stepped a (u + 1)) hv2 refl x) ∙
            enter_row rows1 p q pins u row hu1 n ∙
            ap (λ d. laws.enter (record { p = p; q = q; pins = pins; direct = d }) u (marks rows1)) D ∙
            ap (λ S. laws.enter (walk_rules p q pins rows) u S) one;
        count = length-set rows2 v (stepped a (u + 1)) ∙ length-set rows1 u row ∙ same.count;
        direct =
            λ x. part_set (λ z. z.direct) rows2 v (stepped a (u + 1)) hv2 refl x ∙
            part_set (λ z. z.direct) rows1 u row hu1 refl x ∙ same.direct x;
        from_new = part_set (λ z. z.from) rows2 v (stepped a (u + 1)) hv2 refl u ∙ ap (λ z. z.from) new;
        from_length_new = part_set (λ z. z.from_length) rows2 v (stepped a (u + 1)) hv2 refl u ∙ ap (λ z. z.from_length) new;
        next_new = ap (λ z. z.next) (get_or-set_other rows2 v u (stepped a (u + 1)) idle ne) ∙ ap (λ z. z.next) new;
        next_more = ap (λ z. z.next) (get_or-set_same rows2 v (stepped a (u + 1)) idle hv2);
        from_old =
            λ x h. part_set (λ z. z.from) rows2 v (stepped a (u + 1)) hv2 refl x ∙
            ap (λ z. z.from) (get_or-set_other rows1 u x row idle h) ∙ same.from x;
        from_length_old =
            λ x h. part_set (λ z. z.from_length) rows2 v (stepped a (u + 1)) hv2 refl x ∙
            ap (λ z. z.from_length) (get_or-set_other rows1 u x row idle h) ∙ same.from_length x;
        next_old =
            λ x h k. ap (λ z. z.next) (get_or-set_other rows2 v x (stepped a (u + 1)) idle k) ∙
            ap (λ z. z.next) (get_or-set_other rows1 u x row idle h) ∙ same.next x;
      }
