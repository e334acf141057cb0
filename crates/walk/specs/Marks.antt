-- The marks of the walk and its place, as its rows hold them. Assumes nothing.
use Rattle.std.specs.Prelude.{◌≡◌, ℕ, ◌+◌, ◌*◌, Bool, true, false, cond, ◌&&◌, List, length, Some, None, Option, ◌==◌, ◌≢◌, nat_lt, slice_index_or}
use Rattle.walk_laws.specs.Walk as laws
use Rattle.walk.specs.declared.row.Mark.{Mark}
use Rattle.walk.specs.declared.row.NodeRow.{NodeRow}
use Rattle.walk.specs.declared.rules.Rules.{Rules}

abbrev pub mark_of : Mark → laws.Mark
mark_of m = record { est = m.est; parent = m.parent; edge = m.edge; broken = m.broken }

-- The mark of the node k before the walk: the driver alone has an estimate.
abbrev pub fresh_mark : ℕ → Mark
fresh_mark k = record { est = cond (k == 0) (Some 0) None; parent = 0; edge = 0; broken = false }

-- The row of the node k before the walk.
abbrev pub fresh_row : (k direct : ℕ) → NodeRow
fresh_row k direct = record { mark = fresh_mark k; direct = direct; from = 0; from_length = 0; next = 0 }

-- The mark of a node that the walk has not reached.
abbrev pub unmarked : Mark
unmarked = record { est = None; parent = 0; edge = 0; broken = false }

-- The marks of all nodes; past them every mark is blank.
abbrev pub marks_of : List Mark → laws.Marks
marks_of ms v = mark_of (slice_index_or ms v unmarked)

-- What stands past the rows: a node that the walk has not reached.
abbrev pub idle : NodeRow
idle =
    record {
      mark = unmarked;
      direct = 0;
      from = 0;
      from_length = 0;
      next = 0;
    }

-- The marks of all rows; past them every mark is blank.
abbrev pub marks : List NodeRow → laws.Marks
marks rows v = mark_of (slice_index_or rows v idle).mark

-- Where each node was entered from, over which length, the next child to try, and the direct distance.
abbrev pub froms : List NodeRow → ℕ → ℕ
froms rows v = (slice_index_or rows v idle).from

abbrev pub from_lengths : List NodeRow → ℕ → ℕ
from_lengths rows v = (slice_index_or rows v idle).from_length

abbrev pub nexts : List NodeRow → ℕ → ℕ
nexts rows v = (slice_index_or rows v idle).next

abbrev pub directs : List NodeRow → ℕ → ℕ
directs rows v = (slice_index_or rows v idle).direct

abbrev pub walk_rules : (p q pins : ℕ) → List NodeRow → laws.Rules
walk_rules p q pins rows = record { p = p; q = q; pins = pins; direct = directs rows }

abbrev pub rules_by : Rules → List NodeRow → laws.Rules
rules_by R rows = walk_rules R.allowance.p R.allowance.q R.pins rows

-- The rows change in their marks alone.
pub record Places (rows rows' : List NodeRow) : Type 0 where
  pub count : length rows' ≡ length rows
  pub from : (x : ℕ) → froms rows' x ≡ froms rows x
  pub from_length : (x : ℕ) → from_lengths rows' x ≡ from_lengths rows x
  pub next : (x : ℕ) → nexts rows' x ≡ nexts rows x
  pub direct : (x : ℕ) → directs rows' x ≡ directs rows x

-- A node that is entered.
abbrev pub entered_by : (sink : Bool) (p q direct : ℕ) → Option ℕ → laws.Mark → laws.Mark
entered_by sink p q direct None m = m
entered_by sink p q direct (Some e) m =
    cond (sink && nat_lt ((p + q) * direct) (q * e)) (laws.hung m.parent m.edge direct true) m

-- The row with the mark m, and the rest as it was.
abbrev pub placed : Mark → NodeRow → NodeRow
placed m r = record { mark = m; direct = r.direct; from = r.from; from_length = r.from_length; next = r.next }

-- The row of a node that was entered from the node v, over an edge of length l: none of its children was tried.
abbrev pub opened : Mark → (direct v l : ℕ) → NodeRow
opened m direct v l = record { mark = m; direct = direct; from = v; from_length = l; next = 0 }

-- The rows once the walk has gone down from v to u, over an edge of length l.
pub record Gone (p q pins v u l : ℕ) (rows rows' : List NodeRow) : Type 0 where
  pub marked : marks rows' ≡ laws.enter (walk_rules p q pins rows) u (laws.relax v u l (marks rows))
  pub count : length rows' ≡ length rows
  pub direct : (x : ℕ) → directs rows' x ≡ directs rows x
  pub from_new : froms rows' u ≡ v
  pub from_length_new : from_lengths rows' u ≡ l
  pub next_new : nexts rows' u ≡ 0
  pub next_more : nexts rows' v ≡ u + 1
  pub from_old : (x : ℕ) → (x ≢ u) → froms rows' x ≡ froms rows x
  pub from_length_old : (x : ℕ) → (x ≢ u) → from_lengths rows' x ≡ from_lengths rows x
  pub next_old : (x : ℕ) → (x ≢ u) → (x ≢ v) → nexts rows' x ≡ nexts rows x
