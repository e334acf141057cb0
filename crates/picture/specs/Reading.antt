-- What a reading keeps of the answers. Assumes nothing.
use Rattle.std.specs.Prelude.{◌≡◌, ℕ, Option, Some, if◌then◌else◌}
use Rattle.std.specs.Option.{option_map}
use Rattle.picture.specs.declared.job.JobLine.{JobLine}
use Rattle.picture.specs.declared.job.JobLine.TheVariants as call
use Rattle.picture.specs.declared.net.KnownNet.{KnownNet}
use Rattle.picture.specs.declared.reading.Reading.{Reading}
use Rattle.picture.specs.declared.table.DrawnTable.{DrawnTable}
use Rattle.picture.specs.KnownNet.{net_after}

-- All but the rows that wait for their answer is as it was.
pub record SameButRows (old new : Reading) : Type 0 where
  pub net : new.net ≡ old.net
  pub table : new.table ≡ old.table
  pub is_current : new.is_current ≡ old.is_current

-- The table, with another net beside its rows.
abbrev pub with_net : KnownNet → DrawnTable → DrawnTable
with_net n t = record { rows = t.rows; net = n }

-- The table after an accepted call: T makes one of the rows before it; X marks a table that is of the tree as it is now.
abbrev pub table_after : JobLine → Option ℕ → Reading → Option DrawnTable
table_after call.Table v r = Some (record { rows = r.rows; net = r.net })
table_after call.Worst v r = if r.is_current then option_map (with_net (net_after call.Worst v r.net)) r.table else r.table
table_after (call.Net s) v r = r.table
table_after call.Pin v r = r.table
table_after call.Steiner v r = r.table
table_after call.Seed v r = r.table
table_after call.Change v r = r.table
table_after call.Other v r = r.table
