-- The rows of a net, and how many bytes their lines have. Assumes nothing.
use Rattle.std.specs.Prelude.{ℕ, List, length}
use Rattle.net.specs.NetValue.{NetValue}
use Rattle.reply.specs.Texts.{rows_in, rows_text}
use Rattle.tree_laws.specs.declared.Row.{Row}

-- No row where no tree stands.
abbrev pub rows_at : {X : Type 0} → NetValue X → List Row
rows_at n = rows_in n.state.tree

abbrev pub table_length : {X : Type 0} → NetValue X → ℕ
table_length n = length (rows_text 0 (rows_at n))
