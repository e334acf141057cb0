use Rattle.std.proofs.Common.{◌≡◌, ◌-◌, length}
use Rattle.tree_laws.specs.Trees.{under, under_in}
use Rattle.tree.proofs.table.Tree.under.Given as goal

-- whether v is met on the rest of the way says whether it is met at all
abbrev pub invariant-loop : goal.invariant-loop
invariant-loop l = under_in l.self.rows (length l.self.rows - l.counter) l.at l.v ≡ under l.self.rows l.u l.v
