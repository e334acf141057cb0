use Rattle.std.proofs.Common.{◌≡◌, ◌+◌, ◌-◌, ◌<◌, length}
use Rattle.tree_laws.specs.Trees.{path_in, path_length}
use Rattle.tree.proofs.table.Tree.path_over.Given as goal

-- the sum so far and the path of the row that is reached are the path, which the rows that are left add up to
abbrev pub invariant-loop : goal.invariant-loop
invariant-loop l =
    (l.at < length l.self.rows)
    × (l.path + path_length l.self.rows l.at ≡ path_length l.self.rows l.k)
    × (l.path + path_in l.self.rows (length l.self.rows - l.counter) l.at ≡ path_length l.self.rows l.k)
