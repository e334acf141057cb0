use Rattle.std.proofs.Common.{◌≡◌, length, vec_capacity}
use Rattle.tree.specs.Tables.{KnownPaths}
use Rattle.tree.proofs.table.Tree.list_paths.Given as goal

abbrev pub invariant-loop-k : goal.invariant-loop-k
invariant-loop-k l =
    (length l.paths.items ≡ l.k)
    × KnownPaths l.self.rows l.paths.items
    × (vec_capacity l.paths ≡ vec_capacity l.initial.paths)
