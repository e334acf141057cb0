use Rattle.std.proofs.Common.{◌+◌, ◌≤◌, List, length, vec_items}
use Rattle.build_laws.specs.Joining.{Joins}
use Rattle.space.specs.Totals.{meet_or_start, capped_distance}
use Rattle.tree_laws.specs.declared.Row.{Row}
use Rattle.joined.specs.Joinings.{JoiningState}
use Rattle.joined.proofs.joining.Joiner.join.Given as goal

-- what the rows are joined to from here is what the first ones are joined to
abbrev pub invariant-loop : goal.invariant-loop
invariant-loop g l =
    let d = capped_distance g.S.Space l.space in
    let j = meet_or_start g.S.Space g.S.Joining l.space in
    JoiningState d j l.table.rows (vec_items l.self.group) (vec_items l.self.partners.firsts)
    × (length (vec_items l.self.group) + l.counter ≤ length l.members)
    × ((end : List Row) → Joins d j l.table.rows (vec_items l.self.group) end → Joins d j l.initial.table.rows l.members end)
