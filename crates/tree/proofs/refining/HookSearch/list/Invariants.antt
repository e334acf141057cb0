use Rattle.std.proofs.Common.{◌≡◌, ◌≤◌, vec_capacity, vec_len}
use Rattle.order.specs.Bests.{BestOf, Found}
use Rattle.tree_laws.specs.Hooks.{hook_before}
use Rattle.tree.specs.Searches.{HookMoveAt}
use Rattle.tree.proofs.refining.HookSearch.list.Given as goal

-- the moves on the rows passed are listed
abbrev pub invariant-loop-u : goal.invariant-loop-u
invariant-loop-u g l =
    Found (λ u r. BestOf hook_before (HookMoveAt g.S.Space l.self l.of u) r) l.u l.moves.items
    × (vec_len l.moves ≤ l.u)
    × (vec_capacity l.moves ≡ vec_capacity l.initial.moves)
