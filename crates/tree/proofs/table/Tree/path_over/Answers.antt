use Rattle.std.proofs.Common.{◌≡◌, ℕ, ◌+◌, ◌-◌, ◌<◌, ◌≤◌, length, ap, arith}
use Rattle.tree_laws.specs.declared.Row.{Row}
use Rattle.tree_laws.specs.Trees.{path_in, path_length, up}
use Rattle.tree_laws.proofs.Steps.{path_bound, path_turn}
use Rattle.tree_laws.proofs.Ways.{path_step}
use Rattle.tree.proofs.table.Tree.path_over.Goals as goal

pub overflow_add-result : goal.overflow_add-result
overflow_add-result c =
    let t = c.args.self.now in
    omega (arith, c.requires.paths c.loop.at c.if-at-known.true, c.loop.invariant.1, t.few, path_bound t.rows 100000000 t.lengths (length t.rows) c.args.k)

pub overflow_add-path : goal.overflow_add-path
overflow_add-path c =
    let t = c.args.self.now in
    let n = length t.rows in
    let h : c.loop.counter < n = omega arith in
    let turn = path_turn t.tree n c.loop.counter c.loop.at c.loop.path (path_length t.rows c.args.k) h c.loop.invariant.2 in
    omega (arith, turn, t.few, path_bound t.rows 100000000 t.lengths n c.args.k, ap (λ (r : Row). r.length) c.at-row.ensures.row)

pub loop-preserved : goal.loop-preserved
loop-preserved c =
    let t = c.args.self.now in
    let n = length t.rows in
    let i = c.loop.counter in
    let at = c.loop.at in
    let within = c.loop.invariant.0 in
    let h : i < n = omega arith in
    let e = ap (λ (r : Row). r.length) c.at-row.ensures.row in
    let moves : at ≡ 0 → ⊥ = λ z. omega (arith, z, c.requires.some, c.if-at-known.false) in
    let turn = path_turn t.tree n i at c.loop.path (path_length t.rows c.args.k) h c.loop.invariant.2 in
    let row = c.at-row.ensures.row in
    let parent : c.at-row.result.parent ≡ up t.rows at = ap (λ (r : Row). r.parent) row in (
      omega (arith, parent, t.tree.parents at within),
      omega (arith, e, c.loop.invariant.1, path_step t.tree at within moves, ap (path_length t.rows) parent),
      omega (arith, turn, e, ap (λ (r : Row). path_in t.rows (n - (i + 1)) r.parent) row),
    )
