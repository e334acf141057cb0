use Rattle.std.proofs.Common.{◌≡◌, ℕ, ◌-◌, false, length, refl, ap, ◌∙◌, arith, rules}
use Rattle.tree_laws.specs.declared.hook.Hook.{Hook}
use Rattle.tree_laws.specs.Distances.{capped_row_distance}
use Rattle.tree_laws.specs.Hooks.{HookMove}
use Rattle.tree_laws.specs.Trees.{row_length, under}
use Rattle.tree_laws.proofs.Steps.{path_bound}
use Rattle.tree.proofs.Climbing.{shorter_above}
use Rattle.tree.proofs.Flooring.{same_move}
use Rattle.tree.proofs.refining.HookSearch.weigh.Goals as goal
use Rattle.tree.proofs.refining.HookSearch.weigh.Goals.{else-path-of-2-via-then-path-of-2+else-under, else-path-of-2-via-else-path-of-2}

pub overflow_add-path : goal.overflow_add-path
overflow_add-path g c =
    let t = c.args.self.now.table.now in
    omega (arith, c.args.self.now.known.paths c.args.u, c.requires.parent, c.args.self.now.known.count, path_bound t.rows 100000000 t.lengths (length t.rows) c.args.u, t.few, c.capped_distance-new.ensures.bound)

pub returns : goal.returns
returns g c =
    let q = c.args.self.now in
    let t = q.table.now in
    let u = c.args.u in
    let v = c.args.of.v in
    let of = c.requires.row in
    let known = q.known.paths u (omega (arith, c.requires.parent, q.known.count)) in
    let above : under t.rows u v ≡ false =
    elim c.else-path-of-2.branch [
      | else-path-of-2-via-then-path-of-2+else-under w ↦ search (rules, w.if-under, w.under)
      | else-path-of-2-via-else-path-of-2 w ↦ shorter_above t.tree u v c.requires.parent (omega (arith, known, of.path, c.if-path-of.false, w.if-path-of-2))
    ] in
    let d = capped_row_distance g.S.Space q.space.now t.rows in
    let m : Hook = record { saving = c.args.of.length - c.capped_distance-new.result; v = v; u = u } in
    let new : c.capped_distance-new.result ≡ d u v = search rules in
    let move : HookMove t.rows d m =
    record {
      hangs = record { row = of.row; moves = λ z. omega (arith, of.some, of.more, of.long, t.tree.still, ap (row_length t.rows) z); parent = c.requires.parent; above = above };
      path = omega (arith, known, of.path, new, c.if-path-new.false);
      saves = omega (arith, of.long, new, c.if-new-of.false);
      counts = omega (arith, of.some, of.more, of.long, new, c.if-new-of.false);
    } in (
      ((move, refl, omega (arith, of.more, c.if-new-of.false)), refl),
      λ n p.
          let on : d n.u n.v ≡ d u v = ap (λ x. d x n.v) p.1 ∙ ap (d u) p.0.1 in
          let long : row_length t.rows n.v ≡ row_length t.rows v = ap (row_length t.rows) p.0.1 in
          same_move m n (omega (arith, on, long, p.0.0.saves, move.saves)) p.0.1 p.1,
    )
