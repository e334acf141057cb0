use Rattle.std.proofs.Common.{◌≡◌, List, vec_items, sym, ap, ◌∙◌, refl, subst, arith}
use Rattle.build_laws.specs.Joining.{Joins}
use Rattle.build_laws.specs.Joining.Joins.{done}
use Rattle.space.specs.Totals.{meet_or_start, capped_distance}
use Rattle.tree_laws.specs.declared.Row.{Row}
use Rattle.tree_laws.proofs.Ways.{hung}
use Rattle.tree.specs.declared.table.Tree.{Tree}
use Rattle.joined.proofs.Keeping.{among_empty}
use Rattle.joined.proofs.Owning.{owned}
use Rattle.joined.proofs.joining.Joiner.join.Goals as goal
use Rattle.joined.proofs.joining.Joiner.join.Goals.{else-loop-test, then-loop-test+then-not-step}

pub returns : goal.returns
returns g c =
    let s = c.args.space.now in
    let t = c.args.table.now in
    let d = capped_distance g.S.Space s in
    let j = meet_or_start g.S.Space g.S.Joining s in
    let rows = t.rows in
    let after = c.loop-test.table.rows in
    let group = vec_items c.loop.self.group in
    let fits = c.if-not-joinable.ensures.0 refl in
    let P : List Row → Type 0 = λ xs. Joins d j rows c.args.members.now xs in
    let end = c.loop.invariant.2 c.loop.table.rows in
    let all : P c.loop.table.rows × (after ≡ c.loop.table.rows) =
    elim c.loop-test.branch [
      | else-loop-test w ↦
          (end (done (λ a b p. absurd (among_empty group a p.first (omega (arith, c.loop.invariant.1, w.loop-test.false))))), ap (λ (x : Tree). x.rows) w.table-is)
      | then-loop-test+then-not-step w ↦ (end (done w.if-not-step.ensures.1), ap (λ (x : Tree). x.rows) w.table-is ∙ w.if-not-step.ensures.0)
    ]
    in
    let joins = subst P (sym all.1) all.0 in
    record {
      joinable = fits;
      joins = joins;
      wire = c.wire.ensures;
      tree = hung (c.loop-test.table.tree);
      own = owned g.S.Space g.S.Joining s (g.met.S.Space.metric s) (g.met.S.Joining.meets s) rows after c.args.members.now t.tree fits joins;
    }
