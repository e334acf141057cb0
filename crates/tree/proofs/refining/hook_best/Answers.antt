use Rattle.std.proofs.Common.{◌≡◌, ℕ, ◌-◌, ◌≤◌, ap, arith}
use Rattle.tree_laws.specs.declared.Row.{Row}
use Rattle.tree_laws.specs.Distances.{capped_row_distance}
use Rattle.tree.proofs.Hooking.{changed_hangs, saved}
use Rattle.tree.proofs.Saving.{saved_again, saved_measured}
use Rattle.tree.proofs.refining.hook_best.Goals as goal

pub returns : goal.returns
returns g c =
    let t = c.args.table.now in
    let s = c.args.space.now in
    let d = capped_row_distance g.S.Space s t.rows in
    let m = c.in_ok-hook.hook in
    let b = c.in_ok-hook.ensures in
    let l : ℕ = c.at.result.length - m.saving in
    let after = c.hang.new.self.rows in
    let e : l ≡ d m.u m.v = omega (arith, ap (λ (r : Row). r.length) c.at.ensures.row, b.0.saves) in
    let short : l ≤ 100000000 = omega (arith, c.at.ensures.short) in
    let done = saved t.rows d m l after t.tree b e
    (changed_hangs t m.v m.u l c.hang.result c.hang.new.self c.hang.ensures b.0.hangs short) in
    let law = g.met.S.Space.metric s in
    record {
      answer = (done, saved_measured g.S.Space s t.rows law m.saving after done);
      measured = saved_again g.S.Space s t.rows law t.tree m.saving after done;
    }
