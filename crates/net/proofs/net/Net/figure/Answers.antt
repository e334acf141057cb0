use Rattle.std.proofs.Common.{◌≡◌, ◌<◌, length, Some, sym, ap, subst, ◌∙◌, arith}
use Rattle.space.specs.Totals.{edge_length}
use Rattle.tree_laws.proofs.Steps.{path_bound}
use Rattle.tree_laws.specs.Trees.{path_length}
use Rattle.net_laws.proofs.Worsts.{answered_or}
use Rattle.net.specs.NetValue.{NetValue}
use Rattle.net.specs.declared.net.Net.TheInside.{Inside}
use Rattle.net.proofs.States.{figure_told, path_found, spot_there}
use Rattle.net.proofs.net.Net.figure.Goals as goal

pub overflow_mul-result : goal.overflow_mul-result
overflow_mul-result g c =
    let t = c.args.tree.now in
    let k = c.args.k in
    omega (arith, answered_or _ _ _ c.path.ensures.path, c.unwrap_or.ensures, path_bound t.rows 100000000 t.lengths (length t.rows) k, t.few)

pub returns : goal.returns
returns g c =
    let k = c.args.k in
    let n = c.self.inside in
    let rows = c.args.tree.now.rows in
    let a = c.index.result.now in
    let b = c.index-2.result.now in
    let P : NetValue g.row.S.Denot → Type 0 = λ x. k < x.state.pins in
    let Q : NetValue g.row.S.Denot → Type 0 = λ x. x.state.tree ≡ Some rows in
    let D : Inside g.row.S.Denot → Type 0 = λ x. c.edge_length-direct.result ≡ edge_length g.S.Space x.space a b in
    let spots = ap (λ (x : Inside g.row.S.Denot). x.state.spots) c.self-inside.view_is in
    let pin = subst P (sym c.self.view_is) c.requires.pin in
    let placed = c.self.invariant.rows rows (subst Q (sym c.self.view_is) c.requires.stands) in
    let here = path_found k (length rows) (path_length rows k) c.path.result (omega (arith, pin, c.self.invariant.pins, placed.more)) c.path.ensures.path in
    let path : c.unwrap_or.result ≡ path_length rows k = c.unwrap_or.ensures ∙ here in
    rw (← c.self.view_is) (figure_told (edge_length g.S.Space n.space) n.state rows k a b c.unwrap_or.result c.edge_length-direct.result path
    (spot_there _ _ 0 a c.index.ensures spots (omega (arith, pin, c.self.invariant.pins)))
    (spot_there _ _ k b c.index-2.ensures spots (omega (arith, pin, c.self.invariant.pins)))
    (subst D c.self-inside.view_is c.edge_length-direct.ensures))
