use Rattle.std.proofs.Common.{Option, ap, subst, rules}
use Rattle.net_laws.specs.Sinks.{FiguredSink}
use Rattle.net_laws.specs.Worsts.{worst_before}
use Rattle.net_laws.specs.declared.reading.Worst.{Worst}
use Rattle.net_lemmas.proofs.Moves.{not_none}
use Rattle.net_laws.proofs.Worsts.{first_sink, some_sink, worst_own, worst_sink}
use Rattle.order.specs.Bests.{BestOf}
use Rattle.space.specs.Totals.{edge_length}
use Rattle.net.specs.declared.net.Net.TheInside.{Inside}
use Rattle.net.proofs.net.Net.worst.Goals as goal

pub unwrap-requires : goal.unwrap-requires
unwrap-requires g c =
    let n = c.self.inside in
    let d = edge_length g.S.Space n.space in
    let rows = c.in_ok-tree.tree.now.rows in
    let st = c.in_ok-tree.ensures.some in
    let pins = ap (λ (x : Inside g.row.S.Denot). x.state.pins) c.self-inside.view_is in
    let (_, found, first) = c.first_found.ensures in
    some_sink d n.state rows (c.self.invariant.rows rows st).two c.first_found.result
    (first_sink d n.state rows _ c.first_found.result pins found first (λ k r h p. search rules))

pub returns-clause-answer : goal.returns-clause-answer
returns-clause-answer g c =
    let n = c.self.inside in
    let s = n.space in
    let d = edge_length g.S.Space s in
    let rows = c.in_ok-tree.tree.now.rows in
    let st = c.in_ok-tree.ensures.some in
    let pins = ap (λ (x : Inside g.row.S.Denot). x.state.pins) c.self-inside.view_is in
    let (_, found, first) = c.first_found.ensures in
    let Best : Option Worst → Type 0 = λ o. BestOf worst_before (FiguredSink d n.state rows) o in
    let best = subst Best c.unwrap.ensures (first_sink d n.state rows _ c.first_found.result pins found first (λ k r h p. search rules)) in
    rw (← c.self.view_is) (not_none n.state.tree rows st, (rows, st, worst_own g.S.Space s n.state (g.met.S.Space.metric s) c.self.invariant rows c.unwrap.result (worst_sink d n.state rows c.unwrap.result best)))

pub returns-clause-always : goal.returns-clause-always
returns-clause-always g c =
    let n = c.self.inside in
    let s = n.space in
    let d = edge_length g.S.Space s in
    let rows = c.in_ok-tree.tree.now.rows in
    let st = c.in_ok-tree.ensures.some in
    let pins = ap (λ (x : Inside g.row.S.Denot). x.state.pins) c.self-inside.view_is in
    let (_, found, first) = c.first_found.ensures in
    let Best : Option Worst → Type 0 = λ o. BestOf worst_before (FiguredSink d n.state rows) o in
    let best = subst Best c.unwrap.ensures (first_sink d n.state rows _ c.first_found.result pins found first (λ k r h p. search rules)) in
    rw (← c.self.view_is) (not_none n.state.tree rows st, (rows, st, worst_sink d n.state rows c.unwrap.result best))
