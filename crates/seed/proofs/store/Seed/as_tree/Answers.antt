use Rattle.std.proofs.Common.{◌≡◌, ◌+◌, ◌<◌, length, arith}
use Rattle.forest.proofs.Accepted.{accepted}
use Rattle.forest.proofs.Heads.{all_joined}
use Rattle.forest.proofs.Trails.{tree}
use Rattle.forest.proofs.Rooting.{planted}
use Rattle.seed.proofs.store.Seed.as_tree.Goals as goal

pub returns-clause-hangs : goal.returns-clause-hangs
returns-clause-hangs c v h =
    let s = c.args.self.now in
    let whole : length s.edges + 1 ≡ s.nodes = omega (arith, c.count.ensures, c.nodes.ensures, c.if-count-nodes.false) in
    let some : 0 < s.nodes = omega arith in
    all_joined (accepted s.nodes s.edges s.sound) whole 0 v some h

pub returns-clause-paths : goal.returns-clause-paths
returns-clause-paths c =
    let s = c.args.self.now in
    tree (accepted s.nodes s.edges s.sound) (omega (arith, c.count.ensures, c.nodes.ensures, c.if-count-nodes.false))

pub returns-clause-planted : goal.returns-clause-planted
returns-clause-planted c =
    let s = c.args.self.now in
    planted (accepted s.nodes s.edges s.sound) (omega (arith, c.count.ensures, c.nodes.ensures, c.if-count-nodes.false))
