use Rattle.std.proofs.Common.{None, subst, arith}
use Rattle.std.proofs.Math.Logic.{∥∥₁_map}
use Rattle.forest.specs.Growth.{LeastOf}
use Rattle.forest.proofs.Accepted.{accepted, near_below}
use Rattle.forest.proofs.Chains.{near_back}
use Rattle.forest.proofs.Nearest.{least_of_head}
use Rattle.seed.specs.SeedValue.{SeedValue}
use Rattle.seed.proofs.Listing.{least_found}
use Rattle.seed.proofs.store.Seed.neighbour.Goals as goal

pub returns-then-v-nodes : goal.returns-then-v-nodes
returns-then-v-nodes c =
    let s = c.args.self.now in
    let E = s.edges in
    let a = accepted s.nodes E s.sound in
    let least : LeastOf E c.args.v c.args.from c.args.next None = λ x k near low ne. omega (arith, near_below a (near_back near), c.nodes.ensures, c.if-v-nodes.true) in
    record { least = least; head = λ F g. least_of_head a c.args.v c.args.from c.args.next F None g least }

pub returns : goal.returns
returns c =
    let s = c.args.self.now in
    let E = s.edges in
    let r = c.least.result in
    let P : SeedValue → Type 0 = λ x. ∥ LeastOf x.edges c.args.v c.args.from c.args.next r ∥₁ in
    let least : LeastOf E c.args.v c.args.from c.args.next r = least_found E c.args.v c.args.from c.args.next r (subst P c.self.view_is (∥∥₁_map c.self.inside.listed (c.least.ensures c.self.inside.edges.items))) in
    record { least = least; head = λ F g. least_of_head (accepted s.nodes E s.sound) c.args.v c.args.from c.args.next F r g least }
