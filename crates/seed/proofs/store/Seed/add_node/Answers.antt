use Rattle.std.proofs.Common.{◌≡◌, ◌+◌, length, sym, ap, ◌∙◌, subst, arith}
use Rattle.std.proofs.lemmas.List.{length_push}
use Rattle.forest.proofs.Accepted.{sound_wider}
use Rattle.seed.specs.Labelled.{Labelled}
use Rattle.seed.specs.SeedValue.{SeedValue}
use Rattle.seed.proofs.Groups.{label_alone, labelled_add}
use Rattle.seed.proofs.store.Seed.add_node.Goals as goal

pub invariant_of-self-inside : goal.invariant_of-self-inside
invariant_of-self-inside c =
    let s = c.self.inside in
    let n = length s.labels.of.items in
    let E = s.edges.items in
    let m = length c.add.new.self.of.items in
    let q : m ≡ n + 1 = ap length c.add.ensures ∙ length_push s.labels.of.items n in
    let own = label_alone n E n s.sound (omega arith) in (
      omega (arith, q, c.if-node-ge-NODES.false, c.nodes-node.ensures, ap (λ (x : SeedValue). x.nodes) c.self.view_is),
      (
        s.room,
        (
          omega (arith, q, s.fewer),
          (sound_wider n m E (omega (arith, q)) s.sound, (subst (Labelled E) (sym c.add.ensures) (labelled_add E s.labels.of.items own s.labelled), (s.paired, (s.listed, tt)))),
        ),
      ),
    )
