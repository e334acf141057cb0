use Rattle.seed.proofs.Groups.{label_read, labels_decide}
use Rattle.seed.proofs.labels.Labels.joined.Goals as goal

pub returns : goal.returns
returns c E labelled =
    let s = c.args.self.now in
    labels_decide E c.args.a c.args.b _ _
    (label_read E s.of.items c.args.a _ labelled c.requires.a c.index.ensures)
    (label_read E s.of.items c.args.b _ labelled c.requires.b c.index-2.ensures)
