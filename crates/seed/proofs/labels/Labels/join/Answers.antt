use Rattle.std.proofs.Common.{◌<◌, length, get_or, arith}
use Rattle.std.proofs.lemmas.Grind.{common_steps}
use Rattle.seed.proofs.Groups.{label_after, label_read}
use Rattle.seed.proofs.labels.Labels.join.Goals as goal

pub returns-clause-labels : goal.returns-clause-labels
returns-clause-labels c E e a b labelled v l =
    let s = c.args.self.now in
    let k : v < length s.of.items = grind (arith, common_steps) in
    label_after E e v _ (get_or s.of.items v 0) c.index-from.result.now c.index-to.result.now (grind (arith, common_steps)) (labelled v k)
    (rw b (label_read E s.of.items c.args.b _ labelled c.requires.b c.index-from.ensures))
    (rw a (label_read E s.of.items c.args.a _ labelled c.requires.a c.index-to.ensures))
