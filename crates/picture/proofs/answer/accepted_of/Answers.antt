use Rattle.picture.proofs.answer.accepted_of.Goals as goal

pub returns : goal.returns
returns c = record {
  line = rw (← c.cut.ensures.first) c.in_ok-line.ensures;
  value = rw (← c.cut.ensures.rest, ← c.cut-2.ensures.first) c.number_of-2.ensures;
}
