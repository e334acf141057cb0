use Rattle.picture.proofs.Words.{no_call, no_row}
use Rattle.picture.proofs.answer.AnswerLineFromStr.from_str.Goals as goal

pub returns-in_default-row_of : goal.returns-in_default-row_of
returns-in_default-row_of c = no_row c.args.text.now c.in-Some.rest.now c.in-Some.ensures c.in_default-row_of.ensures

pub returns-in_default-accepted_of : goal.returns-in_default-accepted_of
returns-in_default-accepted_of c = no_call c.args.text.now c.in-Some-after.rest.now c.in-Some-after.ensures c.in_default-accepted_of.ensures
