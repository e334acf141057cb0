use Rattle.std.proofs.Common.{◌+◌, refl}
use Rattle.job.proofs.Going.{ends, goes_on, stops_at}
use Rattle.job.proofs.running.run_lines.Goals as goal

pub returns-in_default-answer_at-clause-ran : goal.returns-in_default-answer_at-clause-ran
returns-in_default-answer_at-clause-ran g c =
    let a = c.args.answerer.now in
    let stage = g.A.Answerer.stage in
    stops_at 2 (stage a) c.args.job.now c.args.out.now (g.met.A.Answerer.laws a) (stage c.loop-line.answerer) (stage c.answer_at.new.self) c.loop-line.rest.now c.in-Some.line.now c.in-Some.behind.now c.loop-line.out c.answer_at.new.out c.loop-line.lines c.loop-line.bytes (2 + c.loop-line.lines) c.loop-line.invariant c.in-Some.ensures.some refl (rw c.in_default-answer_at.is at c.answer_at.ensures)

pub loop-line-preserved : goal.loop-line-preserved
loop-line-preserved g c =
    let a = c.args.answerer.now in
    let stage = g.A.Answerer.stage in
    goes_on 2 (stage a) c.args.job.now c.args.out.now (stage c.loop-line.answerer) (stage c.answer_at.new.self) c.loop-line.rest.now c.in-Some.line.now c.in-Some.behind.now c.loop-line.out c.answer_at.new.out c.loop-line.lines c.loop-line.bytes (2 + c.loop-line.lines) c.in-Some-answer_at.end c.loop-line.invariant c.in-Some.ensures.some c.in-Some.ensures.shorter refl c.in-Some-answer_at.ensures

pub returns-clause-ran : goal.returns-clause-ran
returns-clause-ran g c =
    let a = c.args.answerer.now in
    let stage = g.A.Answerer.stage in
    ends 2 (stage a) c.args.job.now c.args.out.now (g.met.A.Answerer.laws a) (stage c.loop-line.answerer) c.loop-line.rest.now c.loop-line.out c.loop-line.lines c.loop-line.bytes c.loop-line.invariant c.in_default.ensures.none
