use Rattle.std.proofs.Common.{◌≡◌, ℕ, ◌++◌, ◌-◌, List, length, Some, None, subst, sym, ap, ◌∙◌, arith, rules}
use Rattle.std.proofs.lemmas.Slice.{between_to_end}
use Rattle.job.specs.Places.{Puts}
use Rattle.reply.specs.Texts.{answer_text, last_text}
use Rattle.job.specs.Answering.{net_of}
use Rattle.job.specs.Jobs.{Ran}
use Rattle.job.proofs.Opening.{begun_go, begun_stop, given_back}
use Rattle.job.proofs.starting.run_behind.Goals as goal

pub returns-in_default : goal.returns-in_default
returns-in_default g c =
    let s = g.A.Answerer.stage c.args.answerer in
    let r = c.args.answer in
    let old = c.args.out.now in
    let text : answer_text (net_of s) 1 r ≡ c.as_bytes.result.now = ap (λ t. t ++ last_text 1 r) c.requires ∙ search rules in
    let P : List ℕ → Type 0 = λ t. Puts old 0 t None c.put.new.out in
    begun_stop s r c.args.rest.now old c.put.new.out (subst P (sym text) (rw c.in_default.is at c.put.ensures))

pub overflow_add-result : goal.overflow_add-result
overflow_add-result g c = omega (arith, c.run_lines-ran.ensures.few)

pub returns : goal.returns
returns g c =
    let s = g.A.Answerer.stage c.args.answerer in
    let r = c.args.answer in
    let old = c.args.out.now in
    let now = c.put.new.out in
    let end = c.in-Some.end in
    let mid = c.run_lines-ran.new.out in
    let text : answer_text (net_of s) 1 r ≡ c.as_bytes.result.now = ap (λ t. t ++ last_text 1 r) c.requires ∙ search rules in
    let P : List ℕ → Type 0 = λ t. Puts old 0 t (Some end) now in
    let put : Puts old 0 (answer_text (net_of s) 1 r) (Some end) now = subst P (sym text) c.in-Some.ensures in
    let long : length now ≡ length old = c.put.auto.out in
    let last = g.A.Answerer.stage c.run_lines-ran.new.answerer in
    let Q : List ℕ → Type 0 = λ xs. Ran 2 s last c.args.rest.now xs mid c.run_lines-ran.result in
    let ran = subst Q (between_to_end now end (length now) (omega (arith, put.1, long))) c.run_lines-ran.ensures.ran in
    begun_go s last r c.args.rest.now old now _ mid end c.run_lines-ran.result put ran (given_back end (length now - end) now mid (omega (arith, put.1, long)))
