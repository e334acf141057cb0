use Rattle.std.proofs.Common.{◌+◌, ◌≤◌, length, subst, arith, List, ℕ, ⊎_elim}
use Rattle.job.specs.Places.{Puts, put_at}
use Rattle.reply.specs.Texts.{rows_in, rows_text}
use Rattle.job.proofs.Putting.{put_both}
use Rattle.job.proofs.tabling.put_table.Goals as goal

pub returns : goal.returns
returns g c =
    let R = rows_text 0 (rows_in c.args.net.now.state.tree) in
    let o = c.args.out.now in
    let a = c.args.at in
    let last = c.args.last.now in
    let e = c.put_rows-end.ensures in
    let fit : a + length R + length last ≤ length o =
    ⊎_elim {C = a + length R + length last ≤ length o} (λ f. omega (arith, f, c.requires.at)) (λ f. omega (arith, f, e.end, e.most, c.requires.line, c.requires.at)) c.if-not-fits.ensures.some in
    let P : List ℕ → Type 0 = λ xs. Puts xs c.put_rows-end.result last c.put.result c.put.new.out in
    let Q : ℕ → Type 0 = λ k. Puts (put_at o a R) k last c.put.result c.put.new.out in
    put_both o a R last c.put.result c.put.new.out fit (subst Q e.end (subst P e.bytes c.put.ensures))
