use Rattle.std.proofs.Common.{◌≡◌, ◌+◌, ◌++◌, ◌<◌, ◌≤◌, length, take, ap, ◌∙◌, sym, arith, rules, ⊎_elim}
use Rattle.std.proofs.lemmas.List.{length-append}
use Rattle.job.specs.Places.{put_at}
use Rattle.reply.specs.Texts.{row_text, rows_in, rows_text}
use Rattle.tree_laws.specs.Trees.{row_of}
use Rattle.job.proofs.Putting.{put_put}
use Rattle.job.proofs.Tables.{part, row_more}
use Rattle.job.proofs.tabling.put_rows.Goals as goal

pub place-end-requires : goal.place-end-requires
place-end-requires g c =
    let rows = rows_in c.args.net.now.state.tree in
    let k = c.loop-k.k in
    let h : k < length rows = omega (arith, c.requires.count, c.loop-k-test.true) in
    let A = rows_text 0 (take k rows) in
    let B = row_text k (row_of rows k) in
    let text : c.as_bytes.result.now ≡ B = search rules in
    let short : length c.as_bytes.result.now ≤ 128 = search rules in
    let P = c.loop-k.end + length c.as_bytes.result.now ≤ length c.loop-k.out in
    ⊎_elim {C = P}
    (λ f. omega (arith, f, part rows (k + 1), ap length (row_more rows k h), length-append A B, ap length text, c.loop-k.invariant.0, c.loop-k.auto.out))
    (λ f. omega (arith, f, short, c.loop-k.invariant.2, c.loop-k.auto.out, c.loop-k-test.true)) c.requires.fits

pub loop-k-preserved : goal.loop-k-preserved
loop-k-preserved g c =
    let rows = rows_in c.args.net.now.state.tree in
    let k = c.loop-k.k in
    let h : k < length rows = omega (arith, c.requires.count, c.loop-k-test.true) in
    let o = c.args.out.now in
    let a = c.args.at in
    let A = rows_text 0 (take k rows) in
    let B = row_text k (row_of rows k) in
    let t = c.as_bytes.result.now in
    let text : t ≡ B = search rules in
    let short : length t ≤ 128 = search rules in
    let more = row_more rows k h in
    let inside : a ≤ length o = ⊎_elim {C = a ≤ length o} (λ f. omega (arith, f)) (λ f. omega (arith, f)) c.requires.fits in
    let e = c.loop-k.end in (
      omega (arith, c.place-end.ensures.end, c.loop-k.invariant.0, ap length more, length-append A B, ap length text),
      c.place-end.ensures.bytes
          ∙ ap (λ xs. put_at xs e t) c.loop-k.invariant.1
          ∙ ap (λ n. put_at (put_at o a A) n t) c.loop-k.invariant.0
          ∙ put_put o a A t inside
          ∙ ap (λ u. put_at o a (A ++ u)) text
          ∙ ap (put_at o a) (sym more),
      omega (arith, c.place-end.ensures.end, short, c.loop-k.invariant.2),
    )
