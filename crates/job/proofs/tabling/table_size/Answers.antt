use Rattle.std.proofs.Common.{◌+◌, ◌<◌, length, take, ap, arith}
use Rattle.std.proofs.lemmas.List.{length-append}
use Rattle.reply.specs.Texts.{row_text, rows_in, rows_text}
use Rattle.tree_laws.specs.Trees.{row_of}
use Rattle.job.proofs.Tables.{part, row_more}
use Rattle.job.proofs.tabling.table_size.Goals as goal

pub returns-then-len-room : goal.returns-then-len-room
returns-then-len-room g c =
    let rows = rows_in c.args.net.now.state.tree in
    let k = c.loop-k.k in
    let h : k < length rows = omega (arith, c.requires, c.loop-k-test.true) in
    let A = rows_text 0 (take k rows) in
    let B = row_text k (row_of rows k) in
    omega (arith, part rows (k + 1), ap length (row_more rows k h), length-append A B, ap length c.line_at-line.ensures, c.len.ensures.value, c.loop-k.invariant, c.if-len-room.true)

pub loop-k-preserved : goal.loop-k-preserved
loop-k-preserved g c =
    let rows = rows_in c.args.net.now.state.tree in
    let k = c.loop-k.k in
    let h : k < length rows = omega (arith, c.requires, c.loop-k-test.true) in
    let A = rows_text 0 (take k rows) in
    let B = row_text k (row_of rows k) in (
      omega (arith, ap length (row_more rows k h), length-append A B, ap length c.line_at-line.ensures, c.len-size.ensures.value, c.loop-k.invariant),
      omega (arith, c.len-size.ensures.value, c.len.ensures.value, c.loop-k.invariant, c.if-len-room.false),
    )
