use Rattle.std.proofs.Common.{◌≡◌, ℕ, List, length, sym, ap, ◌∙◌, subst₂, arith}
use Rattle.std.proofs.lemmas.List.{length-map}
use Rattle.walk_laws.specs.Walk as laws
use Rattle.walk.specs.declared.row.NodeRow.{NodeRow}
use Rattle.walk.specs.Marks.{directs}
use Rattle.walk.specs.Walked.{Walked, WalkedOver, rules_in}
use Rattle.walk.specs.WalkValue.{WalkValue, directs_in, marks_in}
use Rattle.walk.proofs.Fresh.{renewed_directs, renewed_kept, renewed_ready}
use Rattle.walk.proofs.Viewed.{directs_seen, kept_seen, marks_seen, written}
use Rattle.walk.proofs.table.Walk.walk.Goals as goal

pub take_steps-requires-clause-ready : goal.take_steps-requires-clause-ready
take_steps-requires-clause-ready c =
    let s = c.args.tree.now.seed.now in
    let items : List NodeRow = c.self.inside.rows.items in
    let rows = c.as_mut_slice-rows.result.now in
    let many : length items ≡ length c.args.self.now.marks = sym (length-map items (λ r. r.mark)) ∙ ap (λ (w : WalkValue). length w.marks) c.self.view_is in
    let count : length rows ≡ s.nodes = ap length c.as_mut_slice-rows.ensures.value ∙ many ∙ sym c.len.ensures ∙ c.if-len-nodes.false ∙ c.nodes.ensures in
    renewed_ready rows c.renew_all.new.rows c.renew_all.ensures s.nodes (omega (arith, c.args.tree.now.whole)) count

pub returns-clause-walked : goal.returns-clause-walked
returns-clause-walked c =
    let a = c.args.allowance in
    let s = c.args.tree.now.seed.now in
    let items : List NodeRow = c.self.inside.rows.items in
    let rows = c.as_mut_slice-rows.result.now in
    let renewed = c.renew_all.new.rows in
    let walked = c.take_steps.new.rows in
    let end = written c.self.inside.rows.len walked items (c.take_steps.ensures.kept.count ∙ c.renew_all.ensures.count ∙ c.as_mut_slice-rows.ensures.len) in
    let d : directs renewed ≡ directs items = renewed_directs rows renewed c.renew_all.ensures ∙ ap directs c.as_mut_slice-rows.ensures.value in
    let P : (ℕ → ℕ) → laws.Marks → Type 0 = λ f S. Walked (record { p = a.p; q = a.q; pins = c.args.pins; direct = f }) s.nodes s.edges S in
    let found : WalkedOver (rules_in a c.args.pins (directs_in items)) s (marks_in walked) = subst₂ P (d ∙ directs_seen items) (marks_seen walked) c.take_steps.ensures.walked in
    let Q : WalkValue → List NodeRow → Type 0 = λ w xs. WalkedOver (rules_in a c.args.pins w.directs) s (marks_in xs) in
    subst₂ Q c.self.view_is (sym end) found

pub returns-clause-kept : goal.returns-clause-kept
returns-clause-kept c =
    let items : List NodeRow = c.self.inside.rows.items in
    let rows = c.as_mut_slice-rows.result.now in
    let renewed = c.renew_all.new.rows in
    let walked = c.take_steps.new.rows in
    let end = written c.self.inside.rows.len walked items (c.take_steps.ensures.kept.count ∙ c.renew_all.ensures.count ∙ c.as_mut_slice-rows.ensures.len) in
    ap directs_in end
    ∙ kept_seen renewed walked c.take_steps.ensures.kept
    ∙ kept_seen rows renewed (renewed_kept rows renewed c.renew_all.ensures)
    ∙ ap directs_in c.as_mut_slice-rows.ensures.value
    ∙ ap (λ (w : WalkValue). w.directs) c.self.view_is
