use Rattle.std.proofs.Common.{ℕ, rules}
use Rattle.std.proofs.lemmas.Iterator.{YieldsList-from_slice, cases_from_all}
use Rattle.tree_laws.specs.Trees.{Child}
use Rattle.joined.proofs.Keeping.{all_decided}
use Rattle.joined.proofs.joining.all_hang.Goals as goal

pub returns : goal.returns
returns c =
    let xs = c.args.members.now in
    let P : ℕ → Type 0 = Child c.args.table.now.rows 0 in
    let r = cases_from_all _ _ _ P (λ m. P m → ⊥) c.all.ensures.ran (YieldsList-from_slice xs c.iter.ensures.rest) (λ x r k. search rules) (λ x r k. search rules) in
    all_decided P xs c.all.result r
