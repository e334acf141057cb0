use Rattle.std.proofs.Common.{◌≡◌, List, subst, rules}
use Rattle.order.specs.Firsts.{FirstOf}
use Rattle.order.proofs.Finding.{first_of_covered, found_all, winners_cover}
use Rattle.search.proofs.first.Goals as goal

pub returns : goal.returns
returns g c =
    let xs = c.args.candidates.now in
    let r = c.first_found.result in
    let o = g.met.C.Rank.order in
    let (ys, found, f) = c.first_found.ensures in
    let e : ys ≡ xs = found_all xs (λ i r p. search rules) found (search rules) in
    let P : List g.row.C.Denot → Type 0 = λ zs. FirstOf g.C.Rank.before zs r in
    let first : FirstOf g.C.Rank.before xs r = subst P e f in
    record { first = first; staged = λ zs k. first_of_covered o r k first; gathered = λ ls k. first_of_covered o r (winners_cover o k) first }
