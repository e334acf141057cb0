use Rattle.std.proofs.Common.{ℕ, List, length, vec_items, sym, ap, subst, arith}
use Rattle.space.specs.Totals.{meet_or_start, capped_distance}
use Rattle.joined.specs.Joinings.{Joinable}
use Rattle.joined.specs.Pairs.{FirstPairs}
use Rattle.joined.proofs.Stepping.{standing_start}
use Rattle.joined.proofs.joining.Joiner.begin.Goals as goal

pub returns-clause-standing : goal.returns-clause-standing
returns-clause-standing g c =
    let t = c.args.table.now in
    let rows = t.rows in
    let d = capped_distance g.S.Space c.args.space.now in
    let j = meet_or_start g.S.Space g.S.Joining c.args.space.now in
    let group = vec_items c.fill.new.group in
    let F = vec_items c.start.new.partners.firsts in
    let e = c.fill.ensures.items in
    let v = c.as_slice.ensures.value in
    let P : List ℕ → Type 0 = λ xs. Joinable rows xs in
    let Q : List ℕ → Type 0 = λ xs. FirstPairs d j rows xs F in
    standing_start d j rows group F t.tree (subst P (sym e) c.requires) (subst Q v c.start.ensures.firsts) (omega (arith, c.start.ensures.few, ap length v))
