use Rattle.std.proofs.Common.{[], ◌∷◌, ◌++◌, refl, add-one, rules}
use Rattle.order.specs.Bests.Found.{start, skips, finds}
use Rattle.order.proofs.Finding.{Leads, leads_keeps, leads_takes}
use Rattle.search.proofs.first_found.Goals as goal
use Rattle.search.proofs.first_found.Goals.{in-Some+then-is_none_or, in-Some+else-is_none_or, in_default}

pub loop-i-init : goal.loop-i-init
loop-i-init g c = ([], start, refl)

pub loop-i-preserved : goal.loop-i-preserved
loop-i-preserved g c =
    let (xs, found, first) = c.loop-i.invariant in
    let o = g.met.C.Rank.order in
    let lt = g.C.Rank.before in
    rw add-one (elim c.match-find.branch [
      | in-Some+then-is_none_or w ↦
          let x = w.in-Some.candidate in
          let l : Leads lt c.loop-i.first x w.is_none_or.result = search rules in
          (xs ++ x ∷ [], finds found w.in-Some.ensures, rw w.first-is (leads_takes o xs c.loop-i.first x first (rw w.if-is_none_or.true at l)))
      | in-Some+else-is_none_or w ↦
          let x = w.in-Some.candidate in
          let l : Leads lt c.loop-i.first x w.is_none_or.result = search rules in
          (xs ++ x ∷ [], finds found w.in-Some.ensures, rw w.first-is (leads_keeps o xs c.loop-i.first x first (rw w.if-is_none_or.false at l)))
      | in_default w ↦ (xs, skips found w.in_default.ensures, rw w.first-is first)
    ])
