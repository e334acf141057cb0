use Rattle.std.proofs.Common.{◌≡◌, ℕ, ◌+◌, ◌<◌, ◌≤◌, ◌⊎◌, List, length, slice_index, sym, ap, ◌∙◌, inl, inr, ⊎_elim, arith, ◌≢◌}
use Rattle.std.proofs.lemmas.Bool.{cases_lt}
use Rattle.order.proofs.Deciding.{decides_push, decides_same}
use Rattle.tree_laws.specs.declared.share.Share.{Share}
use Rattle.tree_laws.specs.Shares.{share_before}
use Rattle.tree_laws.specs.Trees.{up}
use Rattle.share.specs.Searches.{ShareMoveAt, ShareMoveOf}
use Rattle.share.specs.Siblings.{LastBelow}
use Rattle.share.proofs.sharing.ShareSearch.list.Goals as goal
use Rattle.share.proofs.sharing.ShareSearch.list.Goals.{in-Some, in_default}

pub loop-a-preserved : goal.loop-a-preserved
loop-a-preserved g c =
    let q = c.args.self.now in
    let rows = q.table.now.rows in
    let a = c.loop-a.a in
    let b = c.args.b in
    let (listed, few, parent, room) = c.loop-a.invariant in
    let F = c.loop-a.moves.items in
    let some : 0 < a = omega (arith, c.loop-a-test.true) in
    let beside : up rows a ≡ up rows b = parent (λ z. omega (arith, some, z)) in
    let e = slice_index q.earlier.now a in
    let l : LastBelow rows (up rows a) a e = q.linked.before a some (omega (arith, few, c.requires.row)) in
    let Of : Share → Type 0 = ShareMoveOf g.S.Space g.S.Joining q b in
    let P : Share → Type 0 = λ m. Of m × (a < m.a) in
    let R : Share → Type 0 = λ m. Of m × (e < m.a) in
    let Q : Share → Type 0 = ShareMoveAt g.S.Space g.S.Joining q a b in
    let left : (m : Share) → P m → R m = λ m p. (p.0, omega (arith, p.1, l.below)) in
    let right : (m : Share) → Q m → R m = λ m p. ((p.0, p.2), omega (arith, p.1, l.below)) in
    let either : (m : Share) → R m → P m ⊎ Q m = λ m p.
    ⊎_elim
    (λ (h : a < m.a). inl (p.0, h))
    (λ (h : m.a ≤ a).
    ⊎_elim
    (λ (k : m.a < a).
    let o : up rows m.b ≡ up rows b = ap (up rows) p.0.1 in
    absurd (l.last m.a p.1 k (p.0.0.first.parent ∙ sym p.0.0.second.parent ∙ o ∙ sym beside)))
    (λ (k : a ≤ m.a). let is : m.a ≡ a = omega (arith, h, k) in inr (p.0.0, is, p.0.1))
    (cases_lt m.a a))
    (cases_lt a m.a) in
    let below : (e ≢ 0) → up rows e ≡ up rows b = λ n. l.child n ∙ beside in
    elim c.match-weigh.branch [
      | in-Some w ↦
          rw w.moves-is (rw w.push_reserved.ensures.items (
            decides_push share_before P Q R left right either F listed w.in-Some.share w.in-Some.ensures,
            omega (arith, few, w.push_reserved.ensures.len, l.below),
            below,
            w.push_reserved.ensures.capacity ∙ room,
          ))
      | in_default w ↦
          rw w.moves-is (
            decides_same share_before P Q R left right either F listed w.in_default.ensures,
            omega (arith, few, l.below),
            below,
            room,
          )
    ]
