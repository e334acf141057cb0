-- What a hook move and a share move make of a net whose tree stands. Assumes nothing.
use Rattle.std.proofs.Common.{◌≡◌, ℕ, ◌+◌, ◌≤◌, List, length, Some, None, Ok, Err, Option, Result, sym, ap, ◌∙◌, subst, inl, inr, arith}
use Rattle.net_laws.specs.Answers.{HookAnswer, ShareAnswer, Stands}
use Rattle.net_laws.specs.States.{State, with_tree}
use Rattle.net_laws.specs.Spaces.{made_total, joining, wiring}
use Rattle.net_laws.specs.declared.fault.Fault.{Fault}
use Rattle.net_laws.specs.declared.fault.Fault.TheVariants.{NoMove, TooManyRows}
use Rattle.share.specs.Shares.{NoRoom, ShareMade}
use Rattle.space.specs.Totals.{meet_or_start, capped_distance}
use Rattle.tree_laws.specs.Shares.{meet_of, shared_by}
use Rattle.tree_laws.specs.declared.share.Share.{Share}
use Rattle.space.specs.declared.Joining.{Ghosts as JoinGhosts}
use Rattle.space.specs.declared.Space.{Ghosts}
use Rattle.space.specs.declared.spot.Spot.{Spot}
use Rattle.tree_laws.specs.Trees.{add, hang, row_spot}
use Rattle.tree_laws.specs.declared.Row.{Row}
use Rattle.tree_laws.proofs.Adding.{add_length}
use Rattle.tree_laws.proofs.Hanging.{hang_length}

pub not_none : (o : Option (List Row)) (rows : List Row) → o ≡ Some rows → o ≡ None → ⊥
not_none o rows p q = let z : ◌≡◌ {A = ℕ} 0 1 = cc in omega arith

pub only : (o : Option (List Row)) (rows other : List Row) → o ≡ Some rows → o ≡ Some other → rows ≡ other
only o rows other p q = cc

pub shared_length : (rows : List Row) (d : Spot → Spot → ℕ) (j : Spot → Spot → Spot → Spot) (m : Share) → length (shared_by rows d j m) ≡ length rows + 1
shared_length rows d j m =
    let z = meet_of rows j m in
    let one = add rows m.v z (d (row_spot rows m.v) z) in
    let two = hang one m.a (length rows) (d z (row_spot rows m.a)) in
    hang_length two m.b (length rows) (d z (row_spot rows m.b)) ∙ hang_length one m.a (length rows) (d z (row_spot rows m.a)) ∙ add_length rows m.v z (d (row_spot rows m.v) z)

-- a share move that was made, in a table of at most 768 rows
pub share_saves : {X : Type 0} (G : Ghosts X) (J : JoinGhosts X) (s : X) (n m : State) (rows after : List Row) (w : ℕ) → Stands n rows → m ≡ with_tree n after → length after ≤ 768 → ShareMade G J s rows w after → ShareAnswer (made_total (joining G J s)) n m (Ok w)
share_saves G J s n m rows after w st e few h =
    let more : length after ≡ length rows + 1 = ap length h.shared ∙ shared_length rows (capped_distance G s) (meet_or_start G J s) h.move in (
      λ none. not_none n.tree rows st none,
      (
        (rows, st, (h.move, h.best.0)),
        (
          λ other at. let same : rows ≡ other = only n.tree rows other st at in omega (arith, ap length same, more, few),
          (rows, after, st, record { move = h.move; best = h.best; saves = sym h.saving; shared = h.shared }, e),
        ),
      ),
    )
