use Rattle.std.proofs.Common.{◌≡◌, ℕ, Some, None, Err, Option, Result, refl, subst, rules}
use Rattle.order.specs.Bests.{BestOf}
use Rattle.tree_laws.proofs.Ways.{hung}
use Rattle.space.specs.Totals.{meet_or_start, capped_distance}
use Rattle.tree_laws.specs.Shares.{ShareMove, share_before}
use Rattle.tree_laws.specs.declared.share.Share.{Share}
use Rattle.share.specs.declared.sharing.ShareFault.{ShareFault}
use Rattle.share.specs.declared.sharing.ShareFault.TheVariants.{Nothing, Full}
use Rattle.share.specs.Meets.{MeetInserted}
use Rattle.share.specs.Shares.{Shared}
use Rattle.tree_laws.proofs.ShareMoves.{best_measured}
use Rattle.share.proofs.Gaining.{gained_measured}
use Rattle.share.proofs.Placing.{full_table}
use Rattle.share.proofs.sharing.share_best.Goals as goal

pub returns-in_err-share : goal.returns-in_err-share
returns-in_err-share g c =
    let G = g.S.Space in
    let J = g.S.Joining in
    let s = c.args.space.now in
    let t = c.args.table.now in
    let B : Option Share → Type 0 = BestOf share_before (ShareMove t.rows (capped_distance G s) (meet_or_start G J s)) in
    let R : Result ℕ ShareFault → Type 0 = λ r. Shared G J s t r t in
    let none : c.best.result ≡ None = search rules in
    let b = subst B none c.best.ensures in
    let is : Err Nothing ≡ c.from_residual.result = search rules in
    subst R is (b, λ p. best_measured G J s t.rows (g.met.S.Space.metric s) (g.met.S.Joining.meets s) p None b, refl)

pub returns-in_err-ok_or : goal.returns-in_err-ok_or
returns-in_err-ok_or g c =
    let G = g.S.Space in
    let J = g.S.Joining in
    let s = c.args.space.now in
    let t = c.args.table.now in
    let after = c.insert_meet.new.table in
    let m = c.in_ok-share.share in
    let B : Option Share → Type 0 = BestOf share_before (ShareMove t.rows (capped_distance G s) (meet_or_start G J s)) in
    let P : Option ℕ → Type 0 = λ r. MeetInserted G J s t m.v m.a m.b r after in
    let R : Result ℕ ShareFault → Type 0 = λ r. Shared G J s t r after in
    let found : c.best.result ≡ Some m = search rules in
    let none : c.insert_meet.result ≡ None = search rules in
    let b = subst B found c.best.ensures in
    let e = subst P none c.insert_meet.ensures in
    let is : Err Full ≡ c.from_residual-in_err-ok_or.result = search rules in
    subst R is (
      record {
        move = m;
        best = b;
        own = λ p. best_measured G J s t.rows (g.met.S.Space.metric s) (g.met.S.Joining.meets s) p (Some m) b;
        full = full_table t (capped_distance G s) (meet_or_start G J s) m b.0 e.0;
      },
      e.1,
    )

pub returns : goal.returns
returns g c =
    let G = g.S.Space in
    let J = g.S.Joining in
    let s = c.args.space.now in
    let t = c.args.table.now in
    let after = c.insert_meet.new.table in
    let m = c.in_ok-share.share in
    let B : Option Share → Type 0 = BestOf share_before (ShareMove t.rows (capped_distance G s) (meet_or_start G J s)) in
    let P : Option ℕ → Type 0 = λ r. MeetInserted G J s t m.v m.a m.b r after in
    let found : c.best.result ≡ Some m = search rules in
    let made : c.insert_meet.result ≡ Some c.in_ok-ok_or.field-0 = search rules in
    let b = subst B found c.best.ensures in
    let e = subst P made c.insert_meet.ensures in
    record {
      move = m;
      best = b;
      saving = refl;
      shared = e.2;
      tree = hung after.tree;
      gained = λ p. gained_measured G J s t.rows (g.met.S.Space.metric s) (g.met.S.Joining.meets s) p t.tree m after.rows b e.2;
    }
