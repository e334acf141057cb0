-- Joining, hook moves and share moves on rows that lie in their space: the rows lie in it again, and how paths and wire change. Assumes nothing.
use Rattle.std.proofs.Common.{◌≡◌, ℕ, ◌+◌, ◌<◌, ◌≤◌, List, length, refl, ◌∙◌, arith}
use Rattle.build_laws.specs.Joining.{Grouped, Joins, far_of}
use Rattle.build_laws.specs.Joining.Joins.{done, join}
use Rattle.build_laws.proofs.Joined.{first_child, second_child, step_grouped}
use Rattle.tree_laws.specs.Shares.{ShareMove, shared_by}
use Rattle.tree_laws.specs.declared.share.Share.{Share}
use Rattle.tree_laws.proofs.ShareMoves.{measured_again, paths_stay, spot_kept, wire_falls}
use Rattle.space.specs.Laws.{Meets, Metric}
use Rattle.space.specs.declared.TheConstants.{LONGEST}
use Rattle.space.specs.declared.Joining.{Ghosts as JoinGhosts}
use Rattle.space.specs.declared.Space.{Ghosts}
use Rattle.tree_laws.specs.Hooks.{HookMove}
use Rattle.tree_laws.specs.Distances.{Measured}
use Rattle.tree_laws.specs.declared.hook.Hook.{Hook}
use Rattle.tree_laws.proofs.HookMoves.{hang_measured}
use Rattle.tree_laws.specs.Trees.{RowTree, hang, path_length, row_spot, wire_of}
use Rattle.tree_laws.specs.declared.Row.{Row}
use Rattle.tree_laws.proofs.Hanging.{hang_length, hang_never_grows, hang_spot, hang_tree, hang_wire}
use Rattle.tree_laws.proofs.Sharing.{between_length, between_tree}
use Rattle.net_laws.specs.Geometry.{Geometry}
use Rattle.net_laws.specs.States.{State}
use Rattle.net_laws.specs.Spaces.{Placed}

-- ---- a geometry as a space

abbrev pub ghosts : Geometry → Ghosts (Unit {0})
ghosts W = record { admitted = λ _. W.admitted; width = λ _. W.width; between = λ _. W.between }

abbrev pub join_ghosts : Geometry → JoinGhosts (Unit {0})
join_ghosts W = record { meeting = λ _. W.meeting }

-- Rows that lie in the space, and the spots of the first of them.
pub record Lies (W : Geometry) (rows after : List Row) : Type 0 where
  pub tree : RowTree after
  pub more : length rows ≤ length after
  pub spots : (k : ℕ) → k < length rows → row_spot after k ≡ row_spot rows k
  pub measured : Measured (ghosts W) tt after

pub placed_measured : (W : Geometry) (n : State) (rows : List Row) → W.width ≤ LONGEST → Placed W.admitted W.between n rows → Measured (ghosts W) tt rows
placed_measured W n rows h p = record { narrow = h; admitted = p.admitted; lengths = p.lengths }

pub lies_placed : (W : Geometry) (n : State) (rows after : List Row) → Placed W.admitted W.between n rows → Lies W rows after → Placed W.admitted W.between n after
lies_placed W n rows after p l = record {
  two = p.two;
  tree = l.tree;
  more = omega (arith, p.more, l.more);
  spots = λ k h. l.spots k (omega (arith, p.more)) ∙ p.spots k h;
  admitted = l.measured.admitted;
  lengths = l.measured.lengths;
}

module _ (W : Geometry) (metric : W.width ≤ LONGEST → Metric W.admitted W.width W.between) (meets : W.width ≤ LONGEST → Meets W.admitted W.between W.meeting) where
  -- ---- a share move

  module _ (rows : List Row) (t : RowTree rows) (p : Measured (ghosts W) tt rows) (m : Share) (q : ShareMove rows W.between W.meeting m) where
    apart : m.b ≡ m.a → ⊥
    apart e = omega (arith, q.order, e)

    pub share_lies : Lies W rows (shared_by rows W.between W.meeting m)
    share_lies = record {
      tree = between_tree t m.v q.row _ _ m.a _ m.b _ q.first q.second apart;
      more = omega (arith, between_length t m.v q.row (W.meeting (row_spot rows m.v) (row_spot rows m.a) (row_spot rows m.b)) (W.between (row_spot rows m.v) (W.meeting (row_spot rows m.v) (row_spot rows m.a) (row_spot rows m.b))) m.a (W.between (W.meeting (row_spot rows m.v) (row_spot rows m.a) (row_spot rows m.b)) (row_spot rows m.a)) m.b (W.between (W.meeting (row_spot rows m.v) (row_spot rows m.a) (row_spot rows m.b)) (row_spot rows m.b)) q.first q.second apart);
      spots = spot_kept (ghosts W) (join_ghosts W) tt rows metric meets p t m q;
      measured = measured_again (ghosts W) (join_ghosts W) tt rows metric meets p t m q;
    }

    pub share_wire : wire_of (shared_by rows W.between W.meeting m) + m.saving ≡ wire_of rows
    share_wire = omega (arith, wire_falls (ghosts W) (join_ghosts W) tt rows metric meets p t m q, q.saves)

    pub share_paths : (k : ℕ) → k < length rows → path_length (shared_by rows W.between W.meeting m) k ≡ path_length rows k
    share_paths = paths_stay (ghosts W) (join_ghosts W) tt rows metric meets p t m q

  -- ---- a hook move

  module _ (rows : List Row) (t : RowTree rows) (p : Measured (ghosts W) tt rows) (m : Hook) (q : HookMove rows (λ u v. W.between (row_spot rows u) (row_spot rows v)) m) where
    abbrev far : ℕ
    far = W.between (row_spot rows m.u) (row_spot rows m.v)

    pub hook_lies : Lies W rows (hang rows m.v m.u far)
    hook_lies = record {
      tree = hang_tree t far q.hangs;
      more = omega (arith, hang_length rows m.v m.u far);
      spots = λ k h. hang_spot rows m.v m.u far k q.hangs.row;
      measured = hang_measured (ghosts W) tt rows metric t m.v m.u q.hangs.row q.hangs.parent p;
    }

    pub hook_wire : wire_of (hang rows m.v m.u far) + m.saving ≡ wire_of rows
    hook_wire = omega (arith, hang_wire rows m.v m.u far q.hangs.row, q.saves)

    pub hook_paths : (k : ℕ) → k < length rows → path_length (hang rows m.v m.u far) k ≤ path_length rows k
    hook_paths = hang_never_grows t far q.hangs q.path

  -- ---- joining

  pub joins_lie : {rows after : List Row} {group : List ℕ} → W.width ≤ LONGEST → RowTree rows → Measured (ghosts W) tt rows → Grouped W.between W.meeting W.admitted rows group → Joins W.between W.meeting rows group after → Lies W rows after
  joins_lie h t p g (done e) = record { tree = t; more = omega arith; spots = λ k i. refl; measured = p }
  joins_lie {rows} {after} {group} h t p g (join a b f pos rest) =
      let laws = meets h in
      let pr = f.pair in
      let m : Share = record { saving = far_of W.between W.meeting rows a b; v = 0; a = a; b = b } in
      let q : ShareMove rows W.between W.meeting m = record {
        row = t.some;
        first = first_child W.between W.meeting W.admitted laws rows group t g a b pr;
        second = second_child W.between W.meeting W.admitted laws rows group t g a b pr;
        order = pr.ordered;
        saves = refl;
        counts = pos;
      } in
      let l = share_lies rows t p m q in
      let r = joins_lie h l.tree l.measured (step_grouped W.between W.meeting W.admitted laws rows group t g a b pr) rest in
      record {
        tree = r.tree;
        more = omega (arith, r.more, l.more);
        spots = λ k i. r.spots k (omega (arith, l.more)) ∙ l.spots k i;
        measured = r.measured;
      }
