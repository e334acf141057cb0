-- On admitted spots, in a space that is not too wide, the distances of rows are the space's own. Assumes nothing.
use Rattle.std.proofs.Common.{◌≡◌, ℕ, ◌<◌, ◌≤◌, min, Bool, true, false, ◌&&◌, List, length, Some, None, Option, unwrap_or, sym, ap, ◌∙◌, ⊎_elim, arith}
use Rattle.std.proofs.lemmas.Bool.{cases_eq}
use Rattle.space.specs.Laws.{Metric, answered}
use Rattle.space.specs.declared.Space.{Ghosts}
use Rattle.space.specs.declared.spot.Spot.{Spot}
use Rattle.tree_laws.specs.declared.Row.{Row}
use Rattle.tree_laws.specs.Trees.{RowTree, hang, row_length, row_spot, up}
use Rattle.tree_laws.proofs.Hanging.{hang_length, hang_spot, long_other, long_same, up_other, up_same}
use Rattle.tree_laws.specs.declared.hook.Hook.{Hook}
use Rattle.tree_laws.specs.Distances.{Measured, Settled, capped_row_distance, row_distance}
use Rattle.tree_laws.specs.Hooks.{HookMove, hook_before}
use Rattle.order.specs.Bests.{BestOf}

-- ---- two ways to measure that agree on the rows

Agree : List Row → (d e : ℕ → ℕ → ℕ) → Type 0
Agree rows d e = (u v : ℕ) → u < length rows → v < length rows → d u v ≡ e u v

move_other : (rows : List Row) (d e : ℕ → ℕ → ℕ) → Agree rows d e → (m : Hook) → HookMove rows d m → HookMove rows e m
unfolding Agree
move_other rows d e a m q =
    let s = a m.u m.v q.hangs.parent q.hangs.row in
    record { hangs = q.hangs; path = omega (arith, s, q.path); saves = omega (arith, s, q.saves); counts = q.counts }

agree_back : (rows : List Row) (d e : ℕ → ℕ → ℕ) → Agree rows d e → Agree rows e d
unfolding Agree
agree_back rows d e a u v h k = sym (a u v h k)

best_other : (rows : List Row) (d e : ℕ → ℕ → ℕ) → Agree rows d e → (o : Option Hook) → BestOf hook_before (HookMove rows d) o → BestOf hook_before (HookMove rows e) o
best_other rows d e a None b = λ m q. b m (move_other rows e d (agree_back rows d e a) m q)
best_other rows d e a (Some m) b = (move_other rows d e a m b.0, λ n q. b.1 n (move_other rows e d (agree_back rows d e a) n q))

-- ---- the space's distances

pub uncut : (x k : ℕ) (b : Bool) → b ≡ true → x ≤ k → k ≤ 100000000 → min 100000000 (unwrap_or (answered b x) 0) ≡ x
uncut x k true e l n = omega arith
uncut x k false e l n = let z : ◌≡◌ {A = ℕ} 0 1 = cc in absurd (omega arith)

module _ {X : Type 0} (G : Ghosts X) (s : X) (rows : List Row) (law : G.width s ≤ 100000000 → Metric (G.admitted s) (G.width s) (G.between s)) where
  pub measured : Settled G s rows → (u v : ℕ) → u < length rows → v < length rows → capped_row_distance G s rows u v ≡ row_distance G s rows u v
  measured p u v h k =
      let a = p.admitted u h in
      let b = p.admitted v k in
      let both : G.admitted s (row_spot rows u) && G.admitted s (row_spot rows v) ≡ true = rw (a, b) in
      uncut (row_distance G s rows u v) (G.width s) (G.admitted s (row_spot rows u) && G.admitted s (row_spot rows v)) both ((law p.narrow).within (row_spot rows u) (row_spot rows v) a b) p.narrow

  pub settled : Measured G s rows → Settled G s rows
  settled p = record { narrow = p.narrow; admitted = p.admitted }

  -- a row hung on another parent, at its distance from it, leaves the rows measured
  pub hang_measured : RowTree rows → (v u : ℕ) → v < length rows → u < length rows → Measured G s rows → Measured G s (hang rows v u (row_distance G s rows u v))
  hang_measured t v u hv hu p =
      let l = row_distance G s rows u v in
      let after = hang rows v u l in
      let spot : (k : ℕ) → row_spot after k ≡ row_spot rows k = λ k. hang_spot rows v u l k hv in
      let n = hang_length rows v u l in
      record {
        narrow = p.narrow;
        admitted = λ k h. ap (λ (z : Spot). G.admitted s z) (spot k) ∙ p.admitted k (omega (arith, n));
        lengths = λ k h ne.
            let at : (x : ℕ) → up after k ≡ x → row_length after k ≡ row_distance G s rows x k → row_length after k ≡ row_distance G s after (up after k) k =
            λ x e q. q ∙ ap (λ (z : Spot). G.between s z (row_spot rows k)) (sym (ap (row_spot after) e ∙ spot x)) ∙ ap (G.between s (row_spot after (up after k))) (sym (spot k)) in
            ⊎_elim
            (λ (e : k ≡ v). at u (ap (up after) e ∙ up_same rows v u l hv) (ap (row_length after) e ∙ long_same rows v u l hv ∙ ap (row_distance G s rows u) (sym e)))
            (λ (off : k ≡ v → ⊥). at (up rows k) (up_other rows v u l k off) (long_other rows v u l k off ∙ p.lengths k (omega (arith, n)) ne))
            (cases_eq k v);
      }

  -- a move by the cut distances is one by the space's own, and the other way round
  pub move_own : Settled G s rows → (m : Hook) → HookMove rows (capped_row_distance G s rows) m → HookMove rows (row_distance G s rows) m
  unfolding Agree
  move_own p m q = move_other rows (capped_row_distance G s rows) (row_distance G s rows) (measured p) m q

  pub move_cut : Settled G s rows → (m : Hook) → HookMove rows (row_distance G s rows) m → HookMove rows (capped_row_distance G s rows) m
  unfolding Agree
  move_cut p m q = move_other rows (row_distance G s rows) (capped_row_distance G s rows) (agree_back rows (capped_row_distance G s rows) (row_distance G s rows) (measured p)) m q

  -- the best by the cut distances is the best by the space's own
  pub best_own : Settled G s rows → (o : Option Hook) → BestOf hook_before (HookMove rows (capped_row_distance G s rows)) o → BestOf hook_before (HookMove rows (row_distance G s rows)) o
  unfolding Agree
  best_own p o b = best_other rows (capped_row_distance G s rows) (row_distance G s rows) (measured p) o b

  -- a row hung on another parent leaves the spots admitted
  pub hang_settled : (v u l : ℕ) → v < length rows → Settled G s rows → Settled G s (hang rows v u l)
  hang_settled v u l h p = record {
    narrow = p.narrow;
    admitted = λ k i. ap (λ (z : Spot). G.admitted s z) (hang_spot rows v u l k h) ∙ p.admitted k (omega (arith, hang_length rows v u l));
  }
