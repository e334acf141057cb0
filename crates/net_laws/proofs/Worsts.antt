-- The worst of the sinks, and by the space's own distances. Assumes nothing.
use Rattle.std.proofs.Common.{◌≡◌, ℕ, ◌*◌, ◌/◌, ◌<◌, ◌≤◌, max, Bool, true, false, nat_lt, ◌⊎◌, List, length, Some, None, Option, refl, ap, ◌∙◌, ⊎_elim, arith}
use Rattle.std.specs.Option.{IsSome, unwrap_or}
use Rattle.std.proofs.lemmas.Bool.{and_from, ltb-false}
use Rattle.net_laws.specs.Readings.{WorstOf, direct_distance, figure_of}
use Rattle.net_laws.specs.States.{State}
use Rattle.net_laws.specs.Spaces.{TiedToSpace}
use Rattle.net_laws.specs.Worsts.{worst_before, worst_order}
use Rattle.net_laws.specs.declared.reading.Worst.{Worst}
use Rattle.order.specs.Bests.{BestOf, Found}
use Rattle.order.specs.Firsts.{FirstOf}
use Rattle.order.specs.Lexical.{then_false}
use Rattle.order.proofs.Deciding.{found_best}
use Rattle.space.specs.Laws.{Metric, answered}
use Rattle.space.specs.declared.TheConstants.{LONGEST}
use Rattle.space.specs.declared.Space.{Ghosts}
use Rattle.space.specs.declared.spot.Spot.{Spot}
use Rattle.space.specs.Spots.{spot_of}
use Rattle.space.specs.Totals.{edge_length, capped_distance}
use Rattle.tree_laws.proofs.HookMoves.{uncut}
use Rattle.tree_laws.specs.Trees.{path_length}
use Rattle.tree_laws.specs.declared.Row.{Row}
use Rattle.net_laws.specs.Sinks.{FiguredSink, FiguredSinkAt}

-- ---- the worst is the first of the sinks

module _ (d : Spot → Spot → ℕ) (n : State) (rows : List Row) where
  -- the first that a search over the pins finds is the first of the sinks
  pub first_sink : {Gives : ℕ → Option Worst → Type 0} {xs : List Worst} (pins : ℕ) (o : Option Worst) → pins ≡ n.pins → Found Gives pins xs → FirstOf worst_before xs o → ((k : ℕ) (r : Option Worst) → k < pins → Gives k r → BestOf worst_before (FiguredSinkAt d n rows k) r) → BestOf worst_before (FiguredSink d n rows) o
  first_sink pins o e found first best =
      found_best (FiguredSinkAt d n rows) (FiguredSink d n rows) worst_order o found first (λ k r h q. q.0) (λ r q. (r.pin, omega (arith, q.pin, e), (q, refl))) best

  pub some_sink : 2 ≤ n.pins → (o : Option Worst) → BestOf worst_before (FiguredSink d n rows) o → IsSome o
  some_sink h None b = absurd (b (record { pin = 1; figure = figure_of d n rows 1 }) (record { later = omega arith; pin = omega arith; figure = refl }))
  some_sink h (Some r) b = refl

  pub worst_sink : (r : Worst) → BestOf worst_before (FiguredSink d n rows) (Some r) → WorstOf d n rows r
  worst_sink r b = record {
    sink = (b.0.later, b.0.pin);
    figure = b.0.figure;
    greatest = λ k p h. ⊎_elim (λ g. omega (arith, g)) (λ e. omega (arith, e.0)) (behind k p h);
    lowest = λ k p h. ⊎_elim (λ g. g) (λ e. omega (arith, h, ltb-false k r.pin e.1)) (behind k p (omega (arith, h, b.0.pin)));
  }
    where
      behind : (k : ℕ) → 0 < k → k < n.pins → (figure_of d n rows k < r.figure) ⊎ ((r.figure ≡ figure_of d n rows k) × (nat_lt k r.pin ≡ false))
      behind k p h =
          then_false r.figure (figure_of d n rows k) (nat_lt k r.pin)
          (b.1 (record { pin = k; figure = figure_of d n rows k }) (record { later = p; pin = h; figure = refl }))

pub answered_or : (b : Bool) (x : ℕ) (o : Option ℕ) → o ≡ answered b x → unwrap_or o 0 ≤ x
answered_or true x o e = omega (arith, ap (λ z. unwrap_or z 0) e)
answered_or false x o e = omega (arith, ap (λ z. unwrap_or z 0) e)

module _ {X : Type 0} (G : Ghosts X) (s : X) (n : State) (law : G.width s ≤ LONGEST → Metric (G.admitted s) (G.width s) (G.between s)) (h : TiedToSpace G s n) where
  direct_own : (k : ℕ) → 0 < k → k < n.pins → direct_distance (edge_length G s) n k ≡ direct_distance (G.between s) n k
  direct_own k p b =
      let some : 0 < length n.spots = omega (arith, h.pins) in
      let a = h.admitted 0 some in
      let c = h.admitted k (omega (arith, h.pins)) in
      let x = direct_distance (G.between s) n k in
      let e : direct_distance (capped_distance G s) n k ≡ x = uncut x (G.width s) _ (and_from _ _ a c) ((law (h.narrow some)).within (spot_of n.spots 0) (spot_of n.spots k) a c) (h.narrow some) in
      let one : 1 ≤ x = h.apart 0 k (omega arith) b (λ q. omega (arith, q)) in
      ap (max 1) e ∙ at_least x one
    where
      at_least : (x : ℕ) → 1 ≤ x → max 1 x ≡ x
      at_least x o = omega arith

  pub worst_own : (rows : List Row) (r : Worst) → WorstOf (edge_length G s) n rows r → WorstOf (G.between s) n rows r
  worst_own rows r w = record {
    sink = w.sink;
    figure = w.figure ∙ same r.pin w.sink.0 w.sink.1;
    greatest = λ k p b. omega (arith, same k p b, w.greatest k p b);
    lowest = λ k p b. omega (arith, same k p (omega (arith, w.sink.1)), w.lowest k p b);
  }
    where
      same : (k : ℕ) → 0 < k → k < n.pins → figure_of (edge_length G s) n rows k ≡ figure_of (G.between s) n rows k
      same k p b = ap (λ z. 1000 * path_length rows k / z) (direct_own k p b)
