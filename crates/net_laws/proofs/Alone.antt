-- A net and a log leave one net: each call's answer says which. Assumes nothing.
use Rattle.build_laws.specs.Straight.{net_rules}
use Rattle.std.proofs.Common.{◌≡◌, ℕ, Bool, List, length, Some, Ok, Err, Result, sym, refl, ap, ◌∙◌, subst, arith}
use Rattle.build_laws.specs.Joining.{Farthest, Joins, far_of, meet_group, meet_row}
use Rattle.build_laws.specs.Joining.Joins.{done, join}
use Rattle.forest.specs.Rooted.{Forest}
use Rattle.build_laws.specs.declared.pair.Pair.{Pair}
use Rattle.build_laws.specs.Pairs.{pair_order}
use Rattle.order.specs.Orders.{Order}
use Rattle.tree_laws.specs.Shares.{share_order, shared_by}
use Rattle.space.specs.declared.spot.Spot.{Spot}
use Rattle.span_laws.proofs.Steps.{spanning_only}
use Rattle.space.specs.Spots.{spot_of}
use Rattle.order.specs.Bests.{BestOf}
use Rattle.tree_laws.specs.Hooks.{hook_order}
use Rattle.tree_laws.specs.Trees.{hang, row_spot}
use Rattle.tree_laws.specs.declared.Row.{Row}
use Rattle.walk_laws.specs.Walk.{start, walk}
use Rattle.net_laws.specs.Answers.{Hooks, JoinAnswers, JoinedTree, Shares, StraightTree, breakpoints}
use Rattle.net_laws.specs.Geometry.{Geometry}
use Rattle.net_laws.specs.Logs.{Log, Runs}
use Rattle.net_laws.specs.Logs.Runs.{next, still}
use Rattle.net_laws.specs.States.{State, with_seed, with_tree}
use Rattle.net_laws.specs.Spaces.{Keeps, Tied}
use Rattle.net_laws.specs.declared.call.Call.TheVariants.{Pin, Allow, Steiner, Edge as EdgeOf, Unseed, Span, Straight, Hook as HookCall}
use Rattle.net_laws.specs.declared.call.JoinCall.{JoinCall}
use Rattle.net_laws.specs.declared.call.JoinCall.TheVariants.{Wire, Joined as JoinedCall, Share as ShareCall}
use Rattle.net_laws.specs.declared.fault.Fault.{Fault}
use Rattle.net_laws.proofs.Sparing.{same_forest, straight_only}
use Rattle.net_laws.proofs.Tying.{same_some, tied_step}

-- there is one best
best_one : {X : Type 0} {lt : X → X → Bool} → Order lt → (P : X → Type 0) (x y : X) → BestOf lt P (Some x) → BestOf lt P (Some y) → x ≡ y
best_one o P x y a b = o.apart x y (b.1 x a.0) (a.1 y b.0)

-- joining leaves the same rows
module _ (d : Spot → Spot → ℕ) (m : Spot → Spot → Spot → Spot) where
  far_one : (rows : List Row) (group : List ℕ) (a b x y : ℕ) → Farthest d m rows group a b → Farthest d m rows group x y → (a ≡ x) × (b ≡ y)
  far_one rows group a b x y f g =
      let p : Pair = record { far = far_of d m rows a b; a = a; b = b } in
      let q : Pair = record { far = far_of d m rows x y; a = x; b = y } in
      let e : p ≡ q = pair_order.apart p q (g.first a b f.pair) (f.first x y g.pair) in
      (ap (λ z. z.a) e, ap (λ z. z.b) e)

  joins_one : {rows after other : List Row} {group : List ℕ} → Joins d m rows group after → Joins d m rows group other → after ≡ other
  joins_one (done h) (done k) = refl
  joins_one (done h) (join a b f pos rest) = absurd (omega (arith, h a b f.pair))
  joins_one (join a b f pos rest) (done k) = absurd (omega (arith, k a b f.pair))
  joins_one {rows} {after} {other} {group} (join a b f pos rest) (join x y g more last) =
      let e = far_one rows group a b x y f g in
      let P : ℕ → Type 0 = λ z. Joins d m (meet_row d m rows z y) (meet_group d m group z y (length rows)) other in
      let Q : ℕ → Type 0 = λ z. Joins d m (meet_row d m rows a z) (meet_group d m group a z (length rows)) other in
      joins_one rest (subst Q (sym e.1) (subst P (sym e.0) last))

module _ (W : Geometry) (laws : Keeps W) where
  abbrev T : State → Type 0
  T n = Tied W.admitted W.width W.between n

  module _ (n m k : State) (t : Tied W.admitted W.width W.between n) where
    same_ratio : (p q x y : ℕ) → n.allowance ≡ Some (p, q) → n.allowance ≡ Some (x, y) → ◌≡◌ {A = ℕ × ℕ} (p, q) (x, y)
    same_ratio p q x y e f = same_some (p, q) (x, y) (sym e ∙ f)

    straight_one : (w : ℕ) → JoinAnswers W n m (Wire Straight) (Ok w) → JoinAnswers W n k (Wire Straight) (Ok w) → m ≡ k
    straight_one w a c =
        let b = a.0.1.1.1 in
        let e = c.0.1.1.1 in
        let S : ℕ × ℕ → Type 0 = λ x. StraightTree W.between n.spots n.pins x.0 x.1 n.edges b.2 in
        let s = subst S (same_ratio b.0 b.1 e.0 e.1 b.3 e.3) b.4 in
        b.6 ∙ ap (with_tree n) (straight_only W laws n m t e.0 e.1 b.2 e.2 s e.4) ∙ sym e.6

    joined_rows : (p q : ℕ) (rows other : List Row) → JoinedTree W.between W.meeting n.spots n.pins p q n.edges rows → JoinedTree W.between W.meeting n.spots n.pins p q n.edges other → rows ≡ other
    joined_rows p q rows other j i =
        let R = net_rules W.between n.spots n.pins p q in
        let N = length n.spots in
        let F = same_forest W laws n m t i.straight.planted j.straight.planted in
        let G : Forest → Type 0 = λ x. Joins W.between W.meeting i.unjoined (breakpoints (walk R 0 x start) N) other in
        let U : List Row → Type 0 = λ xs. Joins W.between W.meeting xs (breakpoints (walk R 0 j.straight.planted.forest start) N) other in
        joins_one W.between W.meeting j.joins (subst U (straight_only W laws n m t p q i.unjoined j.unjoined i.straight j.straight) (subst G F i.joins))

    joined_one : (w : ℕ) → JoinAnswers W n m JoinedCall (Ok w) → JoinAnswers W n k JoinedCall (Ok w) → m ≡ k
    joined_one w a c =
        let b = a.0.1.1.1 in
        let e = c.0.1.1.1 in
        let S : ℕ × ℕ → Type 0 = λ x. JoinedTree W.between W.meeting n.spots n.pins x.0 x.1 n.edges b.2 in
        let s = subst S (same_ratio b.0 b.1 e.0 e.1 b.3 e.3) b.4 in
        b.6 ∙ ap (with_tree n) (joined_rows e.0 e.1 b.2 e.2 s e.4) ∙ sym e.6

    hook_one : (w : ℕ) → JoinAnswers W n m (Wire HookCall) (Ok w) → JoinAnswers W n k (Wire HookCall) (Ok w) → m ≡ k
    hook_one w a c =
        let b = a.0.1.1 in
        let e = c.0.1.1 in
        let d = W.between in
        let same : b.0 ≡ e.0 = same_some b.0 e.0 (sym b.2 ∙ e.2) in
        let H : List Row → Type 0 = λ xs. Hooks d xs w b.1 in
        let h = subst H same b.3 in
        let i = e.3 in
        let x : h.move ≡ i.move = best_one hook_order _ h.move i.move h.best i.best in
        b.4 ∙ ap (with_tree n) (h.hung ∙ ap (λ z. hang e.0 z.v z.u (d (row_spot e.0 z.u) (row_spot e.0 z.v))) x ∙ sym i.hung) ∙ sym e.4

    share_one : (w : ℕ) → JoinAnswers W n m ShareCall (Ok w) → JoinAnswers W n k ShareCall (Ok w) → m ≡ k
    share_one w a c =
        let b = a.0.1.1.1 in
        let e = c.0.1.1.1 in
        let same : b.0 ≡ e.0 = same_some b.0 e.0 (sym b.2 ∙ e.2) in
        let H : List Row → Type 0 = λ xs. Shares W.between W.meeting xs w b.1 in
        let h = subst H same b.3 in
        let i = e.3 in
        let x : h.move ≡ i.move = best_one share_order _ h.move i.move h.best i.best in
        b.4 ∙ ap (with_tree n) (h.shared ∙ ap (shared_by e.0 W.between W.meeting) x ∙ sym i.shared) ∙ sym e.4

    -- the same call with the same answer leaves the same net
    pub answers_one : (c : JoinCall) (r : Result ℕ Fault) → JoinAnswers W n m c r → JoinAnswers W n k c r → m ≡ k
    answers_one (Wire (Pin z)) (Ok x) a b = a.0.1.1.1.1.1 ∙ sym b.0.1.1.1.1.1
    answers_one (Wire (Pin z)) (Err e) a b = a.1 ∙ sym b.1
    answers_one (Wire (Allow p q)) (Ok x) a b = a.0.1 ∙ sym b.0.1
    answers_one (Wire (Allow p q)) (Err e) a b = a.1 ∙ sym b.1
    answers_one (Wire (Steiner z)) (Ok x) a b = a.0.1.1.1.1 ∙ sym b.0.1.1.1.1
    answers_one (Wire (Steiner z)) (Err e) a b = a.1 ∙ sym b.1
    answers_one (Wire (EdgeOf x y)) (Ok l) a b = a.0.1.1.1.1.1 ∙ sym b.0.1.1.1.1.1
    answers_one (Wire (EdgeOf x y)) (Err e) a b = a.1 ∙ sym b.1
    answers_one (Wire Unseed) (Ok x) a b = a.0 ∙ sym b.0
    answers_one (Wire Unseed) (Err e) a b = a.1 ∙ sym b.1
    answers_one (Wire Span) (Ok w) a b =
        let x = a.0.1 in
        let y = b.0.1 in
        x.3 ∙ ap (with_seed n) (spanning_only n.pins (λ u v. W.between (spot_of n.spots u) (spot_of n.spots v)) x.0 y.0 x.1 y.1) ∙ sym y.3
    answers_one (Wire Span) (Err e) a b = a.1 ∙ sym b.1
    answers_one (Wire Straight) (Ok w) a b = straight_one w a b
    answers_one (Wire Straight) (Err e) a b = a.1 ∙ sym b.1
    answers_one (Wire HookCall) (Ok w) a b = hook_one w a b
    answers_one (Wire HookCall) (Err e) a b = a.1 ∙ sym b.1
    answers_one JoinedCall (Ok w) a b = joined_one w a b
    answers_one JoinedCall (Err e) a b = a.1 ∙ sym b.1
    answers_one ShareCall (Ok w) a b = share_one w a b
    answers_one ShareCall (Err e) a b = a.1 ∙ sym b.1

  tied_run : {n : State} → T n → {log : Log} {m : State} → Runs W n log m → T m
  tied_run t still = t
  tied_run t (next {k} {m} {log} {c} {r} ran a) = tied_step W laws k m c r (tied_run t ran) a

  pub runs_one : {n : State} → T n → {log : Log} {m k : State} → Runs W n log m → Runs W n log k → m ≡ k
  runs_one t still still = refl
  runs_one {n} t (next {k = x} {m} {log} {c} {r} ran a) (next {k = y} {m = z} run b) =
      let P : State → Type 0 = λ u. JoinAnswers W u z c r in
      answers_one x m z (tied_run t ran) c r a (subst P (sym (runs_one t ran run)) b)
