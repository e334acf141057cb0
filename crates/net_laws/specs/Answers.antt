-- What each call asks, in order, and what it answers. Assumes nothing.
use Rattle.std.specs.Prelude.{◌≡◌, ℕ, ◌+◌, ◌<◌, ◌≤◌, true, ◌⊎◌, List, length, Some, None, Ok, Err, Result}
use Rattle.walk_laws.specs.Walk.{LawfulAllowance, Marks, start, walk}
use Rattle.build_laws.specs.Joining.{Joins}
use Rattle.build_laws.specs.Straight.{net_rules, straight}
pub use Rattle.build_laws.specs.Straight.{breakpoints, broken_if}
use Rattle.forest.specs.Edges.{Joined, wire}
use Rattle.forest.specs.Growth.{Planted}
use Rattle.forest.specs.declared.Edge.{Edge}
use Rattle.tree_laws.specs.Shares.{ShareMove, share_before, shared_by}
use Rattle.tree_laws.specs.declared.share.Share.{Share}
use Rattle.space.specs.declared.TheConstants.{LONGEST}
use Rattle.space.specs.declared.spot.Spot.{Spot}
use Rattle.space.specs.Spots.{spot_of}
use Rattle.span_laws.specs.Spanning.{SpanningSeed}
use Rattle.order.specs.Bests.{BestOf}
use Rattle.tree_laws.specs.Hooks.{HookMove, hook_before}
use Rattle.tree_laws.specs.declared.hook.Hook.{Hook}
use Rattle.tree_laws.specs.Trees.{hang, row_spot, wire_of}
use Rattle.tree_laws.specs.declared.Row.{Row}
use Rattle.net_laws.specs.Faults.{number_of}
use Rattle.net_laws.specs.Geometry.{Geometry}
use Rattle.net_laws.specs.States.{State, unseeded, with_allowance, with_edge, with_pin, with_point, with_seed, with_tree}
use Rattle.net_laws.specs.declared.call.Call.{Call}
use Rattle.net_laws.specs.declared.call.Call.TheVariants.{Pin, Allow, Steiner, Edge as EdgeOf, Unseed, Span, Straight, Hook as HookCall}
use Rattle.net_laws.specs.declared.call.JoinCall.{JoinCall}
use Rattle.net_laws.specs.declared.call.JoinCall.TheVariants.{Wire, Joined as JoinedCall, Share as ShareCall}
use Rattle.net_laws.specs.declared.fault.Fault.{Fault}

-- ---- questions

-- Question i: where Q does not hold, the call is refused by the number i, and where it holds, the rest is asked.
abbrev pub asks : {A : Type 0} → (i : ℕ) (Q : Type 0) → (Result A Fault → Type 0) → Result A Fault → Type 0
asks i Q rest (Ok a) = Q × rest (Ok a)
asks i Q rest (Err e) = ((Q → ⊥) × (number_of e ≡ i)) ⊎ (Q × rest (Err e))

-- No question is left: the call is accepted, and its answer has P.
abbrev pub accepts : {A : Type 0} → (A → Type 0) → Result A Fault → Type 0
accepts P (Ok a) = P a
accepts P (Err e) = ⊥

-- A refusal leaves the net as it was.
abbrev pub Unchanged : {A : Type 0} → Result A Fault → (n m : State) → Type 0
Unchanged (Ok a) n m = Unit {0}
Unchanged (Err e) n m = m ≡ n

-- A call that answers no number answers 0 where a number is wanted.
abbrev pub Zero : Result ℕ Fault → Type 0
Zero (Ok k) = k ≡ 0
Zero (Err e) = Unit {0}

-- ---- trees

-- What the walk over the seed, seen from the driver, marks.
abbrev pub marks_of : (Spot → Spot → ℕ) → (spots : List Spot) (pins p q : ℕ) (E : List Edge) → Planted (length spots) E → Marks
marks_of d spots pins p q E F = walk (net_rules d spots pins p q) 0 F.forest start

-- The rows are the straight tree: the breakpoints of the walk hang on the driver, and every other node on its parent from the walk.
pub record StraightTree (d : Spot → Spot → ℕ) (spots : List Spot) (pins p q : ℕ) (E : List Edge) (rows : List Row) : Type 0 where
  pub planted : Planted (length spots) E
  pub built : rows ≡ straight (net_rules d spots pins p q) (marks_of d spots pins p q E planted) (spot_of spots) (length spots)

-- The rows are the joined tree: the breakpoints of the straight tree are joined pair after pair.
pub record JoinedTree (d : Spot → Spot → ℕ) (m : Spot → Spot → Spot → Spot) (spots : List Spot) (pins p q : ℕ) (E : List Edge) (rows : List Row) : Type 0 where
  pub unjoined : List Row
  pub straight : StraightTree d spots pins p q E unjoined
  pub joins : Joins d m unjoined (breakpoints (marks_of d spots pins p q E straight.planted) (length spots)) rows

-- The best hook move of the rows saves w and leaves the rows `after`.
pub record Hooks (d : Spot → Spot → ℕ) (rows : List Row) (w : ℕ) (after : List Row) : Type 0 where
  pub move : Hook
  pub best : BestOf hook_before (HookMove rows (λ u v. d (row_spot rows u) (row_spot rows v))) (Some move)
  pub saves : w ≡ move.saving
  pub hung : after ≡ hang rows move.v move.u (d (row_spot rows move.u) (row_spot rows move.v))

-- The best share move of the rows saves w and leaves the rows `after`.
pub record Shares (d : Spot → Spot → ℕ) (m : Spot → Spot → Spot → Spot) (rows : List Row) (w : ℕ) (after : List Row) : Type 0 where
  pub move : Share
  pub best : BestOf share_before (ShareMove rows d m) (Some move)
  pub saves : w ≡ move.saving
  pub shared : after ≡ shared_by rows d m move

-- ---- the calls

-- The tree stands, and its rows are these.
abbrev pub Stands : State → List Row → Type 0
Stands n rows = n.tree ≡ Some rows

module _ (W : Geometry) (n m : State) where
  abbrev pub PinAnswer : Spot → Result ℕ Fault → Type 0
  PinAnswer z =
      asks 1 (W.width ≤ LONGEST) (asks 2 (W.admitted z ≡ true) (asks 3 (n.pins < 256) (asks 4 ((k : ℕ) → k < n.pins → 1 ≤ W.between (spot_of n.spots k) z)
      (accepts (λ k. (k ≡ n.pins) × (m ≡ with_pin n z))))))

  abbrev pub AllowAnswer : {A : Type 0} → (p q : ℕ) → Result A Fault → Type 0
  AllowAnswer p q = asks 5 (LawfulAllowance p q) (accepts (λ k. m ≡ with_allowance n p q))

  abbrev pub SteinerAnswer : Spot → Result ℕ Fault → Type 0
  SteinerAnswer z =
      asks 6 (2 ≤ n.pins) (asks 2 (W.admitted z ≡ true) (asks 7 (length n.spots < n.pins + 256)
      (accepts (λ k. (k ≡ length n.spots) × (m ≡ with_point n z)))))

  abbrev pub EdgeAnswer : (a b : ℕ) → Result ℕ Fault → Type 0
  EdgeAnswer a b =
      asks 6 (2 ≤ n.pins) (asks 8 ((a < length n.spots) × (b < length n.spots)) (asks 9 (Joined n.edges a b → ⊥) (asks 10 (1 ≤ W.between (spot_of n.spots a) (spot_of n.spots b))
      (accepts (λ l. (l ≡ W.between (spot_of n.spots a) (spot_of n.spots b)) × (m ≡ with_edge n a b l))))))

  abbrev pub UnseedAnswer : {A : Type 0} → Result A Fault → Type 0
  UnseedAnswer = accepts (λ k. m ≡ unseeded n)

  -- The spanning seed by the lengths d.
  abbrev pub SpanBy : (d : Spot → Spot → ℕ) → Result ℕ Fault → Type 0
  SpanBy d =
      asks 6 (2 ≤ n.pins)
      (accepts (λ w. (E : List Edge) × SpanningSeed n.pins (λ u v. d (spot_of n.spots u) (spot_of n.spots v)) E × (w ≡ wire E) × (m ≡ with_seed n E)))

  abbrev pub SpanAnswer : Result ℕ Fault → Type 0
  SpanAnswer = SpanBy W.between

  -- What both builds ask.
  abbrev pub builds : (((p q : ℕ) → List Row → Type 0)) → Result ℕ Fault → Type 0
  builds Tree =
      asks 6 (2 ≤ n.pins) (asks 11 ((n.allowance ≡ None) → ⊥) (asks 12 (length n.edges + 1 ≡ length n.spots)
      (accepts (λ w. (p q : ℕ) × (rows : List Row) × (n.allowance ≡ Some (p, q)) × Tree p q rows × (w ≡ wire_of rows) × (m ≡ with_tree n rows)))))

  abbrev pub StraightAnswer : Result ℕ Fault → Type 0
  StraightAnswer = builds (λ p q. StraightTree W.between n.spots n.pins p q n.edges)

  abbrev pub JoinedAnswer : Result ℕ Fault → Type 0
  JoinedAnswer = builds (λ p q. JoinedTree W.between W.meeting n.spots n.pins p q n.edges)

  abbrev pub HookAnswer : Result ℕ Fault → Type 0
  HookAnswer =
      asks 13 ((n.tree ≡ None) → ⊥) (asks 14 ((rows : List Row) × Stands n rows × ((h : Hook) × HookMove rows (λ u v. W.between (row_spot rows u) (row_spot rows v)) h))
      (accepts (λ w. (rows after : List Row) × Stands n rows × Hooks W.between rows w after × (m ≡ with_tree n after))))

  abbrev pub ShareAnswer : Result ℕ Fault → Type 0
  ShareAnswer =
      asks 13 ((n.tree ≡ None) → ⊥) (asks 14 ((rows : List Row) × Stands n rows × ((h : Share) × ShareMove rows W.between W.meeting h)) (asks 15 ((rows : List Row) → Stands n rows → length rows < 768)
      (accepts (λ w. (rows after : List Row) × Stands n rows × Shares W.between W.meeting rows w after × (m ≡ with_tree n after)))))

  -- The net n, asked by a call, answers r and is m then.
  abbrev pub Answers : Call → Result ℕ Fault → Type 0
  Answers (Pin z) r = PinAnswer z r × Unchanged r n m
  Answers (Allow p q) r = AllowAnswer p q r × Unchanged r n m × Zero r
  Answers (Steiner z) r = SteinerAnswer z r × Unchanged r n m
  Answers (EdgeOf a b) r = EdgeAnswer a b r × Unchanged r n m
  Answers Unseed r = UnseedAnswer r × Unchanged r n m × Zero r
  Answers Span r = SpanAnswer r × Unchanged r n m
  Answers Straight r = StraightAnswer r × Unchanged r n m
  Answers HookCall r = HookAnswer r × Unchanged r n m

  -- The same for a call over a joining space.
  abbrev pub JoinAnswers : JoinCall → Result ℕ Fault → Type 0
  JoinAnswers (Wire c) r = Answers c r
  JoinAnswers JoinedCall r = JoinedAnswer r × Unchanged r n m
  JoinAnswers ShareCall r = ShareAnswer r × Unchanged r n m
