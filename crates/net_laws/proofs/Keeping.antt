-- Every run on a new net keeps the guarantee. Assumes nothing.
use Rattle.std.proofs.Common.{◌≡◌, ℕ, ◌+◌, ◌*◌, ◌<◌, ◌≤◌, true, false, ◌&&◌, List, [], ◌∷◌, ◌++◌, length, take, is_some, Some, Ok, Err, Result, sym, refl, ap, ◌∙◌, subst, inl, inr, append_assoc, append-nil, mul-le-mul_left, arith}
use Rattle.std.proofs.lemmas.List.{get_or_append_left, length_push, take_at}
use Rattle.forest.specs.Edges.{wire, edge}
use Rattle.forest.specs.declared.Edge.{Edge}
use Rattle.forest.proofs.Accepted.{sound_none}
use Rattle.order.proofs.Finding.{among_none}
use Rattle.space.specs.declared.spot.Spot.{Spot}
use Rattle.space.specs.Spots.{origin, spot_of}
use Rattle.span_laws.specs.Spanning.{SpanningSeed}
use Rattle.span_laws.proofs.Steps.{spanning_agrees, spanning_only}
use Rattle.tree_laws.specs.Trees.{OnePath, row_length, path_length, row_of, row_spot, up, wire_of}
use Rattle.tree_laws.specs.declared.Row.{Row}
use Rattle.tree_laws.proofs.Ways.{hung}
use Rattle.net_laws.specs.Answers.{JoinAnswers}
use Rattle.net_laws.specs.Geometry.{Geometry}
use Rattle.net_laws.specs.Guarantee.{Guarantee, LiesInSpace, NoPathGrows, OnePathWithinAllowance, RowsRead, RunsKeep, TreeStands, WireWithinBound}
use Rattle.net_laws.specs.Logs.{Effect, Event, Log, Runs, SeedAfter, SeedOf, allowance_after, allowance_of, effect_of, keeps, keeps_tree, nodes_of, pins_after, pins_of, points_after, points_of, saving_after, savings_of, tree_stands, stands_after}
use Rattle.net_laws.specs.Logs.Effect.{nothing, adds_pin, allows, adds_point, adds_edge, drops_seed, spans, builds, saves}
use Rattle.net_laws.specs.Logs.Runs.{still, next}
use Rattle.net_laws.specs.Readings.{RowAnswer}
use Rattle.net_laws.specs.States.{State, fresh, unseeded, with_allowance, with_edge, with_pin, with_point, with_seed, with_tree}
use Rattle.net_laws.specs.Spaces.{Keeps, Placed, Tied}
use Rattle.net_laws.specs.declared.call.Call.TheVariants.{Pin, Allow, Steiner, Edge as EdgeOf, Unseed, Span, Straight as StraightCall, Hook}
use Rattle.net_laws.specs.declared.call.JoinCall.{JoinCall}
use Rattle.net_laws.specs.declared.call.JoinCall.TheVariants.{Wire, Joined as JoinedCall, Share}
use Rattle.net_laws.specs.declared.fault.Fault.{Fault}
use Rattle.net_laws.proofs.Alone.{runs_one}
use Rattle.net_laws.proofs.Moving.{hook_paths, hook_wire, placed_measured, share_paths, share_wire}
use Rattle.net_laws.proofs.Sparing.{joined_within, straight_within}
use Rattle.net_laws.proofs.Tying.{no_rows, placed_hook, placed_joined, placed_share, placed_straight, same_some, standing_narrow, tied_step}

never : false ≡ true → ⊥
never e = let z : ◌≡◌ {A = ℕ} 0 1 = cc in omega arith

-- ---- what the call row answers

pub reads : (n : State) (rows : List Row) → n.tree ≡ Some rows → RowsRead n rows
reads n rows e =
    record {
      row = told;
      past = λ k row h a. let b = a.1.0 rows e in omega (arith, b);
    }
  where
    told : (k : ℕ) (r : Result Row Fault) → k < length rows → RowAnswer n k r → r ≡ Ok (row_of rows k)
    told k (Ok row) h a =
        let b = a.1.1 in
        let is : b.0 ≡ rows = same_some b.0 rows (sym b.1 ∙ e) in
        ap (λ x. Ok x) (b.2 ∙ ap (λ xs. row_of xs k) is)
    told k (Err f) h (inl x) = absurd (x.0 (λ z. no_rows rows (sym z ∙ e)))
    told k (Err f) h (inr (q, inl x)) = absurd (x.0 (λ xs g. let is : xs ≡ rows = same_some xs rows (sym g ∙ e) in omega (arith, ap length is)))
    told k (Err f) h (inr (q, inr (s, x))) = absurd x

-- ---- the log names one seed

module _ (d : Spot → Spot → ℕ) where
  seed_after_only : (pins : List Spot) (e : Effect) (P : List Edge → Type 0) → ((E D : List Edge) → P E → P D → E ≡ D) → (E D : List Edge) → SeedAfter d pins e P E → SeedAfter d pins e P D → E ≡ D
  seed_after_only pins (adds_edge a b l) P only E D x y = x.2 ∙ ap (λ xs. xs ++ edge a b l ∷ []) (only x.0 y.0 x.1 y.1) ∙ sym y.2
  seed_after_only pins spans P only E D x y = spanning_only (length pins) (λ u v. d (spot_of pins u) (spot_of pins v)) E D x y
  seed_after_only pins (adds_pin z) P only E D x y = x ∙ sym y
  seed_after_only pins drops_seed P only E D x y = x ∙ sym y
  seed_after_only pins nothing P only E D x y = only E D x y
  seed_after_only pins (allows p q) P only E D x y = only E D x y
  seed_after_only pins (adds_point z) P only E D x y = only E D x y
  seed_after_only pins (builds w) P only E D x y = only E D x y
  seed_after_only pins (saves w) P only E D x y = only E D x y

  pub seed_only : (log : Log) (E D : List Edge) → SeedOf d log E → SeedOf d log D → E ≡ D
  seed_only [] E D x y = x ∙ sym y
  seed_only (e ∷ log) E D x y = seed_after_only (pins_of log) (effect_of e) (SeedOf d log) (seed_only log) E D x y

module _ (W : Geometry) (laws : Keeps W) where
  abbrev T : State → Type 0
  T n = Tied W.admitted W.width W.between n

  pub fresh_tied : T fresh
  fresh_tied = record {
    narrow = λ h. absurd (omega arith);
    pins = omega arith;
    allowed = λ p q e. absurd (no_rows (p, q) e);
    admitted = λ k h. absurd (omega arith);
    apart = λ u v h i ne. absurd (omega arith);
    edges = sound_none 0;
    lengths = λ e a. absurd (among_none a);
    rows = λ rows e. absurd (no_rows rows e);
  }

  -- the promises over what the log says, whatever the log
  abbrev LaidOver : List Spot → List Row → Type 0
  LaidOver nodes rows =
      ((k : ℕ) → k < length nodes → (k < length rows) × (row_spot rows k ≡ spot_of nodes k))
      × ((up rows 0 ≡ 0) × (row_length rows 0 ≡ 0))
      × ((k : ℕ) → k < length rows → up rows k < length rows)
      × ((k : ℕ) → k < length rows → (k ≡ 0 → ⊥) → row_length rows k ≡ W.between (row_spot rows (up rows k)) (row_spot rows k))

  abbrev Within : List Spot → (p q : ℕ) → List Row → Type 0
  Within pins p q rows =
      (k : ℕ) → k < length pins → OnePath rows k × (q * path_length rows k ≤ (p + q) * W.between (spot_of pins 0) (spot_of pins k))

  abbrev Bounded : (p q : ℕ) → (List Edge → Type 0) → List Row → Type 0
  Bounded p q Seed rows = (E : List Edge) → Seed E → p * wire_of rows ≤ (p + 2 * q) * wire E

  abbrev Shorter : List Spot → (start rows : List Row) → Type 0
  Shorter pins start rows = (k : ℕ) → k < length pins → OnePath start k × (path_length rows k ≤ path_length start k)

  module _ (n : State) (log : Log) (g : Guarantee W log n) (t : Tied W.admitted W.width W.between n) where
    relaid : (ev : Event) {rows : List Row} → LaidOver (nodes_of (ev ∷ log)) rows → LiesInSpace W (ev ∷ log) rows
    relaid ev l = record { nodes = l.0; driver = l.1; parents = l.2; lengths = l.3 }

    front_is : take n.pins n.spots ≡ pins_of log
    front_is = ap (take n.pins) g.nodes ∙ take_at (pins_of log) (points_of log) n.pins (sym g.pins)

    pin_is : (k : ℕ) → k < n.pins → spot_of n.spots k ≡ spot_of (pins_of log) k
    pin_is k h = ap (λ xs. spot_of xs k) g.nodes ∙ get_or_append_left (pins_of log) (points_of log) origin k (omega (arith, g.pins))

    -- ---- a build

    module _ (rows : List Row) (p : Placed W.admitted W.between n rows) where
      laid_over : LaidOver (nodes_of log) rows
      laid_over = (
        λ k h.
            let i : k < length n.spots = omega (arith, ap length g.nodes) in
            (omega (arith, p.more), p.spots k i ∙ ap (λ xs. spot_of xs k) g.nodes),
        (p.tree.driver, p.tree.still),
        p.tree.parents,
        p.lengths,
      )

      row_of_pin : (k : ℕ) → k < length (pins_of log) → k < length rows
      row_of_pin k h = omega (arith, g.pins, t.pins, p.more)

      allowed_now : (a b : ℕ) → ((k : ℕ) → k < n.pins → b * path_length rows k ≤ (a + b) * W.between (spot_of n.spots 0) (spot_of n.spots k)) → OnePathWithinAllowance W log a b rows
      allowed_now a b f k h =
          let i : k < n.pins = omega (arith, g.pins) in
          let D : W.between (spot_of n.spots 0) (spot_of n.spots k) ≡ W.between (spot_of (pins_of log) 0) (spot_of (pins_of log) k) =
          ap (λ z. W.between z (spot_of n.spots k)) (pin_is 0 (omega (arith, p.two))) ∙ ap (W.between (spot_of (pins_of log) 0)) (pin_is k i) in
          (hung p.tree k (row_of_pin k h), omega (arith, f k i, ap (λ x. (a + b) * x) D))

      bound_now : (a b : ℕ) → a * wire_of rows ≤ (a + 2 * b) * wire n.edges → WireWithinBound W log a b rows
      bound_now a b f E s =
          let is : wire n.edges ≡ wire E = ap wire (seed_only W.between log n.edges E g.seed s) in
          omega (arith, f, ap (λ x. (a + 2 * b) * x) is)

    -- ---- a move

    module _ (rows after : List Row) (e : n.tree ≡ Some rows) (p : Placed W.admitted W.between n after) (w : ℕ) (saved : wire_of after + w ≡ wire_of rows) (falls : (k : ℕ) → k < length rows → path_length after k ≤ path_length rows k) where
      stood : TreeStands W log n
      stood = g.tree (sym g.stands ∙ ap is_some e)

      rows_are : stood.rows ≡ rows
      rows_are = same_some stood.rows rows (sym stood.run.last_rows ∙ e)

      row_before : (k : ℕ) → k < length (pins_of log) → k < length rows
      row_before k h = row_of_pin rows (t.rows rows e) k h

      moved_allowed : OnePathWithinAllowance W log stood.p stood.q after
      moved_allowed k h = (
        hung p.tree k (row_of_pin after p k h),
        omega (arith, (stood.allowed k h).1, ap (λ xs. stood.q * path_length xs k) rows_are, mul-le-mul_left stood.q (falls k (row_before k h))),
      )

      moved_bound : WireWithinBound W log stood.p stood.q after
      moved_bound E s =
          let less : wire_of after ≤ wire_of rows = omega (arith, saved) in
          omega (arith, stood.bound E s, ap (λ xs. stood.p * wire_of xs) rows_are, mul-le-mul_left stood.p less)

      moved_savings : stood.answered ≡ wire_of after + (w + savings_of stood.since)
      moved_savings = omega (arith, stood.savings, ap wire_of rows_are, saved)

      moved_paths : NoPathGrows log stood.start after
      moved_paths k h = ((stood.paths k h).0, omega (arith, (stood.paths k h).1, ap (λ xs. path_length xs k) rows_are, falls k (row_before k h)))

    -- ---- calls that drop the tree

    kept_pin : (z : Spot) (k : ℕ) → Guarantee W (record { call = Wire (Pin z); answer = Ok k } ∷ log) (with_pin n z)
    kept_pin z k = record {
      nodes = ap (λ xs. xs ++ z ∷ []) front_is ∙ sym (append-nil (pins_of log ++ z ∷ []));
      pins = omega (arith, g.pins, length_push (pins_of log) z);
      allowance = g.allowance;
      seed = refl;
      stands = refl;
      tree = λ e. absurd (never e);
    }

    kept_allow : (p q k : ℕ) → Guarantee W (record { call = Wire (Allow p q); answer = Ok k } ∷ log) (with_allowance n p q)
    kept_allow p q k = record { nodes = g.nodes; pins = g.pins; allowance = refl; seed = g.seed; stands = refl; tree = λ e. absurd (never e) }

    kept_point : (z : Spot) (k : ℕ) → Guarantee W (record { call = Wire (Steiner z); answer = Ok k } ∷ log) (with_point n z)
    kept_point z k = record {
      nodes = ap (λ xs. xs ++ z ∷ []) g.nodes ∙ append_assoc (pins_of log) (points_of log) (z ∷ []);
      pins = g.pins;
      allowance = g.allowance;
      seed = g.seed;
      stands = refl;
      tree = λ e. absurd (never e);
    }

    kept_edge : (a b l : ℕ) → Guarantee W (record { call = Wire (EdgeOf a b); answer = Ok l } ∷ log) (with_edge n a b l)
    kept_edge a b l = record {
      nodes = g.nodes;
      pins = g.pins;
      allowance = g.allowance;
      seed = (n.edges, g.seed, refl);
      stands = refl;
      tree = λ e. absurd (never e);
    }

    kept_unseed : (k : ℕ) → Guarantee W (record { call = Wire Unseed; answer = Ok k } ∷ log) (unseeded n)
    kept_unseed k = record {
      nodes = front_is ∙ sym (append-nil (pins_of log));
      pins = g.pins;
      allowance = g.allowance;
      seed = refl;
      stands = refl;
      tree = λ e. absurd (never e);
    }

    kept_span : (w : ℕ) (E : List Edge) → SpanningSeed n.pins (λ u v. W.between (spot_of n.spots u) (spot_of n.spots v)) E → Guarantee W (record { call = Wire Span; answer = Ok w } ∷ log) (with_seed n E)
    kept_span w E s =
        let here = λ (u v : ℕ). W.between (spot_of n.spots u) (spot_of n.spots v) in
        let there = λ (u v : ℕ). W.between (spot_of (pins_of log) u) (spot_of (pins_of log) v) in
        let P : ℕ → Type 0 = λ k. SpanningSeed k there E in
        let agrees : (u v : ℕ) → u < n.pins → v < n.pins → (u ≡ v → ⊥) → here u v ≡ there u v = λ u v h i ne.
        ap (λ z. W.between z (spot_of n.spots v)) (pin_is u h) ∙ ap (W.between (spot_of (pins_of log) u)) (pin_is v i) in
        record {
          nodes = front_is ∙ sym (append-nil (pins_of log));
          pins = g.pins;
          allowance = g.allowance;
          seed = subst P g.pins (spanning_agrees n.pins here there agrees E s);
          stands = refl;
          tree = λ e. absurd (never e);
        }

    -- ---- calls that keep the tree

    -- a refused call
    kept_refused : (m : State) (c : JoinCall) (e : Fault) → m ≡ n → JoinAnswers W n m c (Err e) → Guarantee W (record { call = c; answer = Err e } ∷ log) m
    kept_refused m c e same a = record {
      nodes = ap (λ x. x.spots) same ∙ g.nodes;
      pins = ap (λ x. x.pins) same ∙ g.pins;
      allowance = ap (λ x. x.allowance) same ∙ g.allowance;
      seed = subst (λ (x : State). SeedOf W.between log x.edges) (sym same) g.seed;
      stands = ap (λ x. is_some x.tree) same ∙ g.stands;
      tree = λ s.
          let b = g.tree s in
          let r = b.run in
          record {
            since = record { call = c; answer = Err e } ∷ b.since;
            before = b.before;
            answered = b.answered;
            start = b.start;
            rows = b.rows;
            p = b.p;
            q = b.q;
            allowance = b.allowance;
            read = reads m b.rows (ap (λ x. x.tree) same ∙ r.last_rows);
            run = record {
              build = r.build;
              accepted = r.accepted;
              split = ap (λ xs. record { call = c; answer = Err e } ∷ xs) r.split;
              kept = r.kept;
              built = r.built;
              before_it = r.before_it;
              only = r.only;
              since_it = next r.since_it a;
              first_rows = r.first_rows;
              last_rows = ap (λ x. x.tree) same ∙ r.last_rows;
            };
            laid = record { nodes = b.laid.nodes; driver = b.laid.driver; parents = b.laid.parents; lengths = b.laid.lengths };
            allowed = b.allowed;
            bound = b.bound;
            savings = b.savings;
            paths = b.paths;
          };
    }

    module _ (rows after : List Row) (e : n.tree ≡ Some rows) (p : Placed W.admitted W.between n after) (w : ℕ) (saved : wire_of after + w ≡ wire_of rows) (falls : (k : ℕ) → k < length rows → path_length after k ≤ path_length rows k) where
      abbrev b : TreeStands W log n
      b = stood rows after e p w saved falls

      -- a hook or a share
      kept_moved : (ev : Event) → effect_of ev ≡ saves w → JoinAnswers W n (with_tree n after) ev.call ev.answer → Guarantee W (ev ∷ log) (with_tree n after)
      kept_moved ev f a =
          let by : (P : Effect → Type 0) → P (saves w) → P (effect_of ev) = λ P x. subst P (sym f) x in
          record {
            nodes = by (λ x. n.spots ≡ pins_after x (pins_of log) ++ points_after x (points_of log)) g.nodes;
            pins = by (λ x. n.pins ≡ length (pins_after x (pins_of log))) g.pins;
            allowance = by (λ x. n.allowance ≡ allowance_after x (allowance_of log)) g.allowance;
            seed = by (λ x. SeedAfter W.between (pins_of log) x (SeedOf W.between log) n.edges) g.seed;
            stands = by (λ x. true ≡ stands_after x (tree_stands log)) (sym (ap is_some e) ∙ g.stands);
            tree = λ s. record {
              since = ev ∷ b.since;
              before = b.before;
              answered = b.answered;
              start = b.start;
              rows = after;
              p = b.p;
              q = b.q;
              allowance = by (λ x. allowance_after x (allowance_of log) ≡ Some (b.p, b.q)) b.allowance;
              read = reads (with_tree n after) after refl;
              run = record {
                build = b.run.build;
                accepted = b.run.accepted;
                split = ap (λ xs. ev ∷ xs) b.run.split;
                kept = by (λ x. keeps x && keeps_tree b.since ≡ true) b.run.kept;
                built = b.run.built;
                before_it = b.run.before_it;
                only = b.run.only;
                since_it = next b.run.since_it a;
                first_rows = b.run.first_rows;
                last_rows = refl;
              };
              laid = relaid ev (by (λ x. LaidOver (pins_after x (pins_of log) ++ points_after x (points_of log)) after) (laid_over after p));
              allowed = by (λ x. Within (pins_after x (pins_of log)) b.p b.q after) (moved_allowed rows after e p w saved falls);
              bound = by (λ x. Bounded b.p b.q (SeedAfter W.between (pins_of log) x (SeedOf W.between log)) after) (moved_bound rows after e p w saved falls);
              savings = by (λ x. b.answered ≡ wire_of after + saving_after x (savings_of b.since)) (moved_savings rows after e p w saved falls);
              paths = by (λ x. Shorter (pins_after x (pins_of log)) b.start after) (moved_paths rows after e p w saved falls);
            };
          }

    -- ---- calls that build

    module _ (two : 2 ≤ n.pins) (x y : ℕ) (al : n.allowance ≡ Some (x, y)) (rows : List Row) (p : Placed W.admitted W.between n rows)
        (within : (k : ℕ) → k < n.pins → y * path_length rows k ≤ (x + y) * W.between (spot_of n.spots 0) (spot_of n.spots k))
        (bounded : x * wire_of rows ≤ (x + 2 * y) * wire n.edges) (w : ℕ) (wired : w ≡ wire_of rows) (ran : Runs W fresh log n) where
      -- a straight or a joined tree
      kept_built : (ev : Event) → effect_of ev ≡ builds w → JoinAnswers W n (with_tree n rows) ev.call ev.answer → Guarantee W (ev ∷ log) (with_tree n rows)
      kept_built ev f a =
          let by : (P : Effect → Type 0) → P (builds w) → P (effect_of ev) = λ P x. subst P (sym f) x in
          record {
            nodes = by (λ x. n.spots ≡ pins_after x (pins_of log) ++ points_after x (points_of log)) g.nodes;
            pins = by (λ x. n.pins ≡ length (pins_after x (pins_of log))) g.pins;
            allowance = by (λ x. n.allowance ≡ allowance_after x (allowance_of log)) g.allowance;
            seed = by (λ x. SeedAfter W.between (pins_of log) x (SeedOf W.between log) n.edges) g.seed;
            stands = by (λ x. true ≡ stands_after x (tree_stands log)) refl;
            tree = λ s. record {
              since = [];
              before = log;
              answered = w;
              start = rows;
              rows = rows;
              p = x;
              q = y;
              allowance = by (λ e. allowance_after e (allowance_of log) ≡ Some (x, y)) (sym g.allowance ∙ al);
              read = reads (with_tree n rows) rows refl;
              run = record {
                build = ev;
                accepted = f;
                split = refl;
                kept = refl;
                built = with_tree n rows;
                before_it = next ran a;
                only = λ x run. runs_one W laws fresh_tied run (next ran a);
                since_it = still;
                first_rows = refl;
                last_rows = refl;
              };
              laid = relaid ev (by (λ x. LaidOver (pins_after x (pins_of log) ++ points_after x (points_of log)) rows) (laid_over rows p));
              allowed = by (λ e. Within (pins_after e (pins_of log)) x y rows) (allowed_now rows p x y within);
              bound = by (λ e. Bounded x y (SeedAfter W.between (pins_of log) e (SeedOf W.between log)) rows) (bound_now rows p x y bounded);
              savings = omega (arith, wired);
              paths = by (λ e. Shorter (pins_after e (pins_of log)) rows rows) (λ k h. (hung p.tree k (row_of_pin rows p k h), omega arith));
            };
          }

  -- ---- one call more

  module _ (n m : State) (log : Log) (g : Guarantee W log n) (t : Tied W.admitted W.width W.between n) (ran : Runs W fresh log n) where
    abbrev K : Event → State → Type 0
    K e x = Guarantee W (e ∷ log) x

    built_straight : (w : ℕ) → JoinAnswers W n m (Wire StraightCall) (Ok w) → K (record { call = Wire StraightCall; answer = Ok w }) m
    built_straight w a =
        let b = a.0.1.1.1 in
        let two = a.0.0 in
        let A : State → Type 0 = λ x. JoinAnswers W n x (Wire StraightCall) (Ok w) in
        let within = straight_within W laws n m t two b.0 b.1 b.3 b.2 b.4 in
        subst (K (record { call = Wire StraightCall; answer = Ok w })) (sym b.6)
        (kept_built n log g t two b.0 b.1 b.3 b.2 (placed_straight W laws n t two b.0 b.1 b.3 b.2 b.4)
        within.allowed within.wire w b.5 ran (record { call = Wire StraightCall; answer = Ok w }) refl (subst A b.6 a))

    built_joined : (w : ℕ) → JoinAnswers W n m JoinedCall (Ok w) → K (record { call = JoinedCall; answer = Ok w }) m
    built_joined w a =
        let b = a.0.1.1.1 in
        let two = a.0.0 in
        let A : State → Type 0 = λ x. JoinAnswers W n x JoinedCall (Ok w) in
        let within = joined_within W laws n m t two b.0 b.1 b.3 b.2 b.4 in
        subst (K (record { call = JoinedCall; answer = Ok w })) (sym b.6)
        (kept_built n log g t two b.0 b.1 b.3 b.2 (placed_joined W laws n t two b.0 b.1 b.3 b.2 b.4)
        within.allowed within.wire w b.5 ran (record { call = JoinedCall; answer = Ok w }) refl (subst A b.6 a))

    hooked : (w : ℕ) → JoinAnswers W n m (Wire Hook) (Ok w) → K (record { call = Wire Hook; answer = Ok w }) m
    hooked w a =
        let b = a.0.1.1 in
        let h = b.3 in
        let p = t.rows b.0 b.2 in
        let mea = placed_measured W n b.0 (standing_narrow W laws n t b.0 b.2) p in
        let A : State → Type 0 = λ x. JoinAnswers W n x (Wire Hook) (Ok w) in
        let F : List Row → Type 0 = λ xs. (k : ℕ) → k < length b.0 → path_length xs k ≤ path_length b.0 k in
        subst (K (record { call = Wire Hook; answer = Ok w })) (sym b.4)
        (kept_moved n log g t b.0 b.1 b.2 (placed_hook W laws n t b.0 b.2 w b.1 h) w
        (omega (arith, ap wire_of h.hung, hook_wire W laws.metric laws.meets b.0 p.tree mea h.move h.best.0, h.saves))
        (subst F (sym h.hung) (hook_paths W laws.metric laws.meets b.0 p.tree mea h.move h.best.0))
        (record { call = Wire Hook; answer = Ok w }) refl (subst A b.4 a))

    shared : (w : ℕ) → JoinAnswers W n m Share (Ok w) → K (record { call = Share; answer = Ok w }) m
    shared w a =
        let b = a.0.1.1.1 in
        let h = b.3 in
        let p = t.rows b.0 b.2 in
        let mea = placed_measured W n b.0 (standing_narrow W laws n t b.0 b.2) p in
        let A : State → Type 0 = λ x. JoinAnswers W n x Share (Ok w) in
        subst (K (record { call = Share; answer = Ok w })) (sym b.4)
        (kept_moved n log g t b.0 b.1 b.2 (placed_share W laws n t b.0 b.2 w b.1 h) w
        (omega (arith, ap wire_of h.shared, share_wire W laws.metric laws.meets b.0 p.tree mea h.move h.best.0, h.saves))
        (λ k i. omega (arith, ap (λ xs. path_length xs k) h.shared, share_paths W laws.metric laws.meets b.0 p.tree mea h.move h.best.0 k i))
        (record { call = Share; answer = Ok w }) refl (subst A b.4 a))

    one_more : (c : JoinCall) (r : Result ℕ Fault) → JoinAnswers W n m c r → K (record { call = c; answer = r }) m
    one_more (Wire (Pin z)) (Ok k) a = subst (K (record { call = Wire (Pin z); answer = Ok k })) (sym a.0.1.1.1.1.1) (kept_pin n log g t z k)
    one_more (Wire (Pin z)) (Err e) a = kept_refused n log g t m (Wire (Pin z)) e a.1 a
    one_more (Wire (Allow p q)) (Ok k) a = subst (K (record { call = Wire (Allow p q); answer = Ok k })) (sym a.0.1) (kept_allow n log g t p q k)
    one_more (Wire (Allow p q)) (Err e) a = kept_refused n log g t m (Wire (Allow p q)) e a.1 a
    one_more (Wire (Steiner z)) (Ok k) a = subst (K (record { call = Wire (Steiner z); answer = Ok k })) (sym a.0.1.1.1.1) (kept_point n log g t z k)
    one_more (Wire (Steiner z)) (Err e) a = kept_refused n log g t m (Wire (Steiner z)) e a.1 a
    one_more (Wire (EdgeOf x y)) (Ok l) a = subst (K (record { call = Wire (EdgeOf x y); answer = Ok l })) (sym a.0.1.1.1.1.1) (kept_edge n log g t x y l)
    one_more (Wire (EdgeOf x y)) (Err e) a = kept_refused n log g t m (Wire (EdgeOf x y)) e a.1 a
    one_more (Wire Unseed) (Ok k) a = subst (K (record { call = Wire Unseed; answer = Ok k })) (sym a.0) (kept_unseed n log g t k)
    one_more (Wire Unseed) (Err e) a = kept_refused n log g t m (Wire Unseed) e a.1 a
    one_more (Wire Span) (Ok w) a = subst (K (record { call = Wire Span; answer = Ok w })) (sym a.0.1.3) (kept_span n log g t w a.0.1.0 a.0.1.1)
    one_more (Wire Span) (Err e) a = kept_refused n log g t m (Wire Span) e a.1 a
    one_more (Wire StraightCall) (Ok w) a = built_straight w a
    one_more (Wire StraightCall) (Err e) a = kept_refused n log g t m (Wire StraightCall) e a.1 a
    one_more (Wire Hook) (Ok w) a = hooked w a
    one_more (Wire Hook) (Err e) a = kept_refused n log g t m (Wire Hook) e a.1 a
    one_more JoinedCall (Ok w) a = built_joined w a
    one_more JoinedCall (Err e) a = kept_refused n log g t m JoinedCall e a.1 a
    one_more Share (Ok w) a = shared w a
    one_more Share (Err e) a = kept_refused n log g t m Share e a.1 a

  fresh_kept : Guarantee W [] fresh
  fresh_kept = record { nodes = refl; pins = refl; allowance = refl; seed = refl; stands = refl; tree = λ e. absurd (never e) }

  pub runs_tied : {log : Log} {n : State} → Runs W fresh log n → T n
  runs_tied still = fresh_tied
  runs_tied (next {k} {m} {log} {c} {r} ran a) = tied_step W laws k m c r (runs_tied ran) a

  pub run_keeps : {log : Log} {n : State} → Runs W fresh log n → Guarantee W log n
  run_keeps still = fresh_kept
  run_keeps (next {k} {m} {log} {c} {r} ran a) = one_more k m log (run_keeps ran) (runs_tied ran) ran c r a

pub runs_keep : RunsKeep
runs_keep W metric meets log n ran = run_keeps W (record { metric = metric; meets = meets }) ran
