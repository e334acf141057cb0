-- What the parts of a net's state make of its calls. Assumes nothing.
use Rattle.std.proofs.Common.{◌≡◌, ℕ, ◌+◌, ◌*◌, ◌/◌, ◌<◌, ◌≤◌, Bool, true, false, Decides, nat_lt, List, length, vec_items, vec_capacity, get_or, Some, Ok, Err, Option, Result, None, ⊎_elim, take, ap, ◌∙◌, sym, subst, refl, inl, inr, arith, length-take, get_or-take}
use Rattle.std.proofs.lemmas.Bool.{lt-ltb}
use Rattle.std.proofs.lemmas.List.{get_or_default}
use mathlib.Core.HLevel.{is_prop→PathP}
use native.Mathlib.Bridge.{le_prop}
use native.Mathlib.Nat.{ℕ_set}
use Rattle.std.specs.Option.{unwrap_or}
use Rattle.std.specs.Result.{result_unwrap_or}
use Rattle.build_laws.specs.Joining.{Joins}
use Rattle.forest.specs.declared.Edge.{Edge}
use Rattle.net_laws.specs.Answers.{JoinedAnswer, PinAnswer, StraightAnswer}
use Rattle.net_laws.specs.Geometry.{Geometry}
use Rattle.net_laws.specs.Readings.{figure_of}
use Rattle.net_laws.specs.States.{State, with_pin, with_tree}
use Rattle.net_laws.specs.Spaces.{made_total, joining, wiring}
use Rattle.net_laws.specs.declared.fault.Fault.{Fault}
use Rattle.net_laws.specs.declared.fault.Fault.TheVariants.{TooClose}
use Rattle.net_lemmas.proofs.Builds.{joined_tree, straight_tree}
use Rattle.net_lemmas.proofs.Moves.{only}
use Rattle.seed.specs.declared.store.SeedFault.{SeedFault}
use Rattle.seed.specs.declared.store.SeedFault.TheVariants as refusal
use Rattle.seed.specs.declared.store.Seed.{Seed}
use Rattle.space.specs.Totals.{meet_or_start, capped_distance, edge_length}
use Rattle.space.specs.Laws.{answered}
use Rattle.space.specs.declared.TheConstants.{LONGEST}
use Rattle.space.specs.declared.Joining.{Ghosts as JoinGhosts}
use Rattle.space.specs.declared.Space.{Ghosts}
use Rattle.space.specs.declared.spot.Spot.{Spot}
use Rattle.span.specs.Grown.{Grown, Spanned}
use Rattle.span.specs.Lengths.{lengths}
use Rattle.space.specs.Spots.{origin, spot_of}
use Rattle.span_laws.specs.Spanning.{SpanningSeed}
use Rattle.span_laws.proofs.Steps.{spanning_agrees}
use Rattle.straight.specs.Built.{Answer, Matches, Straightened}
use Rattle.tree.specs.declared.table.Tree.{Tree}
use Rattle.tree_laws.specs.Trees.{path_length}
use Rattle.tree_laws.specs.declared.Row.{Row}
use Rattle.walk.specs.declared.allowance.Allowance.{Allowance}
use Rattle.net.specs.declared.state.NetState.TheInside.{Inside}
use Rattle.net.specs.declared.state.TheConstants.{PINS, POINTS}
use Rattle.net.specs.Held.{JoinsIn, ReadyAnswer, StraightBuilt, Straightens, rows_standing}

-- states with equal parts are equal
pub same_parts : (a b : Inside) → a.spots ≡ b.spots → a.pins ≡ b.pins → a.allowance ≡ b.allowance → a.seed ≡ b.seed → a.table ≡ b.table → a.stands ≡ b.stands → a ≡ b
same_parts a b s p l e t u = λ i.
    record {
      spots = s i;
      pins = p i;
      allowance = l i;
      seed = e i;
      table = t i;
      stands = u i;
      room = is_prop→PathP (λ j. PINS + POINTS ≤ vec_capacity (s j)) (λ j. le_prop) a.room b.room i;
      first = is_prop→PathP (λ j. p j ≤ length (vec_items (s j))) (λ j. le_prop) a.first b.first i;
      few = is_prop→PathP (λ j. p j ≤ PINS) (λ j. le_prop) a.few b.few i;
      points = is_prop→PathP (λ j. length (vec_items (s j)) ≤ p j + POINTS) (λ j. le_prop) a.points b.points i;
      nodes = is_prop→PathP (λ j. (e j).nodes ≡ length (vec_items (s j))) (λ j. ℕ_set _ _) a.nodes b.nodes i;
    }

-- where the rows stand, they are those of t
pub stood : (b : Bool) (t : Tree) (rows : List Row) → rows_standing b t ≡ Some rows → (b ≡ true) × (rows ≡ t.rows)
stood true t rows e = (refl, cc)
stood false t rows e = let z : ◌≡◌ {A = ℕ} 0 1 = cc in absurd (omega arith)

-- of some pins that a seed has room for, a seed is grown
pub grown : {X : Type 0} (G : Ghosts X) (s : X) (pins : List Spot) (t₀ : Seed) (r : Result ℕ SeedFault) (t : Seed) → Grown G s pins t₀ r t → 0 < length pins → length pins ≤ 512 → Spanned G s pins (result_unwrap_or r 0) t
grown G s pins t₀ (Ok w) t h some few = h
grown G s pins t₀ (Err refusal.Outside) t h some few = ⊎_elim (λ e. absurd (omega (arith, e))) (λ l. absurd (omega arith)) h.0
grown G s pins t₀ (Err refusal.Joined) t h some few = absurd h
grown G s pins t₀ (Err refusal.Short) t h some few = absurd h
grown G s pins t₀ (Err refusal.Long) t h some few = absurd h

-- a spot that is apart from the first spots is apart from those numbers among all spots
pub first_apart : {X : Type 0} (G : Ghosts X) (s : X) (z : Spot) (some spots : List Spot) (n : ℕ) → some ≡ spots → n ≤ length spots → (b : Bool) → Decides b ((k : ℕ) → k < length (take n some) → 1 ≤ capped_distance G s (spot_of (take n some) k) z) → Decides b ((k : ℕ) → k < n → 1 ≤ capped_distance G s (spot_of spots k) z)
first_apart G s z some spots n e h b d =
    let P : List Spot → Type 0 = λ xs. Decides b ((k : ℕ) → k < length (take n xs) → 1 ≤ capped_distance G s (spot_of (take n xs) k) z) in
    let f = subst P e d in
    let m : length (take n spots) ≡ n = simp length-take (omega arith) in
    let here : (k : ℕ) → k < n → spot_of (take n spots) k ≡ spot_of spots k = λ k l. rw get_or-take in (
      λ t k l. omega (arith, f.0 t k (omega (arith, m)), ap (λ x. capped_distance G s x z) (here k l)),
      λ q. f.1 (λ k l. omega (arith, q k (omega (arith, m)), ap (λ x. capped_distance G s x z) (here k (omega (arith, m))))),
    )

-- what the first spots span is spanned by those numbers among all spots
pub first_span : {X : Type 0} (G : Ghosts X) (s : X) (spots front : List Spot) (n : ℕ) → front ≡ take n spots → n ≤ length spots → (E : List Edge) → SpanningSeed (length front) (lengths G s front) E → SpanningSeed n (lengths G s spots) E
first_span G s spots front n e h E w =
    let P : List Spot → Type 0 = λ xs. SpanningSeed (length xs) (lengths G s xs) E in
    let Q : ℕ → Type 0 = λ k. SpanningSeed k (lengths G s (take n spots)) E in
    let m : length (take n spots) ≡ n = simp length-take (omega arith) in
    spanning_agrees n (lengths G s (take n spots)) (lengths G s spots)
    (λ u v a b ne. ap (λ z. edge_length G s z (spot_of (take n spots) v)) (here u a) ∙ ap (λ z. edge_length G s (spot_of spots u) z) (here v b))
    E (subst Q m (subst P e w))
  where
    here : (u : ℕ) → u < n → spot_of (take n spots) u ≡ spot_of spots u
    here u a = rw get_or-take

-- of a seed that is a tree with a spot for each node, a tree is built
pub straightened : {X : Type 0} (G : Ghosts X) (s : X) (t₀ : Tree) (before : List ℕ) (spots all : List Spot) (p q pins : ℕ) (seed : Seed) (found : List ℕ) (r : Option ℕ) (t : Tree) → Answer G s t₀ before spots p q pins seed found r t → spots ≡ all → Matches seed all → (w : ℕ) → w ≡ unwrap_or r 0 → Straightened (capped_distance G s) all p q pins (length all) seed.edges found w t.rows
straightened G s t₀ before spots all p q pins seed found None t h e m w v = let M : List Spot → Type 0 = λ xs. Matches seed xs in absurd (h.0 (subst M (sym e) m))
straightened G s t₀ before spots all p q pins seed found (Some x) t h e m w v =
    let S : List Spot → Type 0 = λ xs. Straightened (capped_distance G s) xs p q pins seed.nodes seed.edges found x t.rows in
    let N : ℕ → Type 0 = λ n. Straightened (capped_distance G s) all p q pins n seed.edges found x t.rows in
    let W : ℕ → Type 0 = λ k. Straightened (capped_distance G s) all p q pins (length all) seed.edges found k t.rows in
    subst W (sym v) (subst N m.1 (subst S e h.1))

-- what a build of a state that is ready answers
pub straight_told : {X : Type 0} (G : Ghosts X) (s : X) (n m : State) (a : Allowance) (listed : List ℕ) (w : ℕ) → ReadyAnswer n (Ok a) → Straightens (capped_distance G s) a n listed w m → StraightAnswer (made_total (wiring G s)) n m (Ok w)
straight_told G s n m a listed w r t =
    (r.0, (r.1.0, (r.1.1.0, (a.p, a.q, t.rows, r.1.1.1, straight_tree (capped_distance G s) n.spots n.pins a.p a.q n.edges listed w t.rows t.straight, t.straight.wire, t.stands))))

pub straight_answered : {X : Type 0} (G : Ghosts X) (s : X) (n m : State) (listed : List ℕ) (r : Result ℕ Fault) → StraightBuilt (capped_distance G s) n listed r m → StraightAnswer (made_total (wiring G s)) n m r
straight_answered G s n m listed (Ok w) h = straight_told G s n m h.0 listed w h.1 h.2
straight_answered G s n m listed (Err e) h = h.0

-- and joined after it
pub joined_told : {X : Type 0} (G : Ghosts X) (J : JoinGhosts X) (s : X) (n k m : State) (a : Allowance) (listed members : List ℕ) (w v : ℕ) → ReadyAnswer n (Ok a) → Straightens (capped_distance G s) a n listed w k → members ≡ listed → JoinsIn (capped_distance G s) (meet_or_start G J s) k members v m → JoinedAnswer (made_total (joining G J s)) n m (Ok v)
joined_told G J s n k m a listed members w v r t e h =
    let d = capped_distance G s in
    let j = meet_or_start G J s in
    let same : h.rows ≡ t.rows = only k.tree h.rows t.rows h.stood (ap (λ (x : State). x.tree) t.stands) in
    let P : List Row → Type 0 = λ xs. Joins d j xs members h.after in
    let Q : List ℕ → Type 0 = λ ys. Joins d j t.rows ys h.after in
    let tree = joined_tree d j n.spots n.pins a.p a.q n.edges listed w t.rows h.after t.straight (subst Q e (subst P same h.joins)) in
    (r.0, (r.1.0, (r.1.1.0, (a.p, a.q, h.after, r.1.1.1, tree, h.wire, h.stands ∙ ap (λ (x : State). with_tree x h.after) t.stands))))

not_both : (b : Bool) → b ≡ true → b ≡ false → ⊥
not_both b p q = let z : ◌≡◌ {A = ℕ} 0 1 = cc in omega arith

-- an earlier pin is too close, or none is and the pin is added
pub too_close : (W : Geometry) (n : State) (z : Spot) (b : Bool) → W.width ≤ LONGEST → W.admitted z ≡ true → n.pins < 256 → Decides b ((k : ℕ) → k < n.pins → 1 ≤ W.between (spot_of n.spots k) z) → b ≡ false → PinAnswer W n n z (Err TooClose)
too_close W n z b wide admitted few d e = inr (wide, inr (admitted, inr (few, inl (λ q. not_both b (d.1 q) e, refl))))

pub pin_added : (W : Geometry) (n m : State) (z : Spot) (b : Bool) (k : ℕ) → W.width ≤ LONGEST → W.admitted z ≡ true → n.pins < 256 → Decides b ((k : ℕ) → k < n.pins → 1 ≤ W.between (spot_of n.spots k) z) → b ≡ true → k ≡ n.pins → m ≡ with_pin n z → PinAnswer W n m z (Ok k)
pin_added W n m z b k wide admitted few d e number added = (wide, (admitted, (few, (d.0 e, (number, added)))))

-- the path of a row that there is
pub path_found : (k n x : ℕ) (o : Option ℕ) → k < n → o ≡ answered (nat_lt k n) x → unwrap_or o 0 ≡ x
path_found k n x o l e = ap (λ z. unwrap_or z 0) e ∙ ap (λ b. unwrap_or (answered b x) 0) (lt-ltb k n l)

pub figure_told : (d : Spot → Spot → ℕ) (n : State) (rows : List Row) (k : ℕ) (a b : Spot) (path direct : ℕ) → path ≡ path_length rows k → a ≡ spot_of n.spots 0 → b ≡ spot_of n.spots k → direct ≡ d a b → 1000 * path / direct ≡ figure_of d n rows k
figure_told d n rows k a b path direct p x y e =
    ap (λ z. 1000 * z / direct) p ∙ ap (λ z. 1000 * path_length rows k / z) (e ∙ ap (λ z. d z b) x ∙ ap (d (spot_of n.spots 0)) y)

-- the spot that is read at a place
pub spot_there : (xs ys : List Spot) (k : ℕ) (r : Spot) → r ≡ get_or xs k r → xs ≡ ys → k < length ys → r ≡ spot_of ys k
spot_there xs ys k r h e l = h ∙ get_or_default xs k r origin (omega (arith, ap length e)) ∙ ap (λ zs. spot_of zs k) e
