-- The rows of the table on the calls of a net. Assumes nothing.
use Rattle.std.proofs.Common.{◌≡◌, ℕ, ◌+◌, true, false, ltb, ◌⊎◌, List, [], ◌∷◌, ◌++◌, length, sym, refl, ap, ◌∙◌, subst, inl, inr, ⊎_elim, arith}
use Rattle.std.specs.List.{AllByRecursion}
use Rattle.std.proofs.lemmas.Bool.{ltb-true}
use Rattle.build_laws.specs.Joining.{Farthest, Joins, PairOf, far_of, meet_group, meet_row}
use Rattle.build_laws.specs.Joining.Joins.{done, join}
use Rattle.build_laws.specs.Straight.{straight, net_rules}
use Rattle.forest.specs.Edges.{Sound}
use Rattle.forest.specs.Growth.{Grows, Planted}
use Rattle.forest.specs.Rooted.{Forest}
use Rattle.forest.specs.declared.Edge.{Edge}
use Rattle.forest.proofs.Accepted.{accepted}
use Rattle.forest.proofs.Nearest.{grows_only}
use Rattle.forest.proofs.Rooting.{planted}
use Rattle.order.specs.Firsts.{Among}
use Rattle.order.specs.Firsts.Among.{here, there}
use Rattle.order.specs.Orders.{then_by}
use Rattle.order.proofs.Finding.{among_either, among_one}
use Rattle.space.specs.declared.spot.Spot.{Spot}
use Rattle.space.specs.Spots.{spot_of}
use Rattle.tree_laws.specs.Trees.{wire_of}
use Rattle.tree_laws.specs.declared.Row.{Row}
use Rattle.walk_laws.specs.Walk.{start, walk}
use Rattle.net_laws.specs.Answers.{JoinedTree, StraightTree, breakpoints, marks_of}
use Rattle.net_laws.specs.States.{fresh}
use Rattle.net_laws.specs.declared.call.Call.TheVariants.{Pin, Span, Straight}
use Rattle.net_laws.specs.declared.call.JoinCall.TheVariants.{Wire, Joined}
use Rattle.net_cases.specs.Calls.{CallsFollow, answers, pins_from, refused, seed, seeded, step, tree}
use Rattle.cases.specs.Table.{chain, corner, fork, origin, square, square_seed}
use Rattle.net_cases.specs.Table.{Holds, corner_rows, fork_joined, fork_rows, on_lift, on_plane, square_broken, square_rows, nets as net_rows}
use Rattle.net_cases.proofs.Calling.{joined_told, laid, laid_told, lawful, pins_told, span_told, straight_told, wide_told, with_pins}
use Rattle.cases.proofs.Chain.{chain_grows, links}
use Rattle.cases.proofs.Square.{spans}
use Rattle.cases.proofs.Walks.{corner_sound, far, fork_sound, square_sound}

-- the straight tree over the one forest that the seed is
straight_only : (d : Spot → Spot → ℕ) (spots : List Spot) (pins p q : ℕ) (E : List Edge) (F : Forest) → Sound (length spots) E → Grows E 0 0 0 F → (xs : List Row) → StraightTree d spots pins p q E xs → xs ≡ straight (net_rules d spots pins p q) (walk (net_rules d spots pins p q) 0 F start) (spot_of spots) (length spots)
straight_only d spots pins p q E F s g xs t =
    let R = net_rules d spots pins p q in
    t.built ∙ ap (λ G. straight R (walk R 0 G start) (spot_of spots) (length spots)) (grows_only (accepted (length spots) E s) t.planted.grows g)

-- there is a straight tree, so the only one is it
straight_there : (d : Spot → Spot → ℕ) (spots : List Spot) (pins p q : ℕ) (E : List Edge) (rows : List Row) → Sound (length spots) E → length E + 1 ≡ length spots → ((xs : List Row) → StraightTree d spots pins p q E xs → xs ≡ rows) → StraightTree d spots pins p q E rows
straight_there d spots pins p q E rows s e only =
    let P = planted (accepted (length spots) E s) e in
    let t : StraightTree d spots pins p q E (straight (net_rules d spots pins p q) (marks_of d spots pins p q E P) (spot_of spots) (length spots)) = record { planted = P; built = refl } in
    subst (StraightTree d spots pins p q E) (only _ t) t

corner_only : (xs : List Row) → StraightTree on_plane.between corner 3 0 1 (chain (far corner) 2) xs → xs ≡ corner_rows
unfolding walk
corner_only = straight_only on_plane.between corner 3 0 1 (chain (far corner) 2) (links (far corner) 0 2) corner_sound (chain_grows (far corner) 2)

corner_straight : CallsFollow on_plane fresh (seeded corner 0 1 (10 ∷ (5 ∷ [])) (step (Wire Straight) (answers 10) ∷ [])) (tree corner_rows)
corner_straight =
    laid_told on_plane corner 0 1 (10 ∷ (5 ∷ [])) (step (Wire Straight) (answers 10) ∷ []) (tree corner_rows) refl refl refl
    (straight_told on_plane (laid on_plane corner 0 1 (10 ∷ (5 ∷ []))) 0 1 corner_rows [] (tree corner_rows) refl refl refl
    (straight_there on_plane.between corner 3 0 1 (chain (far corner) 2) corner_rows corner_sound refl corner_only) corner_only refl)

fork_only : (xs : List Row) → StraightTree on_plane.between fork 4 0 1 (chain (far fork) 3) xs → xs ≡ fork_rows
unfolding walk
fork_only = straight_only on_plane.between fork 4 0 1 (chain (far fork) 3) (links (far fork) 0 3) fork_sound (chain_grows (far fork) 3)

fork_straight : CallsFollow on_plane fresh (seeded fork 0 1 (6 ∷ (13 ∷ (3 ∷ []))) (step (Wire Straight) (answers 19) ∷ [])) (tree fork_rows)
fork_straight =
    laid_told on_plane fork 0 1 (6 ∷ (13 ∷ (3 ∷ []))) (step (Wire Straight) (answers 19) ∷ []) (tree fork_rows) refl refl refl
    (straight_told on_plane (laid on_plane fork 0 1 (6 ∷ (13 ∷ (3 ∷ [])))) 0 1 fork_rows [] (tree fork_rows) refl refl refl
    (straight_there on_plane.between fork 4 0 1 (chain (far fork) 3) fork_rows fork_sound refl fork_only) fork_only refl)

square_straight : (p q : ℕ) (rows : List Row) → lawful p q ≡ true → wire_of rows ≡ 18 → straight (net_rules on_plane.between square 4 p q) (walk (net_rules on_plane.between square 4 p q) 0 (links (far square) 0 3) start) (spot_of square) 4 ≡ rows → CallsFollow on_plane fresh (seeded square p q (6 ∷ (6 ∷ (6 ∷ []))) (step (Wire Straight) (answers 18) ∷ [])) (tree rows)
square_straight p q rows law w is =
    let net = laid on_plane square p q (6 ∷ (6 ∷ (6 ∷ []))) in
    let only : (xs : List Row) → StraightTree on_plane.between square 4 p q (chain (far square) 3) xs → xs ≡ rows = λ xs t. straight_only on_plane.between square 4 p q (chain (far square) 3) (links (far square) 0 3) square_sound (chain_grows (far square) 3) xs t ∙ is in
    let F : ℕ → Type 0 = λ k. CallsFollow on_plane net (step (Wire Straight) (answers k) ∷ []) (tree rows) in
    laid_told on_plane square p q (6 ∷ (6 ∷ (6 ∷ []))) (step (Wire Straight) (answers 18) ∷ []) (tree rows) refl law refl
    (subst F w (straight_told on_plane net p q rows [] (tree rows) refl refl refl (straight_there on_plane.between square 4 p q (chain (far square) 3) rows square_sound refl only) only refl))

square_span : CallsFollow on_plane fresh (pins_from 0 square ++ step (Wire Span) (answers 18) ∷ []) (seed square_seed)
square_span =
    pins_told on_plane fresh square (step (Wire Span) (answers 18) ∷ []) (seed square_seed) refl
    (span_told on_plane (with_pins on_plane fresh square) square_seed [] (seed square_seed) refl spans (refl, refl))

-- ---- the joined tree

abbrev d : Spot → Spot → ℕ
d = on_plane.between

abbrev m : Spot → Spot → Spot → Spot
m = on_plane.meeting

-- one member makes no pair
one_left : {rows after : List Row} {group : List ℕ} (x : ℕ) → group ≡ x ∷ [] → Joins d m rows group after → after ≡ rows
one_left x e (done h) = refl
one_left {group = group} x e (join a b f away rest) =
    let A : List ℕ → Type 0 = λ g. Among a g in
    let B : List ℕ → Type 0 = λ g. Among b g in
    let i : a ≡ x = among_one (subst A e f.pair.first) in
    let j : b ≡ x = among_one (subst B e f.pair.second) in
    absurd (omega (arith, f.pair.ordered))

-- of two members the pair is those
among_two : (x y a : ℕ) → Among a (x ∷ (y ∷ [])) → (a ≡ x) ⊎ (a ≡ y)
among_two x y a h = ⊎_elim (λ k. inl (among_one k)) (λ k. inr (among_one k)) (among_either (x ∷ []) (y ∷ []) h)

pair_23 : (a b : ℕ) → PairOf d m (2 ∷ (3 ∷ [])) a b → (a ≡ 2) × (b ≡ 3)
pair_23 a b p =
    ⊎_elim
    (λ (i : a ≡ 2). ⊎_elim (λ (j : b ≡ 2). absurd (omega (arith, p.ordered))) (λ (j : b ≡ 3). (i, j)) (among_two 2 3 b p.second))
    (λ (i : a ≡ 3). ⊎_elim (λ (j : b ≡ 2). absurd (omega (arith, p.ordered))) (λ (j : b ≡ 3). absurd (omega (arith, p.ordered))) (among_two 2 3 b p.second))
    (among_two 2 3 a p.first)

fork_joins : {rows after : List Row} {group : List ℕ} → rows ≡ fork_rows → group ≡ 2 ∷ (3 ∷ []) → Joins d m rows group after → after ≡ fork_joined
fork_joins {rows} {after} {group} e g (done h) =
    let P : List Row → Type 0 = λ r. far_of d m r 2 3 ≡ 0 in
    let G : List ℕ → Type 0 = λ z. PairOf d m z 2 3 in
    let two : PairOf d m (2 ∷ (3 ∷ [])) 2 3 = record { first = here; second = there here; ordered = omega arith } in
    let z : far_of d m fork_rows 2 3 ≡ 0 = subst P e (h 2 3 (subst G (sym g) two)) in
    absurd (five z)
  where
    five : ◌≡◌ {A = ℕ} 5 0 → ⊥
    five e = omega arith
fork_joins {rows} {after} {group} e g (join a b f away rest) =
    let G : List ℕ → Type 0 = λ z. PairOf d m z a b in
    let q = pair_23 a b (subst G g f.pair) in
    let r : meet_row d m rows a b ≡ fork_joined = ap (λ x. meet_row d m x a b) e ∙ ap (λ x. meet_row d m fork_rows x b) q.0 ∙ ap (meet_row d m fork_rows 2) q.1 in
    let s : meet_group d m group a b (length rows) ≡ 4 ∷ [] = ap (λ x. meet_group d m x a b (length rows)) g ∙ ap (λ x. meet_group d m (2 ∷ (3 ∷ [])) x b (length rows)) q.0 ∙ ap (λ x. meet_group d m (2 ∷ (3 ∷ [])) 2 x (length rows)) q.1 ∙ ap (λ x. meet_group d m (2 ∷ (3 ∷ [])) 2 3 (length x)) e in
    one_left 4 s rest ∙ r

-- the joining that is done
fork_joining : Joins d m fork_rows (2 ∷ (3 ∷ [])) fork_joined
fork_joining =
    let two : PairOf d m (2 ∷ (3 ∷ [])) 2 3 = record { first = here; second = there here; ordered = omega arith } in
    let First : ℕ → ℕ → Type 0 = λ x y. then_by (far_of d m fork_rows 2 3) (far_of d m fork_rows x y) (then_by x 2 (ltb y 3)) ≡ false in
    let farthest : Farthest d m fork_rows (2 ∷ (3 ∷ [])) 2 3 = record {
      pair = two;
      first = λ x y p. let q = pair_23 x y p in subst (λ (u : ℕ). First u y) (sym q.0) (subst (First 2) (sym q.1) refl);
    } in
    join 2 3 farthest (ltb-true 0 5 refl) (done (λ a b p. absurd (alone a b p)))
  where
    alone : (a b : ℕ) → PairOf d m (4 ∷ []) a b → ⊥
    alone a b p =
        let i : a ≡ 4 = among_one p.first in
        let j : b ≡ 4 = among_one p.second in
        omega (arith, p.ordered)

-- the breakpoints of the fork
fork_broken : (P : Planted 4 (chain (far fork) 3)) → breakpoints (marks_of d fork 4 0 1 (chain (far fork) 3) P) 4 ≡ 2 ∷ (3 ∷ [])
unfolding walk
fork_broken P =
    let E = chain (far fork) 3 in
    ap (λ G. breakpoints (walk (net_rules d fork 4 0 1) 0 G start) 4) (grows_only (accepted 4 E fork_sound) P.grows (chain_grows (far fork) 3))

joined_there : JoinedTree d m fork 4 0 1 (chain (far fork) 3) fork_joined
joined_there =
    let t : StraightTree d fork 4 0 1 (chain (far fork) 3) fork_rows = straight_there d fork 4 0 1 (chain (far fork) 3) fork_rows fork_sound refl fork_only in
    record {
      unjoined = fork_rows;
      straight = t;
      joins = subst (λ (g : List ℕ). Joins d m fork_rows g fork_joined) (sym (fork_broken t.planted)) fork_joining;
    }

joined_only : (xs : List Row) → JoinedTree d m fork 4 0 1 (chain (far fork) 3) xs → xs ≡ fork_joined
joined_only xs t = fork_joins (fork_only t.unjoined t.straight) (fork_broken t.straight.planted) t.joins

fork_together : CallsFollow on_plane fresh (seeded fork 0 1 (6 ∷ (13 ∷ (3 ∷ []))) (step Joined (answers 14) ∷ [])) (tree fork_joined)
fork_together =
    laid_told on_plane fork 0 1 (6 ∷ (13 ∷ (3 ∷ []))) (step Joined (answers 14) ∷ []) (tree fork_joined) refl refl refl
    (joined_told on_plane (laid on_plane fork 0 1 (6 ∷ (13 ∷ (3 ∷ [])))) 0 1 fork_joined [] (tree fork_joined) refl refl refl joined_there joined_only refl)

-- ---- a lift

lift_takes : CallsFollow (on_lift 6400000) fresh (step (Wire (Pin origin)) (answers 0) ∷ []) (seed [])
lift_takes = pins_told (on_lift 6400000) fresh (origin ∷ []) [] (seed []) refl (refl, refl)

lift_refuses : CallsFollow (on_lift 6400001) fresh (step (Wire (Pin origin)) (refused 1) ∷ []) (seed [])
lift_refuses = wide_told (on_lift 6400001) fresh origin [] (seed []) refl (refl, refl)

pub nets : AllByRecursion Holds net_rows
unfolding walk
nets = (corner_straight, (fork_straight, (fork_together, (lift_takes, (lift_refuses, (square_straight 2 1 square_rows refl refl refl, (square_straight 199 100 square_broken refl refl refl, (square_span, tt))))))))
