-- The breakpoints of a straight tree are rows on the driver that can be joined, and what the two builds answer. Assumes nothing.
use Rattle.std.proofs.Common.{◌≡◌, ℕ, zero, suc, ◌+◌, ◌<◌, ◌≤◌, Bool, true, false, cond, ◌||◌, eqb, List, [], ◌∷◌, ◌++◌, length, get_or, Some, None, Option, sym, refl, ap, ◌∙◌, subst, ⊎_elim, arith}
use Rattle.std.proofs.lemmas.List.{append-nil, get_or_append_left, get_or_push, length_push}
use Rattle.std.proofs.lemmas.Bool.{cases_Bool, cases_eq, cond-true}
use Rattle.std.specs.Option.{unwrap_or}
use Rattle.build_laws.specs.Joining.{Joins}
use Rattle.build_laws.specs.Straight.{breakpoints, broken_if, net_rules, straight}
use Rattle.build_laws.proofs.Building.{among_breakpoints, straight_length, straight_row_lem}
use Rattle.forest.specs.declared.Edge.{Edge}
use Rattle.joined.proofs.Keeping.{among_here}
use Rattle.joined.specs.Joinings.{Joinable, JoinedBy, GroupJoined}
use Rattle.net_laws.specs.Answers.{JoinedTree, StraightTree, marks_of}
use Rattle.order.specs.Firsts.{Among}
use Rattle.space.specs.declared.Joining.{Ghosts as JoinGhosts}
use Rattle.space.specs.declared.Space.{Ghosts}
use Rattle.space.specs.declared.spot.Spot.{Spot}
use Rattle.space.specs.Spots.{spot_of}
use Rattle.straight.specs.Built.{StraightBy, Straightened}
use Rattle.tree.specs.declared.table.Tree.{Tree as Tree-table}
use Rattle.tree_laws.specs.Trees.{up}
use Rattle.tree_laws.specs.declared.Row.{Row}
use Rattle.walk_laws.specs.Walk.{Rules, Marks}

pub straight_count : (R : Rules) (place : ℕ → Spot) (n : ℕ) (E : List Edge) (found : List ℕ) (w : ℕ) (rows : List Row) → StraightBy R place n E found w rows → length rows ≡ n
straight_count R place n E found w rows s = ap length s.rows ∙ straight_length R s.marks place n

abbrev Rising : List ℕ → Type 0
Rising xs = (i : ℕ) → i + 1 < length xs → get_or xs i 0 < get_or xs (i + 1) 0

module _ (S : Marks) where
  -- the list goes on with n, or stays
  more : (n : ℕ) → (S n).broken ≡ true → breakpoints S (suc n) ≡ breakpoints S n ++ n ∷ []
  more n b = ap (λ x. breakpoints S n ++ broken_if x n) b

  same : (n : ℕ) → (S n).broken ≡ false → breakpoints S (suc n) ≡ breakpoints S n
  same n b = ap (λ x. breakpoints S n ++ broken_if x n) b ∙ append-nil (breakpoints S n)

  few : (n k : ℕ) → ((v : ℕ) → v < n → (S v).broken ≡ true → v < k) → (length (breakpoints S n) ≤ n) × (length (breakpoints S n) ≤ k)
  few zero k h = (omega arith, omega arith)
  few (suc n) k h =
      let r = few n k (λ v l b. h v (omega arith) b) in
      ⊎_elim
      (λ (b : (S n).broken ≡ true).
      let l : n < k = h n (omega arith) b in
      let e = ap length (more n b) ∙ length_push (breakpoints S n) n in
      (omega (arith, e, r.0), omega (arith, e, r.0)))
      (λ (b : (S n).broken ≡ false). let e = ap length (same n b) in (omega (arith, e, r.0), omega (arith, e, r.1)))
      (cases_Bool (S n).broken)

  rising_push : (xs : List ℕ) (n : ℕ) → ((v : ℕ) → Among v xs → v < n) → Rising xs → Rising (xs ++ n ∷ [])
  rising_push xs n below r i h =
      let long = length_push xs n in
      let first : get_or (xs ++ n ∷ []) i 0 ≡ get_or xs i 0 = get_or_append_left xs (n ∷ []) 0 i (omega (arith, long)) in
      ⊎_elim
      (λ (e : i + 1 ≡ length xs).
      let at : Among (get_or xs i 0) xs = among_here xs i 0 (omega arith) in
      omega (arith, first, get_or_push xs n 0 (i + 1) (sym e), below (get_or xs i 0) at))
      (λ (ne : i + 1 ≡ length xs → ⊥).
      let l : i + 1 < length xs = omega (arith, long) in
      omega (arith, first, get_or_append_left xs (n ∷ []) 0 (i + 1) l, r i l))
      (cases_eq (i + 1) (length xs))

  rising : (n : ℕ) → Rising (breakpoints S n)
  rising zero i h = absurd (none i h)
    where
      none : (i : ℕ) → i + 1 < 0 → ⊥
      none i h = omega arith
  rising (suc n) i h =
      ⊎_elim
      (λ (b : (S n).broken ≡ true). subst Rising (sym (more n b)) (rising_push (breakpoints S n) n (λ v a. (among_breakpoints S n v a).0) (rising n)) i h)
      (λ (b : (S n).broken ≡ false). subst Rising (sym (same n b)) (rising n) i h)
      (cases_Bool (S n).broken)

pub straight_joinable : (R : Rules) (place : ℕ → Spot) (n : ℕ) (E : List Edge) (found : List ℕ) (w : ℕ) (rows : List Row) → StraightBy R place n E found w rows → n + R.pins ≤ 768 → Joinable rows found
straight_joinable R place n E found w rows s room =
    let S = s.marks in
    let sinks = s.walked.keeps.sinks in
    let count = straight_count R place n E found w rows s in
    let Q : ℕ → List ℕ → Type 0 = λ g xs. Among g xs in
    record {
      rising = subst Rising (sym s.broken) (rising S n);
      hung = λ g a.
          let f = among_breakpoints S n g (subst (Q g) s.broken a) in
          let k = sinks g f.0 f.1 in
          record {
            row = omega (arith, count, f.0);
            moves = λ z. omega (arith, k.0);
            parent = ap (λ (xs : List Row). up xs g) s.rows ∙ ap (λ (r : Row). r.parent) (straight_row_lem R S place n g f.0) ∙ on_driver (eqb g 0) (S g).broken (S g).parent f.1;
          };
      room = omega (arith, count, ap length s.broken, (few S n R.pins (λ v l b. (sinks v l b).1)).1);
    }
  where
    on_driver : (x b : Bool) (u : ℕ) → b ≡ true → cond (x || b) 0 u ≡ 0
    on_driver true b u e = refl
    on_driver false b u e = cond-true b 0 u e

-- a group that can be joined is joined
pub joined_some : {X : Type 0} (G : Ghosts X) (J : JoinGhosts X) (s : X) (t₀ : Tree-table) (group : List ℕ) (r : Option ℕ) (t : Tree-table) → JoinedBy G J s t₀ group r t → Joinable t₀.rows group → GroupJoined G J s t₀.rows group (unwrap_or r 0) t.rows
joined_some G J s t₀ group None t h j = absurd (h.0 j)
joined_some G J s t₀ group (Some w) t h j = h

-- what the builder made is the straight tree
pub straight_tree : (d : Spot → Spot → ℕ) (spots : List Spot) (pins p q : ℕ) (E : List Edge) (found : List ℕ) (w : ℕ) (rows : List Row) → Straightened d spots p q pins (length spots) E found w rows → StraightTree d spots pins p q E rows
straight_tree d spots pins p q E found w rows h =
    record { planted = h.walked.planted; built = h.rows ∙ ap (λ S. straight (net_rules d spots pins p q) S (spot_of spots) (length spots)) h.walked.is }

-- what the joiner made of it is the joined tree
pub joined_tree : (d : Spot → Spot → ℕ) (m : Spot → Spot → Spot → Spot) (spots : List Spot) (pins p q : ℕ) (E : List Edge) (found : List ℕ) (w : ℕ) (rows after : List Row) → Straightened d spots p q pins (length spots) E found w rows → Joins d m rows found after → JoinedTree d m spots pins p q E after
joined_tree d m spots pins p q E found w rows after h j =
    let Q : List ℕ → Type 0 = λ xs. Joins d m rows xs after in
    let e : found ≡ breakpoints (marks_of d spots pins p q E h.walked.planted) (length spots) =
    h.broken ∙ ap (λ S. breakpoints S (length spots)) h.walked.is in
    record {
      unjoined = rows;
      straight = record { planted = h.walked.planted; built = h.rows ∙ ap (λ S. straight (net_rules d spots pins p q) S (spot_of spots) (length spots)) h.walked.is };
      joins = subst Q e j;
    }
