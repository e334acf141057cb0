-- How the best of several candidates is found. Assumes nothing.
use Rattle.std.proofs.Common.{◌≡◌, ℕ, suc, ◌<◌, ◌≤◌, Bool, ◌⊎◌, List, [], ◌∷◌, ◌++◌, Some, None, Option, sym, subst, inl, inr, ⊎_elim, arith}
use Rattle.std.proofs.lemmas.Bool.{cases_lt}
use Rattle.order.specs.Orders.{Order}
use Rattle.order.specs.Firsts.{Among, FirstOf}
use Rattle.order.specs.Firsts.Among.{here}
use Rattle.order.proofs.Finding.{among_none, among_either, among_left, among_right, among_one, not_before}
use Rattle.order.specs.Bests.{BestOf, Decides, Found}
use Rattle.order.specs.Bests.Found.{start, skips, finds}

module _ {X : Type 0} {lt : X → X → Bool} (o : Order lt) where
  -- the first of the candidates that decide is the best
  pub decides_first : (P : X → Type 0) (F : List X) (r : Option X) → Decides lt P F → FirstOf lt F r → BestOf lt P r
  decides_first P F None d e = λ m p. let Q : List X → Type 0 = λ xs. Among (d.beaten m p).0 xs in among_none (subst Q e (d.beaten m p).1)
  decides_first P F (Some m) d f =
      (d.within m f.stands, λ n p. let b = d.beaten n p in not_before o n b.0 m b.2 (f.least b.0 b.1))

-- what has P has Q, and the other way round
pub best_same : {X : Type 0} (lt : X → X → Bool) (P Q : X → Type 0) → ((x : X) → P x → Q x) → ((x : X) → Q x → P x) → (r : Option X) → BestOf lt P r → BestOf lt Q r
best_same lt P Q f g None b = λ x q. b x (g x q)
best_same lt P Q f g (Some x) b = (f x b.0, λ y q. b.1 y (g y q))

pub decides_none : {X : Type 0} (lt : X → X → Bool) (P : X → Type 0) → ((m : X) → P m → ⊥) → Decides lt P []
decides_none lt P f = record { within = λ m a. absurd (among_none a); beaten = λ m p. absurd (f m p) }

-- candidates that have P or Q have R, and the best of those that have Q is known
module _ {X : Type 0} (lt : X → X → Bool) (P Q R : X → Type 0) (left : (m : X) → P m → R m) (right : (m : X) → Q m → R m) (either : (m : X) → R m → P m ⊎ Q m) (F : List X) (d : Decides lt P F) where
  pub decides_same : BestOf lt Q None → Decides lt R F
  decides_same b = record { within = λ m a. left m (d.within m a); beaten = λ m r. ⊎_elim (λ (p : P m). d.beaten m p) (λ (q : Q m). absurd (b m q)) (either m r) }

  pub decides_push : (w : X) → BestOf lt Q (Some w) → Decides lt R (F ++ w ∷ [])
  decides_push w b = record {
    within = λ m a.
        ⊎_elim
        (λ (i : Among m F). left m (d.within m i))
        (λ (i : Among m (w ∷ [])). subst R (sym (among_one i)) (right w b.0))
        (among_either F (w ∷ []) a);
    beaten = λ m r.
        ⊎_elim
        (λ (p : P m). let f = d.beaten m p in (f.0, among_left F (w ∷ []) f.1, f.2))
        (λ (q : Q m). (w, among_right F (w ∷ []) here, b.1 m q))
        (either m r);
  }

-- ---- a search over numbers

module _ {X : Type 0} (P : ℕ → X → Type 0) where
  -- x has P at a number below n.
  abbrev pub Below : ℕ → X → Type 0
  Below n x = (i : ℕ) × (i < n) × P i x

  pub below_last : (n : ℕ) (x : X) → Below (suc n) x → Below n x ⊎ P n x
  below_last n x (i, h, p) =
      ⊎_elim
      (λ (k : i < n). inl (i, k, p))
      (λ (k : n ≤ i). let e : i ≡ n = omega arith in inr (let Q : ℕ → Type 0 = λ m. P m x in subst Q e p))
      (cases_lt i n)

  pub below_more : (n : ℕ) (x : X) → Below n x → Below (suc n) x
  below_more n x (i, h, p) = (i, omega arith, p)

  pub below_at : (n : ℕ) (x : X) → P n x → Below (suc n) x
  below_at n x p = (n, omega arith, p)

  module _ {lt : X → X → Bool} {Gives : ℕ → Option X → Type 0} where
    pub found_decides : {n : ℕ} {xs : List X} → Found Gives n xs → ((i : ℕ) (r : Option X) → i < n → Gives i r → BestOf lt (P i) r) → Decides lt (Below n) xs
    found_decides start best = decides_none lt (Below 0) (λ x q. omega (arith, q.1))
    found_decides (skips {n} {xs} f g) best =
        decides_same lt (Below n) (P n) (Below (suc n)) (below_more n) (below_at n) (below_last n) xs
        (found_decides f (λ i r h. best i r (omega arith)))
        (best n None (omega arith) g)
    found_decides (finds {n} {xs} {x} f g) best =
        decides_push lt (Below n) (P n) (Below (suc n)) (below_more n) (below_at n) (below_last n) xs
        (found_decides f (λ i r h. best i r (omega arith)))
        x
        (best n (Some x) (omega arith) g)

    -- Where each answer of a search is the best of what has P at its number, the first of what was found is the best of what has Q, which
    -- is what has P at a number below n.
    pub found_best : (Q : X → Type 0) → Order lt → {n : ℕ} {xs : List X} (r : Option X) → Found Gives n xs → FirstOf lt xs r → ((i : ℕ) (x : X) → i < n → P i x → Q x) → ((x : X) → Q x → Below n x) → ((i : ℕ) (r : Option X) → i < n → Gives i r → BestOf lt (P i) r) → BestOf lt Q r
    found_best Q o {n} {xs} r f first every number best =
        best_same lt (Below n) Q (λ x b. every b.0 x b.1 b.2) number r
        (decides_first o (Below n) xs r (found_decides f best) first)
