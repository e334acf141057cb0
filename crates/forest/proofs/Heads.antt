-- Counting the parts: each has one node that is its own label, and each edge leaves one part fewer.
use Rattle.std.proofs.Common.{◌≡◌, ℕ, zero, suc, ◌+◌, ◌<◌, ◌≤◌, cond, eqb, List, [], ◌∷◌, ◌++◌, length, sym, refl, ap, ◌∙◌, subst, ⊎_elim, arith}
use Rattle.std.proofs.lemmas.Bool.{cases_eq, eq-eqb, ne_eqb, cond-true, cond-false, cases_order}
use Rattle.std.proofs.lemmas.List.{length_push}
use Rattle.forest.specs.declared.Edge.{Edge}
use Rattle.forest.specs.Edges.{Joined}
use Rattle.forest.specs.Labels.{merged, label_of}
use Rattle.forest.proofs.Labelled.{merged_in, merged_out, label_push, label_joined, label_head}
use Rattle.forest.proofs.Accepted.{Accepted}
use Rattle.forest.proofs.Accepted.Accepted.{start, more}

-- 1 where k is its own label, else 0
one : (ℕ → ℕ) → ℕ → ℕ
one f k = cond (eqb (f k) k) 1 0

one_yes : (f : ℕ → ℕ) (k : ℕ) → f k ≡ k → one f k ≡ 1
unfolding one
one_yes f k h = cond-true (eqb (f k) k) 1 0 (eq-eqb (f k) k h)

one_no : (f : ℕ → ℕ) (k : ℕ) → (f k ≡ k → ⊥) → one f k ≡ 0
unfolding one
one_no f k h = cond-false (eqb (f k) k) 1 0 (ne_eqb (f k) k h)

-- how many numbers below n are their own label
pub heads : (ℕ → ℕ) → ℕ → ℕ
heads f zero = 0
heads f (suc n) = one f n + heads f n

heads_all : (n : ℕ) → heads (λ x. x) n ≡ n
unfolding heads
heads_all zero = refl
heads_all (suc n) = omega (arith, one_yes (λ x. x) n refl, heads_all n)

one_same : (f g : ℕ → ℕ) (k : ℕ) → (f k ≡ k → g k ≡ k) → (g k ≡ k → f k ≡ k) → one g k ≡ one f k
one_same f g k p q =
    ⊎_elim
    (λ (h : f k ≡ k). one_yes g k (p h) ∙ sym (one_yes f k h))
    (λ (h : f k ≡ k → ⊥). one_no g k (λ r. h (q r)) ∙ sym (one_no f k h))
    (cases_eq (f k) k)

-- g has the heads of f but for h
module _ (f g : ℕ → ℕ) (h : ℕ) (was : f h ≡ h) (gone : g h ≡ h → ⊥) (to : (k : ℕ) → (k ≡ h → ⊥) → f k ≡ k → g k ≡ k) (back : (k : ℕ) → g k ≡ k → f k ≡ k) where
  heads_above : (n : ℕ) → n ≤ h → heads g n ≡ heads f n
  unfolding heads
  heads_above zero l = refl
  heads_above (suc n) l =
      let ne : n ≡ h → ⊥ = λ e. absurd (below n l e) in
      omega (arith, one_same f g n (to n ne) (back n), heads_above n (omega arith))
    where
      below : (n : ℕ) → suc n ≤ h → n ≡ h → ⊥
      below n l e = omega arith

  pub heads_fewer : (n : ℕ) → h < n → heads g n + 1 ≡ heads f n
  unfolding heads
  heads_fewer zero l = absurd (none l)
    where
      none : h < 0 → ⊥
      none l = omega arith
  heads_fewer (suc n) l =
      ⊎_elim
      (λ (e : n ≡ h).
      let F : ℕ → Type 0 = λ x. one f x ≡ 1 in
      let G : ℕ → Type 0 = λ x. one g x ≡ 0 in
      let p : one f n ≡ 1 = subst F (sym e) (one_yes f h was) in
      let q : one g n ≡ 0 = subst G (sym e) (one_no g h gone) in
      let r : heads g n ≡ heads f n = heads_above n (omega arith) in
      let goal : (one g n + heads g n) + 1 ≡ one f n + heads f n = omega arith in goal)
      (λ (ne : n ≡ h → ⊥).
      let lt : h < n = omega arith in
      let r : heads g n + 1 ≡ heads f n = heads_fewer n lt in
      let s : one g n ≡ one f n = one_same f g n (to n ne) (back n) in
      let goal : (one g n + heads g n) + 1 ≡ one f n + heads f n = omega arith in goal)
      (cases_eq n h)

heads_some : (f : ℕ → ℕ) (x n : ℕ) → x < n → f x ≡ x → 1 ≤ heads f n
unfolding heads
heads_some f x zero l h = absurd (none x l)
  where
    none : (x : ℕ) → x < 0 → ⊥
    none x l = omega arith
heads_some f x (suc n) l h =
    ⊎_elim
    (λ (e : x ≡ n).
    let P : ℕ → Type 0 = λ y. one f y ≡ 1 in
    let p : one f n ≡ 1 = subst P e (one_yes f x h) in
    let goal : 1 ≤ one f n + heads f n = omega arith in goal)
    (λ (ne : x ≡ n → ⊥).
    let lt : x < n = omega arith in
    let r : 1 ≤ heads f n = heads_some f x n lt h in
    let goal : 1 ≤ one f n + heads f n = omega arith in goal)
    (cases_eq x n)

-- two heads count twice
heads_two : (f : ℕ → ℕ) (x y n : ℕ) → x < y → y < n → f x ≡ x → f y ≡ y → 2 ≤ heads f n
unfolding heads
heads_two f x y zero l m h k = absurd (none y m)
  where
    none : (y : ℕ) → y < 0 → ⊥
    none y m = omega arith
heads_two f x y (suc n) l m h k =
    ⊎_elim
    (λ (e : y ≡ n).
    let P : ℕ → Type 0 = λ z. one f z ≡ 1 in
    let p : one f n ≡ 1 = subst P e (one_yes f y k) in
    let lt : x < n = omega arith in
    let r : 1 ≤ heads f n = heads_some f x n lt h in
    let goal : 2 ≤ one f n + heads f n = omega arith in goal)
    (λ (ne : y ≡ n → ⊥).
    let lt : y < n = omega arith in
    let r : 2 ≤ heads f n = heads_two f x y n l lt h k in
    let goal : 2 ≤ one f n + heads f n = omega arith in goal)
    (cases_eq y n)

heads_same : (f g : ℕ → ℕ) (n : ℕ) → ((k : ℕ) → g k ≡ f k) → heads g n ≡ heads f n
unfolding heads
heads_same f g zero h = refl
heads_same f g (suc n) h =
    omega (arith, one_same f g n (λ e. h n ∙ e) (λ e. sym (h n) ∙ e), heads_same f g n h)

-- ---- accepted edges

pub label_below : {n : ℕ} {E : List Edge} → Accepted n E → (v : ℕ) → v < n → label_of E v < n
label_below start v h = h
label_below {n} (more {E} {e} a f) v h =
    let l : label_of (E ++ e ∷ []) v ≡ merged (label_of E) e v = label_push E e v in
    ⊎_elim
    (λ (p : label_of E v ≡ label_of E e.b).
    omega (arith, l, merged_in (label_of E) e v p, label_below a e.a f.0))
    (λ (p : label_of E v ≡ label_of E e.b → ⊥).
    omega (arith, l, merged_out (label_of E) e v p, label_below a v h))
    (cases_eq (label_of E v) (label_of E e.b))

pub heads_count : {n : ℕ} {E : List Edge} → Accepted n E → heads (label_of E) n + length E ≡ n
heads_count {n} start = omega (arith, heads_all n)
heads_count {n} (more {E} {e} a k) =
    let f : ℕ → ℕ = label_of E in
    let g : ℕ → ℕ = merged f e in
    let h : ℕ = f e.b in
    let apart : f e.a ≡ f e.b → ⊥ = λ q. k.4 (label_joined E e.a e.b q) in
    let was : f h ≡ h = label_head E e.b in
    let moved : g h ≡ f e.a = merged_in f e h was in
    let gone : g h ≡ h → ⊥ = λ q. apart (sym moved ∙ q) in
    let to : (x : ℕ) → (x ≡ h → ⊥) → f x ≡ x → g x ≡ x = λ x ne q. merged_out f e x (λ r. ne (sym q ∙ r)) ∙ q in
    let back : (x : ℕ) → g x ≡ x → f x ≡ x = λ x q.
    ⊎_elim
    (λ (p : f x ≡ f e.b).
    let i : f e.a ≡ x = sym (merged_in f e x p) ∙ q in
    let j : f x ≡ f e.a = ap f (sym i) ∙ label_head E e.a in
    absurd (apart (sym j ∙ p)))
    (λ (p : f x ≡ f e.b → ⊥). sym (merged_out f e x p) ∙ q)
    (cases_eq (f x) (f e.b))
    in
    let fewer : heads g n + 1 ≡ heads f n = heads_fewer f g h was gone to back n (label_below a e.b k.1) in
    let same : heads (label_of (E ++ e ∷ [])) n ≡ heads g n = heads_same g (label_of (E ++ e ∷ [])) n (label_push E e) in
    omega (arith, fewer, same, heads_count a, length_push E e)

-- two nodes that are not joined leave room for an edge
pub room : {n : ℕ} {E : List Edge} → Accepted n E → (v : ℕ) → v < n → length E < n
room {n} {E} a v h = omega (arith, heads_count a, heads_some (label_of E) (label_of E v) n (label_below a v h) (label_head E v))

-- one edge fewer than nodes: all nodes have one label
pub one_label : {n : ℕ} {E : List Edge} → Accepted n E → length E + 1 ≡ n → (u v : ℕ) → u < n → v < n → label_of E u ≡ label_of E v
one_label {n} {E} a e u v h k =
    let f : ℕ → ℕ = label_of E in
    let once : heads f n ≡ 1 = omega (arith, heads_count a) in
    ⊎_elim
    (λ (p : f u ≡ f v). p)
    (⊎_elim
    (λ (p : f u < f v). absurd (over (heads f n) once (heads_two f (f u) (f v) n p (label_below a v k) (label_head E u) (label_head E v))))
    (λ (p : f v < f u). absurd (over (heads f n) once (heads_two f (f v) (f u) n p (label_below a u h) (label_head E v) (label_head E u)))))
    (cases_order (f u) (f v))
  where
    over : (x : ℕ) → x ≡ 1 → 2 ≤ x → ⊥
    over x e l = omega arith

pub all_joined : {n : ℕ} {E : List Edge} → Accepted n E → length E + 1 ≡ n → (u v : ℕ) → u < n → v < n → Joined E u v
all_joined {n} {E} a e u v h k = label_joined E u v (one_label a e u v h k)

-- where all numbers below n have the label l, at most l is its own label
heads_few : (f : ℕ → ℕ) (l n : ℕ) → ((v : ℕ) → v < n → f v ≡ l) → (n ≤ l → heads f n ≡ 0) × (heads f n ≤ 1)
unfolding heads
heads_few f l zero h = (λ _. refl, omega arith)
heads_few f l (suc n) h =
    let r = heads_few f l n (λ v k. h v (omega arith)) in
    let e : f n ≡ l = h n (omega arith) in
    ⊎_elim
    (λ (p : f n ≡ n).
    let low : n ≤ l = omega arith in
    let goal : (suc n ≤ l → one f n + heads f n ≡ 0) × (one f n + heads f n ≤ 1) = (λ k. absurd (past n l k (sym p ∙ e)), omega (arith, one_yes f n p, r.0 low)) in
    goal)
    (λ (p : f n ≡ n → ⊥).
    let goal : (suc n ≤ l → one f n + heads f n ≡ 0) × (one f n + heads f n ≤ 1) = (λ k. omega (arith, one_no f n p, r.0 (under n l k)), omega (arith, one_no f n p, r.1)) in
    goal)
    (cases_eq (f n) n)
  where
    past : (n l : ℕ) → suc n ≤ l → n ≡ l → ⊥
    past n l k e = omega arith

    under : (n l : ℕ) → suc n ≤ l → n ≤ l
    under n l k = omega arith

-- one part only: the edges are one fewer than the nodes
pub one_part : {n : ℕ} {E : List Edge} → Accepted n E → 0 < n → ((v : ℕ) → v < n → label_of E v ≡ label_of E 0) → length E + 1 ≡ n
one_part {n} {E} a h same = omega (arith, heads_count a, (heads_few (label_of E) (label_of E 0) n same).1, room a 0 h)
