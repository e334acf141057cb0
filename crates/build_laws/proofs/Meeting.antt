-- The rows and the group after two members were joined. Assumes nothing.
use Rattle.std.proofs.Common.{◌≡◌, ℕ, ◌+◌, ◌<◌, Bool, true, false, cond, not, eqb, ◌⊎◌, List, [], ◌∷◌, length, filter, sym, ap, ◌∙◌, subst, inl, inr, ⊎_elim, arith}
use Rattle.std.proofs.lemmas.Bool.{and_from, and_left, and_parts, and_right, cases_Bool, cases_eq, eq-eqb, eqb-false, ne_eqb, not_from_false, not_from_true, not-true}
use Rattle.order.specs.Firsts.{Among}
use Rattle.order.specs.Firsts.Among.{here, there}
use Rattle.order.proofs.Finding.{among_either, among_left, among_one, among_right}
use Rattle.space.specs.declared.spot.Spot.{Spot}
use Rattle.tree_laws.specs.declared.Row.{Row}
use Rattle.tree_laws.specs.Trees.{Child, RowTree, row_of, row_spot}
use Rattle.tree_laws.proofs.Sharing.{between_first, between_length, between_new, between_other, between_second, between_tree}
use Rattle.build_laws.specs.Joining.{PairOf, far_of, meet_group, driver_meet, meet_row, others}
use Rattle.build_laws.proofs.Joined.{among_kept}

-- what passes stays
pub kept_among : (p : ℕ → Bool) (xs : List ℕ) (x : ℕ) → Among x xs → p x ≡ true → Among x (filter p xs)
kept_among p [] x m e = elim m [ ]
kept_among p (y ∷ xs) x here e = let Q : Bool → Type 0 = λ b. Among y (cond b (y ∷ filter p xs) (filter p xs)) in subst Q (sym e) here
kept_among p (y ∷ xs) x (there m) e =
    let Q : Bool → Type 0 = λ b. Among x (cond b (y ∷ filter p xs) (filter p xs)) in
    ⊎_elim
    (λ (t : p y ≡ true). subst Q (sym t) (there (kept_among p xs x m e)))
    (λ (t : p y ≡ false). subst Q (sym t) (kept_among p xs x m e))
    (cases_Bool (p y))

-- ---- what is neither a nor b

pub others_yes : (a b x : ℕ) → (x ≡ a → ⊥) → (x ≡ b → ⊥) → others a b x ≡ true
others_yes a b x na nb = and_from (not (eqb x a)) (not (eqb x b)) (not_from_false _ (ne_eqb x a na)) (not_from_false _ (ne_eqb x b nb))

pub others_first : (a b x : ℕ) → x ≡ a → others a b x ≡ false
others_first a b x e = and_left (not (eqb x a)) (not (eqb x b)) (not_from_true _ (eq-eqb x a e))

pub others_second : (a b x : ℕ) → x ≡ b → others a b x ≡ false
others_second a b x e = and_right (not (eqb x a)) (not (eqb x b)) (not_from_true _ (eq-eqb x b e))

pub others_not : (a b x : ℕ) → others a b x ≡ true → (x ≡ a → ⊥) × (x ≡ b → ⊥)
others_not a b x e =
    let q = and_parts (not (eqb x a)) (not (eqb x b)) e in
    (eqb-false x a (not-true _ q.0), eqb-false x b (not-true _ q.1))

-- ---- the rows and the group after a step

module _ (d : Spot → Spot → ℕ) (j : Spot → Spot → Spot → Spot) (rows : List Row) (t : RowTree rows) (group : List ℕ) (hung : (g : ℕ) → Among g group → Child rows 0 g) (a b : ℕ) (q : PairOf d j group a b) where
  abbrev after : List Row
  after = meet_row d j rows a b

  abbrev left : List ℕ
  left = meet_group d j group a b (length rows)

  apart : b ≡ a → ⊥
  apart e = omega (arith, q.ordered)

  abbrev la : ℕ
  la = d (driver_meet d j rows a b) (row_spot rows a)

  abbrev lb : ℕ
  lb = d (driver_meet d j rows a b) (row_spot rows b)

  pub step_tree : RowTree after
  step_tree = between_tree t 0 t.some (driver_meet d j rows a b) (far_of d j rows a b) a la b lb (hung a q.first) (hung b q.second) apart

  pub step_length : length after ≡ length rows + 1
  step_length = between_length t 0 t.some (driver_meet d j rows a b) (far_of d j rows a b) a la b lb (hung a q.first) (hung b q.second) apart

  row_same : (k : ℕ) → k < length rows → (k ≡ a → ⊥) → (k ≡ b → ⊥) → row_of after k ≡ row_of rows k
  row_same = between_other t 0 t.some (driver_meet d j rows a b) (far_of d j rows a b) a la b lb (hung a q.first) (hung b q.second) apart

  row_new : row_of after (length rows) ≡ record { parent = 0; spot = driver_meet d j rows a b; length = far_of d j rows a b }
  row_new = between_new t 0 t.some (driver_meet d j rows a b) (far_of d j rows a b) a la b lb (hung a q.first) (hung b q.second) apart

  row_first : row_of after a ≡ record { parent = length rows; spot = row_spot rows a; length = la }
  row_first = between_first t 0 t.some (driver_meet d j rows a b) (far_of d j rows a b) a la b lb (hung a q.first) (hung b q.second) apart

  row_second : row_of after b ≡ record { parent = length rows; spot = row_spot rows b; length = lb }
  row_second = between_second t 0 t.some (driver_meet d j rows a b) (far_of d j rows a b) a la b lb (hung a q.first) (hung b q.second) apart

  spot_kept : (k : ℕ) → k < length rows → row_spot after k ≡ row_spot rows k
  spot_kept k h =
      ⊎_elim
      (λ (e : k ≡ a). ap (row_spot after) e ∙ ap (λ (r : Row). r.spot) row_first ∙ ap (row_spot rows) (sym e))
      (λ (na : k ≡ a → ⊥).
      ⊎_elim
      (λ (e : k ≡ b). ap (row_spot after) e ∙ ap (λ (r : Row). r.spot) row_second ∙ ap (row_spot rows) (sym e))
      (λ (nb : k ≡ b → ⊥). ap (λ (r : Row). r.spot) (row_same k h na nb))
      (cases_eq k b))
      (cases_eq k a)

  -- old rows are as far as they were
  pub far_kept : (x y : ℕ) → x < length rows → y < length rows → far_of d j after x y ≡ far_of d j rows x y
  far_kept x y hx hy =
      ap (λ s. d s (j s (row_spot after x) (row_spot after y))) (spot_kept 0 t.some)
      ∙ ap (λ s. d (row_spot rows 0) (j (row_spot rows 0) s (row_spot after y))) (spot_kept x hx)
      ∙ ap (λ s. d (row_spot rows 0) (j (row_spot rows 0) (row_spot rows x) s)) (spot_kept y hy)

  -- a member then: an old one that is neither a nor b, or the new row
  pub record Old (k : ℕ) : Type 0 where
    pub stood : Among k group
    pub first : k ≡ a → ⊥
    pub second : k ≡ b → ⊥

  pub member_of : (k : ℕ) → Among k left → Old k ⊎ (k ≡ length rows)
  member_of k i =
      ⊎_elim
      (λ (m : Among k (filter (others a b) group)).
      let r = among_kept (others a b) group k m in
      let n = others_not a b k r.1 in
      inl (record { stood = r.0; first = n.0; second = n.1 }))
      (λ (m : Among k (length rows ∷ [])). inr (among_one m))
      (among_either (filter (others a b) group) (length rows ∷ []) i)

  pub old_member : (k : ℕ) → Among k group → (k ≡ a → ⊥) → (k ≡ b → ⊥) → Among k left
  old_member k i na nb = among_left (filter (others a b) group) (length rows ∷ []) (kept_among (others a b) group k i (others_yes a b k na nb))

  pub new_member : Among (length rows) left
  new_member = among_right (filter (others a b) group) (length rows ∷ []) here

  pub step_hung : (g : ℕ) → Among g left → Child after 0 g
  step_hung g i =
      let P : ℕ → Type 0 = λ n. Child after 0 n in
      ⊎_elim
      (λ (o : Old g).
      let c = hung g o.stood in
      record {
        row = omega (arith, c.row, step_length);
        moves = c.moves;
        parent = ap (λ (r : Row). r.parent) (row_same g c.row o.first o.second) ∙ c.parent;
      })
      (λ (e : g ≡ length rows).
      subst P (sym e) (record { row = omega (arith, step_length); moves = λ z. omega (arith, t.some); parent = ap (λ (r : Row). r.parent) row_new }))
      (member_of g i)
