-- Lemmas on the first of a list: it is unique, how it is found in one pass, and how it is found in stages.
use Rattle.std.proofs.Common.{◌≡◌, ℕ, zero, suc, ◌<◌, ◌≤◌, Bool, true, false, ◌⊎◌, List, [], ◌∷◌, ◌++◌, length, get_or, take, Some, None, Option, sym, refl, add-one, ap, ◌∙◌, inl, inr, ⊎_elim, arith}
use Rattle.std.proofs.lemmas.Bool.{both_ways, cases_Bool}
use Rattle.std.proofs.lemmas.List.{take_all, take_more}
use Rattle.std.proofs.lemmas.Option.{get_or_from_slice_get, none-some, slice_get_cases}
use Rattle.std.specs.List.{slice_get}
use Rattle.order.specs.Orders.{Order}
use Rattle.order.specs.Bests.{Found}
use Rattle.order.specs.Bests.Found.{start, skips, finds}
use Rattle.order.specs.Firsts.{Among, First, FirstOf, Covers, Winners, together}
use Rattle.order.specs.Firsts.Among.{here, there}
use Rattle.order.specs.Firsts.Winners.{none, skip, won}

-- ---- standing in a list

pub among_left : {X : Type 0} {x : X} (xs ys : List X) → Among x xs → Among x (xs ++ ys)
among_left [] ys a = elim a [ ]
among_left (y ∷ xs) ys here = here
among_left (y ∷ xs) ys (there a) = there (among_left xs ys a)

pub among_right : {X : Type 0} {x : X} (xs ys : List X) → Among x ys → Among x (xs ++ ys)
among_right [] ys a = a
among_right (y ∷ xs) ys a = there (among_right xs ys a)

pub among_either : {X : Type 0} {x : X} (xs ys : List X) → Among x (xs ++ ys) → Among x xs ⊎ Among x ys
among_either [] ys a = inr a
among_either (y ∷ xs) ys here = inl here
among_either (y ∷ xs) ys (there a) = ⊎_elim (λ b. inl (there b)) inr (among_either xs ys a)

pub among_one : {X : Type 0} {x y : X} → Among x (y ∷ []) → x ≡ y
among_one here = refl
among_one (there a) = elim a [ ]

pub among_none : {X : Type 0} {x : X} → Among x [] → ⊥
among_none a = elim a [ ]

-- ---- the order

module _ {X : Type 0} {lt : X → X → Bool} (o : Order lt) where
  -- nothing comes before itself
  pub never_itself : (x : X) → lt x x ≡ false
  never_itself x = ⊎_elim (λ t. o.one_way x x t) (λ f. f) (cases_Bool (lt x x))

  -- what does not precede w, which does not precede z, does not precede z
  pub not_before : (x w z : X) → lt x w ≡ false → lt w z ≡ false → lt x z ≡ false
  not_before x w z p q =
      ⊎_elim
      (λ (t : lt x z ≡ true).
      ⊎_elim
      (λ (u : lt w x ≡ true). absurd (both_ways (lt w z) q (o.chain w x z u t)))
      (λ (u : lt w x ≡ false). let e : x ≡ w = o.apart x w p u in rw e q)
      (cases_Bool (lt w x)))
      (λ f. f)
      (cases_Bool (lt x z))

  pub first_unique : {xs : List X} {x y : X} → First lt xs x → First lt xs y → x ≡ y
  first_unique {xs} {x} {y} f g = o.apart x y (g.least x f.stands) (f.least y g.stands)

  pub first_one : (x : X) → First lt (x ∷ []) x
  first_one x = record { stands = here; least = λ y a. let e : y ≡ x = among_one a in rw e (never_itself x) }

  -- ---- one pass: x is the first so far, and y is the next

  pub first_keeps : {xs : List X} {x y : X} → First lt xs x → lt y x ≡ false → First lt (xs ++ y ∷ []) x
  first_keeps {xs} {x} {y} f h =
      record {
        stands = among_left xs (y ∷ []) f.stands;
        least = λ z a. ⊎_elim (f.least z) (λ b. let e : z ≡ y = among_one b in rw e h) (among_either xs (y ∷ []) a);
      }

  pub first_takes : {xs : List X} {x y : X} → First lt xs x → lt y x ≡ true → First lt (xs ++ y ∷ []) y
  first_takes {xs} {x} {y} f h =
      record {
        stands = among_right xs (y ∷ []) here;
        least = λ z a.
            ⊎_elim
            (λ b. not_before z x y (f.least z b) (o.one_way y x h))
            (λ b. let e : z ≡ y = among_one b in rw e (never_itself y))
            (among_either xs (y ∷ []) a);
      }

  -- ---- stages

  -- the first of the candidates that decide xs is the first of xs
  pub first_covered : {ws xs : List X} {z : X} → Covers lt ws xs → First lt ws z → First lt xs z
  first_covered {ws} {xs} {z} c f =
      record {
        stands = c.within z f.stands;
        least = λ y a. let b = c.beaten y a in not_before y b.0 z b.2 (f.least b.0 b.1);
      }

  pub first_of_covered : {ws xs : List X} (r : Option X) → Covers lt ws xs → FirstOf lt ws r → FirstOf lt xs r
  first_of_covered {ws} {xs} None c e = covered_nil xs c e
    where
      covered_nil : (xs : List X) → Covers lt ws xs → ws ≡ [] → xs ≡ []
      covered_nil [] c e = refl
      covered_nil (x ∷ xs) c e = let b = c.beaten x here in absurd (among_none (rw e at b.1))
  first_of_covered (Some x) c f = first_covered c f

  pub covers_none : Covers lt [] []
  covers_none = record { within = λ w a. a; beaten = λ x a. absurd (among_none a) }

  pub covers_front : {ws xs ys : List X} {w : X} → First lt ys w → Covers lt ws xs → Covers lt (w ∷ ws) (ys ++ xs)
  covers_front {ws} {xs} {ys} {w} f c =
      record {
        within = λ z a.
            ⊎_elim
            (λ b. let e : z ≡ w = among_one b in among_left ys xs (rw e f.stands))
            (λ b. among_right ys xs (c.within z b))
            (among_either (w ∷ []) ws a);
        beaten = λ x a.
            ⊎_elim
            (λ b. (w, here, f.least x b))
            (λ b. let d = c.beaten x b in (d.0, there d.1, d.2))
            (among_either ys xs a);
      }

  -- the firsts of several lists decide the first of all of them
  pub winners_cover : {ls : List (List X)} {ws : List X} → Winners lt ls ws → Covers lt ws (together ls)
  winners_cover none = covers_none
  winners_cover (skip h) = winners_cover h
  winners_cover (won f h) = covers_front f (winners_cover h)

  -- the first so far and a new candidate decide the first of both
  pub covers_two : {xs : List X} {x : X} (y : X) → First lt xs x → Covers lt (x ∷ y ∷ []) (xs ++ y ∷ [])
  covers_two {xs} {x} y f = covers_front f (covers_front (first_one y) covers_none)

  pub first_of_two : {xs : List X} {x y z : X} → First lt xs x → First lt (x ∷ y ∷ []) z → First lt (xs ++ y ∷ []) z
  first_of_two {xs} {x} {y} f g = first_covered (covers_two y f) g

-- ---- one more candidate

-- r says whether x comes before the first so far, where there is one
abbrev pub Leads : {X : Type 0} → (X → X → Bool) → Option X → X → Bool → Type 0
Leads lt None x r = r ≡ true
Leads lt (Some best) x r = r ≡ lt x best

module _ {X : Type 0} {lt : X → X → Bool} (o : Order lt) (xs : List X) where
  pub leads_takes : (first : Option X) (x : X) → FirstOf lt xs first → Leads lt first x true → First lt (xs ++ x ∷ []) x
  leads_takes None x e l = rw e (first_one o x)
  leads_takes (Some best) x f l = first_takes o f (sym l)

  pub leads_keeps : (first : Option X) (x : X) → FirstOf lt xs first → Leads lt first x false → FirstOf lt (xs ++ x ∷ []) first
  leads_keeps None x e l = cc
  leads_keeps (Some best) x f l = first_keeps o f (sym l)

-- what is read at a place stands in the list
pub among_at : {X : Type 0} (xs : List X) (i : ℕ) (x : X) → i < length xs → x ≡ get_or xs i x → Among x xs
among_at [] i x h e = absurd (omega arith)
among_at (y ∷ xs) zero x h e = rw e here
among_at (y ∷ xs) (suc i) x h e = there (among_at xs i x (omega arith) e)

-- a search that is given the elements of a list finds the list
module _ {X : Type 0} {Gives : ℕ → Option X → Type 0} (xs : List X) (same : (i : ℕ) (r : Option X) → Gives i r → r ≡ slice_get xs i) where
  none_within : (i : ℕ) → slice_get xs i ≡ None → i < length xs → ⊥
  none_within i e h =
      ⊎_elim (λ q. none-some q.0 (sym e ∙ q.2)) (λ q. omega (arith, q.0)) (slice_get_cases xs i).1

  found_take : {n : ℕ} {ys : List X} → Found Gives n ys → n ≤ length xs → ys ≡ take n xs
  found_take start h = refl
  found_take (skips {n} f g) h = absurd (none_within n (sym (same n None g)) (omega arith))
  found_take (finds {n} {x = x} f g) h =
      let e = take_more xs n x (omega arith) in
      let k = get_or_from_slice_get xs n x x (sym (same n (Some x) g)) in
      let t = found_take f (omega arith) in
      rw add-one at (ap (λ zs. zs ++ x ∷ []) t ∙ ap (λ z. take n xs ++ z ∷ []) (sym k) ∙ sym e)

  pub found_all : {n : ℕ} {ys : List X} → Found Gives n ys → n ≡ length xs → ys ≡ xs
  found_all {n} f e = found_take f (omega arith) ∙ take_all n xs (omega arith)
