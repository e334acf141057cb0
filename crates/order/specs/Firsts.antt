-- The first of a list of candidates, and which candidates decide it. `lt x y` says that x comes before y. Assumes nothing.
use Rattle.std.specs.Prelude.{◌≡◌, Bool, false, List, [], ◌∷◌, ◌++◌, Some, None, Option}

-- x stands in the list.
pub data Among {X : Type 0} (x : X) : List X → Type 0 where
  here : {xs : List X} → Among x (x ∷ xs)
  there : {y : X} {xs : List X} → Among x xs → Among x (y ∷ xs)

-- x stands in the list, and nothing in the list comes before it.
pub record First {X : Type 0} (lt : X → X → Bool) (xs : List X) (x : X) : Type 0 where
  pub stands : Among x xs
  pub least : (y : X) → Among y xs → lt y x ≡ false

-- The answer to a search for the first: nothing for the empty list, else its first.
abbrev pub FirstOf : {X : Type 0} → (X → X → Bool) → List X → Option X → Type 0
FirstOf lt xs None = xs ≡ []
FirstOf lt xs (Some x) = First lt xs x

-- The candidates ws decide the first of xs: each stands in xs, and each x of xs has one of them that it does not precede.
pub record Covers {X : Type 0} (lt : X → X → Bool) (ws xs : List X) : Type 0 where
  pub within : (w : X) → Among w ws → Among w xs
  pub beaten : (x : X) → Among x xs → (w : X) × Among w ws × (lt x w ≡ false)

-- The firsts of several lists, one for each list that is not empty, in the order of the lists.
pub data Winners {X : Type 0} (lt : X → X → Bool) : List (List X) → List X → Type 0 where
  none : Winners lt [] []
  skip : {ls : List (List X)} {ws : List X} → Winners lt ls ws → Winners lt ([] ∷ ls) ws
  won : {xs : List X} {w : X} {ls : List (List X)} {ws : List X} → First lt xs w → Winners lt ls ws → Winners lt (xs ∷ ls) (w ∷ ws)

-- Several lists as one.
abbrev pub together : {X : Type 0} → List (List X) → List X
together [] = []
together (xs ∷ ls) = xs ++ together ls
