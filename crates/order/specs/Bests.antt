-- The best of the candidates that have a property, and which candidates decide it. `lt x y` says that x comes before y. Assumes nothing.
use Rattle.std.specs.Prelude.{◌≡◌, ℕ, suc, Bool, false, List, [], ◌∷◌, ◌++◌, Some, None, Option}
use Rattle.order.specs.Firsts.{Among, FirstOf}

-- The best of the candidates that have P: nothing where there is none, else one that no other comes before.
abbrev pub BestOf : {X : Type 0} → (X → X → Bool) → (X → Type 0) → Option X → Type 0
BestOf {X} lt P None = (m : X) → P m → ⊥
BestOf {X} lt P (Some m) = P m × ((n : X) → P n → lt n m ≡ false)

-- The candidates F decide the best of those that have P: each has P, and each that has P has one of them that it does not precede.
pub record Decides {X : Type 0} (lt : X → X → Bool) (P : X → Type 0) (F : List X) : Type 0 where
  pub within : (m : X) → Among m F → P m
  pub beaten : (m : X) → P m → (w : X) × Among w F × (lt m w ≡ false)

-- What a search over the numbers below n found, in their order: `Gives i r` says that r is what it was given at i.
pub data Found {X : Type 0} (Gives : ℕ → Option X → Type 0) : (n : ℕ) → List X → Type 0 where
  start : Found Gives 0 []
  skips : {n : ℕ} {xs : List X} → Found Gives n xs → Gives n None → Found Gives (suc n) xs
  finds : {n : ℕ} {xs : List X} {x : X} → Found Gives n xs → Gives n (Some x) → Found Gives (suc n) (xs ++ x ∷ [])

-- The first of what a search over the numbers below n found.
abbrev pub FirstFound : {X : Type 0} → (X → X → Bool) → (ℕ → Option X → Type 0) → ℕ → Option X → Type 0
FirstFound {X} lt Gives n r = (xs : List X) × Found Gives n xs × FirstOf lt xs r
