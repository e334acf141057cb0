-- Walks worked by hand, beside those of the table of worked cases: a Steiner point, and a seed with branches. Assumes nothing.
use Rattle.std.specs.Prelude.{◌≡◌, ℕ, suc, true, false, List, [], ◌∷◌, map, slice_index}
use Rattle.forest.specs.Rooted.{Forest, none, kid}
use Rattle.walk_laws.specs.Walk.{Mark, Rules, hung, home, start, walk}

-- A daisy chain 0 - 1 - 2 .. with the given lengths, from the node u on.
abbrev pub chain : (u : ℕ) → List ℕ → Forest
chain u [] = none
chain u (l ∷ ls) = kid u l (chain (suc u) ls) none

-- Pins alone, with their direct distances.
abbrev pub rules : (p q pins : ℕ) → List ℕ → Rules
rules p q pins ds = record { p = p; q = q; pins = pins; direct = λ v. slice_index ds v }

-- The marks of the first nodes.
abbrev pub worked_marks : Rules → Forest → List ℕ → List Mark
worked_marks R F vs = map (walk R 0 F start) vs

pub record Worked : Type 0 where
  -- the square (0,0), (6,0), (6,6), (0,6) where the last node is a Steiner point, which never breaks
  pub square_steiner :
      worked_marks (rules 199 100 3 (0 ∷ 6 ∷ 12 ∷ 6 ∷ [])) (chain 1 (6 ∷ 6 ∷ 6 ∷ [])) (0 ∷ 1 ∷ 2 ∷ 3 ∷ []) ≡
      home ∷ hung 0 6 6 false ∷ hung 1 6 12 false ∷ hung 2 6 18 false ∷ []
  -- the driver with the children 1 and 2, and 3 below 1: each child is walked
  pub branched :
      worked_marks (rules 1 4 4 (0 ∷ 3 ∷ 4 ∷ 2 ∷ [])) (kid 1 3 (kid 3 2 none none) (kid 2 4 none none)) (0 ∷ 1 ∷ 2 ∷ 3 ∷ []) ≡
      home ∷ hung 0 3 3 false ∷ hung 0 4 4 false ∷ hung 1 2 2 true ∷ []
