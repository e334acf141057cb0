-- The allowances that a walk takes, and how large estimates get. Assumes nothing.
use Rattle.std.specs.Prelude.{◌≡◌, ℕ, ◌+◌, ◌-◌, ◌*◌, ◌≤◌, List, ◌∷◌, ◌++◌, Some, Option}
use Rattle.std.specs.Fmt.{decimal}
use Rattle.space.specs.declared.TheConstants.{LONGEST}
use Rattle.seed.specs.declared.store.TheConstants.{NODES}

-- The two numbers in decimal, with a slash (47) between them.
abbrev pub ratio_text : (p q : ℕ) → List ℕ
ratio_text p q = decimal p ++ 47 ∷ decimal q

-- The greatest estimate: a walk goes twice over each edge, of which there are fewer than NODES, each at most LONGEST long.
abbrev pub highest : ℕ
highest = 2 * ((NODES - 1) * LONGEST)

-- The estimate, if there is one, is no greater even over a further edge of length l.
abbrev pub Low : (est : Option ℕ) → (l : ℕ) → Type 0
Low est l = (e : ℕ) → est ≡ Some e → e + l ≤ highest
