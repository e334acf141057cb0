-- The memory for joining, and what a step leaves in it. Assumes nothing.
use Rattle.std.specs.Prelude.{ℕ, Bool, List, vec_items}
use Rattle.space.specs.declared.Space.{Ghosts}
use Rattle.space.specs.declared.Joining.{Ghosts as JoinGhosts}
use Rattle.tree_laws.specs.declared.Row.{Row}
use Rattle.space.specs.Totals.{meet_or_start, capped_distance}
use Rattle.joined.specs.declared.joining.Joiner.{Joiner}
use Rattle.joined.specs.Joinings.{JoiningState, Stepped}

-- The rows that are being joined.
abbrev pub members_of : Joiner → List ℕ
members_of w = vec_items w.group

-- The group can be joined, and its first pairs are known.
abbrev pub JoiningStands : {X : Type 0} → Ghosts X → JoinGhosts X → X → List Row → Joiner → Type 0
JoiningStands G J s rows w = JoiningState (capped_distance G s) (meet_or_start G J s) rows (vec_items w.group) (vec_items w.partners.firsts)

-- Asked for one step, the answer is r, and the memory w₀ is w then.
abbrev pub JoiningSteps : {X : Type 0} → Ghosts X → JoinGhosts X → X → List Row → (w₀ : Joiner) → Bool → List Row → (w : Joiner) → Type 0
JoiningSteps G J s rows w₀ r after w = Stepped (capped_distance G s) (meet_or_start G J s) rows (vec_items w₀.group) r after (vec_items w.group) (vec_items w.partners.firsts)
