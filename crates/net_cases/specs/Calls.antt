-- Calls of a net in their order, and what it answers to each. Assumes nothing.
use Rattle.std.specs.Prelude.{◌≡◌, ℕ, ◌+◌, List, [], ◌∷◌, ◌++◌, Some, None, Ok, Err, Result}
use Rattle.forest.specs.declared.Edge.{Edge}
use Rattle.space.specs.declared.spot.Spot.{Spot}
use Rattle.tree_laws.specs.declared.Row.{Row}
use Rattle.net_laws.specs.Answers.{JoinAnswers}
use Rattle.net_laws.specs.Geometry.{Geometry}
use Rattle.net_laws.specs.Faults.{number_of}
use Rattle.net_laws.specs.States.{State}
use Rattle.net_laws.specs.declared.call.Call.TheVariants.{Pin, Allow, Edge as EdgeOf}
use Rattle.net_laws.specs.declared.call.JoinCall.{JoinCall}
use Rattle.net_laws.specs.declared.call.JoinCall.TheVariants.{Wire}
use Rattle.net_laws.specs.declared.fault.Fault.{Fault}

pub data Reply : Type 0 where
  -- the call is accepted and answers k
  answers : (k : ℕ) → Reply
  -- the call is refused by that number
  refused : (number : ℕ) → Reply

abbrev pub Says : Result ℕ Fault → Reply → Type 0
Says (Ok k) (answers j) = k ≡ j
Says (Ok k) (refused i) = ⊥
Says (Err e) (answers j) = ⊥
Says (Err e) (refused i) = number_of e ≡ i

-- A call, and what it is answered.
pub record Step : Type 0 where
  pub call : JoinCall
  pub reply : Reply

-- What is left after the last call: a seed of these edges, and no tree; or a tree of these rows.
pub data Ending : Type 0 where
  seed : (edges : List Edge) → Ending
  tree : (rows : List Row) → Ending

abbrev pub Ends : State → Ending → Type 0
Ends n (seed E) = (n.edges ≡ E) × (n.tree ≡ None)
Ends n (tree rows) = n.tree ≡ Some rows

-- The contract of the call leaves the net n an answer.
pub record HasAnswer (W : Geometry) (n : State) (c : JoinCall) : Type 0 where
  pub answer : Result ℕ Fault
  pub after : State
  pub stands : JoinAnswers W n after c answer

-- The net n is asked by these calls in this order: to the first it has an answer, and whatever it answers by the contract of the call is the
-- reply given, and so on from the net that it becomes.
abbrev pub CallsFollow : Geometry → State → List Step → Ending → Type 0
CallsFollow W n [] end = Ends n end
CallsFollow W n (s ∷ steps) end =
    HasAnswer W n s.call × ((r : Result ℕ Fault) (m : State) → JoinAnswers W n m s.call r → Says r s.reply × CallsFollow W m steps end)

abbrev pub step : JoinCall → Reply → Step
step c r = record { call = c; reply = r }

-- The pins are entered in their order; each call answers the number of its pin, from k on.
abbrev pub pins_from : (k : ℕ) → List Spot → List Step
pins_from k [] = []
pins_from k (z ∷ zs) = step (Wire (Pin z)) (answers k) ∷ pins_from (k + 1) zs

-- The allowance p/q is set.
abbrev pub allowing : (p q : ℕ) → Step
allowing p q = step (Wire (Allow p q)) (answers 0)

-- Each node from k on is joined with the next; each call answers the length of its edge.
abbrev pub chain_from : (k : ℕ) → (lengths : List ℕ) → List Step
chain_from k [] = []
chain_from k (l ∷ ls) = step (Wire (EdgeOf k (k + 1))) (answers l) ∷ chain_from (k + 1) ls

-- The pins are entered, the allowance is set, and the nodes are joined in a chain; then come the other calls.
abbrev pub seeded : List Spot → (p q : ℕ) → (lengths : List ℕ) → List Step → List Step
seeded pins p q ls rest = pins_from 0 pins ++ (allowing p q ∷ (chain_from 0 ls ++ rest))
