-- What the parts of a net's state hold, and what its private calls answer. `d` is the distance of two spots, and `j o a b` the meet of a and b seen
-- from o. Assumes nothing.
use Rattle.std.specs.Prelude.{◌≡◌, ℕ, ◌+◌, ◌≤◌, Bool, true, false, List, length, Some, None, Ok, Err, Option, Result}
use Rattle.build_laws.specs.Joining.{Joins}
use Rattle.joined.specs.Joinings.{Joinable}
use Rattle.net_laws.specs.Answers.{Stands, accepts, asks}
use Rattle.net_laws.specs.Geometry.{Geometry}
use Rattle.net_laws.specs.Spaces.{joining, made_total, wiring}
use Rattle.space.specs.declared.Joining.{Ghosts as JoinGhosts}
use Rattle.space.specs.declared.Space.{Ghosts}
use Rattle.net_laws.specs.States.{State, with_tree}
use Rattle.net_laws.specs.declared.fault.Fault.{Fault}
use Rattle.net_laws.specs.declared.fault.Fault.TheVariants.{NoMove, TooManyRows}
use Rattle.share.specs.declared.sharing.ShareFault.{ShareFault}
use Rattle.share.specs.declared.sharing.ShareFault.TheVariants.{Nothing, Full}
use Rattle.space.specs.declared.spot.Spot.{Spot}
use Rattle.straight.specs.Built.{Straightened}
use Rattle.tree.specs.declared.table.Tree.{Tree}
use Rattle.tree_laws.specs.Trees.{wire_of}
use Rattle.tree_laws.specs.declared.Row.{Row}
use Rattle.walk.specs.declared.allowance.Allowance.{Allowance}

-- The allowance p/q, if one is set.
abbrev pub ratio_of : Option Allowance → Option (ℕ × ℕ)
ratio_of None = None
ratio_of (Some a) = Some (a.p, a.q)

-- The rows of t, if they stand as the tree of the net.
abbrev pub rows_standing : Bool → Tree → Option (List Row)
rows_standing true t = Some t.rows
rows_standing false t = None

-- The check of Q answers r: where Q does not hold, it refuses by e.
abbrev pub Checked : {F : Type 0} → (Q : Type 0) → (e : F) → Result (Unit {0}) F → Type 0
Checked Q e (Ok u) = Q
Checked Q e (Err f) = (Q → ⊥) × (f ≡ e)

-- What both builds ask, and the allowance that they build by.
abbrev pub ReadyAnswer : State → Result Allowance Fault → Type 0
ReadyAnswer n =
    asks 6 (2 ≤ n.pins) (asks 11 ((n.allowance ≡ None) → ⊥) (asks 12 (length n.edges + 1 ≡ length n.spots)
    (accepts (λ a. n.allowance ≡ Some (a.p, a.q)))))

-- The straight tree of n by the allowance a was built: its breakpoints are listed and can be joined, its wire is w, and it stands in m.
pub record Straightens (d : Spot → Spot → ℕ) (a : Allowance) (n : State) (listed : List ℕ) (w : ℕ) (m : State) : Type 0 where
  pub rows : List Row
  pub straight : Straightened d n.spots a.p a.q n.pins (length n.spots) n.edges listed w rows
  pub joinable : Joinable rows listed
  pub stands : m ≡ with_tree n rows

-- Asked to build the straight tree, n answers r and is m then; `listed` are the breakpoints that stand listed.
abbrev pub StraightBuilt : (d : Spot → Spot → ℕ) (n : State) (listed : List ℕ) → Result ℕ Fault → (m : State) → Type 0
StraightBuilt d n listed (Ok w) m = (a : Allowance) × ReadyAnswer n (Ok a) × Straightens d a n listed w m
StraightBuilt d n listed (Err e) m = ReadyAnswer n (Err e) × (m ≡ n)

-- The refusal of a share move as one of the net.
abbrev pub fault_of : ShareFault → Fault
fault_of Nothing = NoMove
fault_of Full = TooManyRows

-- A tree stands, and the members are rows of it that can be joined.
pub record JoinableIn (n : State) (members : List ℕ) : Type 0 where
  pub rows : List Row
  pub stands : Stands n rows
  pub joinable : Joinable rows members

-- The members were joined pair after pair: the tree of m came of that of n, and its wire is w.
pub record JoinsIn (d : Spot → Spot → ℕ) (j : Spot → Spot → Spot → Spot) (n : State) (members : List ℕ) (w : ℕ) (m : State) : Type 0 where
  pub rows : List Row
  pub after : List Row
  pub stood : Stands n rows
  pub joins : Joins d j rows members after
  pub wire : w ≡ wire_of after
  pub stands : m ≡ with_tree n after

-- What a wiring space and a joining space answer, made total.
abbrev pub total_wiring : {X : Type 0} → Ghosts X → X → Geometry
total_wiring G s = made_total (wiring G s)

abbrev pub total_joining : {X : Type 0} → Ghosts X → JoinGhosts X → X → Geometry
total_joining G J s = made_total (joining G J s)
