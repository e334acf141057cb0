-- The log of a net: its calls with their answers, the newest first, and what a reader of the log knows from it. Assumes nothing.
use Rattle.std.specs.Prelude.{◌≡◌, ℕ, ◌+◌, Bool, true, false, ◌&&◌, List, [], ◌∷◌, ◌++◌, length, Some, None, Ok, Err, Option, Result}
use Rattle.forest.specs.declared.Edge.{Edge}
use Rattle.forest.specs.Edges.{edge}
use Rattle.space.specs.declared.spot.Spot.{Spot}
use Rattle.space.specs.Spots.{spot_of}
use Rattle.span_laws.specs.Spanning.{SpanningSeed}
use Rattle.net_laws.specs.Answers.{JoinAnswers}
use Rattle.net_laws.specs.Geometry.{Geometry}
use Rattle.net_laws.specs.States.{State}
use Rattle.net_laws.specs.declared.call.Call.{Call}
use Rattle.net_laws.specs.declared.call.Call.TheVariants.{Pin, Allow, Steiner, Edge as EdgeOf, Unseed, Span, Straight, Hook}
use Rattle.net_laws.specs.declared.call.JoinCall.{JoinCall}
use Rattle.net_laws.specs.declared.call.JoinCall.TheVariants.{Wire, Joined, Share}
use Rattle.net_laws.specs.declared.fault.Fault.{Fault}

pub record Event : Type 0 where
  pub call : JoinCall
  pub answer : Result ℕ Fault

abbrev pub Log : Type 0
Log = List Event

-- What an accepted call does, by its answer; a refused one does nothing.
pub data Effect : Type 0 where
  nothing : Effect
  adds_pin : Spot → Effect
  allows : (p q : ℕ) → Effect
  adds_point : Spot → Effect
  adds_edge : (a b length : ℕ) → Effect
  drops_seed : Effect
  spans : Effect
  builds : (wire : ℕ) → Effect
  saves : (saving : ℕ) → Effect

abbrev pub wire_effect : Call → (answer : ℕ) → Effect
wire_effect (Pin z) k = adds_pin z
wire_effect (Allow p q) k = allows p q
wire_effect (Steiner z) k = adds_point z
wire_effect (EdgeOf a b) l = adds_edge a b l
wire_effect Unseed k = drops_seed
wire_effect Span w = spans
wire_effect Straight w = builds w
wire_effect Hook w = saves w

abbrev pub join_effect : JoinCall → (answer : ℕ) → Effect
join_effect (Wire c) k = wire_effect c k
join_effect Joined w = builds w
join_effect Share w = saves w

abbrev pub effect_by : JoinCall → Result ℕ Fault → Effect
effect_by c (Ok k) = join_effect c k
effect_by c (Err e) = nothing

abbrev pub effect_of : Event → Effect
effect_of e = effect_by e.call e.answer

-- The pins: the spots of the accepted pin calls, in their order.
abbrev pub pins_after : Effect → List Spot → List Spot
pins_after (adds_pin z) pins = pins ++ z ∷ []
pins_after nothing pins = pins
pins_after (allows p q) pins = pins
pins_after (adds_point z) pins = pins
pins_after (adds_edge a b l) pins = pins
pins_after drops_seed pins = pins
pins_after spans pins = pins
pins_after (builds w) pins = pins
pins_after (saves w) pins = pins

abbrev pub pins_of : Log → List Spot
pins_of [] = []
pins_of (e ∷ log) = pins_after (effect_of e) (pins_of log)

-- The Steiner points: the spots of the steiner calls accepted since the last accepted pin, unseed or span.
abbrev pub points_after : Effect → List Spot → List Spot
points_after (adds_point z) points = points ++ z ∷ []
points_after (adds_pin z) points = []
points_after drops_seed points = []
points_after spans points = []
points_after nothing points = points
points_after (allows p q) points = points
points_after (adds_edge a b l) points = points
points_after (builds w) points = points
points_after (saves w) points = points

abbrev pub points_of : Log → List Spot
points_of [] = []
points_of (e ∷ log) = points_after (effect_of e) (points_of log)

-- The nodes: each at the spot of its call.
abbrev pub nodes_of : Log → List Spot
nodes_of log = pins_of log ++ points_of log

-- The allowance last accepted.
abbrev pub allowance_after : Effect → Option (ℕ × ℕ) → Option (ℕ × ℕ)
allowance_after (allows p q) a = Some (p, q)
allowance_after nothing a = a
allowance_after (adds_pin z) a = a
allowance_after (adds_point z) a = a
allowance_after (adds_edge x y l) a = a
allowance_after drops_seed a = a
allowance_after spans a = a
allowance_after (builds w) a = a
allowance_after (saves w) a = a

abbrev pub allowance_of : Log → Option (ℕ × ℕ)
allowance_of [] = None
allowance_of (e ∷ log) = allowance_after (effect_of e) (allowance_of log)

-- The seed: the edges accepted since the last accepted pin, unseed or span and, where that was span, after those that it grew, which are the
-- spanning seed of the pins.
abbrev pub SeedAfter : (Spot → Spot → ℕ) → List Spot → Effect → (List Edge → Type 0) → List Edge → Type 0
SeedAfter d pins (adds_edge a b l) Seed E = (D : List Edge) × Seed D × (E ≡ D ++ edge a b l ∷ [])
SeedAfter d pins spans Seed E = SpanningSeed (length pins) (λ u v. d (spot_of pins u) (spot_of pins v)) E
SeedAfter d pins (adds_pin z) Seed E = E ≡ []
SeedAfter d pins drops_seed Seed E = E ≡ []
SeedAfter d pins nothing Seed E = Seed E
SeedAfter d pins (allows p q) Seed E = Seed E
SeedAfter d pins (adds_point z) Seed E = Seed E
SeedAfter d pins (builds w) Seed E = Seed E
SeedAfter d pins (saves w) Seed E = Seed E

abbrev pub SeedOf : (Spot → Spot → ℕ) → Log → List Edge → Type 0
SeedOf d [] E = E ≡ []
SeedOf d (e ∷ log) E = SeedAfter d (pins_of log) (effect_of e) (SeedOf d log) E

-- Whether a tree stands: one was built, and no accepted call has dropped it since.
abbrev pub stands_after : Effect → Bool → Bool
stands_after (builds w) b = true
stands_after nothing b = b
stands_after (saves w) b = b
stands_after (adds_pin z) b = false
stands_after (allows p q) b = false
stands_after (adds_point z) b = false
stands_after (adds_edge x y l) b = false
stands_after drops_seed b = false
stands_after spans b = false

abbrev pub tree_stands : Log → Bool
tree_stands [] = false
tree_stands (e ∷ log) = stands_after (effect_of e) (tree_stands log)

-- The sum of the savings that were answered.
abbrev pub saving_after : Effect → ℕ → ℕ
saving_after (saves w) s = w + s
saving_after nothing s = s
saving_after (adds_pin z) s = s
saving_after (allows p q) s = s
saving_after (adds_point z) s = s
saving_after (adds_edge x y l) s = s
saving_after drops_seed s = s
saving_after spans s = s
saving_after (builds w) s = s

abbrev pub savings_of : Log → ℕ
savings_of [] = 0
savings_of (e ∷ log) = saving_after (effect_of e) (savings_of log)

-- No accepted call drops or replaces the tree: hooks and shares keep it, and refused calls.
abbrev pub keeps : Effect → Bool
keeps nothing = true
keeps (saves w) = true
keeps (adds_pin z) = false
keeps (allows p q) = false
keeps (adds_point z) = false
keeps (adds_edge x y l) = false
keeps drops_seed = false
keeps spans = false
keeps (builds w) = false

abbrev pub keeps_tree : Log → Bool
keeps_tree [] = true
keeps_tree (e ∷ log) = keeps (effect_of e) && keeps_tree log

-- The net n becomes m by the calls of the log, each answered as its own contract says.
pub data Runs (W : Geometry) (n : State) : Log → State → Type 0 where
  still : Runs W n [] n
  next : {k m : State} {log : Log} {c : JoinCall} {r : Result ℕ Fault} → Runs W n log k → JoinAnswers W k m c r → Runs W n (record { call = c; answer = r } ∷ log) m
