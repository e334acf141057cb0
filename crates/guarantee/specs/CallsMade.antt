-- The log of a list of calls and its answers, and what holds when they were made on a net. Assumes nothing.
use Rattle.std.specs.Prelude.{◌≡◌, ℕ, List, [], ◌∷◌, ◌++◌, map, length, Ok, Err, Result}
use Rattle.net_laws.specs.Geometry.{Geometry}
use Rattle.net_laws.specs.Guarantee.{Guarantee}
use Rattle.net_laws.specs.Logs.{Log, Runs}
use Rattle.net_laws.specs.Spaces.{Tied}
use Rattle.net_laws.specs.States.{State, fresh}
use Rattle.net_laws.specs.declared.call.Call.{Call}
use Rattle.net_laws.specs.declared.call.JoinCall.{JoinCall}
use Rattle.net_laws.specs.declared.call.JoinCall.TheVariants.{Wire}
use Rattle.net_laws.specs.declared.fault.Fault.{Fault}

-- The answer of a call that answers no number, as 0.
abbrev pub counted : Result (Unit {0}) Fault → Result ℕ Fault
counted (Ok u) = Ok 0
counted (Err e) = Err e

-- Calls of a wiring space as calls of any.
abbrev pub wired : List Call → List JoinCall
wired calls = map Wire calls

-- The calls with their answers, the newest first.
abbrev pub log_of : List JoinCall → List (Result ℕ Fault) → Log
log_of [] rs = []
log_of (c ∷ cs) [] = []
log_of (c ∷ cs) (r ∷ rs) = log_of cs rs ++ record { call = c; answer = r } ∷ []

-- The calls were made on the net n₀ and left the net n: each was answered, as its own contract says, and where n₀ was new, n keeps the guarantee.
pub record CallsMade (W : Geometry) (n₀ : State) (calls : List JoinCall) (answers : List (Result ℕ Fault)) (n : State) : Type 0 where
  pub each : length answers ≡ length calls
  pub runs : Runs W n₀ (log_of calls answers) n
  pub guarantee : n₀ ≡ fresh → Guarantee W (log_of calls answers) n

-- The net n is tied to a space that is W to its calls.
abbrev pub TiedIn : Geometry → State → Type 0
TiedIn W n = Tied W.admitted W.width W.between n
