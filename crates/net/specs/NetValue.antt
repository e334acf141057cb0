-- A net as its callers see it, and what a call does to it: n is the net before, m the net after, and r the answer. Assumes nothing.
use Rattle.std.specs.Prelude.{ℕ, Result}
use Rattle.net_laws.specs.Answers.{Answers, JoinAnswers}
use Rattle.net_laws.specs.States.{State}
use Rattle.net_laws.specs.Spaces.{joining, wiring}
use Rattle.net_laws.specs.declared.call.Call.{Call}
use Rattle.net_laws.specs.declared.call.JoinCall.{JoinCall}
use Rattle.net_laws.specs.declared.fault.Fault.{Fault}
use Rattle.space.specs.declared.Joining.{Ghosts as JoinGhosts}
use Rattle.space.specs.declared.Space.{Ghosts}

-- A space, and what a net in it holds.
pub record NetValue (X : Type 0) : Type 0 where
  pub space : X
  pub state : State

-- The call is answered as its own rules say: n is the net before, m the net after, and r the answer.
abbrev pub Answered : {X : Type 0} → Ghosts X → (n m : NetValue X) → Call → Result ℕ Fault → Type 0
Answered G n m c r = Answers (wiring G n.space) n.state m.state c r

-- The same of a call over a joining space.
abbrev pub JoinAnswered : {X : Type 0} → Ghosts X → JoinGhosts X → (n m : NetValue X) → JoinCall → Result ℕ Fault → Type 0
JoinAnswered G J n m c r = JoinAnswers (joining G J n.space) n.state m.state c r
