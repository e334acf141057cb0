-- The lines of a job with their answers, and the log of the calls that they made. Assumes nothing.
use Rattle.std.specs.Prelude.{◌≡◌, ℕ, suc, List, [], ◌∷◌, ◌++◌, Ok, Err, Result}
use Rattle.net_laws.specs.Guarantee.{Guarantee}
use Rattle.net_laws.specs.Logs.{Log, Runs}
use Rattle.net_laws.specs.States.{State, fresh}
use Rattle.request.specs.Requests.{Reads}
use Rattle.request.specs.declared.requests.Request.{Request}
use Rattle.request.specs.declared.requests.Request.TheVariants as asks
use Rattle.request.specs.declared.fault.TextFault.{TextFault}
use Rattle.request.specs.declared.fault.TextFault.TheVariants.{LongLine, NoLetter, WrongFields, BadField, OutOfPlace, NoCall, Net}
use Rattle.reply.specs.Texts.{answer_text}
use Rattle.reply.specs.declared.reply.Reply.{Reply}
use Rattle.reply.specs.declared.reply.Reply.TheVariants.{Number, Path, Worst, Rows}
use Rattle.job.specs.Stages.{Follows, Stage}
use Rattle.job.specs.Stages.Stage.{before, over, without}

-- A line of a job: its bytes, what it asks, its answer, and the stage after it.
pub record Told : Type 0 where
  pub line : List ℕ
  pub asked : Result Request TextFault
  pub answer : Result Reply TextFault
  pub after : Stage

-- The line, read at the stage s, gives this.
abbrev pub LineGives : (s : Stage) → Told → Type 0
LineGives s t = Reads t.line t.asked × Follows t.asked s t.after t.answer

-- The lines, read one after the other from the stage s on, give this.
abbrev pub Gives : (s : Stage) → List Told → Type 0
Gives s [] = Unit {0}
Gives s (t ∷ ts) = LineGives s t × Gives t.after ts

abbrev pub stage_after : Stage → List Told → Stage
stage_after s [] = s
stage_after s (t ∷ ts) = stage_after t.after ts

-- The net of a stage; a new one where there is none.
abbrev pub net_of : Stage → State
net_of before = fresh
net_of without = fresh
net_of (over W joins n) = n

-- The answers, one after the other, the first of them that of line i.
abbrev pub text_from : (i : ℕ) → List Told → List ℕ
text_from i [] = []
text_from i (t ∷ ts) = answer_text (net_of t.after) i t.answer ++ text_from (suc i) ts

-- The call that a line made on the net, with its answer; nothing where it made none that could change it.
abbrev pub made_by : Result Request TextFault → Result Reply TextFault → Log
made_by (Ok (asks.Change c)) (Ok (Number v)) = record { call = c; answer = Ok v } ∷ []
made_by (Ok (asks.Change c)) (Err (Net e)) = record { call = c; answer = Err e } ∷ []
made_by (Ok (asks.Change c)) (Ok (Path r)) = []
made_by (Ok (asks.Change c)) (Ok (Worst w)) = []
made_by (Ok (asks.Change c)) (Ok (Rows count)) = []
made_by (Ok (asks.Change c)) (Err LongLine) = []
made_by (Ok (asks.Change c)) (Err NoLetter) = []
made_by (Ok (asks.Change c)) (Err WrongFields) = []
made_by (Ok (asks.Change c)) (Err (BadField f)) = []
made_by (Ok (asks.Change c)) (Err OutOfPlace) = []
made_by (Ok (asks.Change c)) (Err NoCall) = []
made_by (Ok (asks.Space w price)) r = []
made_by (Ok asks.Rows) r = []
made_by (Ok (asks.Path k)) r = []
made_by (Ok asks.Worst) r = []
made_by (Err e) r = []

-- The log of the calls, the newest first.
abbrev pub log_told : List Told → Log
log_told [] = []
log_told (t ∷ ts) = log_told ts ++ made_by t.asked t.answer

-- The net of a stage is under the guarantee, by the log of the calls that were made on it since it was new.
abbrev pub Under : Log → Stage → Type 0
Under log before = Unit {0}
Under log without = Unit {0}
Under log (over W joins n) = Runs W fresh log n × Guarantee W log n

-- Where there is a net, it is a new one.
abbrev pub New : Stage → Type 0
New before = Unit {0}
New without = Unit {0}
New (over W joins n) = n ≡ fresh
