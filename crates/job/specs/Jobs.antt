-- What a run of a job did. Assumes nothing.
use Rattle.std.specs.Prelude.{◌≡◌, ℕ, ◌<◌, ◌≤◌, Bool, true, false, List, [], ◌∷◌, ◌++◌, length, map, drop, Ok, Err, Option, Some, None, Result}
use Rattle.net_laws.specs.States.{State}
use Rattle.request.specs.Lines.{lines_of}
use Rattle.request.specs.Requests.{Reads}
use Rattle.request.specs.declared.requests.Request.{Request}
use Rattle.request.specs.declared.requests.Request.TheVariants.{Space}
use Rattle.request.specs.declared.requests.Word.{Word}
use Rattle.request.specs.declared.fault.TextFault.{TextFault}
use Rattle.job.specs.Places.{Puts}
use Rattle.reply.specs.Texts.{answer_text, rows_in}
use Rattle.reply.specs.declared.reply.Reply.{Reply}
use Rattle.reply.specs.declared.reply.Reply.TheVariants.{Number, Path, Worst, Rows}
use Rattle.job.specs.Answering.{Gives, New, Told, Under, log_told, net_of, stage_after, text_from}
use Rattle.job.specs.Stages.{Follows, Stage}
use Rattle.job.specs.Stages.Stage.{before}
use Rattle.job.specs.declared.running.Outcome.{Outcome}

-- Not stopped: each line of the job was answered. Stopped: the line behind those that were answered was read too, and its whole answer does not fit in
-- the room behind theirs.
abbrev pub Stops : (i : ℕ) (job : List ℕ) (room : ℕ) (told late : List Told) → Bool → Type 0
Stops i job room told [] false = lines_of job ≡ map (λ t. t.line) told
Stops i job room told (t ∷ []) true =
    (later : List (List ℕ)) × (lines_of job ≡ map (λ s. s.line) told ++ t.line ∷ later) × (room < length (text_from i (told ++ t ∷ [])))
Stops i job room told [] true = ⊥
Stops i job room told (t ∷ []) false = ⊥
Stops i job room told (t ∷ s ∷ ts) b = ⊥

-- The job, whose first line has the number i, took the stage s to s₁ and the bytes `old` to `new`: `told` are the lines that were answered, and `late`
-- the one whose answer did not fit, if one did not.
pub record Ran (i : ℕ) (s s₁ : Stage) (job old new : List ℕ) (o : Outcome) : Type 0 where
  pub told : List Told
  pub late : List Told
  pub gives : Gives s (told ++ late)
  pub stage : s₁ ≡ stage_after s (told ++ late)
  pub lines : o.lines ≡ length told
  pub bytes : o.bytes ≡ length (text_from i told)
  pub written : new ≡ text_from i told ++ drop o.bytes old
  pub fits : o.bytes ≤ length old
  pub stops : Stops i job (length old) told late o.stopped
  -- after every line what the net holds is under the guarantee
  pub guarantee : (some rest : List Told) → some ++ rest ≡ told ++ late → New s → Under (log_told some) (stage_after s some)

-- What a run of a whole job did.
abbrev pub JobRan : (job old new : List ℕ) → Outcome → Type 0
JobRan job old new o = (s : Stage) × Ran 1 before s job old new o

-- The first line of the job asks for a net, in the space of w under a lift of this price, if there is one. Only such a job wants memory.
abbrev pub AsksNet : (job : List ℕ) → Type 0
AsksNet job = (line : List ℕ) × (rest : List (List ℕ)) × (w : Word) × (price : Option ℕ) × (lines_of job ≡ line ∷ rest) × Reads line (Ok (Space w price))

-- ---- parts of a run

-- What a run did behind line 1, which got the answer r and left the stage s: the same of each job that begins with such a line.
abbrev pub Begun : (s : Stage) (r : Result Reply TextFault) (rest old new : List ℕ) → Outcome → Type 0
Begun s r rest old new o =
    (job line : List ℕ) (asked : Result Request TextFault) → lines_of job ≡ line ∷ lines_of rest → length rest < length job → Reads line asked → Follows asked before s r → JobRan job old new o

-- The answer of the line i, read at the stage s, is put at a place or, where it does not fit, is not.
pub record AnswersLine (line : List ℕ) (i : ℕ) (s s₁ : Stage) (old : List ℕ) (at : ℕ) (end : Option ℕ) (new : List ℕ) : Type 0 where
  pub asked : Result Request TextFault
  pub answer : Result Reply TextFault
  pub reads : Reads line asked
  pub follows : Follows asked s s₁ answer
  pub puts : Puts old at (answer_text (net_of s₁) i answer) end new

-- An answer that counts rows counts those of the net n.
abbrev pub Counted : State → Result Reply TextFault → Type 0
Counted n (Ok (Rows count)) = count ≡ length (rows_in n.tree)
Counted n (Ok (Number v)) = Unit {0}
Counted n (Ok (Path r)) = Unit {0}
Counted n (Ok (Worst w)) = Unit {0}
Counted n (Err e) = Unit {0}

-- The size k, or nothing where it is more than the room.
abbrev pub Sized : (room k : ℕ) → Option ℕ → Type 0
Sized room k (Some s) = (s ≡ k) × (k ≤ room)
Sized room k None = room < k
