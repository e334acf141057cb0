-- What a line gives, by what stands when it is read. Assumes nothing.
use Rattle.std.specs.Prelude.{◌≡◌, ℕ, Bool, true, false, Ok, Err, Result, Some, None, Option}
use Rattle.net_laws.specs.Answers.{JoinAnswers}
use Rattle.net_laws.specs.Geometry.{Geometry}
use Rattle.net_laws.specs.Readings.{PathAnswer, RowsAnswer, WorstAnswer}
use Rattle.net_laws.specs.States.{State, fresh}
use Rattle.net_laws.specs.Spaces.{Keeps}
use Rattle.net_laws.specs.declared.call.JoinCall.{JoinCall}
use Rattle.net_laws.specs.declared.call.JoinCall.TheVariants.{Wire, Joined, Share}
use Rattle.built_spaces.specs.Shapes.{air_between, grid_between, grid_meeting, in_range, lift_admitted, lift_between, lift_meeting, lift_width}
use Rattle.request.specs.declared.requests.Request.{Request}
use Rattle.request.specs.declared.requests.Request.TheVariants as asks
use Rattle.request.specs.declared.requests.Word.{Word}
use Rattle.request.specs.declared.requests.Word.TheVariants.{Plane, Air}
use Rattle.request.specs.declared.fault.TextFault.{TextFault}
use Rattle.request.specs.declared.fault.TextFault.TheVariants.{LongLine, NoLetter, WrongFields, BadField, OutOfPlace, NoCall, Net}
use Rattle.reply.specs.declared.reply.Reply.{Reply}
use Rattle.reply.specs.declared.reply.Reply.TheVariants.{Number, Path, Worst, Rows}

-- What stands when a line is read: nothing, since line 1 is to come; no net, since line 1 was no accepted W; or a net over a space that joins or not.
pub data Stage : Type 0 where
  before : Stage
  without : Stage
  over : Geometry → (joins : Bool) → State → Stage

-- The space that W makes a net over; under a lift where there is a price. (Air has no meet, and no call over it asks for one.)
abbrev pub geometry_of : Word → Option ℕ → Geometry
geometry_of Plane None = record { admitted = in_range; width = 4000000; between = grid_between; meeting = grid_meeting }
geometry_of Plane (Some price) =
    record { admitted = lift_admitted in_range; width = lift_width 4000000 price; between = lift_between grid_between price; meeting = lift_meeting grid_meeting }
geometry_of Air None = record { admitted = in_range; width = 2828428; between = air_between; meeting = λ o a b. o }
geometry_of Air (Some price) =
    record { admitted = lift_admitted in_range; width = lift_width 2828428 price; between = lift_between air_between price; meeting = λ o a b. o }

abbrev pub joins_of : Word → Bool
joins_of Plane = true
joins_of Air = false

-- ---- over a net

-- Whether a space has this call: joined and share only where it joins.
abbrev pub has : (joins : Bool) → JoinCall → Bool
has joins (Wire c) = true
has joins Joined = joins
has joins Share = joins

-- Asked for a call, the net n answers r and is m then.
abbrev pub ChangeReply : Geometry → Bool → JoinCall → (n m : State) → Result Reply TextFault → Type 0
ChangeReply W joins c n m (Ok (Number v)) = (has joins c ≡ true) × JoinAnswers W n m c (Ok v)
ChangeReply W joins c n m (Err (Net e)) = (has joins c ≡ true) × JoinAnswers W n m c (Err e)
ChangeReply W joins c n m (Err NoCall) = (has joins c ≡ false) × (m ≡ n)
ChangeReply W joins c n m (Ok (Path r)) = ⊥
ChangeReply W joins c n m (Ok (Worst w)) = ⊥
ChangeReply W joins c n m (Ok (Rows count)) = ⊥
ChangeReply W joins c n m (Err LongLine) = ⊥
ChangeReply W joins c n m (Err NoLetter) = ⊥
ChangeReply W joins c n m (Err WrongFields) = ⊥
ChangeReply W joins c n m (Err (BadField f)) = ⊥
ChangeReply W joins c n m (Err OutOfPlace) = ⊥

-- Asked for its rows, the net n answers r.
abbrev pub RowsReply : (n : State) → Result Reply TextFault → Type 0
RowsReply n (Ok (Rows count)) = RowsAnswer n (Ok count)
RowsReply n (Err (Net e)) = RowsAnswer n (Err e)
RowsReply n (Ok (Number v)) = ⊥
RowsReply n (Ok (Path r)) = ⊥
RowsReply n (Ok (Worst w)) = ⊥
RowsReply n (Err LongLine) = ⊥
RowsReply n (Err NoLetter) = ⊥
RowsReply n (Err WrongFields) = ⊥
RowsReply n (Err (BadField f)) = ⊥
RowsReply n (Err OutOfPlace) = ⊥
RowsReply n (Err NoCall) = ⊥

-- Asked for the path of the pin k, the net n answers r.
abbrev pub PathReply : Geometry → (n : State) (k : ℕ) → Result Reply TextFault → Type 0
PathReply W n k (Ok (Path r)) = PathAnswer W.between n k (Ok r)
PathReply W n k (Err (Net e)) = PathAnswer W.between n k (Err e)
PathReply W n k (Ok (Number v)) = ⊥
PathReply W n k (Ok (Worst w)) = ⊥
PathReply W n k (Ok (Rows count)) = ⊥
PathReply W n k (Err LongLine) = ⊥
PathReply W n k (Err NoLetter) = ⊥
PathReply W n k (Err WrongFields) = ⊥
PathReply W n k (Err (BadField f)) = ⊥
PathReply W n k (Err OutOfPlace) = ⊥
PathReply W n k (Err NoCall) = ⊥

-- Asked for the worst sink, the net n answers r.
abbrev pub WorstReply : Geometry → (n : State) → Result Reply TextFault → Type 0
WorstReply W n (Ok (Worst w)) = WorstAnswer W.between n (Ok w)
WorstReply W n (Err (Net e)) = WorstAnswer W.between n (Err e)
WorstReply W n (Ok (Number v)) = ⊥
WorstReply W n (Ok (Path r)) = ⊥
WorstReply W n (Ok (Rows count)) = ⊥
WorstReply W n (Err LongLine) = ⊥
WorstReply W n (Err NoLetter) = ⊥
WorstReply W n (Err WrongFields) = ⊥
WorstReply W n (Err (BadField f)) = ⊥
WorstReply W n (Err OutOfPlace) = ⊥
WorstReply W n (Err NoCall) = ⊥

-- What follows from what a line asks, or from its refusal as text, over the net n: the answer r and the net m. W is only for line 1.
abbrev pub NetFollows : Geometry → Bool → Result Request TextFault → (n m : State) → Result Reply TextFault → Type 0
NetFollows W joins (Err e) n m r = (r ≡ Err e) × (m ≡ n)
NetFollows W joins (Ok (asks.Space w price)) n m r = (r ≡ Err OutOfPlace) × (m ≡ n)
NetFollows W joins (Ok (asks.Change c)) n m r = ChangeReply W joins c n m r
NetFollows W joins (Ok asks.Rows) n m r = RowsReply n r × (m ≡ n)
NetFollows W joins (Ok (asks.Path k)) n m r = PathReply W n k r × (m ≡ n)
NetFollows W joins (Ok asks.Worst) n m r = WorstReply W n r × (m ≡ n)

-- ---- at a stage

-- What follows from what a line asks, or from its refusal as text, at a stage: the answer r and the stage after it. Line 1 has to be a W.
abbrev pub Follows : Result Request TextFault → Stage → Stage → Result Reply TextFault → Type 0
Follows (Ok (asks.Space w price)) before s r = (r ≡ Ok (Number 0)) × (s ≡ over (geometry_of w price) (joins_of w) fresh)
Follows (Ok (asks.Change c)) before s r = (r ≡ Err OutOfPlace) × (s ≡ without)
Follows (Ok asks.Rows) before s r = (r ≡ Err OutOfPlace) × (s ≡ without)
Follows (Ok (asks.Path k)) before s r = (r ≡ Err OutOfPlace) × (s ≡ without)
Follows (Ok asks.Worst) before s r = (r ≡ Err OutOfPlace) × (s ≡ without)
Follows (Err e) before s r = (r ≡ Err e) × (s ≡ without)
Follows (Ok a) without s r = (r ≡ Err OutOfPlace) × (s ≡ without)
Follows (Err e) without s r = (r ≡ Err e) × (s ≡ without)
Follows a (over W joins n) s r = (m : State) × (s ≡ over W joins m) × NetFollows W joins a n m r

-- The laws of the space, where there is a net.
abbrev pub Laws : Stage → Type 0
Laws before = Unit {0}
Laws without = Unit {0}
Laws (over W joins n) = Keeps W
