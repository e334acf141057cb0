-- One line more, and the calls of the lines as a run of the net.
use Rattle.std.proofs.Common.{◌≡◌, ℕ, suc, ◌+◌, ◌≤◌, Bool, List, [], ◌∷◌, ◌++◌, length, refl, sym, ap, ◌∙◌, subst, append_assoc, arith, Result, Ok, Err, Option, Some, None}
use Rattle.std.proofs.lemmas.List.{append-nil}
use Rattle.net_laws.specs.Geometry.{Geometry}
use Rattle.net_laws.specs.Logs.{Log, Runs}
use Rattle.net_laws.specs.Logs.Runs.{next, still}
use Rattle.net_laws.specs.States.{State, fresh}
use Rattle.net_laws.specs.Spaces.{Keeps}
use Rattle.net_laws.proofs.Keeping.{run_keeps}
use Rattle.net_laws.proofs.Owned.{own_meets}
use Rattle.built_spaces.specs.Grid.{plane_meets, plane_metric}
use Rattle.built_spaces.specs.Lifted.{lifted_meets, lifted_metric, narrow_sum}
use Rattle.built_spaces.specs.Root.{air_metric}
use Rattle.space.specs.Laws.{Metric}
use Rattle.space.specs.declared.TheConstants.{LONGEST}
use Rattle.built_spaces.specs.Shapes.{air_between, grid_between, grid_meeting, in_range, lift_admitted, lift_between, lift_width}
use Rattle.request.specs.declared.requests.Word.{Word}
use Rattle.request.specs.declared.requests.Word.TheVariants.{Plane, Air}
use Rattle.request.specs.declared.requests.Request.{Request}
use Rattle.request.specs.declared.requests.Request.TheVariants as asks
use Rattle.request.specs.declared.fault.TextFault.{TextFault}
use Rattle.request.specs.declared.fault.TextFault.TheVariants.{LongLine, NoLetter, WrongFields, BadField, OutOfPlace, NoCall, Net}
use Rattle.reply.specs.Texts.{answer_text}
use Rattle.reply.specs.declared.reply.Reply.{Reply}
use Rattle.reply.specs.declared.reply.Reply.TheVariants.{Number, Path, Worst, Rows}
use Rattle.job.specs.Answering.{Gives, LineGives, New, Told, Under, log_told, made_by, net_of, stage_after, text_from}
use Rattle.job.specs.Stages.{Follows, Laws, NetFollows, Stage, joins_of, geometry_of}
use Rattle.job.specs.Stages.Stage.{before, over, without}

pub after_more : (n : Stage) (ts : List Told) (t : Told) → stage_after n (ts ++ t ∷ []) ≡ t.after
after_more n [] t = refl
after_more n (x ∷ ts) t = after_more x.after ts t

pub text_more : (i : ℕ) (ts : List Told) (t : Told) → text_from i (ts ++ t ∷ []) ≡ text_from i ts ++ answer_text (net_of t.after) (i + length ts) t.answer
text_more i [] t = append-nil (answer_text (net_of t.after) i t.answer) ∙ ap (λ k. answer_text (net_of t.after) k t.answer) (omega arith)
text_more i (x ∷ ts) t =
    ap (λ s. answer_text (net_of x.after) i x.answer ++ s) (text_more (suc i) ts t ∙ ap (λ k. text_from (suc i) ts ++ answer_text (net_of t.after) k t.answer) (omega arith))
    ∙ sym (append_assoc (answer_text (net_of x.after) i x.answer) (text_from (suc i) ts) (answer_text (net_of t.after) (i + suc (length ts)) t.answer))

pub gives_more : (n : Stage) (ts : List Told) (t : Told) → Gives n ts → LineGives (stage_after n ts) t → Gives n (ts ++ t ∷ [])
gives_more n [] t g h = (h, tt)
gives_more n (x ∷ ts) t g h = (g.0, gives_more x.after ts t g.1 h)

pub gives_both : (n : Stage) (ts us : List Told) → Gives n ts → Gives (stage_after n ts) us → Gives n (ts ++ us)
gives_both n [] us g h = h
gives_both n (x ∷ ts) us g h = (g.0, gives_both x.after ts us g.1 h)

pub gives_front : (n : Stage) (ts us : List Told) → Gives n (ts ++ us) → Gives n ts
gives_front n [] us g = tt
gives_front n (x ∷ ts) us g = (g.0, gives_front x.after ts us g.1)

pub after_both : (n : Stage) (ts us : List Told) → stage_after n (ts ++ us) ≡ stage_after (stage_after n ts) us
after_both n [] us = refl
after_both n (x ∷ ts) us = after_both x.after ts us

pub text_both : (i : ℕ) (ts us : List Told) → text_from i (ts ++ us) ≡ text_from i ts ++ text_from (i + length ts) us
text_both i [] us = ap (λ k. text_from k us) (omega arith)
text_both i (x ∷ ts) us =
    ap (λ s. answer_text (net_of x.after) i x.answer ++ s) (text_both (suc i) ts us ∙ ap (λ k. text_from (suc i) ts ++ text_from k us) (omega arith))
    ∙ sym (append_assoc (answer_text (net_of x.after) i x.answer) (text_from (suc i) ts) (text_from (i + suc (length ts)) us))

module _ (W : Geometry) (joins : Bool) where
  join : {n k m : State} (later sooner : Log) → Runs W n sooner k → Runs W k later m → Runs W n (later ++ sooner) m
  join [] sooner a still = a
  join (e ∷ later) sooner a (next b r) = next (join later sooner a b) r

  unmade : {n m : State} → m ≡ n → Runs W n [] m
  unmade {n} {m} e = subst (λ x. Runs W n [] x) (sym e) still

  one : (n m : State) (a : Result Request TextFault) (r : Result Reply TextFault) → NetFollows W joins a n m r → Runs W n (made_by a r) m
  one n m (Err e) r h = unmade h.1
  one n m (Ok (asks.Space w price)) r h = unmade h.1
  one n m (Ok asks.Rows) r h = unmade h.1
  one n m (Ok (asks.Path k)) r h = unmade h.1
  one n m (Ok asks.Worst) r h = unmade h.1
  one n m (Ok (asks.Change c)) (Ok (Number v)) h = next still h.1
  one n m (Ok (asks.Change c)) (Err (Net e)) h = next still h.1
  one n m (Ok (asks.Change c)) (Err NoCall) h = unmade h.1
  one n m (Ok (asks.Change c)) (Ok (Path r)) h = elim h [ ]
  one n m (Ok (asks.Change c)) (Ok (Worst w)) h = elim h [ ]
  one n m (Ok (asks.Change c)) (Ok (Rows k)) h = elim h [ ]
  one n m (Ok (asks.Change c)) (Err LongLine) h = elim h [ ]
  one n m (Ok (asks.Change c)) (Err NoLetter) h = elim h [ ]
  one n m (Ok (asks.Change c)) (Err WrongFields) h = elim h [ ]
  one n m (Ok (asks.Change c)) (Err (BadField f)) h = elim h [ ]
  one n m (Ok (asks.Change c)) (Err OutOfPlace) h = elim h [ ]

  -- The calls that the lines made over a net are a run of it.
  pub made : (n : State) (ts : List Told) → Gives (over W joins n) ts → (m : State) × (stage_after (over W joins n) ts ≡ over W joins m) × Runs W n (log_told ts) m
  made n [] g = (n, refl, still)
  made n (t ∷ ts) g =
      let (k, is, f) = g.0.1 in
      let P : Stage → Type 0 = λ s. Gives s ts in
      let (m, end, runs) = made k ts (subst P is g.1) in
      (m, ap (λ s. stage_after s ts) is ∙ end, join (log_told ts) (made_by t.asked t.answer) (one n k t.asked t.answer f) runs)

  pub over_net : Keeps W → (ts : List Told) → Gives (over W joins fresh) ts → Under (log_told ts) (stage_after (over W joins fresh) ts)
  over_net laws ts g =
      let (m, end, runs) = made fresh ts g in
      let P : Stage → Type 0 = λ s. Under (log_told ts) s in
      subst P (sym end) (runs, run_keeps W laws runs)

left : (a : Result Request TextFault) (s : Stage) (r : Result Reply TextFault) → Follows a without s r → s ≡ without
left (Ok a) s r h = h.1
left (Err e) s r h = h.1

stays_without : (ts : List Told) → Gives without ts → stage_after without ts ≡ without
stays_without [] g = refl
stays_without (t ∷ ts) g =
    let is : t.after ≡ without = left t.asked t.after t.answer g.0.1 in
    let P : Stage → Type 0 = λ s. Gives s ts in
    ap (λ s. stage_after s ts) is ∙ stays_without ts (subst P is g.1)

nothing_under : (log : Log) (s : Stage) (ts : List Told) → s ≡ without → Gives s ts → Under log (stage_after s ts)
nothing_under log s ts e g =
    let P : Stage → Type 0 = λ x. Gives x ts in
    let Q : Stage → Type 0 = λ x. Under log x in
    subst Q (sym (ap (λ x. stage_after x ts) e ∙ stays_without ts (subst P e g))) tt

-- the spaces of a job keep the laws
keeps_of : (w : Word) (price : Option ℕ) → Keeps (geometry_of w price)
keeps_of Plane None = record { metric = λ h. plane_metric; meets = λ h. plane_meets }
keeps_of Plane (Some c) =
    record {
      metric = λ h. lifted_metric in_range 4000000 grid_between c (narrow_sum 4000000 c h) plane_metric;
      meets = λ h. lifted_meets in_range 4000000 grid_between c (narrow_sum 4000000 c h) plane_metric grid_meeting plane_meets;
    }
keeps_of Air None = record { metric = λ h. air_metric; meets = λ h. own_meets _ _ _ air_metric }
keeps_of Air (Some c) =
    let law : (h : lift_width 2828428 c ≤ LONGEST) → Metric (lift_admitted in_range) (lift_width 2828428 c) (lift_between air_between c) =
    λ h. lifted_metric in_range 2828428 air_between c (narrow_sum 2828428 c h) air_metric in
    record { metric = law; meets = λ h. own_meets _ _ _ (law h) }

over_first : (w : Word) (price : Option ℕ) (s : Stage) (ts : List Told) → s ≡ over (geometry_of w price) (joins_of w) fresh → Gives s ts → Under (log_told ts ++ []) (stage_after s ts)
over_first w price s ts e g =
    let W = geometry_of w price in
    let P : Stage → Type 0 = λ x. Gives x ts in
    let Q : Stage → Type 0 = λ x. Under (log_told ts ++ []) (stage_after x ts) in
    let R : Log → Type 0 = λ l. Under l (stage_after (over W (joins_of w) fresh) ts) in
    subst Q (sym e) (subst R (sym (append-nil (log_told ts))) (over_net W (joins_of w) (keeps_of w price) ts (subst P e g)))

from_before : (a : Result Request TextFault) (s : Stage) (r : Result Reply TextFault) (ts : List Told) → Follows a before s r → Gives s ts → Under (log_told ts ++ made_by a r) (stage_after s ts)
from_before (Ok (asks.Space w price)) s r ts h g = over_first w price s ts h.1 g
from_before (Ok (asks.Change c)) s r ts h g = nothing_under (log_told ts ++ made_by (Ok (asks.Change c)) r) s ts h.1 g
from_before (Ok asks.Rows) s r ts h g = nothing_under (log_told ts ++ []) s ts h.1 g
from_before (Ok (asks.Path k)) s r ts h g = nothing_under (log_told ts ++ []) s ts h.1 g
from_before (Ok asks.Worst) s r ts h g = nothing_under (log_told ts ++ []) s ts h.1 g
from_before (Err e) s r ts h g = nothing_under (log_told ts ++ []) s ts h.1 g

-- What the net holds is under the guarantee.
pub under : (s : Stage) (ts : List Told) → Laws s → New s → Gives s ts → Under (log_told ts) (stage_after s ts)
under before [] laws new g = tt
under before (t ∷ ts) laws new g = from_before t.asked t.after t.answer ts g.0.1 g.1
under without ts laws new g = nothing_under (log_told ts) without ts refl g
under (over W joins n) ts laws new g =
    let P : State → Type 0 = λ x. Gives (over W joins x) ts in
    let Q : State → Type 0 = λ x. Under (log_told ts) (stage_after (over W joins x) ts) in
    subst Q (sym new) (over_net W joins laws ts (subst P new g))
