-- Line 1, and the rest of the job behind it.
use Rattle.std.proofs.Common.{◌≡◌, ℕ, ◌+◌, true, List, [], ◌++◌, length, drop, take, refl, arith, Result, Some, None, ◌∙◌, ap, ◌≤◌}
use Rattle.std.proofs.lemmas.List.{append-nil, drop_all, length-drop}
use Rattle.request.specs.declared.fault.TextFault.{TextFault}
use Rattle.job.specs.Places.{Puts}
use Rattle.reply.specs.Texts.{answer_text}
use Rattle.reply.specs.declared.reply.Reply.{Reply}
use Rattle.job.specs.Answering.{net_of}
use Rattle.job.specs.Jobs.{Begun, Ran}
use Rattle.job.specs.Stages.{Stage}
use Rattle.job.specs.Stages.Stage.{before}
use Rattle.job.specs.declared.running.Outcome.{Outcome}
use Rattle.job.proofs.Going.{begins, goes_on, goes_to_end, stops_at}

pub begun_stop : (s : Stage) (r : Result Reply TextFault) (rest old new : List ℕ) → Puts old 0 (answer_text (net_of s) 1 r) None new → Begun s r rest old new (record { lines = 0; bytes = 0; stopped = true })
begun_stop s r rest old new p = λ job line asked cut shorter reads follows.
    (s, stops_at 1 before job old tt before s job line rest old new 0 0 1 (begins 1 before job old) cut refl (record { asked = asked; answer = r; reads = reads; follows = follows; puts = p }))

pub begun_go : (s s₁ : Stage) (r : Result Reply TextFault) (rest old now new mid : List ℕ) (end : ℕ) (o : Outcome) → Puts old 0 (answer_text (net_of s) 1 r) (Some end) now → Ran 2 s s₁ rest (drop end now) mid o → new ≡ take end now ++ mid → Begun s r rest old new (record { lines = 1 + o.lines; bytes = end + o.bytes; stopped = o.stopped })
begun_go s s₁ r rest old now new mid end o p ran w = λ job line asked cut shorter reads follows.
    let g = goes_on 1 before job old before s job line rest old now 0 0 1 end (begins 1 before job old) cut shorter refl (record { asked = asked; answer = r; reads = reads; follows = follows; puts = p }) in
    (s₁, goes_to_end 1 before job old tt s s₁ rest now new mid 1 end 2 o g refl ran w)

-- a part to the end, given back
pub given_back : (e k : ℕ) (xs ys : List ℕ) → length xs ≤ e + k → take e xs ++ (ys ++ drop k (drop e xs)) ≡ take e xs ++ ys
given_back e k xs ys h =
    let none : drop k (drop e xs) ≡ [] = drop_all k (drop e xs) (omega (arith, h, length-drop e xs)) in
    ap (λ zs. take e xs ++ (ys ++ zs)) none ∙ ap (λ zs. take e xs ++ zs) (append-nil ys)
