-- One call more in a list of calls. Assumes nothing.
use Rattle.std.proofs.Common.{◌≡◌, ℕ, ◌+◌, ◌≤◌, List, [], ◌∷◌, ◌++◌, length, get_or, set, Result, sym, refl, ap, ◌∙◌, subst, arith}
use Rattle.std.proofs.lemmas.List.{get_or-set_other, length_push}
use Rattle.net_laws.specs.Answers.{JoinAnswers}
use Rattle.net_laws.specs.Geometry.{Geometry}
use Rattle.net_laws.specs.Logs.{Log, Runs}
use Rattle.net_laws.specs.Logs.Runs.{next, still}
use Rattle.net_laws.specs.States.{State}
use Rattle.net_laws.specs.Spaces.{Keeps}
use Rattle.net_laws.specs.declared.call.JoinCall.{JoinCall}
use Rattle.net_laws.specs.declared.fault.Fault.{Fault}
use Rattle.net_laws.proofs.Keeping.{run_keeps}
use Rattle.net_laws.proofs.Tying.{tied_step}
use Rattle.guarantee.specs.CallsMade.{CallsMade, TiedIn, log_of}

-- the newest call stands first in the log
log_push : (cs : List JoinCall) (rs : List (Result ℕ Fault)) (c : JoinCall) (r : Result ℕ Fault) → length rs ≡ length cs → log_of (cs ++ c ∷ []) (rs ++ r ∷ []) ≡ record { call = c; answer = r } ∷ log_of cs rs
log_push [] [] c r e = refl
log_push [] (x ∷ rs) c r e = absurd (omega (arith, e))
log_push (x ∷ cs) [] c r e = absurd (omega (arith, e))
log_push (x ∷ cs) (y ∷ rs) c r e = ap (λ log. log ++ record { call = x; answer = y } ∷ []) (log_push cs rs c r (omega (arith, e)))

module _ (W : Geometry) (laws : Keeps W) (n₀ : State) where
  by_runs : (cs : List JoinCall) (rs : List (Result ℕ Fault)) (n : State) → length rs ≡ length cs → Runs W n₀ (log_of cs rs) n → CallsMade W n₀ cs rs n
  by_runs cs rs n e ran = record {
    each = e;
    runs = ran;
    guarantee = λ f. let P : State → Type 0 = λ x. Runs W x (log_of cs rs) n in run_keeps W laws (subst P f ran);
  }

  -- a run on a net that is tied leaves one that is tied
  pub tied_run : {log : Log} {n : State} → TiedIn W n₀ → Runs W n₀ log n → TiedIn W n
  tied_run t still = t
  tied_run t (next {k} {m} {log} {c} {r} ran a) = tied_step W laws k m c r (tied_run t ran) a

  pub kept_none : CallsMade W n₀ [] [] n₀
  kept_none = by_runs [] [] n₀ refl still

  pub kept_more : (cs : List JoinCall) (rs : List (Result ℕ Fault)) (n m : State) (c : JoinCall) (r : Result ℕ Fault) → CallsMade W n₀ cs rs n → JoinAnswers W n m c r → CallsMade W n₀ (cs ++ c ∷ []) (rs ++ r ∷ []) m
  kept_more cs rs n m c r g a =
      let P : Log → Type 0 = λ log. Runs W n₀ log m in
      by_runs (cs ++ c ∷ []) (rs ++ r ∷ []) m (omega (arith, g.each, length_push cs c, length_push rs r)) (subst P (sym (log_push cs rs c r g.each)) (next g.runs a))

-- what stands past the place that is written stays
pub rest_more : (xs ys : List (Result ℕ Fault)) (i : ℕ) (r : Result ℕ Fault) → ((k : ℕ) (d : Result ℕ Fault) → i ≤ k → get_or ys k d ≡ get_or xs k d) → (k : ℕ) (d : Result ℕ Fault) → i + 1 ≤ k → get_or (set ys i r) k d ≡ get_or xs k d
rest_more xs ys i r f k d h = get_or-set_other ys i k r d (λ e. omega (arith, e)) ∙ f k d (omega arith)
