-- The lines that are answered so far, and what is left of the job.
use Rattle.std.proofs.Common.{◌≡◌, ℕ, ◌+◌, ◌<◌, ◌≤◌, Bool, true, false, List, [], ◌∷◌, ◌++◌, length, map, drop, take, refl, sym, ap, ◌∙◌, subst, append_assoc, arith, Some, None}
use Rattle.std.proofs.lemmas.List.{append-nil, drop-drop, drop_at, length-append, length-drop, length_push, map-append, map_push, take_at}
use Rattle.request.specs.Lines.{lines_of}
use Rattle.job.specs.Places.{put_at}
use Rattle.reply.specs.Texts.{answer_text}
use Rattle.job.specs.Answering.{Gives, LineGives, Told, net_of, stage_after, text_from}
use Rattle.job.specs.Jobs.{AnswersLine, Ran, Stops}
use Rattle.job.specs.Stages.{Laws, Stage}
use Rattle.job.specs.declared.running.Outcome.{Outcome}
use Rattle.job.proofs.Lines.{after_both, after_more, gives_both, gives_front, gives_more, text_both, text_more, under}
use Rattle.job.proofs.Putting.{length_put, put_put}

pub record Going (i : ℕ) (n m : Stage) (job rest before now : List ℕ) (count size : ℕ) : Type 0 where
  pub told : List Told
  pub gives : Gives n told
  pub stage : m ≡ stage_after n told
  pub lines : count ≡ length told
  pub bytes : size ≡ length (text_from i told)
  pub written : now ≡ put_at before 0 (text_from i told)
  pub split : lines_of job ≡ map (λ t. t.line) told ++ lines_of rest
  pub fits : size ≤ length before
  pub few : count + length rest ≤ length job

module _ (i : ℕ) (n : Stage) (job before : List ℕ) where
  pub begins : Going i n n job job before before 0 0
  begins = record {
    told = [];
    gives = tt;
    stage = refl;
    lines = refl;
    bytes = refl;
    written = refl;
    split = refl;
    fits = omega arith;
    few = omega arith;
  }

  -- the next line was answered
  pub goes_on : (k m : Stage) (rest line behind now new : List ℕ) (lines bytes j end : ℕ) → Going i n k job rest before now lines bytes → lines_of rest ≡ line ∷ lines_of behind → length behind < length rest → j ≡ i + lines → AnswersLine line j k m now bytes (Some end) new → Going i n m job behind before new (lines + 1) end
  goes_on k m rest line behind now new lines bytes j end g s shorter number a =
      let t : Told = record { line = line; asked = a.asked; answer = a.answer; after = m } in
      let A = text_from i g.told in
      let B = answer_text (net_of m) j a.answer in
      let here : j ≡ i + length g.told = omega (arith, number, g.lines) in
      let text : text_from i (g.told ++ t ∷ []) ≡ A ++ B = text_more i g.told t ∙ ap (λ x. A ++ answer_text (net_of m) x a.answer) (sym here) in
      let (end_is, room, bytes_are) = a.puts in
      let at_end : bytes ≡ 0 + length A = omega (arith, g.bytes) in
      let P : Stage → Type 0 = λ x. LineGives x t in
      record {
        told = g.told ++ t ∷ [];
        gives = gives_more n g.told t g.gives (subst P g.stage (a.reads, a.follows));
        stage = sym (after_more n g.told t);
        lines = omega (arith, g.lines, length_push g.told t);
        bytes = omega (arith, end_is, g.bytes, ap length text, length-append A B);
        written =
            bytes_are
            ∙ ap (λ xs. put_at xs bytes B) g.written
            ∙ ap (λ x. put_at (put_at before 0 A) x B) at_end
            ∙ put_put before 0 A B (omega arith)
            ∙ ap (put_at before 0) (sym text);
        split =
            g.split
            ∙ ap (λ ls. map (λ (x : Told). x.line) g.told ++ ls) s
            ∙ sym (append_assoc (map (λ (x : Told). x.line) g.told) (line ∷ []) (lines_of behind))
            ∙ ap (λ ls. ls ++ lines_of behind) (sym (map_push (λ (x : Told). x.line) g.told t));
        fits = omega (arith, room, ap length g.written, length_put before 0 A (omega (arith, g.fits, g.bytes)));
        few = omega (arith, g.few, shorter);
      }

  -- the written bytes, and those behind them
  laid : (told : List Told) (now : List ℕ) (size : ℕ) → now ≡ put_at before 0 (text_from i told) → size ≡ length (text_from i told) → now ≡ text_from i told ++ drop size before
  laid told now size w e = w ∙ ap (λ k. text_from i told ++ drop k before) (omega (arith, e))

  -- the lines of the log are a run, under the guarantee
  ran : (laws : Laws n) (m : Stage) (told late : List Told) (now : List ℕ) (o : Outcome) → Gives n (told ++ late) → m ≡ stage_after n (told ++ late) → o.lines ≡ length told → o.bytes ≡ length (text_from i told) → now ≡ text_from i told ++ drop o.bytes before → o.bytes ≤ length before → Stops i job (length before) told late o.stopped → Ran i n m job before now o
  ran laws m told late now o g net l b w f s =
      record {
        told = told;
        late = late;
        gives = g;
        stage = net;
        lines = l;
        bytes = b;
        written = w;
        fits = f;
        stops = s;
        guarantee = λ some rest e new.
            let P : List Told → Type 0 = λ ts. Gives n ts in
            under n some laws new (gives_front n some rest (subst P (sym e) g));
      }

  -- no line is left
  pub ends : (laws : Laws n) (m : Stage) (rest now : List ℕ) (count size : ℕ) → Going i n m job rest before now count size → rest ≡ [] → Ran i n m job before now (record { lines = count; bytes = size; stopped = false })
  ends laws m rest now count size g e =
      let whole = sym (append-nil g.told) in
      let P : List Told → Type 0 = λ ts. Gives n ts in
      let lines : List (List ℕ) = map (λ (x : Told). x.line) g.told in
      ran laws m g.told [] now (record { lines = count; bytes = size; stopped = false }) (subst P whole g.gives) (g.stage ∙ ap (stage_after n) whole) g.lines g.bytes (laid g.told now size g.written g.bytes) g.fits
      (g.split ∙ ap (λ r. lines ++ lines_of r) e ∙ append-nil lines)

  -- the answer of the next line does not fit
  pub stops_at : (laws : Laws n) (k m : Stage) (rest line behind now new : List ℕ) (count size j : ℕ) → Going i n k job rest before now count size → lines_of rest ≡ line ∷ lines_of behind → j ≡ i + count → AnswersLine line j k m now size None new → Ran i n m job before new (record { lines = count; bytes = size; stopped = true })
  stops_at laws k m rest line behind now new count size j g s number a =
      let t : Told = record { line = line; asked = a.asked; answer = a.answer; after = m } in
      let A = text_from i g.told in
      let B = answer_text (net_of m) j a.answer in
      let here : j ≡ i + length g.told = omega (arith, number, g.lines) in
      let text : text_from i (g.told ++ t ∷ []) ≡ A ++ B = text_more i g.told t ∙ ap (λ x. A ++ answer_text (net_of m) x a.answer) (sym here) in
      let (full, same) = a.puts in
      let P : Stage → Type 0 = λ x. LineGives x t in
      let lines : List (List ℕ) = map (λ (x : Told). x.line) g.told in
      let long : length now ≡ length before = ap length g.written ∙ length_put before 0 A (omega (arith, g.fits, g.bytes)) in
      ran laws m g.told (t ∷ []) new (record { lines = count; bytes = size; stopped = true }) (gives_more n g.told t g.gives (subst P g.stage (a.reads, a.follows))) (sym (after_more n g.told t)) g.lines g.bytes (same ∙ laid g.told now size g.written g.bytes) g.fits
      (lines_of behind, g.split ∙ ap (λ ls. lines ++ ls) s, omega (arith, full, long, g.bytes, ap length text, length-append A B))

  stops_more : (told ts late : List Told) (rest : List (List ℕ)) (j : ℕ) (later : List ℕ) (room : ℕ) (b : Bool) → lines_of job ≡ map (λ (t : Told). t.line) told ++ lines_of later → j ≡ i + length told → room + length (text_from i told) ≡ length before → Stops j later room ts late b → Stops i job (length before) (told ++ ts) late b
  stops_more told ts [] rest j later room false s e l h = s ∙ ap (λ ls. map (λ (t : Told). t.line) told ++ ls) h ∙ sym (map-append (λ (t : Told). t.line) told ts)
  stops_more told ts (t ∷ []) rest j later room true s e l h =
      let lines : List Told → List (List ℕ) = λ xs. map (λ (x : Told). x.line) xs in
      let all : text_from i ((told ++ ts) ++ t ∷ []) ≡ text_from i told ++ text_from j (ts ++ t ∷ []) =
      ap (text_from i) (append_assoc told ts (t ∷ [])) ∙ text_both i told (ts ++ t ∷ []) ∙ ap (λ k. text_from i told ++ text_from k (ts ++ t ∷ [])) (sym e) in (
        h.0,
        s ∙ ap (λ ls. lines told ++ ls) h.1 ∙ sym (append_assoc (lines told) (lines ts) (t.line ∷ h.0)) ∙ ap (λ ls. ls ++ t.line ∷ h.0) (sym (map-append (λ (x : Told). x.line) told ts)),
        omega (arith, h.2, l, ap length all, length-append (text_from i told) (text_from j (ts ++ t ∷ []))),
      )
  stops_more told ts [] rest j later room true s e l h = elim h [ ]
  stops_more told ts (t ∷ []) rest j later room false s e l h = elim h [ ]
  stops_more told ts (t ∷ u ∷ us) rest j later room b s e l h = elim h [ ]

  -- a run of what is left, over the bytes behind those that are written
  pub goes_to_end : (laws : Laws n) (m s : Stage) (rest now after mid : List ℕ) (count size j : ℕ) (o : Outcome) → Going i n m job rest before now count size → j ≡ i + count → Ran j m s rest (drop size now) mid o → after ≡ take size now ++ mid → Ran i n s job before after (record { lines = count + o.lines; bytes = size + o.bytes; stopped = o.stopped })
  goes_to_end laws m s rest now after mid count size j o g number r w =
      let A = text_from i g.told in
      let B = text_from j r.told in
      let here : j ≡ i + length g.told = omega (arith, number, g.lines) in
      let text : text_from i (g.told ++ r.told) ≡ A ++ B = text_both i g.told r.told ∙ ap (λ k. A ++ text_from k r.told) (sym here) in
      let now_is = laid g.told now size g.written g.bytes in
      let front : take size now ≡ A = ap (take size) now_is ∙ take_at A (drop size before) size (sym g.bytes) in
      let tail : drop size now ≡ drop size before = ap (drop size) now_is ∙ drop_at A (drop size before) size (sym g.bytes) in
      let whole = sym (append_assoc g.told r.told r.late) in
      let P : List Told → Type 0 = λ ts. Gives n ts in
      let Q : Stage → Type 0 = λ x. Gives x (r.told ++ r.late) in
      let room : length (drop size now) + length A ≡ length before = omega (arith, ap length tail, length-drop size before, g.bytes, g.fits) in
      ran laws s (g.told ++ r.told) r.late after (record { lines = count + o.lines; bytes = size + o.bytes; stopped = o.stopped })
      (subst P whole (gives_both n g.told (r.told ++ r.late) g.gives (subst Q g.stage r.gives)))
      (r.stage ∙ ap (λ x. stage_after x (r.told ++ r.late)) g.stage ∙ sym (after_both n g.told (r.told ++ r.late)) ∙ ap (stage_after n) whole)
      (omega (arith, g.lines, r.lines, length-append g.told r.told))
      (omega (arith, g.bytes, r.bytes, ap length text, length-append A B))
      (w ∙ ap (λ xs. xs ++ mid) front ∙ ap (λ xs. A ++ xs) (r.written ∙ ap (λ xs. B ++ drop o.bytes xs) tail ∙ ap (λ xs. B ++ xs) (drop-drop o.bytes size before))
      ∙ sym (append_assoc A B (drop (size + o.bytes) before)) ∙ ap (λ xs. xs ++ drop (size + o.bytes) before) (sym text))
      (omega (arith, r.fits, g.fits, length-drop size now, ap length now_is, length-append A (drop size before), length-drop size before, g.bytes))
      (stops_more g.told r.told r.late (lines_of rest) j rest (length (drop size now)) o.stopped g.split here room r.stops)
