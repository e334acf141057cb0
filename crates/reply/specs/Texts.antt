-- What each answer is as text. Assumes nothing.
use Rattle.std.specs.Prelude.{ℕ, suc, List, [], ◌∷◌, ◌++◌, codes, decimal, Ok, Err, Result, Some, None, Option}
use Rattle.std.specs.Fmt.{signed_decimal}
use Rattle.tree_laws.specs.declared.Row.{Row}
use Rattle.net_laws.specs.Faults.{layer_of, number_of}
use Rattle.net_laws.specs.States.{State}
use Rattle.net_laws.specs.declared.fault.Layer.{Layer}
use Rattle.net_laws.specs.declared.fault.Layer.TheVariants as layer
use Rattle.request.specs.declared.fault.TextFault.{TextFault}
use Rattle.request.specs.declared.fault.TextFault.TheVariants.{LongLine, NoLetter, WrongFields, BadField, OutOfPlace, NoCall, Net}
use Rattle.reply.specs.declared.reply.Reply.{Reply}
use Rattle.reply.specs.declared.reply.Reply.TheVariants.{Number, Path, Worst, Rows}

-- ---- refusals

-- What a refusal tells: whose it is, as a letter (s the space, n the net, t the text), its number, and the field that it names, or 0.
pub record Refused : Type 0 where
  pub layer : List ℕ
  pub number : ℕ
  pub field : ℕ

abbrev pub layer_letter : Layer → List ℕ
layer_letter layer.Space = codes "s"
layer_letter layer.Net = codes "n"

abbrev pub refused_as : TextFault → Refused
refused_as LongLine = record { layer = codes "t"; number = 20; field = 0 }
refused_as NoLetter = record { layer = codes "t"; number = 21; field = 0 }
refused_as WrongFields = record { layer = codes "t"; number = 22; field = 0 }
refused_as (BadField f) = record { layer = codes "t"; number = 23; field = f }
refused_as OutOfPlace = record { layer = codes "t"; number = 24; field = 0 }
refused_as NoCall = record { layer = codes "t"; number = 25; field = 0 }
refused_as (Net e) = record { layer = layer_letter (layer_of e); number = number_of e; field = 0 }

-- ---- values

-- The values of each accepted line.
abbrev pub values_of : Reply → List ℕ
values_of (Number v) = v ∷ []
values_of (Path r) = r.path ∷ r.direct ∷ []
values_of (Worst w) = w.pin ∷ w.figure ∷ []
values_of (Rows count) = count ∷ []

-- ---- lines

abbrev pub comma : List ℕ → List ℕ
comma text = codes "," ++ text

abbrev pub values_text : List ℕ → List ℕ
values_text [] = []
values_text (v ∷ []) = comma (decimal v)
values_text (v ∷ w ∷ vs) = comma (decimal v) ++ values_text (w ∷ vs)

abbrev pub ok_text : (i : ℕ) → List ℕ → List ℕ
ok_text i values = codes "ok" ++ comma (decimal i) ++ values_text values ++ codes "\n"

abbrev pub no_text : (i : ℕ) → Refused → List ℕ
no_text i r = codes "no" ++ comma (decimal i) ++ comma r.layer ++ comma (decimal r.number) ++ comma (decimal r.field) ++ codes "\n"

-- The last line of the answer of line i.
abbrev pub last_text : (i : ℕ) → Result Reply TextFault → List ℕ
last_text i (Ok r) = ok_text i (values_of r)
last_text i (Err e) = no_text i (refused_as e)

abbrev pub row_text : (k : ℕ) → Row → List ℕ
row_text k r =
    codes "N" ++ comma (decimal k) ++ comma (decimal r.parent) ++ comma (signed_decimal r.spot.x) ++ comma (signed_decimal r.spot.y)
    ++ comma (signed_decimal r.spot.level) ++ comma (decimal r.length) ++ codes "\n"

-- The lines of the rows from the number k on.
abbrev pub rows_text : (k : ℕ) → List Row → List ℕ
rows_text k [] = []
rows_text k (r ∷ rs) = row_text k r ++ rows_text (suc k) rs

abbrev pub rows_in : Option (List Row) → List Row
rows_in None = []
rows_in (Some rows) = rows

-- The lines of the rows, where the answer counts rows: they are those of the net n.
abbrev pub table_text : State → Result Reply TextFault → List ℕ
table_text n (Ok (Rows count)) = rows_text 0 (rows_in n.tree)
table_text n (Ok (Number v)) = []
table_text n (Ok (Path r)) = []
table_text n (Ok (Worst w)) = []
table_text n (Err e) = []

-- The whole answer of line i, which left the net n.
abbrev pub answer_text : State → (i : ℕ) → Result Reply TextFault → List ℕ
answer_text n i r = table_text n r ++ last_text i r
