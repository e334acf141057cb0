-- The lines of a job, and the fields of a line. Assumes nothing.
use Rattle.std.specs.Prelude.{◌≡◌, ℕ, ◌<◌, slice_index, length, List, [], ◌∷◌, cond, ◌==◌, Option, Some, None}
use Rattle.std.specs.List.{slice_split}
use denote.Ref.{Bor}

-- A byte put before the first line; where there is none, it is a line.
abbrev pub onto_line : ℕ → List (List ℕ) → List (List ℕ)
onto_line b [] = (b ∷ []) ∷ []
onto_line b (l ∷ ls) = (b ∷ l) ∷ ls

-- The lines of a job, without their byte 10 at the end. The end of the job starts no line.
abbrev pub lines_of : List ℕ → List (List ℕ)
lines_of [] = []
lines_of (b ∷ bs) = cond (b == 10) ([] ∷ lines_of bs) (onto_line b (lines_of bs))

-- The fields of a line: its parts between commas (44).
abbrev pub fields_of : List ℕ → List (List ℕ)
fields_of line = slice_split (λ b. b == 44) line

-- The fields of what is behind a comma, if anything is.
abbrev pub fields_behind : Option (Bor (List ℕ)) → List (List ℕ)
fields_behind None = []
fields_behind (Some rest) = fields_of rest.now

-- The byte does not stand in the first n places.
abbrev pub Lacks : (byte : ℕ) → List ℕ → (n : ℕ) → Type 0
Lacks byte bytes n = (k : ℕ) → k < n → slice_index bytes k ≡ byte → ⊥

-- The byte stands first at the place i.
abbrev pub FirstAt : (byte : ℕ) → List ℕ → (i : ℕ) → Type 0
FirstAt byte bytes i = (i < length bytes) × (slice_index bytes i ≡ byte) × Lacks byte bytes i
