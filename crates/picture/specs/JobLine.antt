-- What a line of a job asks, as far as a picture depends on it. Assumes nothing.
use Rattle.std.specs.Prelude.{ℕ, Bool, List, [], ◌∷◌, ◌==◌, ◌||◌, if◌then◌else◌, ◌-◌, nat_eq, codes, slice_get, unwrap_or}
use Rattle.std.specs.List.{starts_with}
use Rattle.picture.specs.declared.job.SpaceWord.{SpaceWord}
use Rattle.picture.specs.declared.job.SpaceWord.TheVariants.{Air, Plane}
use Rattle.picture.specs.declared.job.JobLine.{JobLine}
use Rattle.picture.specs.declared.job.JobLine.TheVariants.{Net, Pin, Steiner, Seed, Change, Worst, Table, Other}

-- Air where the text begins with ",air", else plane.
abbrev pub space_of : List ℕ → SpaceWord
space_of word = if starts_with nat_eq word (codes ",air") then Air else Plane

-- Whether a letter is A, E, D, J, H or S.
abbrev pub is_change : ℕ → Bool
is_change c = (c == 65) || (c == 69) || (c == 68) || (c == 74) || (c == 72) || (c == 83)

-- The line of a letter: W, P, V, U or M, another change, X, T, or none.
abbrev pub letter_line : ℕ → List ℕ → JobLine
letter_line c word =
    if c == 87 then Net (space_of word) else
    (if c == 80 then Pin else
    (if c == 86 then Steiner else
    (if (c == 85) || (c == 77) then Seed else
    (if is_change c then Change else
    (if c == 88 then Worst else
    (if c == 84 then Table else Other))))))

-- What a line asks.
abbrev pub job_line_of : List ℕ → JobLine
job_line_of [] = Other
job_line_of (c ∷ word) = letter_line c word

-- What is asked on a line, counted from 1.
abbrev pub job_line_on : List JobLine → ℕ → JobLine
job_line_on lines line = if line == 0 then Other else unwrap_or (slice_get lines (line - 1)) Other
