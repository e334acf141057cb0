-- The formulas of two spaces that are not built in: a line, and a space as vast as one likes. Assumes nothing.
use Rattle.std.specs.Prelude.{ℕ, Bool, cond, ◌&&◌, pos, ◌==◌, nat_le, unsigned_abs}
use Rattle.built_spaces.specs.Shapes.{abs_diff, middle}
use Rattle.space.specs.declared.spot.Spot.{Spot}

-- Level 0, with x from -1,000 to 1,000 and any y.
abbrev pub is_on_line : Spot → Bool
is_on_line s = unsigned_abs s.level == 0 && nat_le (unsigned_abs s.x) 1000

abbrev pub line_between : Spot → Spot → ℕ
line_between a b = abs_diff a.x b.x

abbrev pub line_meeting : Spot → Spot → Spot → Spot
line_meeting o a b = record { x = middle o.x a.x b.x; y = o.y; level = pos 0 }

abbrev pub vast_between : (far : ℕ) → Spot → Spot → ℕ
vast_between far a b = cond (abs_diff a.x b.x == 0) 0 far
