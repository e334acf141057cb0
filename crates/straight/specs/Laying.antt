-- The rows that a plan lays. Assumes nothing.
use Rattle.std.specs.Prelude.{ℕ, List, length, slice_index}
use Rattle.space.specs.Spots.{spot_of}
use Rattle.walk.specs.Marks.{marks_of}
use Rattle.walk.specs.declared.table.Walk.{Walk}
use Rattle.space.specs.declared.spot.Spot.{Spot}
use Rattle.walk_laws.specs.Walk.{Rules}
use Rattle.tree_laws.specs.declared.Row.{Row}
use Rattle.build_laws.specs.Straight.{straight}

-- Nodes are laid by their direct distances alone, without pins.
abbrev pub laying_rules : (directs : List ℕ) → Rules
laying_rules directs = record { p = 0; q = 0; pins = 0; direct = slice_index directs }

-- The straight tree of the walk w, with a node at each of the spots.
abbrev pub planned : (w : Walk) → List Spot → List Row
planned w spots = straight (laying_rules w.directs) (marks_of w.marks) (spot_of spots) (length spots)
