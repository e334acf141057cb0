-- The walk cut into single steps: what is left to do at any moment. Assumes nothing.
use Rattle.std.specs.Prelude.{ℕ, ◌+◌, ◌*◌}
use Rattle.forest.specs.Rooted.{Forest, wire_of, size_of}
use Rattle.walk_laws.specs.Walk.{Rules, Marks, relax, walk}

-- The way back from a node to the driver: the node's parent v, the length of the edge to it, the children of v that are still to come, and the way back from v.
pub data Trail : Type 0 where
  arrived : Trail
  back : (v l : ℕ) (others : Forest) (rest : Trail) → Trail

-- What the walk still does once all below u is done.
unfoldable pub finish : Rules → ℕ → Trail → Marks → Marks
finish R u arrived S = S
finish R u (back v l others rest) S = finish R v rest (walk R v others (relax u v l S))

-- How many steps are left, and how far they go.
unfoldable pub steps_left : Trail → ℕ
steps_left arrived = 0
steps_left (back v l others rest) = 1 + 2 * size_of others + steps_left rest

unfoldable pub way_left : Trail → ℕ
way_left arrived = 0
way_left (back v l others rest) = l + 2 * wire_of others + way_left rest
