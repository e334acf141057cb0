-- The walk over a seed rooted at the driver, node 0: what it marks at each node. Assumes nothing; an absent estimate offers nothing.
use Rattle.std.specs.Prelude.{ℕ, ◌+◌, ◌*◌, ◌≤◌, Bool, true, false, cond, ◌&&◌, Some, None, Option, ◌==◌, nat_lt}
use Rattle.forest.specs.Rooted.{Forest, none, kid}

-- What the walk knows of a node: its estimate, if it has one, its parent, the length of the edge to that parent, and whether it is a breakpoint.
pub record Mark : Type 0 where
  pub est : Option ℕ
  pub parent : ℕ
  pub edge : ℕ
  pub broken : Bool

abbrev pub Marks : Type 0
Marks = ℕ → Mark

-- What p and q of an allowance are.
abbrev pub LawfulAllowance : (p q : ℕ) → Type 0
LawfulAllowance p q = (p ≤ 1000) × (1 ≤ q) × (q ≤ 1000)

-- The allowance p/q, how many nodes are pins (the nodes from there on are Steiner points), and each node's distance from the driver.
pub record Rules : Type 0 where
  pub p : ℕ
  pub q : ℕ
  pub pins : ℕ
  pub direct : ℕ → ℕ

-- A sink is a pin other than the driver.
abbrev pub is_a_sink : Rules → ℕ → Bool
is_a_sink R v = nat_lt 0 v && nat_lt v R.pins

-- A node with its parent, its edge to that parent and its estimate.
abbrev pub hung : (u l e : ℕ) → Bool → Mark
hung u l e b = record { est = Some e; parent = u; edge = l; broken = b }

-- A node that the walk has not reached, and the driver.
abbrev pub blank : Mark
blank = record { est = None; parent = 0; edge = 0; broken = false }

abbrev pub home : Mark
home = hung 0 0 0 false

abbrev pub start : Marks
start v = cond (v == 0) home blank

-- The marks S, with the mark m at the node v.
abbrev pub put : Marks → ℕ → Mark → Marks
put S v m x = cond (x == v) m (S x)

-- The node with mark m is offered the estimate e by u, over an edge of length l. It takes a smaller one, or an equal one over a shorter edge.
abbrev pub offered_at : (u l e f : ℕ) → Mark → Mark
offered_at u l e f m =
    cond (nat_lt e f) (hung u l e m.broken) (cond (e == f && nat_lt l m.edge) (hung u l f m.broken) m)

abbrev pub offered : (u l e : ℕ) → Option ℕ → Mark → Mark
offered u l e None m = hung u l e m.broken
offered u l e (Some f) m = offered_at u l e f m

abbrev pub relaxed : (u l : ℕ) → Option ℕ → Mark → Mark
relaxed u l None m = m
relaxed u l (Some e) m = offered u l (e + l) m.est m

-- The node u relaxes the node v over their edge of length l.
abbrev pub relax : (u v l : ℕ) → Marks → Marks
relax u v l S = put S v (relaxed u l (S u).est (S v))

-- The node v is entered: a sink whose estimate is above the allowance becomes a breakpoint, at its distance from the driver.
abbrev pub entered : Rules → ℕ → Option ℕ → Mark → Mark
entered R v None m = m
entered R v (Some e) m =
    cond
    (is_a_sink R v && nat_lt ((R.p + R.q) * R.direct v) (R.q * e))
    (hung m.parent m.edge (R.direct v) true)
    m

abbrev pub enter : Rules → ℕ → Marks → Marks
enter R v S = put S v (entered R v (S v).est (S v))

-- The walk below v: each child in turn is relaxed from v and entered, the walk goes on below it, and on the way back it relaxes v.
unfoldable pub walk : Rules → ℕ → Forest → Marks → Marks
walk R v none S = S
walk R v (kid u l below others) S = walk R v others (relax u v l (walk R u below (enter R u (relax v u l S))))
