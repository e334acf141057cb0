-- What a seed holds. Assumes nothing.
use Rattle.std.specs.Prelude.{ℕ, ◌≤◌, List, length}
use Rattle.forest.specs.declared.Edge.{Edge}
use Rattle.forest.specs.Edges.{Sound}
use Rattle.seed.specs.declared.store.TheConstants.{NODES}

-- Nodes numbered from 0, at most NODES, and the edges between them in the order in which they were taken, of which none closes a loop.
pub record SeedValue : Type 0 where
  pub nodes : ℕ
  pub edges : List Edge
  pub few : nodes ≤ NODES
  pub fewer : length edges ≤ nodes
  pub sound : Sound nodes edges
