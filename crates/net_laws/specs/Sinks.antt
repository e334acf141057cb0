-- The sinks of a tree with their figures. Assumes nothing.
use Rattle.std.specs.Prelude.{◌≡◌, ℕ, ◌<◌, List}
use Rattle.net_laws.specs.Readings.{figure_of}
use Rattle.net_laws.specs.States.{State}
use Rattle.net_laws.specs.declared.reading.Worst.{Worst}
use Rattle.space.specs.declared.spot.Spot.{Spot}
use Rattle.tree_laws.specs.declared.Row.{Row}

-- A sink with its figure.
pub record FiguredSink (d : Spot → Spot → ℕ) (n : State) (rows : List Row) (r : Worst) : Type 0 where
  pub later : 0 < r.pin
  pub pin : r.pin < n.pins
  pub figure : r.figure ≡ figure_of d n rows r.pin

-- The pin k as a sink.
abbrev pub FiguredSinkAt : (Spot → Spot → ℕ) → State → List Row → (k : ℕ) → Worst → Type 0
FiguredSinkAt d n rows k r = FiguredSink d n rows r × (r.pin ≡ k)
