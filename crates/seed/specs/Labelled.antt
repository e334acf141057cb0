-- The labels that a seed keeps for its nodes. Assumes nothing.
use Rattle.std.specs.Prelude.{◌≡◌, ℕ, ◌<◌, List, length, slice_index}
use Rattle.forest.specs.declared.Edge.{Edge}
use Rattle.forest.specs.Labels.{label_of}

-- The list has a label for each node, from node 0 on, by these edges: nodes that the edges join have equal labels, and other nodes have not.
abbrev pub Labelled : List Edge → List ℕ → Type 0
Labelled E xs = (v : ℕ) → v < length xs → slice_index xs v ≡ label_of E v
