-- A label for each node, equal exactly for nodes that the edges join: each edge in turn gives the nodes labelled as its one end the label of the other. Assumes nothing.
use Rattle.std.specs.Prelude.{ℕ, cond, List, [], ◌∷◌, ◌==◌}
use Rattle.forest.specs.declared.Edge.{Edge}

-- The labels f after one more edge.
abbrev pub merged : (ℕ → ℕ) → Edge → ℕ → ℕ
merged f e v = cond (f v == f e.b) (f e.a) (f v)

abbrev pub labels_from : (ℕ → ℕ) → List Edge → ℕ → ℕ
labels_from f [] v = f v
labels_from f (e ∷ E) v = labels_from (merged f e) E v

-- Without edges each node is its own label.
abbrev pub label_of : List Edge → ℕ → ℕ
label_of E v = labels_from (λ x. x) E v
