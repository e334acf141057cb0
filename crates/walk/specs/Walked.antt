-- What a walk over a seed leaves in the rows. Assumes nothing.
use Rattle.std.specs.Prelude.{◌≡◌, ℕ, List, length, slice_index}
use Rattle.forest.specs.declared.Edge.{Edge}
use Rattle.forest.specs.Growth.{Planted}
use Rattle.walk_laws.specs.Walk as laws
use Rattle.walk_laws.specs.Promise.{WalkGuarantee, SeenFrom}
use Rattle.walk.specs.declared.row.NodeRow.{NodeRow}
use Rattle.seed.specs.declared.store.Seed.{Seed}
use Rattle.walk.specs.declared.allowance.Allowance.{Allowance}
use Rattle.walk.specs.declared.row.Mark.{Mark}
use Rattle.walk.specs.Marks.{directs, froms, marks, marks_of, nexts}

-- Rows that no walk has touched yet, one for each of n nodes.
pub record Ready (n : ℕ) (rows : List NodeRow) : Type 0 where
  pub count : length rows ≡ n
  pub fresh : marks rows ≡ laws.start
  pub from : froms rows 0 ≡ 0
  pub next : nexts rows 0 ≡ 0

-- The edges E over n nodes are a tree seen from node 0, and S is what the walk over it gives, with all that this guarantees.
pub record Walked (R : laws.Rules) (n : ℕ) (E : List Edge) (S : laws.Marks) : Type 0 where
  pub planted : Planted n E
  pub seen : SeenFrom n E planted.forest
  pub is : S ≡ laws.walk R 0 planted.forest laws.start
  pub keeps : WalkGuarantee R n planted.forest S

-- The rules of a walk over nodes with these direct distances.
abbrev pub rules_in : Allowance → (pins : ℕ) → (directs : List ℕ) → laws.Rules
rules_in a pins directs = record { p = a.p; q = a.q; pins = pins; direct = slice_index directs }

-- The marks are what the walk over the seed s gives.
abbrev pub WalkedOver : laws.Rules → (s : Seed) → List Mark → Type 0
WalkedOver R s marks = Walked R s.nodes s.edges (marks_of marks)

-- The rows are as many as before, and their direct distances are what they were.
pub record DirectsKept (rows rows' : List NodeRow) : Type 0 where
  pub count : length rows' ≡ length rows
  pub direct : (k : ℕ) → directs rows' k ≡ directs rows k
