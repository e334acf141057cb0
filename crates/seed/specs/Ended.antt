-- The ends that a seed keeps of its edges. Assumes nothing.
use Rattle.std.specs.Prelude.{◌≡◌, ℕ, ◌+◌, ◌*◌, ◌⊎◌, List, Contains}
use Rattle.forest.specs.declared.Edge.{Edge}
use Rattle.forest.specs.Edges.{Near}
use Rattle.seed.specs.declared.end.End.{End}
use Rattle.seed.specs.declared.end.TheConstants.{ROW}

-- Where the ends at v that lead to u stand: by v first, and then by u.
abbrev pub place : (v u : ℕ) → ℕ
place v u = v * ROW + u

abbrev pub place_of : End → ℕ
place_of e = place e.node e.across

-- The ends M are the ends L and one more, x.
pub record OneEndMore (L : List End) (x : End) (M : List End) : Type 0 where
  pub kept : (e : End) → Contains L e → Contains M e
  pub added : Contains M x
  pub only : (e : End) → Contains M e → Contains L e ⊎ (e ≡ x)

-- The end at v of an edge of length l that leads to u.
abbrev pub IsEnd : (v u l : ℕ) → End → Type 0
IsEnd v u l e = (e.node ≡ v) × (e.across ≡ u) × (e.length ≡ l)

-- The ends are those of the edges: there is an end exactly where an edge joins its nodes, with the length of that edge.
pub record Listed (E : List Edge) (L : List End) : Type 0 where
  pub within : (e : End) → Contains L e → Near E e.node e.across e.length
  pub all : (v u l : ℕ) → Near E v u l → (e : End) × Contains L e × IsEnd v u l e
