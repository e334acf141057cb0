-- The search for the best hook move. Assumes nothing.
use Rattle.std.specs.Prelude.{◌≡◌, ℕ, ◌+◌, ◌<◌, ◌≤◌, Bool, true, false, cond, ◌⊎◌, List, length, nat_lt, suc, zero}
use Rattle.order.specs.Firsts.{Among}
use Rattle.space.specs.declared.Space.{Ghosts}
use Rattle.tree_laws.specs.declared.hook.Hook.{Hook}
use Rattle.tree_laws.specs.Distances.{capped_row_distance}
use Rattle.tree_laws.specs.Hooks.{HookMove, hook_before}
use Rattle.tree_laws.specs.Trees.{path_length, row_length, row_spot}
use Rattle.tree_laws.specs.declared.Row.{Row}
use Rattle.tree.specs.declared.refining.Hanging.{Hanging}
use Rattle.tree.specs.declared.refining.HookSearch.{HookSearch}

-- A move of the tree that is searched.
abbrev pub HookMoveIn : {X : Type 0} → (G : Ghosts X) → HookSearch X G → Hook → Type 0
HookMoveIn G q = HookMove q.table.now.rows (capped_row_distance G q.space.now q.table.now.rows)

-- A move of the row v that saves `floor` or more.
abbrev pub HookMoveOf : {X : Type 0} → (G : Ghosts X) → HookSearch X G → (v floor : ℕ) → Hook → Type 0
HookMoveOf G q v floor m = HookMoveIn G q m × (m.v ≡ v) × (floor ≤ m.saving)

-- The same on u.
abbrev pub HookMoveAt : {X : Type 0} → (G : Ghosts X) → HookSearch X G → Hanging → (u : ℕ) → Hook → Type 0
HookMoveAt G q h u m = HookMoveOf G q h.v h.floor m × (m.u ≡ u)

-- The row whose moves are asked for is a row of the tree, and at least as long as they save.
pub record HangsIn {X : Type 0} (G : Ghosts X) (q : HookSearch X G) (h : Hanging) : Type 0 where
  pub row : h.v < length q.table.now.rows
  pub spot : h.spot ≡ row_spot q.table.now.rows h.v
  pub long : h.length ≡ row_length q.table.now.rows h.v
  pub path : h.path ≡ path_length q.table.now.rows h.v
  pub some : 0 < h.floor
  pub more : h.floor ≤ h.length

-- F are moves, and the floor is 1 or what one of them saves.
pub record Firsts {X : Type 0} (G : Ghosts X) (q : HookSearch X G) (F : List Hook) (floor : ℕ) : Type 0 where
  pub within : (m : Hook) → Among m F → HookMoveIn G q m
  pub low : (floor ≡ 1) ⊎ ((w : Hook) × Among w F × (w.saving ≡ floor))

-- Each move of the row k has one among F that it does not precede.
abbrev pub Done : {X : Type 0} → (G : Ghosts X) → HookSearch X G → List Hook → ℕ → Type 0
Done G q F k = (m : Hook) → HookMoveIn G q m → m.v ≡ k → (w : Hook) × Among w F × (hook_before m w ≡ false)

-- From the firsts E to F the rows longer than `half`, or the others, were looked at; those that were before still are.
pub record Looked {X : Type 0} (G : Ghosts X) (q : HookSearch X G) (long : Bool) (half : ℕ) (E F : List Hook) : Type 0 where
  pub rows : (k : ℕ) → k < length q.table.now.rows → nat_lt half (row_length q.table.now.rows k) ≡ long → Done G q F k
  pub kept : (k : ℕ) → Done G q E k → Done G q F k

-- How many of the first n rows are longer than `half`, or are not.
abbrev pub looked_at : List Row → (half : ℕ) (long : Bool) (n : ℕ) → ℕ
looked_at rows half long zero = 0
looked_at rows half true (suc n) = looked_at rows half true n + cond (nat_lt half (row_length rows n)) 1 0
looked_at rows half false (suc n) = looked_at rows half false n + cond (nat_lt half (row_length rows n)) 0 1
