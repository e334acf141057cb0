-- How a tree takes a new row between a row and two of its children, row by row. Assumes nothing.
use Rattle.std.proofs.Common.{◌≡◌, ℕ, ◌<◌, ◌≤◌, List, length, None, Ok, Err, Result, sym, ap, ◌∙◌, subst, ⊎_elim, arith}
use Rattle.std.proofs.lemmas.Bool.{cases_lt}
use Rattle.std.specs.Result.{result_ok}
use Rattle.space.specs.declared.spot.Spot.{Spot}
use Rattle.tree_laws.specs.declared.Row.{Row}
use Rattle.tree_laws.specs.Trees.{Child, MayHang, add, hang}
use Rattle.tree_laws.proofs.Sharing.{first_hangs, second_hangs}
use Rattle.tree.specs.declared.table.HangFault.{HangFault}
use Rattle.tree.specs.declared.table.Tree.{Tree}
use Rattle.tree.specs.Tables.{Changed}
use Rattle.tree.proofs.Hooking.{changed_hangs}
use Rattle.tree_laws.specs.declared.share.Share.{Share}
use Rattle.tree_laws.specs.Shares.{ShareMove}
use Rattle.share.specs.Meets.{Insertable}

-- a row that has a child is a row
pub parent_row : (t : Tree) (v c : ℕ) → Child t.rows v c → v < length t.rows
parent_row t v c k = let P : ℕ → Type 0 = λ x. x < length t.rows in subst P k.parent (t.tree.parents c k.row)

-- a tree that has no room for the row of a move is full
pub full_table : (t : Tree) (d : Spot → Spot → ℕ) (j : Spot → Spot → Spot → Spot) (m : Share) → ShareMove t.rows d j m → (Insertable t.rows m.v m.a m.b → ⊥) → length t.rows ≡ 768
full_table t d j m q never =
    ⊎_elim
    (λ (h : length t.rows < 768). absurd (never (record { first = q.first; second = q.second; other = λ e. omega (arith, q.order, e); room = h })))
    (λ (h : 768 ≤ length t.rows). omega (arith, t.few))
    (cases_lt (length t.rows) 768)

module _ (t₀ : Tree) (d : Spot → Spot → ℕ) (j : Spot → Spot → Spot → Spot) (v a b : ℕ) (ca : Child t₀.rows v a) (cb : Child t₀.rows v b) (apart : a ≡ b → ⊥) (z : Spot) (l la lb : ℕ) where
  abbrev rows : List Row
  rows = t₀.rows

  abbrev n : ℕ
  n = length rows

  abbrev one : List Row
  one = add rows v z l

  abbrev two : List Row
  two = hang one a n la

  other : b ≡ a → ⊥
  other e = apart (sym e)

  one_hangs : MayHang one a n
  one_hangs = first_hangs t₀.tree v (parent_row t₀ v a ca) z l a la b lb ca cb other

  two_hangs : MayHang two b n
  two_hangs = second_hangs t₀.tree v (parent_row t₀ v a ca) z l a la b lb ca cb other

  -- a row is hung on the new one, where the tree is known
  hangs_on : (s : Tree) (xs : List Row) (c k l : ℕ) (r : Result (Unit {0}) HangFault) (t : Tree) → s.rows ≡ xs → k ≡ n → MayHang xs c n → l ≤ 100000000 → Changed s c k l r t → t.rows ≡ hang xs c n l
  hangs_on s xs c k l r t e f h short g =
      let P : List Row → Type 0 = λ ys. MayHang ys c n in
      let Q : ℕ → Type 0 = λ x. MayHang s.rows c x in
      changed_hangs s c k l r t g (subst Q (sym f) (subst P (sym e) h)) short ∙ ap (λ ys. hang ys c k l) e ∙ ap (λ x. hang xs c x l) f

  -- neither is refused
  never_refused : (s : Tree) (xs : List Row) (c k l : ℕ) (r : Result (Unit {0}) HangFault) (t : Tree) → s.rows ≡ xs → k ≡ n → MayHang xs c n → l ≤ 100000000 → Changed s c k l r t → result_ok r ≡ None → ⊥
  never_refused s xs c k l (Ok x) t p f h short g e = cc
  never_refused s xs c k l (Err x) t p f h short g e =
      let P : List Row → Type 0 = λ ys. MayHang ys c n in
      let Q : ℕ → Type 0 = λ x. MayHang s.rows c x in
      g.0 (subst Q (sym f) (subst P (sym p) h)) short

  pub one_never_refused : (t₁ t₂ : Tree) (k : ℕ) (x : Result (Unit {0}) HangFault) → la ≤ 100000000 → k ≡ n → t₁.rows ≡ one → Changed t₁ a k la x t₂ → result_ok x ≡ None → ⊥
  one_never_refused t₁ t₂ k x ha ek p g = never_refused t₁ one a k la x t₂ p ek one_hangs ha g

  pub two_never_refused : (t₁ t₂ t₃ : Tree) (k : ℕ) (x y : Result (Unit {0}) HangFault) → la ≤ 100000000 → lb ≤ 100000000 → k ≡ n → t₁.rows ≡ one → Changed t₁ a k la x t₂ → Changed t₂ b k lb y t₃ → result_ok y ≡ None → ⊥
  two_never_refused t₁ t₂ t₃ k x y ha hb ek p g h =
      never_refused t₂ two b k lb y t₃ (hangs_on t₁ one a k la x t₂ p ek one_hangs ha g) ek two_hangs hb h
