-- The share move: what it is, what it saves, and which is the best. `d` is how far apart two spots are, and `j o a b` is where the ways from o
-- to a and to b part. Assumes nothing.
use Rattle.std.specs.Prelude.{◌≡◌, ℕ, ◌<◌, Bool, List, length, nat_lt}
use Rattle.std.proofs.Common.{ap, ◌∙◌}
use Rattle.order.specs.Orders.{Order, then_by}
use Rattle.order.specs.Lexical.{by_lower, greater_then, lower_then, no_ties}
use Rattle.space.specs.declared.spot.Spot.{Spot}
use Rattle.tree_laws.specs.declared.Row.{Row}
use Rattle.tree_laws.specs.declared.share.Share.{Share}
use Rattle.tree_laws.specs.Trees.{Child, between, row_spot}

-- The greater saving first, then the lower v, then the lower a, then the lower b.
abbrev pub share_before : (x y : Share) → Bool
share_before x y = then_by y.saving x.saving (then_by x.v y.v (then_by x.a y.a (nat_lt x.b y.b)))

-- The meet of the two children, seen from v.
abbrev pub meet_of : List Row → (Spot → Spot → Spot → Spot) → Share → Spot
meet_of rows j m = j (row_spot rows m.v) (row_spot rows m.a) (row_spot rows m.b)

-- A move puts the meet of two children a < b of v between v and both. It saves the distance of v and the meet, 1 or more.
pub record ShareMove (rows : List Row) (d : Spot → Spot → ℕ) (j : Spot → Spot → Spot → Spot) (m : Share) : Type 0 where
  pub row : m.v < length rows
  pub first : Child rows m.v m.a
  pub second : Child rows m.v m.b
  pub order : m.a < m.b
  pub saves : m.saving ≡ d (row_spot rows m.v) (meet_of rows j m)
  pub counts : 0 < m.saving

-- The rows after a move: the meet between v and both children.
abbrev pub shared_by : List Row → (Spot → Spot → ℕ) → (Spot → Spot → Spot → Spot) → Share → List Row
shared_by rows d j m =
    between rows m.v (meet_of rows j m) (d (row_spot rows m.v) (meet_of rows j m)) m.a (d (meet_of rows j m) (row_spot rows m.a)) m.b (d (meet_of rows j m) (row_spot rows m.b))

-- ---- the order

abbrev sharing : ℕ → ℕ → ℕ → ℕ → Share
sharing s v a b = record { saving = s; v = v; a = a; b = b }

same_share : (x y : Share) → x.saving ≡ y.saving → x.v ≡ y.v → x.a ≡ y.a → x.b ≡ y.b → x ≡ y
same_share x y p q r s =
    ap (λ n. sharing n x.v x.a x.b) p ∙ ap (λ n. sharing y.saving n x.a x.b) q ∙ ap (λ n. sharing y.saving y.v n x.b) r ∙ ap (λ n. sharing y.saving y.v y.a n) s

-- The order of moves is total, so one alone is the best.
pub share_order : Order share_before
share_order =
    no_ties
    (greater_then (λ (m : Share). m.saving) (lower_then (λ (m : Share). m.v) (lower_then (λ (m : Share). m.a) (by_lower (λ (m : Share). m.b)))))
    (λ x y t. same_share x y t.0 t.1.0 t.1.1.0 t.1.1.1)
