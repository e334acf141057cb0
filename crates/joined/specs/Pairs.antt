-- Pairs of members of a group of rows on the driver, and the first pair of each member. `d` is the distance of two spots, and `j o a b` the meet
-- of a and b seen from o. Assumes nothing.
use Rattle.std.specs.Prelude.{◌≡◌, ℕ, ◌<◌, ◌≤◌, ◌⊎◌, List, length, Some, None, Option, ◌≢◌, slice_index}
use Rattle.order.specs.Firsts.{Among}
use Rattle.space.specs.declared.spot.Spot.{Spot}
use Rattle.tree_laws.specs.declared.Row.{Row}
use Rattle.order.specs.Bests.{BestOf}
use Rattle.tree.specs.declared.table.TheConstants.{ROWS}
use Rattle.build_laws.specs.Joining.{PairOf, far_of}
use Rattle.build_laws.specs.declared.pair.Pair.{Pair}
use Rattle.build_laws.specs.Pairs.{pair_before}

module _ (d : Spot → Spot → ℕ) (j : Spot → Spot → Spot → Spot) where
  -- The pair of two rows.
  abbrev pub pair_of : List Row → (a b : ℕ) → Pair
  pair_of rows a b = record { far = far_of d j rows a b; a = a; b = b }

  -- p is a pair of members.
  pub record PairIn (rows : List Row) (group : List ℕ) (p : Pair) : Type 0 where
    pub pair : PairOf d j group p.a p.b
    pub long : p.far ≡ far_of d j rows p.a p.b

  -- p is a pair of b with a lower member.
  pub record Partner (rows : List Row) (group : List ℕ) (b : ℕ) (p : Pair) : Type 0 where
    pub member : Among p.a group
    pub lower : p.a < b
    pub second : p.b ≡ b
    pub long : p.far ≡ far_of d j rows p.a p.b

  -- p is the pair of b with the member at the place i, where that is lower.
  pub record PartnerAt (rows : List Row) (group : List ℕ) (b i : ℕ) (p : Pair) : Type 0 where
    pub place : i < length group
    pub member : p.a ≡ slice_index group i
    pub lower : p.a < b
    pub is : p ≡ pair_of rows p.a b

  -- No pair of b with a lower member is farther than f.
  abbrev pub NoFarther : List Row → List ℕ → (b f : ℕ) → Type 0
  NoFarther rows group b f = (p : Pair) → Partner rows group b p → p.far ≤ f

  -- p is the first of the pairs of a member with lower ones.
  pub record Held (rows : List Row) (group : List ℕ) (p : Pair) : Type 0 where
    pub member : Among p.b group
    pub best : BestOf pair_before (Partner rows group p.b) (Some p)

  -- F holds firsts only, and the first pair of each number that has B.
  pub record FirstsOf (rows : List Row) (group : List ℕ) (B : ℕ → Type 0) (F : List Pair) : Type 0 where
    pub each : (p : Pair) → Among p F → Held rows group p
    pub all : (b : ℕ) → B b → (p : Pair) → Partner rows group b p → (w : Pair) × Among w F × (w.b ≡ b)

  -- F holds the first pair of each member that has a lower one, and nothing else.
  abbrev pub FirstPairs : List Row → List ℕ → List Pair → Type 0
  FirstPairs rows group F = FirstsOf rows group (λ b. Among b group) F

  -- ---- a and b have gone from the group

  -- The first pair of a member is still that where neither of the two has gone, and no pair of a member that is left is farther than its old one.
  pub record Stale (rows : List Row) (group : List ℕ) (a b : ℕ) (old : Pair) : Type 0 where
    pub member : (old.b ≢ a) → (old.b ≢ b) → Among old.b group
    pub stays : (old.b ≢ a) → (old.b ≢ b) → (old.a ≢ a) → (old.a ≢ b) → BestOf pair_before (Partner rows group old.b) (Some old)
    pub near : (old.b ≢ a) → (old.b ≢ b) → NoFarther rows group old.b old.far

  -- The first pair of the member of an old pair, unless it has gone.
  abbrev pub PairRenewed : List Row → List ℕ → (a b : ℕ) → Pair → Option Pair → Type 0
  PairRenewed rows group a b old None = (old.b ≢ a) → (old.b ≢ b) → (p : Pair) → Partner rows group old.b p → ⊥
  PairRenewed rows group a b old (Some w) = Held rows group w × (w.b ≡ old.b)

  -- A number that has an old pair and has not gone.
  abbrev pub Lasting : (a b : ℕ) → List Pair → ℕ → Type 0
  Lasting a b F x = (old : Pair) × Among old F × (old.b ≡ x) × (x ≢ a) × (x ≢ b)

  -- The old pairs F serve the group in which `new` has come for a and b.
  pub record PairsReady (rows : List Row) (group : List ℕ) (a b new : ℕ) (F : List Pair) : Type 0 where
    pub stale : (old : Pair) → Among old F → Stale rows group a b old
    pub member : Among new group
    pub all : (x : ℕ) → Among x group → (p : Pair) → Partner rows group x p → (x ≡ new) ⊎ Lasting a b F x
    pub few : length F < ROWS
