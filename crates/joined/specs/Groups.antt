-- What is said of pairs in Pairs, of the members of a group, its tree and its space. Assumes nothing.
use Rattle.std.specs.Prelude.{ℕ, List, Option}
use Rattle.space.specs.declared.Space.{Ghosts}
use Rattle.space.specs.declared.Joining.{Ghosts as JoinGhosts}
use Rattle.space.specs.declared.spot.Spot.{Spot}
use Rattle.space.specs.Totals.{meet_or_start, capped_distance}
use Rattle.build_laws.specs.declared.pair.Pair.{Pair}
use Rattle.joined.specs.declared.partners.Change.{Change}
use Rattle.joined.specs.declared.partners.Group.{Group}
use Rattle.joined.specs.Pairs.{FirstPairs, FirstsOf, Lasting, NoFarther, Partner, PairsReady, PairRenewed, Stale}

-- How far the meet of two spots is from the driver's.
abbrev pub far_in : {X : Type 0} → (G : Ghosts X) → (J : JoinGhosts X) → Group X J G → (o a b : Spot) → ℕ
far_in G J g o a b = capped_distance G g.space.now o (meet_or_start G J g.space.now o a b)

-- p is a pair of b with a lower member.
abbrev pub PartnerIn : {X : Type 0} → (G : Ghosts X) → (J : JoinGhosts X) → Group X J G → (b : ℕ) → Pair → Type 0
PartnerIn G J g b p = Partner (capped_distance G g.space.now) (meet_or_start G J g.space.now) g.table.now.rows g.members.now b p

-- No pair of b with a lower member is farther than f.
abbrev pub NoneFarther : {X : Type 0} → (G : Ghosts X) → (J : JoinGhosts X) → Group X J G → (b f : ℕ) → Type 0
NoneFarther G J g b f = NoFarther (capped_distance G g.space.now) (meet_or_start G J g.space.now) g.table.now.rows g.members.now b f

-- F holds the first pair of each member that has a lower one, and nothing else.
abbrev pub FirstsIn : {X : Type 0} → (G : Ghosts X) → (J : JoinGhosts X) → Group X J G → List Pair → Type 0
FirstsIn G J g F = FirstPairs (capped_distance G g.space.now) (meet_or_start G J g.space.now) g.table.now.rows g.members.now F

-- What an old pair tells after a step.
abbrev pub StaleIn : {X : Type 0} → (G : Ghosts X) → (J : JoinGhosts X) → Group X J G → Change → Pair → Type 0
StaleIn G J g c old = Stale (capped_distance G g.space.now) (meet_or_start G J g.space.now) g.table.now.rows g.members.now c.a c.b old

-- The first pair of the member of an old pair, unless it has gone.
abbrev pub RenewedIn : {X : Type 0} → (G : Ghosts X) → (J : JoinGhosts X) → Group X J G → Change → Pair → Option Pair → Type 0
RenewedIn G J g c old new = PairRenewed (capped_distance G g.space.now) (meet_or_start G J g.space.now) g.table.now.rows g.members.now c.a c.b old new

-- The old pairs serve the group after a step.
abbrev pub ReadyIn : {X : Type 0} → (G : Ghosts X) → (J : JoinGhosts X) → Group X J G → Change → List Pair → Type 0
ReadyIn G J g c F = PairsReady (capped_distance G g.space.now) (meet_or_start G J g.space.now) g.table.now.rows g.members.now c.a c.b c.new F

-- F holds firsts after a step, those of the members of the old pairs that have not gone.
abbrev pub LastingIn : {X : Type 0} → (G : Ghosts X) → (J : JoinGhosts X) → Group X J G → Change → (olds F : List Pair) → Type 0
LastingIn G J g c olds F =
    FirstsOf (capped_distance G g.space.now) (meet_or_start G J g.space.now) g.table.now.rows g.members.now (Lasting (capped_distance G g.space.now) (meet_or_start G J g.space.now) c.a c.b olds) F
