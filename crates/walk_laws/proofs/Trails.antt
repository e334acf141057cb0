-- The walk by single steps. Assumes nothing.
use Rattle.std.proofs.Common.{◌≡◌, ℕ, ◌+◌, ◌*◌, ◌<◌, refl, arith}
use Rattle.forest.specs.Rooted.{Forest, none, kid, Ranked, wire_of, size_of}
use Rattle.walk_laws.specs.Walk.{Marks, Rules, relax, walk}
use Rattle.walk_laws.specs.Trail.{Trail, arrived, back, finish, steps_left, way_left}
use Rattle.walk_laws.proofs.Steps.{down}

-- One step down, to the next child.
pub finish_down : (R : Rules) (v u l : ℕ) (b o : Forest) (K : Trail) (S : Marks) →
    finish R v K (walk R v (kid u l b o) S) ≡ finish R u (back v l o K) (walk R u b (down R v u l S))
unfolding walk finish
finish_down R v u l b o K S = refl

-- One step up, where no child is left.
pub finish_up : (R : Rules) (v u l : ℕ) (o : Forest) (K : Trail) (S : Marks) →
    finish R u (back v l o K) (walk R u none S) ≡ finish R v K (walk R v o (relax u v l S))
unfolding walk finish
finish_up R v u l o K S = refl

-- At the start.
pub finish_start : (R : Rules) (v : ℕ) (F : Forest) (S : Marks) → finish R v arrived (walk R v F S) ≡ walk R v F S
unfolding finish
finish_start R v F S = refl

-- Each step leaves one fewer, and goes the length of its edge.
pub steps_down : (v u l : ℕ) (b o : Forest) (K : Trail) →
    steps_left K + 2 * size_of (kid u l b o) ≡ 1 + (steps_left (back v l o K) + 2 * size_of b)
unfolding steps_left
steps_down v u l b o K = omega arith

pub steps_up : (v l : ℕ) (o : Forest) (K : Trail) →
    steps_left (back v l o K) + 2 * size_of none ≡ 1 + (steps_left K + 2 * size_of o)
unfolding steps_left
steps_up v l o K = omega arith

pub way_down : (v u l : ℕ) (b o : Forest) (K : Trail) →
    way_left K + 2 * wire_of (kid u l b o) ≡ l + (way_left (back v l o K) + 2 * wire_of b)
unfolding way_left
way_down v u l b o K = omega arith

pub way_up : (v l : ℕ) (o : Forest) (K : Trail) →
    way_left (back v l o K) + 2 * wire_of none ≡ l + (way_left K + 2 * wire_of o)
unfolding way_left
way_up v l o K = omega arith

-- With no step left the walk is done.
pub steps_none : (R : Rules) (v : ℕ) (K : Trail) (F : Forest) (S : Marks) → steps_left K + 2 * size_of F ≡ 0 →
    finish R v K (walk R v F S) ≡ S
unfolding steps_left walk finish
steps_none R v arrived none S h = refl
steps_none R v arrived (kid u l b o) S h = absurd (omega arith)
steps_none R v (back w l o K) none S h = absurd (omega arith)
steps_none R v (back w l o K) (kid u k b p) S h = absurd (omega arith)

-- The place u with its way back K, while the next rank is lo: what is still to come along K has the ranks from lo to hi, and each node of K comes before the next.
abbrev pub Placed : (n : ℕ) (rank : ℕ → ℕ) (lo u : ℕ) → Trail → (hi : ℕ) → Type 0
Placed n rank lo u arrived hi = hi ≡ lo
Placed n rank lo u (back v l others rest) hi =
    (rank v < rank u) × ((mid : ℕ) × Ranked n rank lo others mid × Placed n rank mid v rest hi)

-- Both steps keep it.
pub placed_down : (n : ℕ) (rank : ℕ → ℕ) (lo mid hi v u l : ℕ) (b o : Forest) (K : Trail) → rank v < lo →
    (r : Ranked n rank lo (kid u l b o) mid) → Placed n rank mid v K hi →
    (rank u < lo + 1) × Ranked n rank (lo + 1) b r.2.0 × Placed n rank r.2.0 u (back v l o K) hi
placed_down n rank lo mid hi v u l b o K h r k =
    (omega (arith, r.1), r.2.1, (omega (arith, r.1), (mid, r.2.2, k)))

pub placed_up : (n : ℕ) (rank : ℕ → ℕ) (lo mid hi v u l : ℕ) (o : Forest) (K : Trail) → rank u < lo →
    Ranked n rank lo none mid → (k : Placed n rank mid u (back v l o K) hi) →
    (rank v < mid) × Ranked n rank mid o k.1.0 × Placed n rank k.1.0 v K hi
placed_up n rank lo mid hi v u l o K h r k = (omega (arith, k.0), k.1.1, k.1.2)

-- P of each step back along the trail: from a node to its parent, over an edge of some length, with the children still to come.
abbrev pub Along : (P : (u v l : ℕ) → Forest → Type 0) → ℕ → Trail → Type 0
Along P u arrived = Unit {0}
Along P u (back v l others rest) = P u v l others × Along P v rest

-- What keeps each step back between nodes that come before the rank m keeps a trail of such nodes.
pub along_map : (n : ℕ) (rank : ℕ → ℕ) (P Q : (u v l : ℕ) → Forest → Type 0) (m : ℕ) →
    ((u v l : ℕ) (o : Forest) → rank u < m → rank v < rank u → P u v l o → Q u v l o) →
    (u : ℕ) (K : Trail) (lo hi : ℕ) → rank u < m → Placed n rank lo u K hi → Along P u K → Along Q u K
along_map n rank P Q m f u arrived lo hi h k a = tt
along_map n rank P Q m f u (back v l o K) lo hi h k a =
    let g : rank v < m = omega (arith, k.0) in
    (f u v l o h k.0 a.0, along_map n rank P Q m f v K k.1.0 hi g k.1.2 a.1)
