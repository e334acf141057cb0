-- The walks of the table. Assumes nothing.
use Rattle.std.proofs.Common.{◌≡◌, ℕ, zero, suc, ◌-◌, ◌<◌, List, length, get_or, ap, ◌∙◌, arith}
use Rattle.forest.specs.Edges.{Sound}
use Rattle.forest.specs.Growth.{Grows}
use Rattle.forest.specs.Rooted.{Forest}
use Rattle.forest.proofs.Accepted.{accepted}
use Rattle.forest.proofs.Labelled.{joined_label}
use Rattle.forest.proofs.Nearest.{grows_only}
use Rattle.built_spaces.specs.contracts.plane.PlaneSpace.TheImpl as planeSpace
use Rattle.space.specs.declared.spot.Spot.{Spot}
use Rattle.span.specs.Lengths.{pin_distance}
use Rattle.walk_laws.specs.Walk.{Mark, blank, start, walk}
use Rattle.cases.specs.Table.{PlaneWalks, chain, corner, fork, plane, rules, square}
use Rattle.cases.proofs.Chain.{chain_grows, links}

abbrev pub far : List Spot → ℕ → ℕ → ℕ
far pins = pin_distance planeSpace.ghosts plane pins

-- the walk over the one forest that the chain is
walks : (pins : List Spot) (p q : ℕ) (marks : List Mark) → Sound (length pins) (chain (far pins) (length pins - 1)) → ((v : ℕ) → v < length pins → walk (rules pins p q) 0 (links (far pins) 0 (length pins - 1)) start v ≡ get_or marks v blank) → PlaneWalks pins p q marks
walks pins p q marks s h =
    let n = length pins in
    let E = chain (far pins) (n - 1) in
    let walked : (F : Forest) → Grows E 0 0 0 F → (v : ℕ) → v < n → walk (rules pins p q) 0 F start v ≡ get_or marks v blank = λ F g v l.
    let only : F ≡ links (far pins) 0 (n - 1) = grows_only (accepted n E s) g (chain_grows (far pins) (n - 1)) in
    ap (λ G. walk (rules pins p q) 0 G start v) only ∙ h v l
    in
    record {
      seed = s;
      seen = (links (far pins) 0 (n - 1), chain_grows (far pins) (n - 1));
      walked = walked;
      call = λ S w v l. ap (λ T. T v) w.is ∙ walked w.planted.forest w.planted.grows v l;
    }

differ : (a b : ℕ) → a < b → a ≡ b → ⊥
differ a b l e = omega arith

past : (n k : ℕ) → n < 5 → suc (suc (suc (suc k))) < n → ⊥
past n k l h = omega arith

pub square_sound : Sound 4 (chain (far square) 3)
square_sound zero x h = (omega arith, omega arith, omega arith, omega arith, λ j. differ 0 1 (omega arith) (joined_label j))
square_sound (suc zero) x h = (omega arith, omega arith, omega arith, omega arith, λ j. differ 0 2 (omega arith) (joined_label j))
square_sound (suc (suc zero)) x h = (omega arith, omega arith, omega arith, omega arith, λ j. differ 0 3 (omega arith) (joined_label j))
square_sound (suc (suc (suc k))) x h = absurd (over k h)
  where
    over : (k : ℕ) → suc (suc (suc k)) < 3 → ⊥
    over k h = omega arith

pub fork_sound : Sound 4 (chain (far fork) 3)
fork_sound zero x h = (omega arith, omega arith, omega arith, omega arith, λ j. differ 0 1 (omega arith) (joined_label j))
fork_sound (suc zero) x h = (omega arith, omega arith, omega arith, omega arith, λ j. differ 0 2 (omega arith) (joined_label j))
fork_sound (suc (suc zero)) x h = (omega arith, omega arith, omega arith, omega arith, λ j. differ 0 3 (omega arith) (joined_label j))
fork_sound (suc (suc (suc k))) x h = absurd (over k h)
  where
    over : (k : ℕ) → suc (suc (suc k)) < 3 → ⊥
    over k h = omega arith

pub corner_sound : Sound 3 (chain (far corner) 2)
corner_sound zero x h = (omega arith, omega arith, omega arith, omega arith, λ j. differ 0 1 (omega arith) (joined_label j))
corner_sound (suc zero) x h = (omega arith, omega arith, omega arith, omega arith, λ j. differ 0 2 (omega arith) (joined_label j))
corner_sound (suc (suc k)) x h = absurd (over k h)
  where
    over : (k : ℕ) → suc (suc k) < 2 → ⊥
    over k h = omega arith

-- what holds of 0, 1, 2 (and 3) holds of every number below 3 (and 4)
below_3 : (P : ℕ → Type 0) → P 0 → P 1 → P 2 → (v : ℕ) → v < 3 → P v
below_3 P a b c zero h = a
below_3 P a b c (suc zero) h = b
below_3 P a b c (suc (suc zero)) h = c
below_3 P a b c (suc (suc (suc k))) h = absurd (over k h)
  where
    over : (k : ℕ) → suc (suc (suc k)) < 3 → ⊥
    over k h = omega arith

below_4 : (P : ℕ → Type 0) → P 0 → P 1 → P 2 → P 3 → (v : ℕ) → v < 4 → P v
below_4 P a b c d zero h = a
below_4 P a b c d (suc zero) h = b
below_4 P a b c d (suc (suc zero)) h = c
below_4 P a b c d (suc (suc (suc zero))) h = d
below_4 P a b c d (suc (suc (suc (suc k)))) h = absurd (over k h)
  where
    over : (k : ℕ) → suc (suc (suc (suc k))) < 4 → ⊥
    over k h = omega arith

abbrev Marked : List Spot → (p q : ℕ) → List Mark → ℕ → Type 0
Marked pins p q marks v = walk (rules pins p q) 0 (links (far pins) 0 (length pins - 1)) start v ≡ get_or marks v blank

pub square_walks : (p q : ℕ) (marks : List Mark) → Marked square p q marks 0 → Marked square p q marks 1 → Marked square p q marks 2 → Marked square p q marks 3 → PlaneWalks square p q marks
square_walks p q marks a b c d = walks square p q marks square_sound (below_4 (Marked square p q marks) a b c d)

pub fork_walks : (p q : ℕ) (marks : List Mark) → Marked fork p q marks 0 → Marked fork p q marks 1 → Marked fork p q marks 2 → Marked fork p q marks 3 → PlaneWalks fork p q marks
fork_walks p q marks a b c d = walks fork p q marks fork_sound (below_4 (Marked fork p q marks) a b c d)

pub corner_walks : (p q : ℕ) (marks : List Mark) → Marked corner p q marks 0 → Marked corner p q marks 1 → Marked corner p q marks 2 → PlaneWalks corner p q marks
corner_walks p q marks a b c = walks corner p q marks corner_sound (below_3 (Marked corner p q marks) a b c)
