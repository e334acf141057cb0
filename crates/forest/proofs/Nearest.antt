-- The least neighbour is unique. Assumes nothing.
use Rattle.std.proofs.Common.{◌≡◌, ℕ, ◌+◌, ◌≤◌, List, Some, None, Option, sym, refl, ap, ◌∙◌, subst, ⊎_elim, arith}
use Rattle.forest.specs.declared.Edge.{Edge}
use Rattle.forest.specs.Edges.{Near, Joined}
use Rattle.forest.specs.Rooted.{Forest}
use Rattle.forest.specs.Rooted.Forest.{none, kid}
use Rattle.forest.specs.Growth.{Least, LeastOf, Grows, head_of}
use Rattle.forest.specs.Growth.Grows.{bare, grown}
use Rattle.forest.proofs.Chains.{Newly, near_none, near_back, near_cases, joined_one}
use Rattle.forest.proofs.Accepted.{Accepted}
use Rattle.forest.proofs.Accepted.Accepted.{start, more}

-- ---- there is one edge at most between two nodes, so the answer is what the forest begins with

not_both : (E : List Edge) (e : Edge) (u v l k : ℕ) → (Joined E e.a e.b → ⊥) → Near E u v l → Newly e u v k → ⊥
not_both E e u v l k new n m =
    ⊎_elim
    (λ (p : (e.a ≡ u) × (e.b ≡ v)).
    let P : ℕ → ℕ → Type 0 = λ x y. Near E x y l in
    new (joined_one (subst (λ x. P x e.b) (sym p.0) (subst (λ y. P u y) (sym p.1) n))))
    (λ (p : (e.a ≡ v) × (e.b ≡ u)).
    let P : ℕ → ℕ → Type 0 = λ x y. Near E x y l in
    new (joined_one (subst (λ x. P x e.b) (sym p.0) (subst (λ y. P v y) (sym p.1) (near_back n)))))
    m.0

pub near_length : {n : ℕ} {E : List Edge} → Accepted n E → (u v l k : ℕ) → Near E u v l → Near E u v k → l ≡ k
near_length start u v l k p q = absurd (near_none p)
near_length (more {E} {e} h f) u v l k p q =
    ⊎_elim
    (λ (i : Near E u v l).
    ⊎_elim
    (λ (j : Near E u v k). near_length h u v l k i j)
    (λ (j : Newly e u v k). absurd (not_both E e u v l k f.4 i j))
    (near_cases E e q))
    (λ (i : Newly e u v l).
    ⊎_elim
    (λ (j : Near E u v k). absurd (not_both E e u v k l f.4 j i))
    (λ (j : Newly e u v k). sym i.1 ∙ j.1)
    (near_cases E e q))
    (near_cases E e p)

pub least_unique : {n : ℕ} {E : List Edge} → Accepted n E → (v w c u l x k : ℕ) → Least E v w c u l → Least E v w c x k → (u ≡ x) × (l ≡ k)
least_unique {n} {E} a v w c u l x k p q =
    let below : u ≤ x = p.least x k q.near q.from q.other in
    let above : x ≤ u = q.least u l p.near p.from p.other in
    let e : u ≡ x = omega arith in
    let P : ℕ → Type 0 = λ z. Near E v z k in
    (e, near_length a v u l k p.near (subst P (sym e) q.near))

pub least_of_head : {n : ℕ} {E : List Edge} → Accepted n E → (v w c : ℕ) (F : Forest) (r : Option (ℕ × ℕ)) → Grows E v w c F → LeastOf E v w c r → r ≡ head_of F
least_of_head a v w c none None g h = refl
least_of_head a v w c none (Some p) (bare b) h = absurd (b p.0 p.1 h.near h.from h.other)
least_of_head a v w c (kid u l B R) None (grown k s t) h = absurd (h u l k.near k.from k.other)
least_of_head a v w c (kid u l B R) (Some p) (grown k s t) h =
    let q = least_unique a v w c p.0 p.1 u l h k in
    ap (λ x. Some (x, p.1)) q.0 ∙ ap (λ y. Some (u, y)) q.1

-- the edges seen from a node are one forest only
pub grows_only : {n : ℕ} {E : List Edge} → Accepted n E → {v w c : ℕ} {F G : Forest} → Grows E v w c F → Grows E v w c G → F ≡ G
grows_only a (bare p) (bare q) = refl
grows_only a (bare p) (grown {u} {l} k s t) = absurd (p u l k.near k.from k.other)
grows_only a (grown {u} {l} k s t) (bare q) = absurd (q u l k.near k.from k.other)
grows_only {n} {E} a {v} {w} {c} (grown {u} {l} {below} {others} k s t) (grown {u = x} {l = m} {below = lower} {others = rest} k' s' t') =
    let q = least_unique a v w c u l x m k k' in
    let P : ℕ → Type 0 = λ z. Grows E z v 0 lower in
    let Q : ℕ → Type 0 = λ z. Grows E v w (z + 1) rest in
    let one : below ≡ lower = grows_only a s (subst P (sym q.0) s') in
    let two : others ≡ rest = grows_only a t (subst Q (sym q.0) t') in
    ap (λ z. kid z l below others) q.0 ∙ ap (λ z. kid x z below others) q.1 ∙ ap (λ z. kid x m z others) one ∙ ap (λ z. kid x m lower z) two
