-- The edges of a seed are the branches of the forest that it is seen from the driver, and no others. Assumes accepted edges.
use Rattle.std.proofs.Common.{◌≡◌, ℕ, ◌<◌, ◌≤◌, ◌⊎◌, List, sym, refl, subst, inl, inr, ⊎_elim, arith}
use Rattle.std.proofs.lemmas.Bool.{cases_eq, cases_order}
use Rattle.forest.specs.declared.Edge.{Edge}
use Rattle.forest.specs.Edges.{Near, Sound}
use Rattle.forest.specs.Growth.{Grows, Planted}
use Rattle.forest.specs.Growth.Grows.{bare, grown}
use Rattle.forest.specs.Rooted.{Forest, In, here, under, beside}
use Rattle.forest.proofs.Accepted.{Accepted, accepted, near_other}
use Rattle.forest.proofs.Chains.{near_back}
use Rattle.forest.proofs.Nearest.{grows_only, near_length}
use Rattle.walk_laws.specs.Promise.{Branch, SeenFrom}
use Rattle.walk_laws.proofs.Planting.{branch_near}

module _ (n : ℕ) (E : List Edge) (a : Accepted n E) where
  -- a neighbour of v that is not the one it was entered from is a child of v
  near_child : {v w c : ℕ} {F : Forest} → Grows E v w c F → (x k : ℕ) → Near E v x k → c ≤ x → (x ≡ w → ⊥) → Branch v F v x k
  near_child (bare empty) x k near low other = absurd (empty x k near low other)
  near_child {v} {w} (grown {u = u} {l = l} least s t) x k near low other =
      ⊎_elim
      (λ (e : x ≡ u).
      let P : ℕ → Type 0 = λ z. Near E v z k in
      inl (refl, e, near_length a v u k l (subst P e near) least.near))
      (⊎_elim
      (λ (b : x < u). absurd (past x u b (least.least x k near low other)))
      (λ (b : u < x). inr (inr (near_child t x k near (omega arith) other))))
      (cases_order x u)
    where
      past : (x u : ℕ) → x < u → u ≤ x → ⊥
      past x u b h = omega arith

  -- a neighbour of a node of the forest is its parent or a child of it
  near_branch : {v w c : ℕ} {F : Forest} → Grows E v w c F → {y : ℕ} → In y F → (x k : ℕ) → Near E y x k → Branch v F y x k ⊎ Branch v F x y k
  near_branch (bare empty) i x k near = elim i [ ]
  near_branch {v} (grown {u = u} {l = l} least s t) here x k near =
      ⊎_elim
      (λ (e : x ≡ v).
      let P : ℕ → Type 0 = λ z. Near E u z k in
      inr (inl (e, refl, near_length a u v k l (subst P e near) (near_back least.near))))
      (λ (ne : x ≡ v → ⊥). inl (inr (inl (near_child s x k near (omega arith) ne))))
      (cases_eq x v)
  near_branch (grown least s t) (under i) x k near = ⊎_elim (λ b. inl (inr (inl b))) (λ b. inr (inr (inl b))) (near_branch s i x k near)
  near_branch (grown least s t) (beside i) x k near = ⊎_elim (λ b. inl (inr (inr b))) (λ b. inr (inr (inr b))) (near_branch t i x k near)

pub planted_seen : (n : ℕ) (E : List Edge) → Sound n E → (P : Planted n E) → SeenFrom n E P.forest
planted_seen n E s P =
    let a = accepted n E s in
    record {
      edges = branch_near P.grows;
      all_edges = λ u w l h near.
          ⊎_elim
          (λ (z : u ≡ 0).
          let Q : ℕ → Type 0 = λ x. Near E x w l in
          let B : ℕ → Type 0 = λ x. Branch 0 P.forest x w l in
          let from = subst Q z near in
          inl (subst B (sym z) (near_child n E a P.grows w l from (omega arith) (λ e. near_other a from (sym e)))))
          (λ (nz : u ≡ 0 → ⊥). near_branch n E a P.grows (P.all u h nz) w l near)
          (cases_eq u 0);
      only = λ G g. grows_only a g P.grows;
    }
