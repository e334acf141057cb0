-- Sound edges that are planted are a seed that spans the nodes, with edges of 1 to 100,000,000. Assumes nothing more.
use Rattle.std.proofs.Common.{ℕ, ◌*◌, ◌<◌, ◌≤◌, List, sym, subst, inl, inr, arith}
use Rattle.forest.specs.declared.Edge.{Edge}
use Rattle.forest.specs.Edges.{Near, Sound}
use Rattle.forest.specs.Growth.{Grows, Planted}
use Rattle.forest.specs.Growth.Grows.{bare, grown}
use Rattle.forest.specs.Rooted.{Forest, wire_of}
use Rattle.forest.proofs.Accepted.{accepted, accepted_good}
use Rattle.walk_laws.specs.Promise.{Branch, RootedTree}
use Rattle.walk_laws.proofs.Bounds.{way_fits}

-- Each branch is an edge.
pub branch_near : {E : List Edge} {v w c : ℕ} {F : Forest} → Grows E v w c F → (x u l : ℕ) → Branch v F x u l → Near E x u l
branch_near (bare h) x u l b = absurd b
branch_near {E} (grown {v = v} {u = d} {l = k} near below others) x u l (inl b) =
    let P : ℕ → Type 0 = λ z. Near E z d k in
    let Q : ℕ → Type 0 = λ z. Near E x z k in
    let T : ℕ → Type 0 = λ z. Near E x u z in
    subst T (sym b.2) (subst Q (sym b.1) (subst P (sym b.0) near.near))
branch_near (grown near below others) x u l (inr (inl b)) = branch_near below x u l b
branch_near (grown near below others) x u l (inr (inr b)) = branch_near others x u l b

module _ (n : ℕ) (E : List Edge) (s : Sound n E) (P : Planted n E) where
  pub branch_length : (x u l : ℕ) → Branch 0 P.forest x u l → (0 < l) × (l ≤ 100000000)
  branch_length x u l b =
      let near : Near E x u l = branch_near P.grows x u l b in
      let g = accepted_good (accepted n E s) near.edge near.stands in
      (omega (arith, near.long, g.2), omega (arith, near.long, g.3))

  pub planted_spans : RootedTree n P.rank P.forest
  planted_spans =
      record { ranked = P.ranked; first = P.root; all = P.all; long = λ x u l b. (branch_length x u l b).0 }

  pub planted_fits : n ≤ 512 → 2 * wire_of P.forest ≤ 102200000000
  planted_fits h = way_fits n P.rank P.forest P.ranked h (λ x u l b. (branch_length x u l b).1)
