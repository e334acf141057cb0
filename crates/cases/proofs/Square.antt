-- The spanning seed of the square. Assumes nothing.
use Rattle.std.proofs.Common.{◌≡◌, ℕ, zero, suc, ◌<◌, ◌≤◌, Bool, true, ◌||◌, eqb, leb, Ok, Err, Result, refl, ap, ◌∙◌, ⊎_elim, arith}
use Rattle.std.proofs.lemmas.Bool.{eqb-true, leb-true, or_cases}
use Rattle.forest.specs.Edges.{wire}
use Rattle.seed.specs.declared.store.SeedFault.{SeedFault}
use Rattle.seed.specs.declared.store.SeedFault.TheVariants as fault
use Rattle.seed.specs.declared.store.Seed.{Seed}
use Rattle.span.specs.Grown.{Grown}
use Rattle.built_spaces.specs.contracts.plane.PlaneSpace.TheImpl as planeSpace
use Rattle.space.specs.Spots.{spot_of}
use Rattle.span.specs.Lengths.{Pinned, pin_distance}
use Rattle.span_laws.specs.Spanning.{SpanningSeed, Steps}
use Rattle.span_laws.proofs.Checks.{every, every_at, first_by, pair_by}
use Rattle.span_laws.proofs.Steps.{spanning_only}
use Rattle.cases.specs.Table.{PlaneSpans, plane, square, square_seed}

abbrev far : ℕ → ℕ → ℕ
far = pin_distance planeSpace.ghosts plane square

past : (k : ℕ) → suc (suc (suc (suc k))) < 4 → ⊥
past k h = omega arith

admits : (v : ℕ) → v < 4 → (planeSpace.ghosts).admitted plane (spot_of square v) ≡ true
admits zero h = refl
admits (suc zero) h = refl
admits (suc (suc zero)) h = refl
admits (suc (suc (suc zero))) h = refl
admits (suc (suc (suc (suc k)))) h = absurd (past k h)

steps : Steps 4 far square_seed
steps zero x h = first_by 4 far _ _ (pair_by 4 far _ _ (omega arith) (omega arith) refl refl refl) refl
steps (suc zero) x h = first_by 4 far _ _ (pair_by 4 far _ _ (omega arith) (omega arith) refl refl refl) refl
steps (suc (suc zero)) x h = first_by 4 far _ _ (pair_by 4 far _ _ (omega arith) (omega arith) refl refl refl) refl
steps (suc (suc (suc k))) x h = absurd (over k h)
  where
    over : (k : ℕ) → suc (suc (suc k)) < 3 → ⊥
    over k h = omega arith

pub spans : SpanningSeed 4 far square_seed
spans = record { steps = steps; whole = refl }

apart : (u v : ℕ) → u < 4 → v < 4 → (u ≡ v → ⊥) → 1 ≤ far u v
apart u v h k ne =
    let test : ℕ → ℕ → Bool = λ a b. eqb a b || leb 1 (far a b) in
    let row = every_at 4 (λ a. every 4 (λ b. test a b)) refl u h in
    ⊎_elim
    (λ (e : eqb u v ≡ true). absurd (ne (eqb-true u v e)))
    (λ (e : leb 1 (far u v) ≡ true). leb-true 1 (far u v) e)
    (or_cases _ _ (every_at 4 (λ b. test u b) row v k))

pinned : Pinned planeSpace.ghosts plane square
pinned = record { narrow = omega arith; admitted = admits; apart = apart }

grown_square : (t₀ t : Seed) (r : Result ℕ SeedFault) → Grown planeSpace.ghosts plane square t₀ r t → (r ≡ Ok 18) × (t.edges ≡ square_seed)
grown_square t₀ t (Ok w) g =
    let e : t.edges ≡ square_seed = spanning_only 4 far t.edges square_seed (g.measured pinned) spans in
    (ap Ok (g.wired ∙ ap wire e), e)
grown_square t₀ t (Err fault.Outside) g = absurd (⊎_elim (λ (e : ◌≡◌ {A = ℕ} 4 0). omega arith) (λ (l : 512 < 4). omega arith) g.0)
grown_square t₀ t (Err fault.Joined) g = absurd g
grown_square t₀ t (Err fault.Short) g = absurd g
grown_square t₀ t (Err fault.Long) g = absurd g

pub square_spans : PlaneSpans square square_seed 18
square_spans = record {
  pinned = pinned;
  spans = spans;
  call = grown_square;
}
