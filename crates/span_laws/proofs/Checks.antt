-- The first of all pairs by a test that computes, for spanning seeds that are written out. Assumes nothing.
use Rattle.std.proofs.Common.{◌≡◌, ℕ, zero, suc, ◌<◌, Bool, true, false, not, ◌&&◌, ◌||◌, eqb, List, sym, ap, ◌∙◌, subst, ⊎_elim, arith}
use Rattle.std.proofs.lemmas.Bool.{and_parts, cases_eq, eq-eqb, eqb-true, not-true, or_cases, both_ways}
use Rattle.span_laws.specs.Links.{link_before}
use Rattle.span_laws.specs.declared.link.Link.{Link}
use Rattle.forest.specs.Labels.{label_of}
use Rattle.forest.specs.declared.Edge.{Edge}
use Rattle.forest.proofs.Labelled.{joined_label, label_joined}
use Rattle.span_laws.specs.Spanning.{FirstPair, Pair, link}

-- the test holds of every number below n
abbrev pub every : ℕ → (ℕ → Bool) → Bool
every zero f = true
every (suc n) f = f n && every n f

pub every_at : (n : ℕ) (f : ℕ → Bool) → every n f ≡ true → (k : ℕ) → k < n → f k ≡ true
every_at zero f h k l = absurd (none k l)
  where
    none : (k : ℕ) → k < 0 → ⊥
    none k l = omega arith
every_at (suc n) f h k l =
    let p = and_parts (f n) (every n f) h in
    ⊎_elim
    (λ (e : k ≡ n). ap f e ∙ p.0)
    (λ (ne : k ≡ n → ⊥). every_at n f p.1 k (omega arith))
    (cases_eq k n)

-- v is inside, or u is outside, or their link does not come before x
abbrev pub behind : (d : ℕ → ℕ → ℕ) → List Edge → Link → ℕ → ℕ → Bool
behind d E x u v = eqb (label_of E 0) (label_of E v) || (not (eqb (label_of E 0) (label_of E u)) || not (link_before (link d u v) x))

pub pair_by : (n : ℕ) (d : ℕ → ℕ → ℕ) (E : List Edge) (x : Link) → x.u < n → x.v < n → eqb (label_of E 0) (label_of E x.u) ≡ true → eqb (label_of E 0) (label_of E x.v) ≡ false → x.length ≡ d x.u x.v → Pair n d E x
pair_by n d E x h k p q e = record {
  inner = h;
  inside = label_joined E 0 x.u (eqb-true _ _ p);
  outer = k;
  outside = λ j. both_ways _ q (eq-eqb _ _ (joined_label j));
  long = e;
}

pub first_by : (n : ℕ) (d : ℕ → ℕ → ℕ) (E : List Edge) (x : Link) → Pair n d E x → every n (λ u. every n (λ v. behind d E x u v)) ≡ true → FirstPair n d E x
first_by n d E x p h = record {
  pair = p;
  first = λ y q.
      let row = every_at n (λ u. every n (λ v. behind d E x u v)) h y.u q.inner in
      let here = every_at n (λ v. behind d E x y.u v) row y.v q.outer in
      let P : Link → Type 0 = λ z. link_before z x ≡ false in
      let named : link d y.u y.v ≡ y = ap (λ l. whole l y.u y.v) (sym q.long) in
      ⊎_elim
      (λ (a : eqb (label_of E 0) (label_of E y.v) ≡ true). absurd (q.outside (label_joined E 0 y.v (eqb-true _ _ a))))
      (λ (b : (not (eqb (label_of E 0) (label_of E y.u)) || not (link_before (link d y.u y.v) x)) ≡ true).
      ⊎_elim
      (λ (a : not (eqb (label_of E 0) (label_of E y.u)) ≡ true). absurd (both_ways _ (not-true _ a) (eq-eqb _ _ (joined_label q.inside))))
      (λ (a : not (link_before (link d y.u y.v) x) ≡ true). subst P named (not-true _ a))
      (or_cases _ _ b))
      (or_cases _ _ here);
}
  where
    whole : (l u v : ℕ) → Link
    whole l u v = record { length = l; u = u; v = v }
