-- What a net answers to calls that are written out, by tests that compute. Assumes nothing.
use Rattle.std.proofs.Common.{◌≡◌, ℕ, ◌+◌, ◌<◌, ◌≤◌, Bool, true, false, not, ◌&&◌, eqb, ltb, leb, ◌⊎◌, List, [], ◌∷◌, ◌++◌, length, Some, None, Ok, Err, Option, Result, sym, refl, ap, ◌∙◌, subst, inl, ⊎_elim, arith}
use Rattle.std.proofs.lemmas.Bool.{and_parts, both_ways, eq-eqb, eqb-true, leb-false, leb-true, ltb-true, not-true}
use Rattle.forest.specs.Edges.{Joined, wire}
use Rattle.forest.specs.Labels.{label_of}
use Rattle.forest.specs.declared.Edge.{Edge}
use Rattle.forest.proofs.Labelled.{joined_label}
use Rattle.space.specs.declared.TheConstants.{LONGEST}
use Rattle.space.specs.declared.spot.Spot.{Spot}
use Rattle.space.specs.Spots.{spot_of}
use Rattle.span_laws.specs.Spanning.{SpanningSeed}
use Rattle.span_laws.proofs.Checks.{every, every_at}
use Rattle.span_laws.proofs.Steps.{spanning_only}
use Rattle.tree_laws.specs.Trees.{wire_of}
use Rattle.tree_laws.specs.declared.Row.{Row}
use Rattle.net_laws.specs.Answers.{JoinAnswers, JoinedTree, StraightTree, builds}
use Rattle.walk_laws.specs.Walk.{LawfulAllowance}
use Rattle.net_laws.specs.Geometry.{Geometry}
use Rattle.net_laws.specs.Faults.{number_of}
use Rattle.net_laws.specs.States.{State, fresh, with_allowance, with_edge, with_pin, with_seed, with_tree}
use Rattle.net_laws.specs.declared.call.Call.TheVariants.{Pin, Allow, Edge as EdgeOf, Span, Straight}
use Rattle.net_laws.specs.declared.call.JoinCall.{JoinCall}
use Rattle.net_laws.specs.declared.call.JoinCall.TheVariants.{Wire, Joined as JoinedCall}
use Rattle.net_laws.specs.declared.fault.Fault.{Fault}
use Rattle.net_laws.specs.declared.fault.Fault.TheVariants.{Space}
use Rattle.net_laws.specs.declared.fault.SpaceFault.TheVariants.{TooWide}
use Rattle.net_cases.specs.Calls.{Ending, CallsFollow, Says, Step, allowing, answers, chain_from, pins_from, refused, seeded, step}

-- a refusal is not by a question that holds
past : {Q N X : Type 0} → Q → ((Q → ⊥) × N) ⊎ (Q × X) → X
past {Q} {N} {X} q h = ⊎_elim (λ (k : (Q → ⊥) × N). absurd (k.0 q)) (λ (k : Q × X). k.1) h

over : (w : ℕ) → leb w LONGEST ≡ false → w ≤ LONGEST → ⊥
over w wide h = omega (arith, leb-false w LONGEST wide)

abbrev pub lawful : (p q : ℕ) → Bool
lawful p q = leb p 1000 && (leb 1 q && leb q 1000)

is_lawful : (p q : ℕ) → lawful p q ≡ true → LawfulAllowance p q
is_lawful p q h =
    let h₁ = and_parts _ _ h in
    let h₂ = and_parts _ _ h₁.1 in
    (leb-true _ _ h₁.0, leb-true _ _ h₂.0, leb-true _ _ h₂.1)

module _ (W : Geometry) (n : State) where
  -- a call that answers k and leaves the net n'
  told : (n' : State) (k : ℕ) (c : JoinCall) (rest : List Step) (end : Ending) → JoinAnswers W n n' c (Ok k) → ((r : Result ℕ Fault) (m : State) → JoinAnswers W n m c r → (r ≡ Ok k) × (m ≡ n')) → CallsFollow W n' rest end → CallsFollow W n (step c (answers k) ∷ rest) end
  told n' k c rest end can is f = (
    record { answer = Ok k; after = n'; stands = can },
    λ r m a.
        let q = is r m a in
        let P : Result ℕ Fault → Type 0 = λ x. Says x (answers k) in
        let F : State → Type 0 = λ x. CallsFollow W x rest end in
        (subst P (sym q.0) refl, subst F (sym q.1) f),
  )

  -- the pins fit
  abbrev fits_pin : Spot → Bool
  fits_pin z = leb W.width LONGEST && (W.admitted z && (ltb n.pins 256 && every n.pins (λ k. leb 1 (W.between (spot_of n.spots k) z))))

  record FitsPin (z : Spot) : Type 0 where
    narrow : W.width ≤ LONGEST
    admits : W.admitted z ≡ true
    few : n.pins < 256
    far : (k : ℕ) → k < n.pins → 1 ≤ W.between (spot_of n.spots k) z

  fits_pin_lem : (z : Spot) → fits_pin z ≡ true → FitsPin z
  fits_pin_lem z h =
      let h₁ = and_parts _ _ h in
      let h₂ = and_parts _ _ h₁.1 in
      let h₃ = and_parts _ _ h₂.1 in
      record {
        narrow = leb-true _ _ h₁.0;
        admits = h₂.0;
        few = ltb-true _ _ h₃.0;
        far = λ k l. leb-true _ _ (every_at n.pins (λ k. leb 1 (W.between (spot_of n.spots k) z)) h₃.1 k l);
      }

  pin_can : (z : Spot) → fits_pin z ≡ true → JoinAnswers W n (with_pin n z) (Wire (Pin z)) (Ok n.pins)
  pin_can z h = let f = fits_pin_lem z h in ((f.narrow, (f.admits, (f.few, (f.far, (refl, refl))))), tt)

  pin_only : (z : Spot) → fits_pin z ≡ true → (r : Result ℕ Fault) (m : State) → JoinAnswers W n m (Wire (Pin z)) r → (r ≡ Ok n.pins) × (m ≡ with_pin n z)
  pin_only z h (Ok k) m a = let b = a.0.1.1.1.1 in (ap Ok b.0, b.1)
  pin_only z h (Err e) m a = let f = fits_pin_lem z h in absurd (past f.far (past f.few (past f.admits (past f.narrow a.0))))

  pub allow_told : (p q : ℕ) (rest : List Step) (end : Ending) → lawful p q ≡ true → CallsFollow W (with_allowance n p q) rest end → CallsFollow W n (allowing p q ∷ rest) end
  allow_told p q rest end h f = (record { answer = Ok 0; after = with_allowance n p q; stands = ((is_lawful p q h, refl), tt, refl) }, only)
    where
      only : (r : Result ℕ Fault) (m : State) → JoinAnswers W n m (Wire (Allow p q)) r → Says r (answers 0) × CallsFollow W m rest end
      only (Ok k) m a = let F : State → Type 0 = λ x. CallsFollow W x rest end in (a.2, subst F (sym a.0.1) f)
      only (Err e) m a = absurd (past (is_lawful p q h) a.0)

  abbrev edge_length : (a b : ℕ) → ℕ
  edge_length a b = W.between (spot_of n.spots a) (spot_of n.spots b)

  abbrev fits_edge : (a b l : ℕ) → Bool
  fits_edge a b l =
      leb 2 n.pins && (ltb a (length n.spots) && (ltb b (length n.spots) && (not (eqb (label_of n.edges a) (label_of n.edges b)) && (leb 1 (edge_length a b) && eqb l (edge_length a b)))))

  record FitsEdge (a b l : ℕ) : Type 0 where
    two : 2 ≤ n.pins
    nodes : (a < length n.spots) × (b < length n.spots)
    apart : Joined n.edges a b → ⊥
    some : 1 ≤ edge_length a b
    long : l ≡ edge_length a b

  fits_edge_lem : (a b l : ℕ) → fits_edge a b l ≡ true → FitsEdge a b l
  fits_edge_lem a b l h =
      let h₁ = and_parts _ _ h in
      let h₂ = and_parts _ _ h₁.1 in
      let h₃ = and_parts _ _ h₂.1 in
      let h₄ = and_parts _ _ h₃.1 in
      let h₅ = and_parts _ _ h₄.1 in
      record {
        two = leb-true _ _ h₁.0;
        nodes = (ltb-true _ _ h₂.0, ltb-true _ _ h₃.0);
        apart = λ j. both_ways _ (not-true _ h₄.0) (eq-eqb _ _ (joined_label j));
        some = leb-true _ _ h₅.0;
        long = eqb-true _ _ h₅.1;
      }

  edge_can : (x y l : ℕ) → fits_edge x y l ≡ true → JoinAnswers W n (with_edge n x y l) (Wire (EdgeOf x y)) (Ok l)
  edge_can x y l h = let f = fits_edge_lem x y l h in ((f.two, (f.nodes, (f.apart, (f.some, (f.long, refl))))), tt)

  edge_only : (x y l : ℕ) → fits_edge x y l ≡ true → (r : Result ℕ Fault) (m : State) → JoinAnswers W n m (Wire (EdgeOf x y)) r → (r ≡ Ok l) × (m ≡ with_edge n x y l)
  edge_only x y l h (Ok k) m a =
      let b = a.0.1.1.1.1 in
      let e : k ≡ l = b.0 ∙ sym (fits_edge_lem x y l h).long in
      (ap Ok e, b.1 ∙ ap (with_edge n x y) e)
  edge_only x y l h (Err e) m a =
      let f = fits_edge_lem x y l h in
      absurd (past f.some (past f.apart (past f.nodes (past f.two a.0))))

  module _ (p q : ℕ) (rows : List Row) (rest : List Step) (end : Ending) (two : leb 2 n.pins ≡ true) (al : n.allowance ≡ Some (p, q)) (seeds : length n.edges + 1 ≡ length n.spots) where
    allowed : n.allowance ≡ None → ⊥
    allowed none = nothing (sym none ∙ al)
      where
        nothing : ◌≡◌ {A = Option (ℕ × ℕ)} None (Some (p, q)) → ⊥
        nothing e = let z : ◌≡◌ {A = ℕ} 0 1 = cc in omega arith

    -- a call that builds the rows
    built : (Tree : (p q : ℕ) → List Row → Type 0) → ((xs : List Row) → Tree p q xs → xs ≡ rows) → (r : Result ℕ Fault) (m : State) → builds W n m Tree r → (r ≡ Ok (wire_of rows)) × (m ≡ with_tree n rows)
    built Tree only (Ok w) m a =
        let b = a.1.1.1 in
        let e : b.2 ≡ rows = only b.2 (same b.0 b.1 b.2 (sym b.3 ∙ al) b.4) in
        (ap Ok (b.5 ∙ ap wire_of e), b.6 ∙ ap (with_tree n) e)
      where
        same : (x y : ℕ) (xs : List Row) → ◌≡◌ {A = Option (ℕ × ℕ)} (Some (x, y)) (Some (p, q)) → Tree x y xs → Tree p q xs
        same x y xs e t =
            let i : ◌≡◌ {A = ℕ × ℕ} (x, y) (p, q) = cc in
            let T : ℕ × ℕ → Type 0 = λ z. Tree z.0 z.1 xs in
            subst T i t
    built Tree only (Err e) m a = absurd (past seeds (past allowed (past (leb-true _ _ two) a)))

    built_can : (Tree : (p q : ℕ) → List Row → Type 0) → Tree p q rows → builds W n (with_tree n rows) Tree (Ok (wire_of rows))
    built_can Tree t = (leb-true _ _ two, (allowed, (seeds, (p, q, rows, al, t, refl, refl))))

    pub straight_told : StraightTree W.between n.spots n.pins p q n.edges rows → ((xs : List Row) → StraightTree W.between n.spots n.pins p q n.edges xs → xs ≡ rows) → CallsFollow W (with_tree n rows) rest end → CallsFollow W n (step (Wire Straight) (answers (wire_of rows)) ∷ rest) end
    straight_told can only =
        let T : (p q : ℕ) → List Row → Type 0 = λ p q. StraightTree W.between n.spots n.pins p q n.edges in
        told (with_tree n rows) (wire_of rows) (Wire Straight) rest end (built_can T can, tt) (λ r m a. built T only r m a.0)

    pub joined_told : JoinedTree W.between W.meeting n.spots n.pins p q n.edges rows → ((xs : List Row) → JoinedTree W.between W.meeting n.spots n.pins p q n.edges xs → xs ≡ rows) → CallsFollow W (with_tree n rows) rest end → CallsFollow W n (step JoinedCall (answers (wire_of rows)) ∷ rest) end
    joined_told can only =
        let T : (p q : ℕ) → List Row → Type 0 = λ p q. JoinedTree W.between W.meeting n.spots n.pins p q n.edges in
        told (with_tree n rows) (wire_of rows) JoinedCall rest end (built_can T can, tt) (λ r m a. built T only r m a.0)

  -- the spanning seed
  pub span_told : (E : List Edge) (rest : List Step) (end : Ending) → leb 2 n.pins ≡ true → SpanningSeed n.pins (λ u v. W.between (spot_of n.spots u) (spot_of n.spots v)) E → CallsFollow W (with_seed n E) rest end → CallsFollow W n (step (Wire Span) (answers (wire E)) ∷ rest) end
  span_told E rest end two spans f = told (with_seed n E) (wire E) (Wire Span) rest end ((leb-true _ _ two, (E, spans, refl, refl)), tt) spanned f
    where
      spanned : (r : Result ℕ Fault) (m : State) → JoinAnswers W n m (Wire Span) r → (r ≡ Ok (wire E)) × (m ≡ with_seed n E)
      spanned (Ok w) m a =
          let b = a.0.1 in
          let e : b.0 ≡ E = spanning_only n.pins (λ u v. W.between (spot_of n.spots u) (spot_of n.spots v)) b.0 E b.1 spans in
          (ap Ok (b.2 ∙ ap wire e), b.3 ∙ ap (with_seed n) e)
      spanned (Err e) m a = absurd (past (leb-true _ _ two) a.0)

  -- a pin in a space that is too wide
  pub wide_told : (z : Spot) (rest : List Step) (end : Ending) → leb W.width LONGEST ≡ false → CallsFollow W n rest end → CallsFollow W n (step (Wire (Pin z)) (refused 1) ∷ rest) end
  wide_told z rest end wide f = (record { answer = Err (Space TooWide); after = n; stands = (inl (over W.width wide, refl), refl) }, only)
    where
      only : (r : Result ℕ Fault) (m : State) → JoinAnswers W n m (Wire (Pin z)) r → Says r (refused 1) × CallsFollow W m rest end
      only (Ok k) m a = absurd (over W.width wide a.0.0)
      only (Err e) m a =
          let F : State → Type 0 = λ x. CallsFollow W x rest end in
          (⊎_elim (λ (k : (W.width ≤ LONGEST → ⊥) × (number_of e ≡ 1)). k.1) (λ (k : (W.width ≤ LONGEST) × _). absurd (over W.width wide k.0)) a.0, subst F (sym a.1) f)

module _ (W : Geometry) where
  -- many pins, many edges

  abbrev fit_pins : State → List Spot → Bool
  fit_pins n [] = true
  fit_pins n (z ∷ zs) = fits_pin W n z && fit_pins (with_pin n z) zs

  abbrev pub with_pins : State → List Spot → State
  with_pins n [] = n
  with_pins n (z ∷ zs) = with_pins (with_pin n z) zs

  pub pins_told : (n : State) (zs : List Spot) (rest : List Step) (end : Ending) → fit_pins n zs ≡ true → CallsFollow W (with_pins n zs) rest end → CallsFollow W n (pins_from n.pins zs ++ rest) end
  pins_told n [] rest end h f = f
  pins_told n (z ∷ zs) rest end h f =
      let h' = and_parts _ _ h in
      told W n (with_pin n z) n.pins (Wire (Pin z)) (pins_from (n.pins + 1) zs ++ rest) end (pin_can W n z h'.0) (pin_only W n z h'.0) (pins_told (with_pin n z) zs rest end h'.1 f)

  abbrev fit_edges : State → ℕ → List ℕ → Bool
  fit_edges n k [] = true
  fit_edges n k (l ∷ ls) = fits_edge W n k (k + 1) l && fit_edges (with_edge n k (k + 1) l) (k + 1) ls

  abbrev pub with_chain : State → ℕ → List ℕ → State
  with_chain n k [] = n
  with_chain n k (l ∷ ls) = with_chain (with_edge n k (k + 1) l) (k + 1) ls

  pub chain_told : (n : State) (k : ℕ) (ls : List ℕ) (rest : List Step) (end : Ending) → fit_edges n k ls ≡ true → CallsFollow W (with_chain n k ls) rest end → CallsFollow W n (chain_from k ls ++ rest) end
  chain_told n k [] rest end h f = f
  chain_told n k (l ∷ ls) rest end h f =
      let h' = and_parts _ _ h in
      told W n (with_edge n k (k + 1) l) l (Wire (EdgeOf k (k + 1))) (chain_from (k + 1) ls ++ rest) end (edge_can W n k (k + 1) l h'.0) (edge_only W n k (k + 1) l h'.0) (chain_told (with_edge n k (k + 1) l) (k + 1) ls rest end h'.1 f)

  -- a new net over pins, an allowance and a chain
  abbrev pub laid : List Spot → (p q : ℕ) → List ℕ → State
  laid pins p q ls = with_chain (with_allowance (with_pins fresh pins) p q) 0 ls

  pub laid_told : (pins : List Spot) (p q : ℕ) (ls : List ℕ) (rest : List Step) (end : Ending) → fit_pins fresh pins ≡ true → lawful p q ≡ true → fit_edges (with_allowance (with_pins fresh pins) p q) 0 ls ≡ true → CallsFollow W (laid pins p q ls) rest end → CallsFollow W fresh (seeded pins p q ls rest) end
  laid_told pins p q ls rest end h k e f =
      pins_told fresh pins _ end h (allow_told W (with_pins fresh pins) p q _ end k (chain_told (with_allowance (with_pins fresh pins) p q) 0 ls rest end e f))
