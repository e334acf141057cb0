-- What each call keeps while a spanning seed grows, and what it is in the end. Assumes nothing.
use Rattle.std.proofs.Common.{◌≡◌, ℕ, ◌+◌, ◌<◌, ◌≤◌, min, max, Bool, true, false, List, [], ◌∷◌, ◌++◌, map, length, get_or, filter, Result, Err, is_ok, unwrap_or, sym, refl, ap, ◌∙◌, subst, arith}
use Rattle.std.specs.List.{All}
use Rattle.std.proofs.lemmas.List.{get_or_default, length_push}
use Rattle.std.proofs.lemmas.List.Elements.{All-filter}
use Rattle.std.proofs.lemmas.Bool.{and_from, both_ways}
use Rattle.space.specs.declared.TheConstants.{LONGEST}
use Rattle.seed.specs.declared.store.TheConstants.{NODES}
use Rattle.order.specs.Firsts.{First}
use Rattle.order.proofs.Finding.{among_at}
use Rattle.span_laws.specs.Links.{link_before}
use Rattle.span_laws.specs.declared.link.Link.{Link}
use Rattle.forest.specs.Edges.{wire, edge}
use Rattle.forest.specs.declared.Edge.{Edge}
use Rattle.forest.proofs.Accepted.{Accepted, accepted}
use Rattle.forest.proofs.Chains.{joined_on}
use Rattle.forest.proofs.Trails.{tree}
use Rattle.seed.specs.Seeds.{EdgeAsked, Inside, OneMore}
use Rattle.seed.specs.declared.store.SeedFault.{SeedFault}
use Rattle.seed.specs.declared.store.Seed.{Seed}
use Rattle.seed.proofs.Answered.{join_taken}
use Rattle.space.specs.Laws.{Metric, answered}
use Rattle.space.specs.declared.Space.{Ghosts}
use Rattle.space.specs.declared.spot.Spot.{Spot}
use Rattle.span.specs.Grown.{Growing, Spanned}
use Rattle.space.specs.Spots.{spot_of}
use Rattle.span.specs.Lengths.{Pinned, pin_distance, lengths}
use Rattle.span_laws.specs.Spanning.{FirstPair, Steps}
use Rattle.span.specs.Growth.{Alone, FirstLinks, elsewhere, fan, offered_link}
use Rattle.span.proofs.Firsts.{alone_more, alone_none, first_pair, firsts_more, firsts_none, firsts_start}
use Rattle.span_laws.proofs.Steps.{spanning, spanning_agrees, spanning_only, steps_more, steps_none}

-- the edges of a seed are accepted, over as many nodes as it has
seed_accepted : (n : ℕ) (t : Seed) → t.nodes ≡ n → Accepted n t.edges
seed_accepted n t e = let P : ℕ → Type 0 = λ m. Accepted m t.edges in subst P e (accepted t.nodes t.edges t.sound)

-- distances that an edge can have as its length
abbrev pub Fair : (ℕ → ℕ → ℕ) → Type 0
Fair d = (u v : ℕ) → (1 ≤ d u v) × (d u v ≤ LONGEST)

pub lengths_fair : {X : Type 0} (G : Ghosts X) (s : X) (pins : List Spot) → Fair (lengths G s pins)
lengths_fair G s pins u v = (omega arith, omega arith)

pub start_grows : (n : ℕ) (d : ℕ → ℕ → ℕ) (t : Seed) (k : ℕ) → k + 1 ≡ n → t.nodes ≡ n → t.edges ≡ [] → Growing n d t (fan d k)
start_grows n d t k e nodes none =
    let P : List Edge → Type 0 = λ E. Steps n d E × FirstLinks n d E (fan d k) × Alone E in
    let h : P t.edges = subst P (sym none) (steps_none n d, firsts_start n d k e, alone_none) in
    record { nodes = nodes; steps = h.0; firsts = h.1; alone = h.2 }

-- no firsts left: the edges are one fewer than the pins already
pub step_none : (n : ℕ) (d : ℕ → ℕ → ℕ) (t : Seed) (F : List Link) → F ≡ [] → Growing n d t F → length t.edges + 1 < n → ⊥
step_none n d t F e g h =
    let P : List Link → Type 0 = λ L. FirstLinks n d t.edges L in
    omega (arith, firsts_none n d t.edges (seed_accepted n t g.nodes) (omega arith) (subst P e g.firsts))

-- the pins outside are pins
pub outside_within : (n : ℕ) (d : ℕ → ℕ → ℕ) (t : Seed) (F : List Link) (v : ℕ) → Growing n d t F → All (λ x. x.v < n) (filter (elsewhere v) F)
outside_within n d t F v g =
    All-filter (elsewhere v) (λ (x : Link). x.v < n) F
    (λ k x h. let y = get_or F k x in (g.firsts.pairs y (among_at F k y h (get_or_default F k x y h))).outer)

-- one step: the first of the firsts is taken as an edge
module _ (n : ℕ) (d : ℕ → ℕ → ℕ) (fair : Fair d) (t u : Seed) (F : List Link) (g : Growing n d t F) (w : Link) (f : First link_before F w) (r : Result (Unit {0}) SeedFault) (asked : EdgeAsked t w.u w.v w.length r u) where
  found : FirstPair n d t.edges w
  found = first_pair n d t.edges F g.firsts w f

  inside : Inside t w.u w.v
  inside = let p = found.pair in (omega (arith, p.inner, g.nodes), omega (arith, p.outer, g.nodes))

  taken : (is_ok r ≡ true) × OneMore t (edge w.u w.v w.length) u
  taken =
      let p = found.pair in
      join_taken t u w.u w.v w.length r asked inside (λ j. p.outside (joined_on p.inside j)) (omega (arith, p.long, (fair w.u w.v).0)) (omega (arith, p.long, (fair w.u w.v).1))

  pub step_not_refused : (e : SeedFault) → r ≡ Err e → ⊥
  step_not_refused e h = both_ways false refl (sym (ap is_ok h) ∙ taken.0)

  pub step_grows : (L : List Link) → L ≡ map (offered_link d w.v) (filter (elsewhere w.v) F) → Growing n d u L × (length u.edges ≡ length t.edges + 1)
  step_grows L e =
      let E = t.edges in
      let x : Edge = edge w.u w.v w.length in
      let P : List Edge → Type 0 = λ D. Steps n d D × FirstLinks n d D L × Alone D in
      let Q : List Link → Type 0 = λ M. FirstLinks n d (E ++ x ∷ []) M in
      let more : P (E ++ x ∷ []) =
      (steps_more n d E x g.steps found, subst Q (sym e) (firsts_more n d E F g.firsts w f g.alone), alone_more n d E F g.firsts w f g.alone)
      in
      let h : P u.edges = subst P (sym taken.1.0) more in
      (record { nodes = taken.1.1 ∙ g.nodes; steps = h.0; firsts = h.1; alone = h.2 }, ap length taken.1.0 ∙ length_push E x)

-- a distance of pins of a net is the length of its edge
module _ {X : Type 0} (G : Ghosts X) (s : X) (pins : List Spot) (m : Metric (G.admitted s) (G.width s) (G.between s)) (p : Pinned G s pins) where
  uncut : (x k : ℕ) (b : Bool) → b ≡ true → 1 ≤ x → x ≤ k → k ≤ LONGEST → max 1 (min LONGEST (unwrap_or (answered b x) 0)) ≡ x
  uncut x k true e h l n = omega arith
  uncut x k false e h l n = let z : ◌≡◌ {A = ℕ} 0 1 = cc in absurd (omega arith)

  pub lengths_measured : (u v : ℕ) → u < length pins → v < length pins → (u ≡ v → ⊥) → lengths G s pins u v ≡ pin_distance G s pins u v
  lengths_measured u v h k ne =
      let a = p.admitted u h in
      let b = p.admitted v k in
      uncut (pin_distance G s pins u v) (G.width s) _ (and_from _ _ a b) (p.apart u v h k ne) (m.within (spot_of pins u) (spot_of pins v) a b) p.narrow

pub spans : {X : Type 0} (G : Ghosts X) (s : X) → ((_ : G.width s ≤ LONGEST) → Metric (G.admitted s) (G.width s) (G.between s)) → (pins : List Spot) (t : Seed) (F : List Link) (w : ℕ) → 0 < length pins → length pins ≤ NODES → Growing (length pins) (lengths G s pins) t F → length t.edges + 1 ≡ length pins → w ≡ wire t.edges → Spanned G s pins w t
spans G s law pins t F w some few g e wired =
    let n = length pins in
    let cut = spanning n (lengths G s pins) t.edges g.steps e in
    record {
      some = some;
      few = few;
      nodes = g.nodes;
      cut = cut;
      only = λ E s'. spanning_only n (lengths G s pins) E t.edges s' cut;
      measured = λ p. spanning_agrees n (lengths G s pins) (pin_distance G s pins) (lengths_measured G s pins (law p.narrow) p) t.edges cut;
      tree = tree (seed_accepted n t g.nodes) e;
      wired = wired;
    }
