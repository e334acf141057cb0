-- On a net that is tied to its space each call answers by the space's own distances and meets, and leaves the net tied. Assumes nothing.
use Rattle.std.proofs.Common.{◌≡◌, ℕ, ◌+◌, ◌≤◌, Bool, true, is_err, Ok, Err, Result, refl, arith}
use Rattle.space.specs.Laws.{Meets, Metric}
use Rattle.space.specs.declared.TheConstants.{LONGEST}
use Rattle.space.specs.declared.Joining.{Ghosts as JoinGhosts}
use Rattle.space.specs.declared.Space.{Ghosts}
use Rattle.space.specs.declared.spot.Spot.{Spot}
use Rattle.space.specs.Totals.{edge_length}
use Rattle.net_laws.specs.Answers.{Answers, EdgeAnswer, HookAnswer, JoinAnswers, JoinedAnswer, PinAnswer, ShareAnswer, SpanBy, SteinerAnswer, StraightAnswer, Unchanged}
use Rattle.net_laws.specs.Geometry.{Geometry}
use Rattle.net_laws.specs.States.{State, unseeded}
use Rattle.net_laws.specs.Spaces.{Keeps, TiedToSpace, made_total, joining, wiring}
use Rattle.net_laws.specs.declared.call.Call.TheVariants.{Pin, Steiner, Edge, Unseed, Span, Straight, Hook}
use Rattle.net_laws.specs.declared.call.JoinCall.TheVariants.{Wire, Joined, Share}
use Rattle.net_laws.specs.declared.fault.Fault.{Fault}
use Rattle.net_laws.proofs.Owning.{own_edge, own_hook, own_joined, own_pin, own_share, own_span, own_straight}
use Rattle.net_laws.proofs.Tying.{tied_step}

-- where no call asks for a meet, o itself will do
pub own_meets : (admits : Spot → Bool) (w : ℕ) (d : Spot → Spot → ℕ) → Metric admits w d → Meets admits d (λ o a b. o)
own_meets admits w d law =
    let none : (o a : Spot) → admits o ≡ true → d o o + d o a ≡ d o a = λ o a x. omega (arith, law.itself o x) in
    record {
      inside = λ o a b x y z. x;
      first = λ o a b x y z. none o a x;
      second = λ o a b x y z. none o b x;
      level_0 = λ o a b x y z e f g. e;
    }

pub wiring_keeps : {X : Type 0} (G : Ghosts X) (s : X) → (G.width s ≤ LONGEST → Metric (G.admitted s) (G.width s) (G.between s)) → Keeps (wiring G s)
wiring_keeps G s law = record { metric = law; meets = λ h. own_meets (G.admitted s) (G.width s) (G.between s) (law h) }

pub joining_keeps_lem : {X : Type 0} (G : Ghosts X) (J : JoinGhosts X) (s : X) → (G.width s ≤ LONGEST → Metric (G.admitted s) (G.width s) (G.between s)) → (G.width s ≤ LONGEST → Meets (G.admitted s) (G.between s) (J.meeting s)) → Keeps (joining G J s)
joining_keeps_lem G J s law meets = record { metric = law; meets = meets }

pub unchanged_by : {A : Type 0} (r : Result A Fault) (n m : State) → (is_err r ≡ true → m ≡ n) → Unchanged r n m
unchanged_by (Ok a) n m f = tt
unchanged_by (Err e) n m f = f refl

module _ {X : Type 0} (G : Ghosts X) (s : X) (law : G.width s ≤ LONGEST → Metric (G.admitted s) (G.width s) (G.between s)) (n m : State) where
  abbrev W : Geometry
  W = wiring G s

  abbrev laws : Keeps (wiring G s)
  laws = wiring_keeps G s law

  pub whole_pin : (z : Spot) (r : Result ℕ Fault) → PinAnswer (made_total (wiring G s)) n m z r → Unchanged r n m → TiedToSpace G s n → Answers (wiring G s) n m (Pin z) r × TiedToSpace G s m
  whole_pin z r a u t = let b = own_pin W laws n t m z r a in ((b, u), tied_step W laws n m (Wire (Pin z)) r t (b, u))

  pub whole_steiner : (z : Spot) (r : Result ℕ Fault) → SteinerAnswer (made_total (wiring G s)) n m z r → Unchanged r n m → TiedToSpace G s n → Answers (wiring G s) n m (Steiner z) r × TiedToSpace G s m
  whole_steiner z r a u t = ((a, u), tied_step W laws n m (Wire (Steiner z)) r t (a, u))

  pub whole_edge : (a b : ℕ) (r : Result ℕ Fault) → EdgeAnswer (made_total (wiring G s)) n m a b r → Unchanged r n m → TiedToSpace G s n → Answers (wiring G s) n m (Edge a b) r × TiedToSpace G s m
  whole_edge a b r x u t = let y = own_edge W laws n t m a b r x in ((y, u), tied_step W laws n m (Wire (Edge a b)) r t (y, u))

  pub whole_span : (r : Result ℕ Fault) → SpanBy (made_total (wiring G s)) n m (edge_length G s) r → Unchanged r n m → TiedToSpace G s n → Answers (wiring G s) n m Span r × TiedToSpace G s m
  whole_span r a u t = let b = own_span W laws n t m (edge_length G s) (λ x y. refl) r a in ((b, u), tied_step W laws n m (Wire Span) r t (b, u))

  pub whole_straight : (r : Result ℕ Fault) → StraightAnswer (made_total (wiring G s)) n m r → Unchanged r n m → TiedToSpace G s n → Answers (wiring G s) n m Straight r × TiedToSpace G s m
  whole_straight r a u t = let b = own_straight W laws n t m r a in ((b, u), tied_step W laws n m (Wire Straight) r t (b, u))

  pub whole_hook : (r : Result ℕ Fault) → HookAnswer (made_total (wiring G s)) n m r → Unchanged r n m → TiedToSpace G s n → Answers (wiring G s) n m Hook r × TiedToSpace G s m
  whole_hook r a u t = let b = own_hook W laws n t m r a in ((b, u), tied_step W laws n m (Wire Hook) r t (b, u))

  pub whole_unseed : m ≡ unseeded n → TiedToSpace G s n → TiedToSpace G s m
  whole_unseed e t = tied_step W laws n m (Wire Unseed) (Ok 0) t (e, tt, refl)

module _ {X : Type 0} (G : Ghosts X) (J : JoinGhosts X) (s : X) (law : G.width s ≤ LONGEST → Metric (G.admitted s) (G.width s) (G.between s)) (meets : G.width s ≤ LONGEST → Meets (G.admitted s) (G.between s) (J.meeting s)) (n m : State) where
  pub whole_share : (r : Result ℕ Fault) → ShareAnswer (made_total (joining G J s)) n m r → Unchanged r n m → TiedToSpace G s n → JoinAnswers (joining G J s) n m Share r × TiedToSpace G s m
  whole_share r a u t =
      let k = joining_keeps_lem G J s law meets in
      let b = own_share (joining G J s) k n t m r a in
      ((b, u), tied_step (joining G J s) k n m Share r t (b, u))

  pub whole_joined : (r : Result ℕ Fault) → JoinedAnswer (made_total (joining G J s)) n m r → Unchanged r n m → TiedToSpace G s n → JoinAnswers (joining G J s) n m Joined r × TiedToSpace G s m
  whole_joined r a u t =
      let k = joining_keeps_lem G J s law meets in
      let b = own_joined (joining G J s) k n t m r a in
      ((b, u), tied_step (joining G J s) k n m Joined r t (b, u))
