-- The line and the vast space keep the laws. Assumes nothing.
use Rattle.std.specs.Prelude.{◌≡◌, ℕ, ◌+◌, ◌≤◌, true, cond, ◌==◌, unsigned_abs, refl}
use Rattle.std.proofs.Common.{ap, arith}
use Rattle.std.proofs.lemmas.Bool.{and_parts, and_from, leb-true, le-leb}
use Rattle.std.proofs.lemmas.Bool.Decides.{nat_tests}
use Rattle.space.specs.Laws.{Metric, Meets}
use Rattle.space.specs.declared.spot.Spot.{Spot}
use Rattle.built_spaces.specs.Grid.{apart_self, apart_swap, apart_by, apart_within, middle_first, middle_second, middle_within}
use Rattle.tests.specs.Outside.{is_on_line, line_between, line_meeting, vast_between}

across : (s : Spot) → is_on_line s ≡ true → unsigned_abs s.x ≤ 1000
across s h = leb-true _ _ (and_parts _ _ h).1

pub line_metric : Metric is_on_line 2000 line_between
line_metric = record {
  itself = λ a h. apart_self a.x;
  symmetric = λ a b h k. apart_swap a.x b.x;
  triangle = λ a b c h k l. apart_by a.x b.x c.x;
  within = λ a b h k. apart_within a.x b.x 1000 (across a h) (across b k);
}

pub line_meets : Meets is_on_line line_between line_meeting
line_meets = record {
  inside = λ o a b h k l. and_from _ _ refl (le-leb _ _ (middle_within o.x a.x b.x 1000 (across o h) (across a k) (across b l)));
  first = λ o a b h k l. middle_first o.x a.x b.x;
  second = λ o a b h k l. middle_second o.x a.x b.x;
  level_0 = λ o a b h k l p q r. refl;
}

vast_by : (far : ℕ) (a b c : Spot) → vast_between far a c ≤ vast_between far a b + vast_between far b c
vast_by far a b c = let h = apart_by a.x b.x c.x in grind (arith, nat_tests)

pub vast_metric : (far : ℕ) → Metric (λ _. true) far (vast_between far)
vast_metric far = record {
  itself = λ a h. let e = apart_self a.x in grind (arith, nat_tests);
  symmetric = λ a b h k. ap (λ n. cond (n == 0) 0 far) (apart_swap a.x b.x);
  triangle = λ a b c h k l. vast_by far a b c;
  within = λ a b h k. grind (arith, nat_tests);
}
