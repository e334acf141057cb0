-- Each row of the table holds: both sides compute. Assumes nothing.
use Rattle.std.proofs.Common.{refl}
use Rattle.std.specs.List.{AllByRecursion}
use Rattle.built_spaces.specs.Shapes.{root_from, root_above}
use Rattle.walk_laws.specs.Walk.{walk}
use Rattle.cases.specs.Table.{Holds, table}
use Rattle.cases.proofs.Square.{square_spans}
use Rattle.cases.proofs.Walks.{corner_walks, fork_walks, square_walks}

pub rows : AllByRecursion Holds table
unfolding root_above root_from walk
rows = (
  refl,
  (
    refl,
    (
      refl,
      (
        refl,
        (
          refl,
          (
            refl,
            (
              refl,
              (
                refl,
                (
                  square_spans,
                  (square_walks 2 1 _ refl refl refl refl, (square_walks 199 100 _ refl refl refl refl, (corner_walks 0 1 _ refl refl refl, (fork_walks 0 1 _ refl refl refl refl, tt)))),
                ),
              ),
            ),
          ),
        ),
      ),
    ),
  ),
)
