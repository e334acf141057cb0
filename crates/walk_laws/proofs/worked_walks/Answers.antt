use Rattle.std.proofs.Common.{refl}
use Rattle.walk_laws.specs.Walk.{walk}
use Rattle.walk_laws.proofs.worked_walks.Goals as goal

pub returns : goal.returns
unfolding walk
returns c =
    record {
      worked =
          record { square_steiner = refl; branched = refl };
    }
