-- The rows of every layer hold, those of the layers below and then those about a net. Assumes nothing.
use Rattle.std.proofs.Common.{List, [], ◌∷◌, ◌++◌, map}
use Rattle.std.specs.List.{AllByRecursion}
use Rattle.cases.specs.Table.{Fact as Below, Holds as HoldsBelow}
use Rattle.net_cases.specs.Table.{Fact, Holds}
use Rattle.net_cases.specs.Table.Fact.{layer_answers}

pub rows : (below : List Below) (nets : List Fact) → AllByRecursion HoldsBelow below → AllByRecursion Holds nets → AllByRecursion Holds (map layer_answers below ++ nets)
rows [] nets b n = n
rows (fact ∷ below) nets b n = (b.0, rows below nets b.1 n)
