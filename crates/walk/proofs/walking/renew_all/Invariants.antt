use Rattle.walk.proofs.Fresh.{Renewing}
use Rattle.walk.proofs.walking.renew_all.Given as goal

-- the rows passed are fresh, and the others are as they were
abbrev pub invariant-loop-k : goal.invariant-loop-k
invariant-loop-k l = Renewing l.initial.rows l.rows l.k
