use Rattle.std.proofs.Common.{◌≡◌, ℕ, ◌≤◌, get_or, map, take, Result}
use Rattle.net_laws.specs.declared.fault.Fault.{Fault}
use Rattle.guarantee.specs.CallsMade.{CallsMade}
use Rattle.guarantee.proofs.running.run.Given as goal

-- the calls so far were made and answered, and the places past them stay
abbrev pub invariant-loop-i : goal.invariant-loop-i
invariant-loop-i g l =
    CallsMade (g.C.NetCall.geometry l.initial.net.space) l.initial.net.state (map g.C.NetCall.among (take l.i l.calls)) (take l.i l.answers) l.net.state
    × ((k : ℕ) (d : Result ℕ Fault) → l.i ≤ k → get_or l.answers k d ≡ get_or l.initial.answers k d)
    × (l.net.space ≡ l.initial.net.space)
