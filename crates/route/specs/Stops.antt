-- What a stop of routing says of the call that was made. Assumes nothing.
use Rattle.std.specs.Prelude.{Option, None, Some}
use Rattle.net_laws.specs.declared.fault.Fault.{Fault}
use Rattle.route.specs.declared.routing.Stop.{Stop}
use Rattle.route.specs.declared.routing.Stop.TheVariants.{Print, Refused}

-- The refusal that a stop carries; none where a line could not be printed.
abbrev pub refusal_in : Stop → Option Fault
refusal_in (Print _) = None
refusal_in (Refused _ fault) = Some fault
