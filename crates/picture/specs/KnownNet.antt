-- A net after an accepted call. Assumes nothing.
use Rattle.std.specs.Prelude.{ℕ, Option, None, Bool, true, false}
use Rattle.picture.specs.declared.net.KnownNet.{KnownNet}
use Rattle.picture.specs.declared.job.JobLine.{JobLine}
use Rattle.picture.specs.declared.job.JobLine.TheVariants as call
use Rattle.picture.specs.Counts.{counts_after}

-- A change forgets the worst sink; X names it; T and all else change nothing.
abbrev pub net_after : JobLine → Option ℕ → KnownNet → KnownNet
net_after (call.Net s) v n = record { space = s; counts = counts_after (call.Net s) n.counts; worst = None }
net_after call.Pin v n = record { space = n.space; counts = counts_after call.Pin n.counts; worst = None }
net_after call.Steiner v n = record { space = n.space; counts = counts_after call.Steiner n.counts; worst = None }
net_after call.Seed v n = record { space = n.space; counts = counts_after call.Seed n.counts; worst = None }
net_after call.Change v n = record { space = n.space; counts = n.counts; worst = None }
net_after call.Worst v n = record { space = n.space; counts = n.counts; worst = v }
net_after call.Table v n = n
net_after call.Other v n = n

-- Whether a kept table is of the tree as it is after an accepted call: a table that is made is, a change ends it, and X and all else
-- leave it as it was.
abbrev pub current_after : JobLine → Bool → Bool
current_after (call.Net s) b = false
current_after call.Pin b = false
current_after call.Steiner b = false
current_after call.Seed b = false
current_after call.Change b = false
current_after call.Worst b = b
current_after call.Table b = true
current_after call.Other b = b
