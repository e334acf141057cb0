use Rattle.std.proofs.Common.{◌≡◌, take, vec_items, vec_len, vec_capacity}
use Rattle.joined.proofs.joining.fill.Given as goal

-- the members passed are in the group
abbrev pub invariant-loop-member : goal.invariant-loop-member
invariant-loop-member l = (vec_items l.group ≡ take l.member-index l.members) × (vec_len l.group ≡ l.member-index) × (vec_capacity l.group ≡ vec_capacity l.initial.group)
