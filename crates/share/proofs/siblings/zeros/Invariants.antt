use Rattle.std.proofs.Common.{◌≡◌, ℕ, length, slice_index, vec_capacity}
use Rattle.share.proofs.siblings.zeros.Given as goal

abbrev pub invariant-loop : goal.invariant-loop
invariant-loop l =
    (length l.last.items ≡ l.counter)
    × ((v : ℕ) → slice_index l.last.items v ≡ 0)
    × (vec_capacity l.last ≡ vec_capacity l.initial.last)
