-- A longer distance is not shorter on the sheet. Assumes nothing.
use Rattle.std.proofs.Common.{ℕ, ◌*◌, ◌/◌, ◌<◌, ◌≤◌, arith}
use Rattle.std.proofs.Math.Nat.{div-mul-le_self}
use Rattle.std.proofs.lemmas.Nat.{le-div}
use Rattle.picture.specs.declared.frame.Frame.{Frame}
use Rattle.picture.specs.declared.frame.TheConstants.{SIDE}
use Rattle.picture.specs.Frame.{scaled_of, span_of}

quotient-le : (s d e : ℕ) → 0 < s → d ≤ e → d * SIDE / s ≤ e * SIDE / s
quotient-le s d e some h = le-div (d * SIDE / s) (e * SIDE) s some (omega (arith, div-mul-le_self (d * SIDE) s))

pub scaled-le : (f : Frame) (d e : ℕ) → d ≤ e → scaled_of f d ≤ scaled_of f e
scaled-le f d e h = quotient-le (span_of f) d e (omega arith) h
