-- How large the numbers of a station get.
use Rattle.std.proofs.Common.{ℕ, ◌+◌, ◌*◌, ◌≤◌, List, length, ap, arith}
use Rattle.std.proofs.Math.Nat.{mul-le-mul}
use Rattle.ddcmp_frame.specs.declared.header.Header.{Header}
use Rattle.ddcmp_frame.specs.declared.header.Header.TheVariants.{Data, Maint, Control}
use Rattle.ddcmp_frame.specs.Wire.{IsFrame}
use Rattle.ddcmp_frame.specs.Reader.{frame_length}

-- the messages of two stores have at most 2 * 255 * 16383 bytes
pub messages_most : (window room longest : ℕ) → window ≤ 255 → room ≤ 255 → longest ≤ 16383
    → (window + room) * longest ≤ 8355330
messages_most window room longest w r l =
    mul-le-mul {n₁ = window + room} {m₁ = longest} {n₂ = 510} {m₂ = 16383} (omega (arith, w, r)) l

-- a frame has at most ten bytes beside its data
pub frame_most : (h : Header) (message : List ℕ) → IsFrame h message
    → frame_length h ≤ length message + 10
frame_most (Data h) message f = omega (arith, f)
frame_most (Maint h) message f = omega (arith, f)
frame_most (Control h) message f = omega arith

-- and at least eight
pub frame_least : (h : Header) (message : List ℕ) → IsFrame h message
    → length message + 8 ≤ frame_length h
frame_least (Data h) message f = omega (arith, f)
frame_least (Maint h) message f = omega (arith, f)
frame_least (Control h) message f = omega (arith, ap length f)
