-- Bytes in flight to the line.
use Rattle.std.proofs.Common.{◌≡◌, ℕ, ◌+◌, ◌-◌, ◌<◌, ◌≤◌, List, ◌++◌, length, take, drop, replicate}
use Rattle.std.proofs.Common.{◌∙◌, ap, arith, length-append, Option, Some, None, option_map}
use Rattle.std.proofs.Common.{is_some, true}
use Rattle.std.proofs.lemmas.List.{length-take, drop-append-le}
use Rattle.std.proofs.Math.Seq.{take-append_seam, take-append-add}
use Rattle.ddcmp_frame.specs.Wire.{wire, six_bytes}
use Rattle.ddcmp_frame.specs.declared.codes.TheConstants.{SYN}
use Rattle.ddcmp_window.specs.Store.{with_front}
use Rattle.ddcmp_core.specs.Table.{Frame, Data, Acked, Naked, Rep, Strt, Stack, Maint}
use Rattle.ddcmp_core.specs.Frames.{header_of, message_of}
use Rattle.ddcmp_proto.specs.Bytes.{frame_on_line}
use Rattle.ddcmp_station.specs.Driving.{frame_bytes}

-- after the first bytes others are put
pub put_behind : (e k : ℕ) (xs fs rest : List ℕ) → e ≤ length xs → k ≡ length fs
    → take (e + k) (take e xs ++ (fs ++ rest)) ≡ take e xs ++ fs
put_behind e k xs fs rest within is =
    ap (λ n. take n (take e xs ++ (fs ++ rest))) (omega (arith, length-take e xs, within, is))
    ∙ take-append-add (take e xs) (fs ++ rest) (length fs)
    ∙ ap (λ ys. take e xs ++ ys) (take-append_seam fs rest)

-- and so after those of them that are left
pub put_left : (s e k : ℕ) (xs fs rest : List ℕ) → s ≤ e → e ≤ length xs → k ≡ length fs
    → drop s (take (e + k) (take e xs ++ (fs ++ rest))) ≡ drop s (take e xs) ++ fs
put_left s e k xs fs rest le within is =
    ap (drop s) (put_behind e k xs fs rest within is)
    ∙ drop-append-le s (take e xs) fs (omega (arith, length-take e xs, le, within))

-- a frame has bytes
wire_some : (f : Frame) → 0 < length (wire (header_of f) (message_of f))
unfolding wire six_bytes
wire_some (Data resp num message) = omega arith
wire_some (Acked resp) = omega arith
wire_some (Naked why resp) = omega arith
wire_some (Rep num) = omega arith
wire_some Strt = omega arith
wire_some Stack = omega arith
wire_some (Maint message) = omega arith

some_bytes : (syn : ℕ) (f : Frame) → 0 < length (frame_on_line syn f)
some_bytes syn f =
    omega
    (arith, length-append (replicate syn SYN) (wire (header_of f) (message_of f)), wire_some f)

pub less_room : (syn : ℕ) (f : Option Frame) (room : ℕ) → is_some f ≡ true → 0 < room
    → room - length (frame_bytes syn f) < room
less_room syn None room e r = cc
less_room syn (Some f) room e r = omega (arith, some_bytes syn f, r)

-- what a poll writes after what waits
pub framed : (syn : ℕ) (f : Option Frame) (s e k : ℕ) (xs old : List ℕ) → s ≤ e → e ≤ length xs
    → Some k ≡ option_map length (option_map (frame_on_line syn) f)
    → drop s (take (e + k) (take e xs ++ with_front (option_map (frame_on_line syn) f) old))
    ≡ drop s (take e xs) ++ frame_bytes syn f
framed syn None s e k xs old le within is = cc
framed syn (Some f) s e k xs old le within is =
    let fs = frame_on_line syn f in
    let counted : k ≡ length fs = cc in
    put_left s e k xs fs (drop (length fs) old) le within counted

pub framed_length : (syn : ℕ) (f : Option Frame) (k : ℕ)
    → Some k ≡ option_map length (option_map (frame_on_line syn) f) → length (frame_bytes syn f) ≡ k
framed_length syn None k is = cc
framed_length syn (Some f) k is = cc
