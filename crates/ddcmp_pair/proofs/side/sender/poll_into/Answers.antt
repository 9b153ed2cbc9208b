use Rattle.std.proofs.Common.{◌≡◌, ℕ, ◌+◌, ◌≤◌, List, [], ◌∷◌, ◌++◌, length, take, replicate}
use Rattle.std.proofs.Common.{sym, ap, subst, ◌∙◌, arith, Option, Some, None}
use Rattle.std.specs.Prelude.{option_map, option_to_list, unwrap_or}
use Rattle.ddcmp_frame.specs.Reader.{frame_length}
use Rattle.ddcmp_frame.specs.declared.header.Header.{Header}
use Rattle.ddcmp_frame.specs.Wire.{wire}
use Rattle.ddcmp_core.specs.Store.{with_front}
use Rattle.ddcmp_core.specs.Table.{StationState, Frame, next, next_frame}
use Rattle.ddcmp_core.specs.Frames.{header_of, message_of}
use Rattle.ddcmp_proto.specs.Bytes.{frame_on_line}
use Rattle.ddcmp_pair.specs.Place.{WholeFrame}
use Rattle.ddcmp_pair.specs.Run.{whole_frame}
use Rattle.ddcmp_pair.proofs.Lines.{Polled, polled, at-front}
use Rattle.ddcmp_pair.proofs.side.sender.poll_into.Goals as goal

-- the bytes of the frame that was polled
in_front : (s : StationState) (h : Header) (syn own k : ℕ) (before out : List ℕ)
    (p : Polled own s h) → syn ≡ own
    → Some k ≡ option_map length (option_map (frame_on_line own) (next_frame (next s)))
    → out ≡ with_front (option_map (frame_on_line own) (next_frame (next s))) before
    → (take k out ≡ replicate syn 150 ++ wire h (message_of p.frame))
    × (length (take k out) ≡ syn + frame_length h)
in_front s h syn own k before out p same e w =
    let front = (at-front own k s before out p.frame p.next_is e w).1 in (
      front ∙ p.line_is ∙ ap (λ n. replicate n 150 ++ wire h (message_of p.frame)) (sym same),
      ap length front ∙ p.count ∙ ap (λ n. n + frame_length h) (sym same),
    )

fits_line : (n syn f cap k : ℕ) → n + (syn + f) ≤ cap → k ≡ syn + f → n + k ≤ cap
fits_line n syn f cap k few e = omega arith

kept_frame : (all new : List WholeFrame) (h : Header) (m : List ℕ) (f : Frame) (o : Option Frame)
    → new ≡ all ++ (h, m) ∷ [] → m ≡ message_of f → h ≡ header_of f
    → o ≡ Some f → new ≡ all ++ option_to_list (option_map whole_frame o)
kept_frame all new h m f o e em eh eo = e ∙ (λ i. all ++ (eh i, em i) ∷ []) ∙ sym
    (ap (λ o. all ++ option_to_list (option_map whole_frame o)) eo)

pub append-requires : goal.append-requires
append-requires c =
    let v = c.args.station.now in
    let e = c.in-Some.ensures in
    let p = polled v.core.limits v.core.station v.syn c.args.header.now c.requires.sound
    c.requires.header in
    let front = in_front v.core.station c.args.header.now c.args.syn v.syn c.in-Some.length _
    c.poll.new.out p c.requires.syn e.length e.out in
    fits_line _ _ _ _ _ c.requires.line front.1

pub data_of-requires : goal.data_of-requires
data_of-requires c =
    let v = c.args.station.now in
    let e = c.in-Some.ensures in
    let p = polled v.core.limits v.core.station v.syn c.args.header.now c.requires.sound
    c.requires.header in
    let front = in_front v.core.station c.args.header.now c.args.syn v.syn c.in-Some.length _
    c.poll.new.out p c.requires.syn e.length e.out in
    (message_of p.frame, p.is_frame, front.0)

pub push_reserved-requires-clause-bytes : goal.push_reserved-requires-clause-bytes
push_reserved-requires-clause-bytes c =
    let v = c.args.station.now in
    let e = c.in-Some.ensures in
    let p = polled v.core.limits v.core.station v.syn c.args.header.now c.requires.sound
    c.requires.header in
    let front = in_front v.core.station c.args.header.now c.args.syn v.syn c.in-Some.length _
    c.poll.new.out p c.requires.syn e.length e.out in
    let message = c.data_of.ensures (message_of p.frame) p.is_frame front.0 in
    subst (λ m. length m ≤ c.args.sent.now.spare_bytes) (sym message)
    (c.requires.kept (message_of p.frame) p.is_frame)

pub returns-in-Some-clause-line : goal.returns-in-Some-clause-line
returns-in-Some-clause-line c =
    let v = c.args.station.now in
    let e = c.in-Some.ensures in
    let p = polled v.core.limits v.core.station v.syn c.args.header.now c.requires.sound
    c.requires.header in
    let front = in_front v.core.station c.args.header.now c.args.syn v.syn c.in-Some.length _
    c.poll.new.out p c.requires.syn e.length e.out in
    let bytes = front.0 ∙ ap (λ x. replicate c.args.syn 150 ++ wire x (message_of p.frame))
    p.header_is in
    c.append.ensures.items ∙ ap (λ x. c.args.line.now.items ++ x)
    (bytes ∙ sym (ap (λ o. unwrap_or (option_map (frame_on_line c.args.syn) o) []) p.next_is))

pub returns-in-Some-clause-kept : goal.returns-in-Some-clause-kept
returns-in-Some-clause-kept c =
    let v = c.args.station.now in
    let e = c.in-Some.ensures in
    let p = polled v.core.limits v.core.station v.syn c.args.header.now c.requires.sound
    c.requires.header in
    let front = in_front v.core.station c.args.header.now c.args.syn v.syn c.in-Some.length _
    c.poll.new.out p c.requires.syn e.length e.out in
    let message = c.data_of.ensures (message_of p.frame) p.is_frame front.0 in
    kept_frame _ _ _ _ p.frame _ c.push_reserved.ensures message p.header_is p.next_is

-- where nothing was polled there was no next frame
nothing : (h : Header) (own : ℕ) (o : Option Frame) (r : Option ℕ)
    → Some h ≡ option_map header_of o → r ≡ option_map length (option_map (frame_on_line own) o)
    → ((k : ℕ) → r ≡ Some k → ⊥) → ⊥
nothing h own None r e len none = cc e
nothing h own (Some f) r e len none = none _ len

pub returns-in_default-clause-line : goal.returns-in_default-clause-line
returns-in_default-clause-line c = absurd (nothing _ _ _ _ c.requires.header c.poll.ensures.length
    c.in_default.not-Some)

pub returns-in_default-clause-kept : goal.returns-in_default-clause-kept
returns-in_default-clause-kept c = absurd (nothing _ _ _ _ c.requires.header c.poll.ensures.length
    c.in_default.not-Some)
