-- A frame on a line: its fill, its header and its data.
use Rattle.std.proofs.Common.{◌≡◌, ℕ, ◌+◌, ◌≤◌, List, ◌++◌, length, take, drop, replicate, refl}
use Rattle.std.proofs.Common.{sym, ◌∙◌, ap, subst, arith, length-append, Some, None}
use Rattle.std.specs.Prelude.{option_map, option_to_list}
use Rattle.std.proofs.lemmas.List.{drop-drop, drop_at, take_at, length-replicate, append-nil}
use Rattle.ddcmp_frame.specs.declared.codes.TheConstants.{SYN}
use Rattle.ddcmp_frame.specs.declared.header.Header.{Header}
use Rattle.ddcmp_frame.specs.declared.header.Header.TheVariants as header
use Rattle.ddcmp_frame.specs.Reader.{frame_length}
use Rattle.ddcmp_frame.specs.Wire.{six_bytes, eight_bytes, after_header, wire, IsFrame}
use Rattle.ddcmp_frame.proofs.WireLaws.{length-wire}
use Rattle.ddcmp_core.specs.Table.{Limits, StationState, Frame, Next, Idle, Sends, next, next_frame}
use Rattle.ddcmp_core.specs.Table.{after_next}
use Rattle.ddcmp_core.specs.Frames.{header_of, message_of}
use Rattle.ddcmp_core.specs.Counting.{counters_after_next}
use Rattle.ddcmp_core.specs.Core.{IsSound}
use Rattle.ddcmp_core.specs.Store.{with_front}
use Rattle.ddcmp_core.specs.NextFrame.{SentFor, sends_strt, sends_stack, sends_nak, sends_rep}
use Rattle.ddcmp_core.specs.NextFrame.{sends_data, sends_ack, sends_maint, halted_idles}
use Rattle.ddcmp_core.specs.NextFrame.{starting_idles, running_idles, maintenance_idles}
use Rattle.ddcmp_core.proofs.StartLaws.{read_sent}
use Rattle.ddcmp_core.proofs.Sent.{sending}
use Rattle.ddcmp_proto.specs.Bytes.{frame_on_line}
use Rattle.ddcmp_frame.proofs.Tests.{some-inj}
use Rattle.ddcmp_pair.specs.Run.{EndState, whole_frame, after_poll_here}

length-eight : (h : Header) → length (eight_bytes h) ≡ 8
unfolding six_bytes
length-eight (header.Data h) = refl
length-eight (header.Maint h) = refl
length-eight (header.Control h) = refl

behind-header : (h : Header) (m : List ℕ) → IsFrame h m → take (length m) (after_header h m) ≡ m
behind-header (header.Data h) m e = take_at m _ (length m) refl
behind-header (header.Maint h) m e = take_at m _ (length m) refl
behind-header (header.Control h) m e = rw e refl

-- the data stand after the fill and the header
pub data-behind : (syn : ℕ) (h : Header) (m : List ℕ) → IsFrame h m
    → take (length m) (drop (syn + 8) (replicate syn SYN ++ wire h m)) ≡ m
unfolding wire
data-behind syn h m e =
    let fill = replicate syn SYN in
    let rest = eight_bytes h ++ after_header h m in
    ap (take (length m))
    (sym (drop-drop 8 syn (fill ++ rest))
    ∙ ap (drop 8) (drop_at fill rest syn (length-replicate syn SYN))
    ∙ drop_at (eight_bytes h) (after_header h m) 8 (length-eight h)) ∙ behind-header h m e

pub length-line : (syn : ℕ) (h : Header) (m : List ℕ) → IsFrame h m
    → length (replicate syn SYN ++ wire h m) ≡ syn + frame_length h
length-line syn h m e =
    let w = length-wire h m e in let r = length-replicate syn SYN in
    omega (arith, length-append (replicate syn SYN) (wire h m), w, r)

room : (h : Header) (m : List ℕ) → IsFrame h m → 8 + length m ≤ frame_length h
room (header.Data h) m e = omega (arith, e)
room (header.Maint h) m e = omega (arith, e)
room (header.Control h) m e = (let z = ap length e in omega (arith, z))

pub data-within : (syn : ℕ) (h : Header) (m : List ℕ) → IsFrame h m
    → syn + 8 + length m ≤ length (replicate syn SYN ++ wire h m)
data-within syn h m e = let w = length-line syn h m e in let r = room h m e in omega (arith, w, r)

-- ---- what a station polls

poll-idle : (x : EndState) (n : Next) → next x.core.station ≡ n
    → option_map header_of (next_frame n) ≡ None → after_poll_here x ≡ x
unfolding counters_after_next
poll-idle x Idle e none =
    let station = ap (λ t. after_next t x.core.station) e in
    let counters = ap (λ t. counters_after_next x.core.station t x.core.counters) e in
    let sent =
    ap (λ t. x.sent ++ option_to_list (option_map whole_frame (next_frame t))) e
    ∙ append-nil x.sent in
    λ i. record {
      core = record { limits = x.core.limits; station = station i; counters = counters i };
      syn = x.syn;
      given = x.given;
      taken = x.taken;
      sent = sent i;
      arrived = x.arrived;
      acknowledged = x.acknowledged;
      starts = x.starts;
    }
poll-idle x (Sends f u) e none = absurd (cc)

pub nothing-polled : (x : EndState) → None ≡ option_map header_of (next_frame (next x.core.station))
    → after_poll_here x ≡ x
nothing-polled x e = poll-idle x (next x.core.station) refl (sym e)

-- the frame that is polled, where its header was reported before
pub record Polled (syn : ℕ) (s : StationState) (h : Header) : Type 0 where
  pub frame : Frame
  pub next_is : next_frame (next s) ≡ Some frame
  pub header_is : h ≡ header_of frame
  pub is_frame : IsFrame h (message_of frame)
  pub line_is : frame_on_line syn frame ≡ replicate syn SYN ++ wire h (message_of frame)
  pub count : length (frame_on_line syn frame) ≡ syn + frame_length h

polled-by : (l : Limits) (s : StationState) (syn : ℕ) (h : Header) (t : Next) → IsSound l s
    → next s ≡ t
    → Some h ≡ option_map header_of (next_frame t) → Polled syn s h
polled-by l s syn h Idle sound e hdr = absurd (cc)
polled-by l s syn h (Sends f u) sound e hdr =
    let r = read_sent l s f u sound e in
    let same : h ≡ header_of f = some-inj hdr in
    record {
      frame = f;
      next_is = ap next_frame e;
      header_is = same;
      is_frame = subst (λ g. IsFrame g (message_of f)) (sym same) r.1;
      line_is = ap (λ g. replicate syn SYN ++ wire g (message_of f)) (sym same);
      count =
          length-line syn (header_of f) (message_of f) r.1
          ∙ ap (λ g. syn + frame_length g) (sym same);
    }

pub polled : (l : Limits) (s : StationState) (syn : ℕ) (h : Header) → IsSound l s
    → Some h ≡ option_map header_of (next_frame (next s))
    → Polled syn s h
polled l s syn h sound = polled-by l s syn h (next s) sound refl

-- what stands at the front of the buffer then
pub at-front : (syn n : ℕ) (s : StationState) (old new : List ℕ) (f : Frame)
    → next_frame (next s) ≡ Some f
    → Some n ≡ option_map length (option_map (frame_on_line syn) (next_frame (next s)))
    → new ≡ with_front (option_map (frame_on_line syn) (next_frame (next s))) old
    → (n ≡ length (frame_on_line syn f)) × (take n new ≡ frame_on_line syn f)
at-front syn n s old new f e count out =
    let k : n ≡ length (frame_on_line syn f) =
    some-inj (count ∙ ap (λ t. option_map length (option_map (frame_on_line syn) t)) e) in
    let o : new ≡ frame_on_line syn f ++ drop (length (frame_on_line syn f)) old =
    out ∙ ap (λ t. with_front (option_map (frame_on_line syn) t) old) e in
    (k, ap (take n) o ∙ take_at (frame_on_line syn f) _ n (sym k))

-- ---- what is kept

sent-keeps : (s : StationState) (t : Next) → SentFor s t
    → (length (after_next t s).out ≤ length s.out) × ((after_next t s).state ≡ s.state)
sent-keeps s _ (sends_strt p d) = (omega arith, refl)
sent-keeps s _ (sends_stack p d) = (omega arith, refl)
sent-keeps s _ (sends_nak why p r) = (omega arith, refl)
sent-keeps s _ (sends_rep p n r) = (omega arith, refl)
sent-keeps s _ (sends_data p n r b) = (omega arith, refl)
sent-keeps s _ (sends_ack p r n b) = (omega arith, refl)
sent-keeps s _ (sends_maint message rest p o) = ((let z = ap length o in omega (arith, z)), refl)
sent-keeps s _ (halted_idles p) = (omega arith, refl)
sent-keeps s _ (starting_idles p d) = (omega arith, refl)
sent-keeps s _ (running_idles p r n b) = (omega arith, refl)
sent-keeps s _ (maintenance_idles p o) = (omega arith, refl)

pub sending-keeps : (s : StationState)
    → (length (after_next (next s) s).out ≤ length s.out)
    × ((after_next (next s) s).state ≡ s.state)
sending-keeps s = sent-keeps s (next s) (sending s)
