-- What one station sends, another reads; and so a message is delivered.
use Rattle.std.proofs.Common.{◌≡◌, ℕ, ◌+◌, ◌≤◌, true, cond, List, [], ◌∷◌, ◌++◌, length, drop, map}
use Rattle.std.proofs.Common.{replicate, refl, ap, ◌∙◌, arith, None, is_none, option_map}
use Rattle.std.specs.Prelude.{nat_lt}
use Rattle.std.proofs.Math.Bool.{xor}
use Rattle.std.proofs.Math.Seq.{drop-append_seam}
use Rattle.ddcmp_num.specs.Check.{low_bits, bits, add, divisor_rest, remainder, number, check_of}
use Rattle.ddcmp_frame.specs.declared.item.Item.TheVariants as item
use Rattle.ddcmp_frame.specs.declared.header.Header.{Header}
use Rattle.ddcmp_frame.specs.Wire.{six_bytes, wire, IsFrame}
use Rattle.ddcmp_frame.specs.Spelling.{is_check_right, parsed, IsInRange}
use Rattle.ddcmp_frame.specs.Rows.{read_for, read_rows}
use Rattle.ddcmp_frame.specs.Reading.{ReadItem, is_data_right, row, read, items, ending}
use Rattle.ddcmp_frame.specs.Reading.{open_at_end, good_frames_in}
use Rattle.ddcmp_frame.proofs.FrameLaws.{whole-items, whole-closed}
use Rattle.ddcmp_core.specs.declared.state.State.TheVariants.{Running}
use Rattle.ddcmp_core.specs.Table.{Limits, StationState, Frame, Data, Good, new_station}
use Rattle.ddcmp_core.specs.Table.{after_accept, on, notice_of, Sends, next, next_frame}
use Rattle.ddcmp_core.specs.Counting.{counters_on, counters_after_next}
use Rattle.ddcmp_core.specs.Frames.{header_of, message_of}
use Rattle.ddcmp_core.specs.Core.{IsSound}
use Rattle.ddcmp_core.proofs.StartLaws.{read_sent}
use Rattle.ddcmp_proto.specs.Bytes.{received_of, after_items, notices_of_items, items_added}
use Rattle.ddcmp_proto.specs.Bytes.{frame_on_line}
use Rattle.ddcmp_proto.specs.Config.{first_refusal}
use Rattle.ddcmp_proto.specs.declared.config.Config.{Config}
use Rattle.ddcmp_io.specs.declared.carrier.End.TheVariants.{A, B}
use Rattle.ddcmp_pair.specs.declared.event.Event.TheVariants as event
use Rattle.ddcmp_pair.specs.declared.event.Reply.TheVariants as reply
use Rattle.ddcmp_pair.specs.Place.{first_index, place_from}
use Rattle.ddcmp_pair.specs.Run.{after_event, reply_to, run, handed_up, wrote}
use Rattle.ddcmp_laws.specs.Starts.{started}
use Rattle.ddcmp_laws.proofs.StartLaws.{nothing_refused, some_window}

-- a whole frame adds one item
added : (max fill : ℕ) (text message : List ℕ) (h : Header) → open_at_end max text ≡ 0 → IsInRange h
    → IsFrame h message → length message ≤ max
    → drop (length (items max text)) (items max (text ++ (replicate fill 150 ++ wire h message)))
    ≡ (item.Good (length text + fill) h, message) ∷ []
added max fill text message h none range frame fits =
    ap (λ (x : List ReadItem). drop (length (items max text)) x)
    (whole-items max text message fill h none range frame fits)
    ∙ drop-append_seam (items max text) ((item.Good (length text + fill) h, message) ∷ [])

pub read_as_sent : (l : Limits) (s u : StationState) (f : Frame) (max fill : ℕ) (text : List ℕ)
    → IsSound l s → next s ≡ Sends f u → l.longest ≤ max → open_at_end max text ≡ 0
    → map received_of (items_added max text (frame_on_line fill f)) ≡ Good f ∷ []
read_as_sent l s u f max fill text sound e longest none =
    let r = read_sent l s f u sound e in
    ap (λ (x : List ReadItem). map received_of x)
    (added max fill text (message_of f) (header_of f) none r.2 r.1
    (omega (arith, r.3, longest)))
    ∙ ap (λ (x : Frame). Good x ∷ []) r.0

pub closed_after_sent : (l : Limits) (s u : StationState) (f : Frame) (max fill : ℕ) (text : List ℕ)
    → IsSound l s → next s ≡ Sends f u → l.longest ≤ max → open_at_end max text ≡ 0
    → open_at_end max (text ++ frame_on_line fill f) ≡ 0
closed_after_sent l s u f max fill text sound e longest none =
    let r = read_sent l s f u sound e in
    whole-closed max text (message_of f) fill (header_of f) none r.2 r.1
    (omega (arith, r.3, longest))

-- a station that came up
abbrev up : StationState
up = record new_station { state = Running }

pub written : (first second : Config) (message : List ℕ) → first_refusal first ≡ None
    → 1 ≤ length message → length message ≤ first.max
    → reply_to (event.Poll A) (run (event.Send A message ∷ []) (started first second))
    ≡ reply.Wrote (frame_on_line first.syn (Data 0 1 message))
unfolding low_bits bits add divisor_rest remainder number check_of xor six_bytes wire is_check_right
    parsed read_for read_rows is_data_right row read items ending good_frames_in on notice_of next
    counters_on counters_after_next after_items notices_of_items first_index place_from after_event
    reply_to run
written first second message sizes some short =
    ap
    (λ b. wrote
    (option_map (frame_on_line first.syn)
    (next_frame (next (cond b (after_accept up message) up)))))
    (ap (λ x. is_none x)
    (nothing_refused first.window first.max message (some_window first sizes) some short))

some_room : (config : Config) → first_refusal config ≡ None → 1 ≤ config.inbox
some_room config e = grind (arith)

most_bytes : (config : Config) → first_refusal config ≡ None → config.max ≤ 16383
most_bytes config e = grind (arith)

pub delivered : (first second : Config) (message : List ℕ) → first_refusal second ≡ None
    → 1 ≤ length message → length message ≤ second.max
    → handed_up
    (run
    (event.Send A message ∷ event.Poll A
    ∷ event.Arrive B (frame_on_line first.syn (Data 0 1 message)) ∷ [])
    (started first second)).b ≡ message ∷ []
unfolding low_bits bits add divisor_rest remainder number check_of xor six_bytes wire is_check_right
    parsed read_for read_rows is_data_right row read items ending good_frames_in on notice_of next
    counters_on counters_after_next after_items notices_of_items first_index place_from after_event
    reply_to run
delivered first second message sizes some short =
    ap (λ (x : List ReadItem). (after_items x (started first second).b.core).station.inbox) whole
    ∙ ap (λ b. cond b (message ∷ []) []) room
  where
    text : List ℕ
    text = (started first second).b.arrived

    whole : items_added second.max text (frame_on_line first.syn (Data 0 1 message))
        ≡ (item.Good (length text + first.syn) (header_of (Data 0 1 message)), message) ∷ []
    whole =
        added second.max first.syn text message (header_of (Data 0 1 message)) refl
        (omega (arith, some), omega (arith, short, most_bytes second sizes)) refl short

    room : nat_lt 0 second.inbox ≡ true
    room = let n = some_room second sizes in grind (arith)
