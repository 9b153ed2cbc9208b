-- What the counters of a station count of its input, and those of an end of its histories.
use Rattle.std.specs.Prelude.{◌≡◌, ℕ, ◌+◌, ◌≤◌, Bool, true, false, List, [], ◌∷◌, ◌++◌, length}
use Rattle.std.specs.Prelude.{sum_by, replicate, if◌then◌else◌}
use Rattle.ddcmp_frame.specs.declared.nak.Nak.TheVariants as reason
use Rattle.ddcmp_frame.specs.declared.header.ControlType.{ControlType}
use Rattle.ddcmp_frame.specs.declared.header.ControlType.TheVariants as control
use Rattle.ddcmp_frame.specs.declared.header.Header.{Header}
use Rattle.ddcmp_frame.specs.declared.header.Header.TheVariants as header
use Rattle.ddcmp_core.specs.declared.counters.Counters.{Counters}
use Rattle.ddcmp_core.specs.declared.counters.NakCounts.{NakCounts}
use Rattle.ddcmp_core.specs.Counting.{no_counts, counters_on}
use Rattle.ddcmp_core.specs.Table.{Limits, StationState, Frame, Naked, Rep, Received, Good}
use Rattle.ddcmp_core.specs.Table.{BadHeader, BadData, TooLong, BadFormat, on}
use Rattle.ddcmp_pair.specs.declared.event.Event.{Event}
use Rattle.ddcmp_pair.specs.declared.event.Event.TheVariants as event
use Rattle.ddcmp_pair.specs.Place.{WholeFrame}
use Rattle.ddcmp_pair.specs.Run.{EndState, handed_up}

-- ---- frames of a kind

abbrev pub is_rep_type : ControlType → Bool
is_rep_type control.Rep = true
is_rep_type _ = false

abbrev pub is_nak_type : ControlType → Bool
is_nak_type control.Nak = true
is_nak_type _ = false

abbrev pub is_rep : Header → Bool
is_rep (header.Control h) = is_rep_type h.kind
is_rep _ = false

abbrev pub is_nak : Header → Bool
is_nak (header.Control h) = is_nak_type h.kind
is_nak _ = false

-- a message of the user: data or maintenance
abbrev pub is_message : Header → Bool
is_message (header.Control h) = false
is_message _ = true

abbrev pub frames_of : (Header → Bool) → List WholeFrame → ℕ
frames_of test frames = sum_by (λ f. if test f.0 then 1 else 0) frames

-- all NAKs, whatever their reason
abbrev pub all_naks : NakCounts → ℕ
all_naks c =
    c.header_check + (c.data_check + (c.reply_to_rep + (c.no_buffer + (c.overrun
    + (c.too_long + (c.format + c.other))))))

-- ---- input

-- the counters of a station after all this input
unfoldable pub counted_after : Limits → List Received → StationState → Counters → Counters
counted_after l [] s c = c
counted_after l (h ∷ rest) s c = counted_after l rest (on l s h) (counters_on l s h c)

-- each fault a different number of times
abbrev pub written_faults : List Received
written_faults =
    BadHeader ∷ BadData true ∷ BadData false ∷ TooLong true ∷ TooLong false ∷ TooLong true
    ∷ BadFormat ∷ BadFormat ∷ BadFormat ∷ BadFormat ∷ []

abbrev pub counts_of_faults : Counters
counts_of_faults = record no_counts {
  header_checks = 1;
  data_checks = 2;
  too_longs = 3;
  formats = 4;
}

abbrev pub times : ℕ → Frame → List Received
times n frame = replicate n (Good frame)

-- each reason of a NAK a different number of times, and REPs
abbrev pub written_replies : List Received
written_replies =
    times 1 (Naked reason.HeaderCheck 0) ++ (times 2 (Naked reason.DataCheck 0)
    ++ (times 3 (Naked reason.ReplyToRep 0) ++ (times 4 (Naked reason.NoBuffer 0)
    ++ (times 5 (Naked reason.Overrun 0) ++ (times 6 (Naked reason.TooLong 0)
    ++ (times 7 (Naked reason.Format 0) ++ (times 8 (Naked (reason.Other 63) 0)
    ++ times 9 (Rep 0))))))))

abbrev pub counts_of_replies : Counters
counts_of_replies = record no_counts {
  nak_received = record {
    header_check = 1;
    data_check = 2;
    reply_to_rep = 3;
    no_buffer = 4;
    overrun = 5;
    too_long = 6;
    format = 7;
    other = 8;
  };
  rep_received = 9;
}

-- ---- a run

-- the line is never cleared, which would restart the histories and not the counters
abbrev pub NeverClears : List Event → Type 0
NeverClears [] = Unit {0}
NeverClears (event.Clear ∷ rest) = ⊥
NeverClears (e ∷ rest) = NeverClears rest

-- If an end sent no more frames, and delivered no more messages, than a counter can hold, it has
-- counted each REP, each NAK and each message that it sent, for the first time or again, and each
-- that was delivered.
pub record HasCounted (x : EndState) : Type 0 where
  pub reps : length x.sent ≤ 4294967295 → x.core.counters.rep_sent ≡ frames_of is_rep x.sent
  pub naks : length x.sent ≤ 4294967295
      → all_naks x.core.counters.nak_sent ≡ frames_of is_nak x.sent
  pub messages : length x.sent ≤ 4294967295
      → x.core.counters.messages_sent + x.core.counters.messages_again
      ≡ frames_of is_message x.sent
  pub handed_up : length (handed_up x) ≤ 4294967295
      → x.core.counters.messages_up ≡ length (handed_up x)
