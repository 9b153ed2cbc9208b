-- One run of two ends, written out: the events, and the reply to each.
use Rattle.std.specs.Prelude.{◌≡◌, ℕ, true, false, List, [], ◌∷◌, ◌++◌, take, drop}
use Rattle.ddcmp_core.specs.declared.notice.Notice.{Notice}
use Rattle.ddcmp_core.specs.declared.notice.Notice.TheVariants as notice
use Rattle.ddcmp_core.specs.declared.counters.Counters.{Counters}
use Rattle.ddcmp_core.specs.declared.counters.NakCounts.{NakCounts}
use Rattle.ddcmp_core.specs.Counting.{no_naks, no_counts}
use Rattle.ddcmp_core.specs.Seq.{Seq}
use Rattle.ddcmp_proto.specs.declared.config.Config.{Config}
use Rattle.ddcmp_io.specs.declared.carrier.End.TheVariants.{A, B}
use Rattle.ddcmp_pair.specs.declared.event.Event.{Event}
use Rattle.ddcmp_pair.specs.declared.event.Event.TheVariants as event
use Rattle.ddcmp_pair.specs.declared.event.Reply.{Reply}
use Rattle.ddcmp_pair.specs.declared.event.Reply.TheVariants as reply
use Rattle.ddcmp_pair.specs.Recovery.{is_done}
use Rattle.ddcmp_pair.specs.Run.{PairState, after_event, reply_to, handed_up, is_clean}
use Rattle.ddcmp_laws.specs.Vectors.{abc}

-- ---- the bytes on the line

-- STRT
abbrev pub strt_bytes : List ℕ
strt_bytes =
    0x05 ∷ 0x06 ∷ 0xC0 ∷ 0x00 ∷ 0x00 ∷ 0x01 ∷ 0x75 ∷ 0x95 ∷ []

-- STACK
abbrev pub stack_bytes : List ℕ
stack_bytes =
    0x05 ∷ 0x07 ∷ 0xC0 ∷ 0x00 ∷ 0x00 ∷ 0x01 ∷ 0x48 ∷ 0x55 ∷ []

-- ACK with RESP 0
abbrev pub ack_0_bytes : List ℕ
ack_0_bytes =
    0x05 ∷ 0x01 ∷ 0x00 ∷ 0x00 ∷ 0x00 ∷ 0x01 ∷ 0xFC ∷ 0x55 ∷ []

-- message `abc`, NUM 1, RESP 0
abbrev pub first_bytes : List ℕ
first_bytes =
    0x81 ∷ 0x03 ∷ 0x00 ∷ 0x00 ∷ 0x01 ∷ 0x01 ∷ 0x9A ∷ 0x41
    ∷ 0x61 ∷ 0x62 ∷ 0x63 ∷ 0x38 ∷ 0x97 ∷ []

-- message `de`, NUM 2, RESP 0
abbrev pub second_bytes : List ℕ
second_bytes =
    0x81 ∷ 0x02 ∷ 0x00 ∷ 0x00 ∷ 0x02 ∷ 0x01 ∷ 0xA7 ∷ 0x71
    ∷ 0x64 ∷ 0x65 ∷ 0xEA ∷ 0xEB ∷ []

-- REP with NUM 2
abbrev pub rep_2_bytes : List ℕ
rep_2_bytes =
    0x05 ∷ 0x03 ∷ 0x00 ∷ 0x00 ∷ 0x02 ∷ 0x01 ∷ 0x84 ∷ 0xF5 ∷ []

-- REP with NUM 1
abbrev pub rep_1_bytes : List ℕ
rep_1_bytes =
    0x05 ∷ 0x03 ∷ 0x00 ∷ 0x00 ∷ 0x01 ∷ 0x01 ∷ 0x84 ∷ 0x05 ∷ []

-- NAK 3, the reply to a REP, with RESP 0
abbrev pub nak_3_bytes : List ℕ
nak_3_bytes =
    0x05 ∷ 0x02 ∷ 0x03 ∷ 0x00 ∷ 0x00 ∷ 0x01 ∷ 0xB8 ∷ 0x11 ∷ []

-- message `f` of the other end, NUM 1, RESP 2
abbrev pub answer_bytes : List ℕ
answer_bytes =
    0x81 ∷ 0x01 ∷ 0x00 ∷ 0x02 ∷ 0x01 ∷ 0x01 ∷ 0x42 ∷ 0x41
    ∷ 0x66 ∷ 0x80 ∷ 0x2A ∷ []

-- ACK with RESP 1
abbrev pub ack_1_bytes : List ℕ
ack_1_bytes =
    0x05 ∷ 0x01 ∷ 0x00 ∷ 0x01 ∷ 0x00 ∷ 0x01 ∷ 0xAD ∷ 0x95 ∷ []

-- message `g`, NUM 3, RESP 1
abbrev pub third_bytes : List ℕ
third_bytes =
    0x81 ∷ 0x01 ∷ 0x00 ∷ 0x01 ∷ 0x03 ∷ 0x01 ∷ 0xB3 ∷ 0x21
    ∷ 0x67 ∷ 0x41 ∷ 0xEA ∷ []

-- the same with its data damaged: `f` for `g`
abbrev pub damaged_bytes : List ℕ
damaged_bytes =
    0x81 ∷ 0x01 ∷ 0x00 ∷ 0x01 ∷ 0x03 ∷ 0x01 ∷ 0xB3 ∷ 0x21
    ∷ 0x66 ∷ 0x41 ∷ 0xEA ∷ []

-- NAK 2, for damaged data, with RESP 2
abbrev pub nak_2_bytes : List ℕ
nak_2_bytes =
    0x05 ∷ 0x02 ∷ 0x02 ∷ 0x02 ∷ 0x00 ∷ 0x01 ∷ 0x18 ∷ 0x2D ∷ []

-- REP with NUM 3
abbrev pub rep_3_bytes : List ℕ
rep_3_bytes =
    0x05 ∷ 0x03 ∷ 0x00 ∷ 0x00 ∷ 0x03 ∷ 0x01 ∷ 0x85 ∷ 0x65 ∷ []

-- ACK with RESP 3
abbrev pub ack_3_bytes : List ℕ
ack_3_bytes =
    0x05 ∷ 0x01 ∷ 0x00 ∷ 0x03 ∷ 0x00 ∷ 0x01 ∷ 0x0C ∷ 0x55 ∷ []

-- eight bytes whose CRC is wrong
abbrev pub wrong_check_bytes : List ℕ
wrong_check_bytes =
    0x05 ∷ 0x01 ∷ 0x00 ∷ 0x00 ∷ 0x00 ∷ 0x01 ∷ 0xFC ∷ 0x54 ∷ []

-- a header with an unknown TYPE, 4
abbrev pub wrong_type_bytes : List ℕ
wrong_type_bytes =
    0x05 ∷ 0x04 ∷ 0x00 ∷ 0x00 ∷ 0x00 ∷ 0x01 ∷ 0x30 ∷ 0x55 ∷ []

-- a message of four bytes
abbrev pub too_long_bytes : List ℕ
too_long_bytes =
    0x81 ∷ 0x04 ∷ 0x00 ∷ 0x00 ∷ 0x01 ∷ 0x01 ∷ 0x2F ∷ 0x81
    ∷ 0x61 ∷ 0x62 ∷ 0x63 ∷ 0x64 ∷ 0x97 ∷ 0x39 ∷ []

-- NAK 1, for a header, with RESP 0
abbrev pub nak_1_bytes : List ℕ
nak_1_bytes =
    0x05 ∷ 0x02 ∷ 0x01 ∷ 0x00 ∷ 0x00 ∷ 0x01 ∷ 0xB9 ∷ 0xA9 ∷ []

-- NAK 17, for a header of no known form, with RESP 0
abbrev pub nak_17_bytes : List ℕ
nak_17_bytes =
    0x05 ∷ 0x02 ∷ 0x11 ∷ 0x00 ∷ 0x00 ∷ 0x01 ∷ 0xBD ∷ 0x69 ∷ []

-- NAK 16, for a message that is too long, with RESP 0
abbrev pub nak_16_bytes : List ℕ
nak_16_bytes =
    0x05 ∷ 0x02 ∷ 0x10 ∷ 0x00 ∷ 0x00 ∷ 0x01 ∷ 0xBC ∷ 0x95 ∷ []

-- NAK 8, of a full inbox, with RESP 1
abbrev pub nak_8_bytes : List ℕ
nak_8_bytes =
    0x05 ∷ 0x02 ∷ 0x08 ∷ 0x01 ∷ 0x00 ∷ 0x01 ∷ 0xEB ∷ 0xF5 ∷ []

-- ACK with RESP 2
abbrev pub ack_2_bytes : List ℕ
ack_2_bytes =
    0x05 ∷ 0x01 ∷ 0x00 ∷ 0x02 ∷ 0x00 ∷ 0x01 ∷ 0x5D ∷ 0x95 ∷ []

abbrev pub de : List ℕ
de = 0x64 ∷ 0x65 ∷ []

abbrev pub f : List ℕ
f = 0x66 ∷ []

abbrev pub g : List ℕ
g = 0x67 ∷ []

-- ---- the run

-- the default sizes
abbrev pub default_sizes : Config
default_sizes = record { window = 7; inbox = 8; max = 1500; syn = 0; restart = false }

-- the events, and the reply to each
abbrev pub Happening : Type 0
Happening = Event × Reply

abbrev pub number : ℕ → Seq
number n = record { 0 = n }

abbrev pub told : List Notice → Reply
told notices = reply.Notices notices

-- Both ends start; the STRT of B is lost.
abbrev pub startup : List Happening
startup =
    (event.Start A, reply.Started 0)
    ∷ (event.Start B, reply.Started 0)
    ∷ (event.Poll A, reply.Wrote strt_bytes)
    ∷ (event.Poll B, reply.Wrote strt_bytes)
    ∷ (event.Arrive B strt_bytes, told [])
    ∷ (event.Poll B, reply.Wrote stack_bytes)
    ∷ (event.Arrive A stack_bytes, told (notice.Running ∷ []))
    ∷ (event.Poll A, reply.Wrote ack_0_bytes)
    ∷ (event.Arrive B ack_0_bytes, told (notice.Running ∷ []))
    ∷ (event.Poll A, reply.Idle)
    ∷ (event.Poll B, reply.Idle)
    ∷ []

-- A sends two messages, and the first is lost. Its timer expires, so it sends a REP, receives a
-- NAK, and retransmits both.
abbrev pub loss : List Happening
loss =
    (event.Send A abc, reply.Accepted (number 1))
    ∷ (event.Send A de, reply.Accepted (number 2))
    ∷ (event.Poll A, reply.Wrote first_bytes)
    ∷ (event.Poll A, reply.Wrote second_bytes)
    ∷ (event.Poll A, reply.Idle)
    ∷ (event.Arrive B second_bytes, told [])
    ∷ (event.Poll B, reply.Idle)
    ∷ (event.Expire A, reply.Expired true)
    ∷ (event.Poll A, reply.Wrote rep_2_bytes)
    ∷ (event.Arrive B rep_2_bytes, told [])
    ∷ (event.Poll B, reply.Wrote nak_3_bytes)
    ∷ (event.Arrive A nak_3_bytes, told [])
    ∷ (event.Poll A, reply.Wrote first_bytes)
    ∷ (event.Poll A, reply.Wrote second_bytes)
    ∷ (
      event.Arrive B (first_bytes ++ second_bytes),
      told (notice.HandedUp ∷ notice.HandedUp ∷ []),
    )
    ∷ []

-- B replies with a message that carries the acknowledgement of both.
abbrev pub answer : List Happening
answer =
    (event.Send B f, reply.Accepted (number 1))
    ∷ (event.Poll B, reply.Wrote answer_bytes)
    ∷ (event.Poll B, reply.Idle)
    ∷ (event.Arrive A answer_bytes, told (notice.HandedUpAndAcknowledged 2 ∷ []))
    ∷ (event.Poll A, reply.Wrote ack_1_bytes)
    ∷ (event.Arrive B ack_1_bytes, told (notice.Acknowledged 1 ∷ []))
    ∷ (event.Expire A, reply.Expired false)
    ∷ (event.Expire B, reply.Expired false)
    ∷ []

-- A message is damaged in flight, B sends a NAK at once, and A retransmits it. Then the ACK is
-- lost, so A sends a REP, which is answered by an ACK: the message isn't retransmitted again.
abbrev pub damage : List Happening
damage =
    (event.Send A g, reply.Accepted (number 3))
    ∷ (event.Poll A, reply.Wrote third_bytes)
    ∷ (event.Arrive B damaged_bytes, told [])
    ∷ (event.Poll B, reply.Wrote nak_2_bytes)
    ∷ (event.Arrive A nak_2_bytes, told [])
    ∷ (event.Poll A, reply.Wrote third_bytes)
    ∷ (event.Arrive B third_bytes, told (notice.HandedUp ∷ []))
    ∷ (event.Poll B, reply.Wrote ack_3_bytes)
    ∷ (event.Expire A, reply.Expired true)
    ∷ (event.Poll A, reply.Wrote rep_3_bytes)
    ∷ (event.Arrive B rep_3_bytes, told [])
    ∷ (event.Poll B, reply.Wrote ack_3_bytes)
    ∷ (event.Arrive A ack_3_bytes, told (notice.Acknowledged 1 ∷ []))
    ∷ (event.Poll A, reply.Idle)
    ∷ (event.Poll B, reply.Idle)
    ∷ []

-- Both users take their received messages.
abbrev pub mail : List Happening
mail =
    (event.Take B, reply.Took abc)
    ∷ (event.Take B, reply.Took de)
    ∷ (event.Take B, reply.Took g)
    ∷ (event.Take B, reply.Nothing)
    ∷ (event.Take A, reply.Took f)
    ∷ (event.Take A, reply.Nothing)
    ∷ []

abbrev pub written_run : List Happening
written_run = startup ++ (loss ++ (answer ++ (damage ++ mail)))

-- ---- a second run, of ends with room for one message of at most three bytes

abbrev pub tight : Config
tight = record { window = 7; inbox = 1; max = 3; syn = 0; restart = false }

-- B receives what it can't read, and replies at once by a NAK with its reason. A has nothing to
-- retransmit.
abbrev pub faults : List Happening
faults =
    (event.Arrive B wrong_check_bytes, told [])
    ∷ (event.Poll B, reply.Wrote nak_1_bytes)
    ∷ (event.Arrive A nak_1_bytes, told [])
    ∷ (event.Poll A, reply.Idle)
    ∷ (event.Arrive B wrong_type_bytes, told [])
    ∷ (event.Poll B, reply.Wrote nak_17_bytes)
    ∷ (event.Arrive A nak_17_bytes, told [])
    ∷ (event.Poll A, reply.Idle)
    ∷ (event.Arrive B too_long_bytes, told [])
    ∷ (event.Poll B, reply.Wrote nak_16_bytes)
    ∷ (event.Arrive A nak_16_bytes, told [])
    ∷ (event.Poll A, reply.Idle)
    ∷ []

-- There is no room for the second message, and it is retransmitted once there is some.
abbrev pub want_of_room : List Happening
want_of_room =
    (event.Send A abc, reply.Accepted (number 1))
    ∷ (event.Send A de, reply.Accepted (number 2))
    ∷ (event.Poll A, reply.Wrote first_bytes)
    ∷ (event.Poll A, reply.Wrote second_bytes)
    ∷ (event.Arrive B first_bytes, told (notice.HandedUp ∷ []))
    ∷ (event.Arrive B second_bytes, told [])
    ∷ (event.Poll B, reply.Wrote nak_8_bytes)
    ∷ (event.Arrive A nak_8_bytes, told (notice.Acknowledged 1 ∷ []))
    ∷ (event.Take B, reply.Took abc)
    ∷ (event.Poll A, reply.Wrote second_bytes)
    ∷ (event.Arrive B second_bytes, told (notice.HandedUp ∷ []))
    ∷ (event.Poll B, reply.Wrote ack_2_bytes)
    ∷ (event.Arrive A ack_2_bytes, told (notice.Acknowledged 1 ∷ []))
    ∷ (event.Take B, reply.Took de)
    ∷ []

abbrev pub second_run : List Happening
second_run = startup ++ (faults ++ want_of_room)

-- ---- a third run, over a line that loses nothing

-- Both ends start at once. A sends a message, and its timer expires before the message arrives in
-- two chunks. The REP after it is answered by the same ACK.
abbrev pub clear_run : List Happening
clear_run =
    (event.Start A, reply.Started 0)
    ∷ (event.Start B, reply.Started 0)
    ∷ (event.Poll A, reply.Wrote strt_bytes)
    ∷ (event.Poll B, reply.Wrote strt_bytes)
    ∷ (event.Arrive B strt_bytes, told [])
    ∷ (event.Arrive A strt_bytes, told [])
    ∷ (event.Poll A, reply.Wrote stack_bytes)
    ∷ (event.Poll B, reply.Wrote stack_bytes)
    ∷ (event.Arrive B stack_bytes, told (notice.Running ∷ []))
    ∷ (event.Arrive A stack_bytes, told (notice.Running ∷ []))
    ∷ (event.Poll A, reply.Wrote ack_0_bytes)
    ∷ (event.Poll B, reply.Wrote ack_0_bytes)
    ∷ (event.Arrive B ack_0_bytes, told [])
    ∷ (event.Arrive A ack_0_bytes, told [])
    ∷ (event.Send A abc, reply.Accepted (number 1))
    ∷ (event.Poll A, reply.Wrote first_bytes)
    ∷ (event.Arrive B (take 5 first_bytes), told [])
    ∷ (event.Expire A, reply.Expired true)
    ∷ (event.Poll A, reply.Wrote rep_1_bytes)
    ∷ (event.Arrive B (drop 5 first_bytes ++ rep_1_bytes), told (notice.HandedUp ∷ []))
    ∷ (event.Poll B, reply.Wrote ack_1_bytes)
    ∷ (event.Arrive A ack_1_bytes, told (notice.Acknowledged 1 ∷ []))
    ∷ (event.Poll A, reply.Idle)
    ∷ (event.Poll B, reply.Idle)
    ∷ (event.Take B, reply.Took abc)
    ∷ []

abbrev pub event_in : Happening → Event
event_in h = h.0

abbrev pub reply_in : Happening → Reply
reply_in h = h.1

-- the replies of a pair to events, one after another
unfoldable pub replies_to : List Event → PairState → List Reply
replies_to [] p = []
replies_to (e ∷ rest) p = reply_to e p ∷ replies_to rest (after_event e p)

-- ---- how they end

-- A sent 3 messages of 6 bytes, and retransmitted these 3; it sent two REPs, and received two NAKs.
abbrev pub counts_of_a : Counters
counts_of_a = record no_counts {
  messages_sent = 3;
  bytes_sent = 6;
  messages_again = 3;
  bytes_again = 6;
  messages_up = 1;
  bytes_up = 1;
  rep_sent = 2;
  nak_received = record no_naks { data_check = 1; reply_to_rep = 1 };
  expiries = 2;
}

-- B sent 1 message of 1 byte; it received two REPs, and damaged data once.
abbrev pub counts_of_b : Counters
counts_of_b = record no_counts {
  messages_sent = 1;
  bytes_sent = 1;
  messages_up = 3;
  bytes_up = 6;
  rep_received = 2;
  nak_sent = record no_naks { data_check = 1; reply_to_rep = 1 };
  data_checks = 1;
}

-- In the second run A sent 2 messages of 5 bytes, and retransmitted one of them, of 2; it received
-- four NAKs.
abbrev pub four_naks : NakCounts
four_naks = record no_naks { header_check = 1; no_buffer = 1; too_long = 1; format = 1 }

abbrev pub second_counts_of_a : Counters
second_counts_of_a = record no_counts {
  messages_sent = 2;
  bytes_sent = 5;
  messages_again = 1;
  bytes_again = 2;
  nak_received = four_naks;
}

abbrev pub second_counts_of_b : Counters
second_counts_of_b = record no_counts {
  messages_up = 2;
  bytes_up = 5;
  nak_sent = four_naks;
  header_checks = 1;
  too_longs = 1;
  formats = 1;
}

-- In the third A sent a message of 3 bytes and a REP.
abbrev pub clear_counts_of_a : Counters
clear_counts_of_a = record no_counts {
  messages_sent = 1;
  bytes_sent = 3;
  rep_sent = 1;
  expiries = 1;
}

abbrev pub clear_counts_of_b : Counters
clear_counts_of_b = record no_counts { messages_up = 1; bytes_up = 3; rep_received = 1 }

-- All was delivered and acknowledged: these messages at each end. The line was honest, neither end
-- started twice, and the ends have these counters.
pub record EndsWell (p : PairState) (mail_of_a mail_of_b : List (List ℕ))
    (counts_at_a counts_at_b : Counters) : Type 0 where
  pub honest : p.honest ≡ true
  pub clean : is_clean p ≡ true
  pub done : is_done p ≡ true
  pub at_a : handed_up p.a ≡ mail_of_a
  pub at_b : handed_up p.b ≡ mail_of_b
  pub counted_at_a : p.a.core.counters ≡ counts_at_a
  pub counted_at_b : p.b.core.counters ≡ counts_at_b
