-- One recovery by sweeps, written out: a message was lost, and arrives.
use Rattle.std.specs.Prelude.{List, [], ◌∷◌, ◌++◌, replicate}
use Rattle.ddcmp_laws.specs.Story.{strt_bytes, stack_bytes, ack_0_bytes, rep_1_bytes, nak_3_bytes}
use Rattle.ddcmp_laws.specs.Story.{first_bytes, ack_1_bytes}
use Rattle.ddcmp_laws.specs.Vectors.{abc, small}
use Rattle.ddcmp_io.specs.declared.carrier.End.TheVariants.{A, B}
use Rattle.ddcmp_pair.specs.declared.event.Event.{Event}
use Rattle.ddcmp_pair.specs.declared.event.Event.TheVariants as event
use Rattle.ddcmp_pair.specs.Recovery.{both_expire}
use Rattle.ddcmp_pair.specs.Run.{new_pair, run}
use Rattle.ddcmp_laws.specs.LossFree.{Line, empty_line}
use Rattle.ddcmp_laws.specs.Sweeps.{in_a_row}

-- Both start; the STRT of A arrives, and the STACK of B. A accepts a message and sends it.
abbrev pub until_loss : List Event
until_loss =
    event.Start A ∷ event.Start B
    ∷ event.Poll A ∷ event.Arrive B strt_bytes ∷ event.Poll B ∷ event.Arrive A stack_bytes
    ∷ event.Send A abc ∷ event.Poll A ∷ []

-- the message is lost
abbrev pub after_loss : Line
after_loss = empty_line (run until_loss (new_pair small small))

-- a sweep with nothing in flight
abbrev pub quiet : List Event
quiet = event.Poll A ∷ event.Poll B ∷ []

-- The line is at rest. A sends a REP, which B ignores, and B retransmits its STACK, which A
-- acknowledges: both run. A sends another REP, B replies with a NAK, and the message and its
-- acknowledgement arrive.
abbrev pub at_first : List (List Event)
at_first = quiet ∷ quiet ∷ []

abbrev pub then_both_run : List (List Event)
then_both_run =
    quiet
    ∷ (event.Arrive B rep_1_bytes ∷ event.Arrive A stack_bytes ∷ quiet)
    ∷ (event.Arrive B ack_0_bytes ∷ quiet)
    ∷ replicate 11 quiet

abbrev pub then_it_arrives : List (List Event)
then_it_arrives =
    quiet
    ∷ (event.Arrive B rep_1_bytes ∷ quiet)
    ∷ (event.Arrive A nak_3_bytes ∷ quiet)
    ∷ (event.Arrive B first_bytes ∷ event.Take B ∷ quiet)
    ∷ (event.Arrive A ack_1_bytes ∷ quiet)
    ∷ replicate 5 quiet

abbrev pub recovery_events : List Event
recovery_events =
    in_a_row at_first
    ++ (both_expire ++ (in_a_row then_both_run ++ (both_expire ++ in_a_row then_it_arrives)))
