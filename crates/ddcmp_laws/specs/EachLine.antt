-- Each line of a run that was ended and lost nothing.
use Rattle.std.specs.Prelude.{◌≡◌, ℕ, false, ⊤, List, [], ◌∷◌, ◌++◌}
use Rattle.ddcmp_session.specs.Calls.{Connected, LineEnded, SessionCall, SessionStep}
use Rattle.ddcmp_session.specs.Connections.{AreDone, Connection, after_step}
use Rattle.ddcmp_session.specs.Devices.{BuffersView}
use Rattle.ddcmp_session.specs.Traffic.{Traffic}
use Rattle.ddcmp_session.specs.Session.{SessionView}
use Rattle.ddcmp_laws.specs.Connections.{delivered_since, first_connection, read_since}
use Rattle.ddcmp_laws.specs.Loops.{messages_given}
use Rattle.ddcmp_laws.specs.Pipe.{Made, undelivered}
use Rattle.ddcmp_laws.specs.SessionRuns.{Ran, WasEnded, got_to}
use Rattle.ddcmp_laws.specs.Sessions.{IsTakenAsWritten, mail_in}

abbrev pub EndsALine : SessionCall → Type 0
EndsALine Connected = ⊤
EndsALine (LineEnded how is_reported) = ⊤
EndsALine _ = ⊥

-- The line of a run is over if these steps follow: it ends now, or the session is connected again,
-- or the run ends.
abbrev pub LineIsOver : List SessionStep → Type 0
LineIsOver [] = ⊤
LineIsOver (step ∷ rest) = EndsALine step.call

-- This holds if the line of a run is over, and the run continues until it is ended and has lost
-- nothing.
abbrev pub HoldsOnceOver : Ran → Type 0 → Type 0
HoldsOnceOver ran Promise = (rest : List SessionStep) → AreDone rest (got_to ran) → LineIsOver rest
    → (held : BuffersView) (t : Traffic) (closed : SessionView)
    → WasEnded (record { made = ran.made; steps = ran.steps ++ rest }) held t closed
    → closed.course.lost ≡ 0 → Promise

-- Then the other has received all messages read from that one's input over that line: these, and no
-- others.
abbrev pub DeliversLine : Ran → Ran → Type 0
DeliversLine giver taker = HoldsOnceOver giver
    (delivered_since (got_to taker) ++ undelivered (got_to taker).history
    ≡ read_since giver.made (got_to giver))

-- And the other has written them, after those of earlier lines, unless it is to acknowledge early.
abbrev pub WritesLine : Ran → Ran → Type 0
WritesLine giver taker = taker.made.options.acknowledge_early ≡ false → HoldsOnceOver giver
    (IsTakenAsWritten taker.made.options.form (got_to taker).history
    (mail_in (got_to taker).shown_before ++ read_since giver.made (got_to giver)))

-- if the session is connected again, the messages read from its input over the line before
abbrev pub read_before : SessionCall → Made → Connection → List (List ℕ)
read_before Connected made c = read_since made c
read_before _ made c = []

-- the messages read from the input over all lines, one line after the other
unfoldable pub read_over_lines : Made → List SessionStep → Connection → List (List ℕ)
read_over_lines made [] c = read_since made c
read_over_lines made (step ∷ rest) c =
    read_before step.call made c ++ read_over_lines made rest (after_step step c)

-- If a run was ended and nothing was lost, these are all messages read from its input.
abbrev pub IsReadOverLines : Ran → Type 0
IsReadOverLines ran = (held : BuffersView) (t : Traffic) (closed : SessionView)
    → WasEnded ran held t closed → closed.course.lost ≡ 0
    → messages_given ran.made t
    ≡ read_over_lines ran.made ran.steps (first_connection ran.made)
