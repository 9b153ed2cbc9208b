-- A run over lines is ready for each of them, and so it starts there.
use Rattle.std.proofs.Common.{◌≡◌, ◌∙◌, ap, refl, List, [], ◌∷◌, ◌++◌, Option, Some}
use Rattle.std.specs.Prelude.{◌≤◌, Bool}
use Rattle.ddcmp_frame.specs.Reader.{StandsFor}
use Rattle.ddcmp_session.specs.Session.{SessionView, room_for_mail}
use Rattle.ddcmp_session.specs.Calls.{SessionCall, InputRead, InputEnded, Connected, LineEnded}
use Rattle.ddcmp_session.specs.Calls.{Received, Filled, LineTook, TimedOut, TimePassed, Delivered}
use Rattle.ddcmp_session.specs.Calls.{OutputTook, Closed, SessionStep}
use Rattle.ddcmp_session.specs.Connections.{AreDone, Connection, after_step}
use Rattle.ddcmp_session.specs.Devices.{BuffersView, nothing_read}
use Rattle.ddcmp_session.specs.Traffic.{Traffic, no_traffic}
use Rattle.ddcmp_session.specs.Lines.{AllReady, Ends, ReadyIf}
use Rattle.ddcmp_laws.specs.Connections.{first_connection}
use Rattle.ddcmp_laws.specs.LastConnection.{StartsEach, StartsIf, StartsLast}
use Rattle.ddcmp_laws.specs.Pipe.{Made, session_of}
use Rattle.ddcmp_laws.specs.SessionRuns.{WasEnded}
use Rattle.ddcmp_laws.proofs.Anew.{Stays, follows, stays_first, none_yet}
use Rattle.ddcmp_laws.proofs.ConnectionLaws.{starts-new}
use Rattle.ddcmp_laws.proofs.EndLaws.{size_stays}
use Rattle.ddcmp_laws.proofs.Finished.{fits, none_first}
use Rattle.ddcmp_laws.proofs.LosingAnew.{session-after}
use Rattle.ddcmp_laws.proofs.RunLaws.{ended-after}

starts-ready : (call : SessionCall) (s : SessionView) → room_for_mail s ≤ s.output.size
    → ReadyIf call s → StartsIf call s
starts-ready Connected s room ready =
    starts-new s (none_first s.link.station.core.station.inbox (ready room))
starts-ready (InputRead used) s room ready = tt
starts-ready InputEnded s room ready = tt
starts-ready (LineEnded how r) s room ready = tt
starts-ready (Received used) s room ready = tt
starts-ready (Filled n) s room ready = tt
starts-ready (LineTook n) s room ready = tt
starts-ready (TimedOut now) s room ready = tt
starts-ready TimePassed s room ready = tt
starts-ready (Delivered has) s room ready = tt
starts-ready (OutputTook n) s room ready = tt
starts-ready (Closed left over r) s room ready = tt

starts-each : (made : Made) (steps : List SessionStep) (c : Connection) → AreDone steps c
    → AllReady steps c → Stays made c
    → c.history.session.output.size ≡ (session_of made).session.output.size → StartsEach steps c
starts-each made [] c does ready stays size = tt
starts-each made (step ∷ rest) c does ready stays size =
    let s = c.history.session in
    let next = after_step step c in (
      starts-ready step.call s (fits made s stays.holds.longest size) ready.0,
      starts-each made rest next does.1 ready.1 (follows made step c none_yet does.0 stays).2
          (ap (λ (x : SessionView). x.output.size) (session-after step.call step.session c)
          ∙ size_stays step.call c.history.used s step.session does.0
          ∙ size),
    )

pub starts-to-end : (made : Made) (is_well : Bool) (held : BuffersView) (now : SessionView)
    (known : Option Traffic) → StandsFor made.line []
    → Ends is_well nothing_read (session_of made).session (Some no_traffic) held now known
    → (t : Traffic) × (known ≡ Some t)
    × (steps : List SessionStep) × AreDone steps (first_connection made)
    × WasEnded (record { made = made; steps = steps }) held t now
    × StartsEach steps (first_connection made)
starts-to-end made is_well held now known stands ends =
    let a = ended-after made is_well held now known stands ends in (
      a.0,
      a.1,
      a.2.steps,
      a.2.calls,
      a.3,
      starts-each made a.2.steps (first_connection made) a.2.calls (a.2.ready (λ room. refl))
          (stays_first made) refl,
    )

pub starts-before : (before after : List SessionStep) (c : Connection)
    → StartsEach (before ++ after) c → StartsLast before c
starts-before [] after c each = tt
starts-before (step ∷ rest) after c each =
    (λ last. each.0, starts-before rest after (after_step step c) each.1)
