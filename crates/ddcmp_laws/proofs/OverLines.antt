-- A session that runs over devices, over one line after the other.
use Rattle.std.proofs.Common.{◌≡◌, ◌∙◌, ap, sym, refl, List, [], ◌∷◌, ◌++◌, map, Option, Some}
use Rattle.ddcmp_frame.specs.Reader.{StandsFor}
use Rattle.ddcmp_io.specs.declared.carrier.End.TheVariants.{A}
use Rattle.ddcmp_session.specs.Session.{SessionView}
use Rattle.ddcmp_session.specs.Calls.{SessionStep}
use Rattle.ddcmp_session.specs.Connections.{AreDone, after_all, after_step}
use Rattle.ddcmp_session.specs.Devices.{Agrees, BuffersView, nothing_read}
use Rattle.ddcmp_session.specs.Traffic.{Traffic, no_traffic, received, sent}
use Rattle.ddcmp_session.specs.Lines.{GoesOver}
use Rattle.ddcmp_laws.specs.Connections.{AreCalls, Connections, first_connection}
use Rattle.ddcmp_laws.specs.OverLines.{HasRunOver}
use Rattle.ddcmp_laws.specs.Pipe.{Made, session_of}
use Rattle.ddcmp_laws.specs.Sessions.{texts_of}
use Rattle.ddcmp_laws.proofs.Anew.{text_of_all}

pub agrees_first : (made : Made) → StandsFor made.line []
    → Agrees nothing_read (session_of made) no_traffic
unfolding received sent
agrees_first made stands = record {
  read = refl;
  over = refl;
  told = λ e. cc;
  drained = λ e. cc;
  ended = λ e. cc;
  came = refl;
  gone = refl;
  written = refl;
  down = λ why e. cc;
  stands = stands;
}

pub runs_over : (made : Made) (now : SessionView) (held : BuffersView) (known : Option Traffic)
    → StandsFor made.line []
    → GoesOver nothing_read (session_of made).session (Some no_traffic) held now known
    → (t : Traffic) × (known ≡ Some t) × HasRunOver made now held t
runs_over made now held known stands goes =
    let a = goes (first_connection made) no_traffic refl refl (agrees_first made stands) in
    let w = a.2 in (
      a.0,
      a.1,
      record { steps = w.steps; calls = w.calls; session = w.session; agrees = w.agrees },
    )

pub are_calls_of_a : (steps : List SessionStep) (p : Connections) → AreDone steps p.a
    → AreCalls (map (λ (step : SessionStep). (A, step)) steps) p
are_calls_of_a [] p does = tt
are_calls_of_a (step ∷ rest) p does =
    (does.0, are_calls_of_a rest (record { a = after_step step p.a; b = p.b }) does.1)

pub is_text_over : (made : Made) (now : SessionView) (held : BuffersView) (t : Traffic)
    (ran : HasRunOver made now held t)
    → t.written ++ now.output.waiting
    ≡ texts_of made.options.form
    (after_all ran.steps (first_connection made)).history.shown
is_text_over made now held t ran =
    let c = after_all ran.steps (first_connection made) in
    ap (λ xs. xs ++ now.output.waiting) ran.agrees.written
    ∙ ap (λ (s : SessionView). c.history.written ++ s.output.waiting) (sym ran.session)
    ∙ text_of_all made ran.steps ran.calls
