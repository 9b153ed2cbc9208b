-- One run of two sessions that are connected twice, written out: a frame is lost with the first
-- line, and a message is delivered over the second.
use Rattle.std.specs.Prelude.{◌≡◌, true, List, [], ◌∷◌, ◌++◌, drop, take}
use Rattle.ddcmp_frame.specs.Reader.{ReaderView}
use Rattle.ddcmp_io.specs.declared.carrier.End.{End}
use Rattle.ddcmp_io.specs.declared.carrier.End.TheVariants.{A, B}
use Rattle.ddcmp_io.specs.declared.transfer.Down.TheVariants.{Closed}
use Rattle.ddcmp_session.specs.Session.{is_delivered}
use Rattle.ddcmp_session.specs.declared.line_end.LineEnd.TheVariants.{Down}
use Rattle.ddcmp_laws.specs.Vectors.{abc}
use Rattle.ddcmp_session.specs.Calls.{SessionCall, Connected, LineEnded, Filled, LineTook}
use Rattle.ddcmp_session.specs.Calls.{SessionStep}
use Rattle.ddcmp_laws.specs.PipeStory.{step_by, small_made, pipe_calls}
use Rattle.ddcmp_laws.specs.Connections.{Connections, first_connections, at, after_step_at}
use Rattle.ddcmp_laws.specs.Connections.{read_since, delivered_since}
use Rattle.ddcmp_laws.specs.AllLines.{LineSteps}
use Rattle.ddcmp_laws.specs.SessionRuns.{Ran, calls_of}

unfoldable pub steps_anew_by : List (End × SessionCall) → Connections → List (End × SessionStep)
steps_anew_by [] p = []
steps_anew_by (one ∷ rest) p =
    (one.0, step_by one.1 (at one.0 p).history)
    ∷ steps_anew_by rest (after_step_at one.0 (step_by one.1 (at one.0 p).history) p)

-- The line takes a frame of A's, which is lost, and ends. Both are connected again.
abbrev pub calls_anew : List (End × SessionCall)
calls_anew =
    (A, Connected) ∷ (B, Connected) ∷ (A, Filled 1) ∷ (A, LineTook 8)
    ∷ (A, LineEnded (Down Closed) true) ∷ (B, LineEnded (Down Closed) true) ∷ [] ++ pipe_calls

abbrev pub small_connections : ReaderView → ReaderView → Connections
small_connections line other_line = first_connections (small_made line) (small_made other_line)

abbrev pub steps_anew : ReaderView → ReaderView → List (End × SessionStep)
steps_anew line other_line = steps_anew_by calls_anew (small_connections line other_line)

-- How it ends: since it was connected again A has read a message, B has delivered the same, and
-- `is_delivered` holds for A.
pub record HasComeThroughAnew (line : ReaderView) (p : Connections) : Type 0 where
  pub read : read_since (small_made line) p.a ≡ abc ∷ []
  pub delivered : delivered_since p.b ≡ abc ∷ []
  pub over : is_delivered p.a.history.session ≡ true

-- its two lines, for runs that have made no call yet
abbrev pub lines_anew : ReaderView → ReaderView → List LineSteps
lines_anew line other_line =
    let steps = steps_anew line other_line in
    record { of_a = calls_of A (take 6 steps); of_b = calls_of B (take 6 steps) }
    ∷ record { of_a = calls_of A (drop 6 steps); of_b = calls_of B (drop 6 steps) } ∷ []

abbrev pub run_of : ReaderView → Ran
run_of line = record { made = small_made line; steps = [] }
