-- Two sessions over lines that lose nothing from some moment on.
use Rattle.std.specs.Prelude.{ℕ, List}
use Rattle.ddcmp_io.specs.declared.carrier.End.{End}
use Rattle.ddcmp_session.specs.Calls.{SessionStep}
use Rattle.ddcmp_laws.specs.Links.{LinkStep}
use Rattle.ddcmp_pair.specs.Run.{run}
use Rattle.ddcmp_laws.specs.LinkSweeps.{LinkLine, LinksLoseNothing, events_of_steps, line_of}
use Rattle.ddcmp_laws.specs.Links.{after_steps}
use Rattle.ddcmp_laws.specs.LossFree.{IsWhole, Line}
use Rattle.ddcmp_laws.specs.Pipe.{Made, Sessions, after_sessions, link_steps_at, links_made}
use Rattle.ddcmp_laws.specs.Pipe.{new_sessions, pair_made}
use Rattle.ddcmp_laws.specs.Rests.{IsUnderWay}
use Rattle.ddcmp_laws.specs.SessionSleep.{SessionIsDelivered}
use Rattle.ddcmp_laws.specs.Sweeps.{IsRecoveryBySweeps}

-- the calls that these steps of two new sessions make of their links
abbrev pub links_before : Made → Made → List (End × SessionStep) → List (End × LinkStep)
links_before first second before = link_steps_at before (new_sessions first second)

-- the line between the stations of both after these steps, with these bytes in flight
abbrev pub links_between : Made → Made → List (End × SessionStep) → List ℕ → List ℕ → LinkLine
links_between first second before to_a to_b = record {
  links = after_steps (links_before first second before) (links_made first second);
  to_a = to_a;
  to_b = to_b;
}

abbrev pub line_between : Made → Made → List (End × SessionStep) → List ℕ → List ℕ → Line
line_between first second before to_a to_b =
    line_of
    (run (events_of_steps (links_before first second before) (links_made first second))
    (pair_made first second))
    (links_between first second before to_a to_b)

-- Two sessions are under way: the line was honest, neither was connected twice, neither is halted,
-- and what is in flight arrives whole. Anything may have been lost. Both acknowledge messages early
-- (`IsWhole`).
pub record SessionsAreUnderWay (first second : Made) (before : List (End × SessionStep))
    (to_a to_b : List ℕ) : Type 0 where
  pub whole : IsWhole (line_between first second before to_a to_b)
  pub under_way : IsUnderWay (line_between first second before to_a to_b)

-- Further steps lose nothing, and are a recovery by sweeps. In a sweep each end puts a frame if it
-- has one: one that holds its frames back for a pause makes none.
pub record SessionsRecover (first second : Made) (before steps : List (End × SessionStep))
    (to_a to_b : List ℕ) : Type 0 where
  pub lose_nothing : LinksLoseNothing
      (link_steps_at steps (after_sessions before (new_sessions first second)))
      (links_between first second before to_a to_b)
  pub sweeps : IsRecoveryBySweeps
      (events_of_steps (link_steps_at steps (after_sessions before (new_sessions first second)))
      (links_between first second before to_a to_b).links)
      (line_between first second before to_a to_b)

-- Each runs and has received all messages that were read from the other's input.
pub record SessionsAreDone (first second : Made) (p : Sessions) : Type 0 where
  pub from_a : SessionIsDelivered first p.a p.b
  pub from_b : SessionIsDelivered second p.b p.a
