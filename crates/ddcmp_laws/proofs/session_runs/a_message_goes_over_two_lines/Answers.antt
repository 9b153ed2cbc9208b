use Rattle.std.proofs.Common.{◌≡◌, sym, subst, ℕ, refl, take, drop}
use Rattle.ddcmp_io.specs.declared.carrier.End.TheVariants.{A, B}
use Rattle.ddcmp_session.specs.Connections.{AreDone}
use Rattle.ddcmp_laws.specs.AnewStory.{small_connections, steps_anew, steps_anew_by}
use Rattle.ddcmp_laws.specs.Connected.{connections_in}
use Rattle.ddcmp_laws.specs.Connections.{first_connection}
use Rattle.ddcmp_laws.specs.LastConnection.{StartsLast}
use Rattle.ddcmp_laws.specs.Pipe.{connects}
use Rattle.ddcmp_laws.specs.PipeStory.{small_made}
use Rattle.ddcmp_laws.specs.SessionRuns.{calls_of}
use Rattle.ddcmp_laws.proofs.AllLines.{calls-done, calls-split, done-front}
use Rattle.ddcmp_laws.proofs.session_runs.a_message_goes_over_two_lines.Goals as goal

never : {P : Type 0} → ◌≡◌ {A = ℕ} 1 0 → P
never e = cc

pub returns : goal.returns
unfolding steps_anew_by calls_of connections_in connects
returns c = λ line other_line.
    let w = c.a_message_comes_through_anew.ensures in
    let steps = steps_anew line other_line in
    let first = first_connection (small_made line) in
    let other = first_connection (small_made other_line) in
    let done = calls-done steps (small_connections line other_line) (w.calls line other_line) in
    let of_a = calls-split A 6 steps in
    let of_b = calls-split B 6 steps in (
      record {
        one_a = (refl, refl);
        one_b = (refl, refl);
        done_a =
            done-front (calls_of A (take 6 steps)) (calls_of A (drop 6 steps)) first
            (subst (λ xs. AreDone xs first) (sym of_a) done.0);
        done_b =
            done-front (calls_of B (take 6 steps)) (calls_of B (drop 6 steps)) other
            (subst (λ xs. AreDone xs other) (sym of_b) done.1);
        starts_a = (λ e. refl, (λ e. tt, (λ e. tt, (λ e. tt, tt))));
        starts_b = (λ e. refl, (λ e. tt, tt));
        streams = record {
          steps = take 6 steps;
          of_a = refl;
          of_b = refl;
          streams = (
            λ d e. never e,
            (
              λ d e. record { to_a = (_, refl); to_b = (_, refl) },
              (
                λ d e. record { to_a = (_, refl); to_b = (_, refl) },
                (
                  λ d e. record { to_a = (_, refl); to_b = (_, refl) },
                  (
                    λ d e. record { to_a = (_, refl); to_b = (_, refl) },
                    (λ d e. record { to_a = (_, refl); to_b = (_, refl) }, tt),
                  ),
                ),
              ),
            ),
          );
        };
      },
      (
        record {
          one_a = (refl, refl);
          one_b = (refl, refl);
          done_a = subst (λ xs. AreDone xs first) (sym of_a) done.0;
          done_b = subst (λ xs. AreDone xs other) (sym of_b) done.1;
          starts_a = subst (λ xs. StartsLast xs first) (sym of_a) (w.ready_a line other_line);
          starts_b = subst (λ xs. StartsLast xs other) (sym of_b) (w.ready_b line other_line);
          streams = record {
            steps = steps;
            of_a = sym of_a;
            of_b = sym of_b;
            streams = w.streams line other_line;
          };
        },
        tt,
      ),
    )
