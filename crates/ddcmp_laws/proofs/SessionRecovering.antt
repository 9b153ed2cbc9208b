-- Two sessions over lines that lose nothing from some moment on.
use Rattle.std.proofs.Common.{◌≡◌, ◌∙◌, ap, sym, subst, ℕ, Bool, false, List, None}
use Rattle.std.specs.Prelude.{not}
use Rattle.ddcmp_core.specs.Choosing.{after_choose}
use Rattle.ddcmp_io.specs.declared.carrier.End.TheVariants.{A, B}
use Rattle.ddcmp_pair.specs.declared.event.Event.{Event}
use Rattle.ddcmp_pair.specs.Choices.{after_choice}
use Rattle.ddcmp_pair.specs.Run.{PairState, new_pair, run}
use Rattle.ddcmp_pair.proofs.Modes.{run-modes}
use Rattle.ddcmp_station.specs.Linking.{LinkView, link_made, with_state}
use Rattle.ddcmp_streams.specs.Options.{takes_at_once}
use Rattle.ddcmp_laws.specs.LinkSweeps.{LinkLine, LinksLoseNothing, events_of_steps, line_of}
use Rattle.ddcmp_laws.specs.LossFree.{IsWhole, Line}
use Rattle.ddcmp_laws.specs.Rests.{IsUnderWay}
use Rattle.ddcmp_laws.specs.Sweeps.{IsRecoveryBySweeps}
use Rattle.ddcmp_laws.proofs.Queues.{all_of}
use Rattle.ddcmp_proto.specs.Config.{first_refusal}
use Rattle.ddcmp_io.specs.declared.carrier.End.{End}
use Rattle.ddcmp_session.specs.Calls.{SessionStep}
use Rattle.ddcmp_laws.specs.LinkLines.{AreLinkCalls}
use Rattle.ddcmp_laws.specs.LinkSweeps.{LinksAreDone}
use Rattle.ddcmp_laws.specs.Links.{Links, after_steps, new_history}
use Rattle.ddcmp_laws.specs.Pipe.{AreSessionCalls, Made, Sessions, after_sessions, link_steps_at}
use Rattle.ddcmp_laws.specs.Pipe.{links_made, new_sessions, pair_made}
use Rattle.ddcmp_laws.specs.SessionRecovery.{SessionsAreDone, SessionsAreUnderWay, SessionsRecover}
use Rattle.ddcmp_laws.proofs.LinkRecovery.{recover}
use Rattle.ddcmp_laws.proofs.Outcomes.{made_links, new_hold}
use Rattle.ddcmp_laws.proofs.Pipes.{Keeps, keeps_steps, links_of}

abbrev chosen_link : Made → Bool → LinkView
chosen_link made by_user =
    let d = link_made made.options.config made.options.timer_ms made.line in
    with_state (after_choose by_user d.station.core.station) d

module _ (first second : Made) (before steps : List (End × SessionStep)) (to_a to_b : List ℕ)
    (f : first_refusal first.options.config ≡ None)
    (g : first_refusal second.options.config ≡ None)
    (did : AreSessionCalls before (new_sessions first second))
    (does : AreSessionCalls steps (after_sessions before (new_sessions first second))) where
  abbrev begun : Sessions
  begun = new_sessions first second

  abbrev middle : Sessions
  middle = after_sessions before begun

  kept : Keeps first second before begun 0 0
  kept = keeps_steps first second before begun 0 0 did (new_hold first second before)

  keeps : Keeps first second steps middle kept.1.0 kept.1.1
  keeps = keeps_steps first second steps middle kept.1.0 kept.1.1 does kept.2

  are : AreLinkCalls (link_steps_at before begun) (links_made first second)
  are =
      subst (AreLinkCalls (link_steps_at before begun)) (sym (made_links first second before))
      kept.0

  same : after_steps (link_steps_at before begun) (links_made first second)
      ≡ links_of first second middle kept.1.0 kept.1.1
  same =
      ap (after_steps (link_steps_at before begun)) (made_links first second before) ∙ kept.1.2

  -- in these modes
  abbrev modes_links : Bool → Bool → Links
  modes_links m n = record {
    a = record (new_history first.options.config first.options.timer_ms first.line) {
      link = chosen_link first m;
    };
    b = record (new_history second.options.config second.options.timer_ms second.line) {
      link = chosen_link second n;
    };
  }

  abbrev modes_pair : Bool → Bool → PairState
  modes_pair m n =
      after_choice B n
      (after_choice A m (new_pair first.options.config second.options.config))

  abbrev modes_line : Bool → Bool → LinkLine
  modes_line m n = record {
    links = after_steps (link_steps_at before begun) (modes_links m n);
    to_a = to_a;
    to_b = to_b;
  }

  abbrev modes_way : Bool → Bool → Line
  modes_way m n =
      line_of
      (run (events_of_steps (link_steps_at before begun) (modes_links m n)) (modes_pair m n))
      (modes_line m n)

  abbrev Recovers : Bool → Bool → Type 0
  Recovers m n = AreLinkCalls (link_steps_at before begun) (modes_links m n)
      → IsWhole (modes_way m n) → IsUnderWay (modes_way m n)
      → LinksLoseNothing (link_steps_at steps middle) (modes_line m n)
      → IsRecoveryBySweeps
      (events_of_steps (link_steps_at steps middle) (modes_line m n).links) (modes_way m n)
      → LinksAreDone (after_steps (link_steps_at steps middle) (modes_line m n).links)

  early : Recovers false false
  early are whole way lose sweeps =
      recover first.options.config second.options.config first.options.timer_ms
      second.options.timer_ms first.line second.line (link_steps_at before begun) to_a to_b f g are
      whole way (link_steps_at steps middle) lose sweeps

  if_early : (m n : Bool) → m ≡ false → n ≡ false → Recovers m n
  if_early m n a b = subst (λ x. Recovers x n) (sym a) (subst (λ y. Recovers false y) (sym b) early)

  abbrev events : List Event
  events = events_of_steps (link_steps_at before begun) (links_made first second)

  pub sessions-recover : SessionsAreUnderWay first second before to_a to_b
      → SessionsRecover first second before steps to_a to_b
      → SessionsAreDone first second (after_sessions steps middle)
  sessions-recover way goes = by
      (subst LinksAreDone
      (ap (after_steps (link_steps_at steps middle)) same ∙ keeps.1.2)
      (if_early (not (takes_at_once first.options)) (not (takes_at_once second.options))
      (sym (run-modes events (pair_made first second) A) ∙ way.whole.early.a)
      (sym (run-modes events (pair_made first second) B) ∙ way.whole.early.b) are way.whole
      way.under_way goes.lose_nothing goes.sweeps))
    where
      by : LinksAreDone (links_of first second (after_sessions steps middle) keeps.1.0 keeps.1.1)
          → SessionsAreDone first second (after_sessions steps middle)
      by d = record {
        from_a = record {
          runs = d.from_a.runs;
          received =
              all_of (after_sessions steps middle).b.session (after_sessions steps middle).b.shown
              keeps.2.1.queued
              ∙ d.from_a.received;
        };
        from_b = record {
          runs = d.from_b.runs;
          received =
              all_of (after_sessions steps middle).a.session (after_sessions steps middle).a.shown
              keeps.2.0.queued
              ∙ d.from_b.received;
        };
      }
