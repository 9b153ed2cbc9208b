-- Two sessions that sleep.
use Rattle.std.proofs.Common.{◌≡◌, inl, inr, ℕ, Bool, true, false, List}
use Rattle.std.proofs.Common.{length, sym, ◌∙◌, ap, subst, arith, Option, None, Some}
use Rattle.std.specs.Prelude.{◌&&◌, ◌||◌, is_some, not}
use Rattle.ddcmp_proto.specs.Config.{first_refusal}
use Rattle.ddcmp_station.specs.Linking.{carries_message, carries_refusal, owes_ack, puts_frame}
use Rattle.ddcmp_io.specs.declared.carrier.End.{End}
use Rattle.ddcmp_session.specs.Session.{SessionView, IsFilled}
use Rattle.ddcmp_session.specs.Calls.{SessionStep}
use Rattle.ddcmp_laws.specs.PairCalls.{run_calls}
use Rattle.ddcmp_laws.specs.Links.{Links, after_steps}
use Rattle.ddcmp_laws.specs.LinkLines.{AreLinkCalls, calls_of_steps, LinksAreUp, LinkIsAsleep}
use Rattle.ddcmp_laws.specs.LinkLines.{LinkIsDelivered}
use Rattle.ddcmp_laws.specs.Pipe.{Made, Sessions, new_sessions, links_made, AreSessionCalls}
use Rattle.ddcmp_laws.specs.Pipe.{pair_made}
use Rattle.ddcmp_laws.specs.Pipe.{after_sessions, link_steps_at, AreConnectedOnce}
use Rattle.ddcmp_laws.specs.SessionSleep.{SessionsAreUp, SessionIsAsleep, SessionIsDelivered}
use Rattle.ddcmp_laws.proofs.Pipes.{Keeps, keeps_steps, links_of}
use Rattle.ddcmp_laws.proofs.Outcomes.{made_links, made_start, new_hold, are_once, links_after}
use Rattle.ddcmp_laws.proofs.Queues.{all_of}
use Rattle.ddcmp_laws.proofs.Sleeping.{asleep_a, asleep_b}

none-paused : (o q : Option ℕ) (b c d : Bool) → o ≡ None → q ≡ None
    → ((is_some o && b) && c) || (is_some q && d) ≡ true → ⊥
none-paused None None b c d e f p = cc p
none-paused None (Some n) b c d e f p = cc f
none-paused (Some n) q b c d e f p = cc e

no-frame : (s : SessionView) → SessionIsAsleep s → puts_frame s.link ≡ false
no-frame s z = by z.filled
  where
    by : IsFilled s → puts_frame s.link ≡ false
    by (inl some) = absurd (let e = ap length z.sent in omega (arith, some, e))
    by (inr (inl e)) = e
    by (inr (inr paused)) =
        absurd
        (none-paused s.course.pause s.course.nak_pause (carries_message s.link)
        (not (owes_ack s.link)) (carries_refusal s.link) z.no_pause z.no_nak_pause paused)

link-asleep : (s : SessionView) → SessionIsAsleep s → LinkIsAsleep s.link
link-asleep s z =
    record { no_moment = z.no_moment; room = z.room; no_frame = no-frame s z }

module _ (first second : Made) (steps : List (End × SessionStep))
    (f : first_refusal first.options.config ≡ None)
    (g : first_refusal second.options.config ≡ None)
    (does : AreSessionCalls steps (new_sessions first second))
    (honest : (run_calls
    (calls_of_steps (link_steps_at steps (new_sessions first second)) (links_made first second))
    (pair_made first second)).honest ≡ true)
    (once : AreConnectedOnce steps) where
  keeps : Keeps first second steps (new_sessions first second) 0 0
  keeps =
      keeps_steps first second steps (new_sessions first second) 0 0 does
      (new_hold first second steps)

  abbrev ended : Sessions
  ended = after_sessions steps (new_sessions first second)

  abbrev links : Links
  links = links_of first second ended keeps.1.0 keeps.1.1

  are : AreLinkCalls (link_steps_at steps (new_sessions first second)) (links_made first second)
  are =
      subst (AreLinkCalls (link_steps_at steps (new_sessions first second)))
      (sym (made_links first second steps)) keeps.0

  same : links_after first second steps ≡ links
  same =
      ap (after_steps (link_steps_at steps (new_sessions first second)))
      (made_links first second steps)
      ∙ keeps.1.2

  pub slumber_a : SessionsAreUp ended → SessionIsAsleep ended.a.session
      → SessionIsDelivered first ended.a ended.b
  slumber_a up z = by
      (subst (λ (q : Links). LinksAreUp q → LinkIsAsleep q.a.link
      → LinkIsDelivered q.a q.b) same
      (asleep_a (pair_made first second) (links_made first second) (made_start first second f g).is
      (link_steps_at steps (new_sessions first second)) are honest
      (are_once first second steps once))
      (record { a = up.a; b = up.b }) (link-asleep ended.a.session z))
    where
      by : LinkIsDelivered links.a links.b → SessionIsDelivered first ended.a ended.b
      by d = record {
        runs = d.runs;
        received = all_of ended.b.session ended.b.shown keeps.2.1.queued ∙ d.received;
      }

  pub slumber_b : SessionsAreUp ended → SessionIsAsleep ended.b.session
      → SessionIsDelivered second ended.b ended.a
  slumber_b up z = by
      (subst (λ (q : Links). LinksAreUp q → LinkIsAsleep q.b.link
      → LinkIsDelivered q.b q.a) same
      (asleep_b (pair_made first second) (links_made first second) (made_start first second f g).is
      (link_steps_at steps (new_sessions first second)) are honest
      (are_once first second steps once))
      (record { a = up.a; b = up.b }) (link-asleep ended.b.session z))
    where
      by : LinkIsDelivered links.b links.a → SessionIsDelivered second ended.b ended.a
      by d = record {
        runs = d.runs;
        received = all_of ended.a.session ended.a.shown keeps.2.0.queued ∙ d.received;
      }
