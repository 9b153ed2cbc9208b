-- Two sessions that sleep: nothing is left to do without a device, and no timer is on.
use Rattle.std.specs.Prelude.{◌≡◌, ◌≢◌, true, [], ◌++◌, None}
use Rattle.ddcmp_core.specs.declared.state.State.TheVariants.{Halted, Running}
use Rattle.ddcmp_station.specs.Linking.{wakes_at, fits}
use Rattle.ddcmp_session.specs.Session.{SessionView, IsFilled}
use Rattle.ddcmp_session.specs.Calls.{SessionHistory}
use Rattle.ddcmp_laws.specs.Sessions.{messages_of, mail_in}
use Rattle.ddcmp_laws.specs.Pipe.{Made, Sessions, undelivered}

-- neither station is halted
pub record SessionsAreUp (p : Sessions) : Type 0 where
  pub a : p.a.session.link.station.core.station.state ≢ Halted
  pub b : p.b.session.link.station.core.station.state ≢ Halted

-- A session sleeps if its frames were filled, as before each wait (`Rests`), nothing is queued for
-- its line though there is room for a frame, its reply timer is off, and it holds nothing back.
pub record SessionIsAsleep (s : SessionView) : Type 0 where
  pub filled : IsFilled s
  pub sent : s.link.outbox.waiting ≡ []
  pub room : fits s.link ≡ true
  pub no_moment : wakes_at s.link ≡ None
  pub no_pause : s.course.pause ≡ None
  pub no_nak_pause : s.course.nak_pause ≡ None

-- A session runs, and the other has received all messages that were read from its input.
pub record SessionIsDelivered (made : Made) (giver taker : SessionHistory) : Type 0 where
  pub runs : giver.session.link.station.core.station.state ≡ Running
  pub received : mail_in taker.shown ++ undelivered taker
      ≡ messages_of made.options.form made.options.config.max giver.input
