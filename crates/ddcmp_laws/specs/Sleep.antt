-- An end that sleeps: it does nothing more by itself.
use Rattle.std.specs.Prelude.{◌≡◌, ◌≢◌, None}
use Rattle.ddcmp_core.specs.declared.state.State.TheVariants.{Halted}
use Rattle.ddcmp_core.specs.declared.state.Timer.TheVariants.{Off}
use Rattle.ddcmp_pair.specs.Run.{EndState, PairState, line_bytes}

-- An end sleeps if it has no frame to send and its reply timer is off.
pub record IsAsleep (x : EndState) : Type 0 where
  pub no_frame : line_bytes x ≡ None
  pub no_timer : x.core.station.timer ≡ Off

-- Neither end is halted: each was started, and none was halted by a restart of its peer.
pub record AreUp (p : PairState) : Type 0 where
  pub a : p.a.core.station.state ≢ Halted
  pub b : p.b.core.station.state ≢ Halted
