-- A new session, and its run over devices to its end.
use Rattle.std.specs.Prelude.{Bool, [], Option, if◌then◌else◌}
use Rattle.ddcmp_frame.specs.Reader.{ReaderView, StandsFor}
use Rattle.ddcmp_session.specs.declared.devices.DeviceFault.{DeviceFault}
use Rattle.ddcmp_session.specs.declared.link.LinkOutcome.{LinkOutcome}
use Rattle.ddcmp_session.specs.declared.link.LinkOutcome.TheVariants.{Delivered, SomeRefused}
use Rattle.ddcmp_session.specs.declared.link.LinkOutcome.TheVariants.{TooLong}
use Rattle.ddcmp_io.specs.declared.line_kind.LineKind.{LineKind}
use Rattle.ddcmp_streams.specs.declared.options.Options.{Options}
use Rattle.ddcmp_session.specs.Session.{SessionView, has_too_long, session_made}
use Rattle.ddcmp_session.specs.Devices.{BuffersView, nothing_read}
use Rattle.ddcmp_session.specs.Traffic.{Traffic}
use Rattle.ddcmp_session.specs.Finishing.{RunsToEnd}
use Rattle.ddcmp_session.specs.Lines.{ReportsOver}

-- how a run that ended well is reported, depending on what was refused
abbrev pub served_of : SessionView → LinkOutcome
served_of s =
    if has_too_long s then TooLong else if s.was_refused then SomeRefused else Delivered

-- A session was made with these options, and ran to its end as `last`.
pub record RunsNew (is_well : Bool) (options : Options) (kind : LineKind) (before : Option Traffic)
    (last : SessionView) (after : Option Traffic) : Type 0 where
  pub line : ReaderView
  pub clear : StandsFor line []
  pub held : BuffersView
  pub ends : RunsToEnd is_well nothing_read (session_made options kind line) before held last after

-- A session was made with these options, and some device has reported this fault, over some line of
-- its run.
pub record ReportsNew (options : Options) (kind : LineKind) (before after : Option Traffic)
    (fault : DeviceFault) : Type 0 where
  pub line : ReaderView
  pub clear : StandsFor line []
  pub reports : ReportsOver nothing_read (session_made options kind line) before after fault
