-- The run of a new session.
use Rattle.std.proofs.Common.{◌≡◌, ap, subst, Bool, [], Option}
use Rattle.std.specs.Prelude.{Result, Ok, Err}
use Rattle.ddcmp_frame.specs.Reader.{StandsFor}
use Rattle.ddcmp_session.specs.declared.buffers.lines.Stop.TheVariants.{the_data as Stop}
use Rattle.ddcmp_session.specs.declared.devices.DeviceFault.{DeviceFault}
use Rattle.ddcmp_session.specs.declared.link.LinkFault.TheVariants.{the_data as LinkFault, Stopped}
use Rattle.ddcmp_session.specs.declared.link.LinkOutcome.{LinkOutcome}
use Rattle.ddcmp_io.specs.declared.line_kind.LineKind.{LineKind}
use Rattle.ddcmp_streams.specs.declared.options.Options.{Options}
use Rattle.ddcmp_session.specs.Session.{SessionView, session_made}
use Rattle.ddcmp_session.specs.Devices.{BuffersView, nothing_read}
use Rattle.ddcmp_session.specs.Traffic.{Traffic}
use Rattle.ddcmp_session.specs.Finishing.{RunsToEnd}
use Rattle.ddcmp_session.specs.Lines.{ReportsOver}
use Rattle.ddcmp_session.specs.NewRun.{ReportsNew, RunsNew}

pub runs-new : {well : Bool} {options : Options} {kind : LineKind} {held new_held : BuffersView}
    {s last : SessionView} {before after : Option Traffic}
    → held ≡ nothing_read → s ≡ session_made options kind s.link.station.line
    → StandsFor s.link.station.line [] → RunsToEnd well held s before new_held last after
    → RunsNew well options kind before last after
runs-new {well} {options} {kind} {held} {new_held} {s} {last} {before} {after} none made clear
    ends =
    record {
      line = s.link.station.line;
      clear = clear;
      held = new_held;
      ends = subst (λ h. RunsToEnd well h (session_made options kind s.link.station.line) before
          new_held last after) none
          (subst (λ x. RunsToEnd well held x before new_held last after) made ends);
    }

pub reports-new : {options : Options} {kind : LineKind} {held : BuffersView} {s : SessionView}
    {before after : Option Traffic} {fault : DeviceFault}
    → held ≡ nothing_read → s ≡ session_made options kind s.link.station.line
    → StandsFor s.link.station.line [] → ReportsOver held s before after fault
    → ReportsNew options kind before after fault
reports-new {options} {kind} {held} {s} {before} {after} {fault} none made clear reports = record {
  line = s.link.station.line;
  clear = clear;
  reports = subst (λ h. ReportsOver h (session_made options kind s.link.station.line) before after
      fault) none (subst (λ x. ReportsOver held x before after fault) made reports);
}

-- what stopped a link's run
abbrev pub stop-of : {R : Type 0} → Result LinkOutcome (LinkFault R) → Result (Unit {0}) (Stop R)
stop-of (Err (Stopped stop)) = Err stop
stop-of _ = Ok tt

abbrev or-else : {R : Type 0} → LinkOutcome → Result LinkOutcome (LinkFault R) → LinkOutcome
or-else other (Ok served) = served
or-else other (Err e) = other

pub served-in : {R : Type 0} {one other : LinkOutcome}
    → ◌≡◌ {A = Result LinkOutcome (LinkFault R)} (Ok one) (Ok other) → one ≡ other
served-in {R} {one} e = ap (λ (r : Result LinkOutcome (LinkFault R)). or-else one r) e
