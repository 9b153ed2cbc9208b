-- A served station was driven.
use Rattle.std.proofs.Common.{◌≡◌, ◌≢◌, ℕ, Bool, List, [], ◌∷◌, refl, sym, ◌∙◌, ap, subst, Err}
use Rattle.std.specs.Prelude.{Result}
use Rattle.ddcmp_io.specs.Written.{Known}
use Rattle.ddcmp_core.specs.Core.{CoreView}
use Rattle.ddcmp_station.specs.UserCalls.{UserCall}
use Rattle.ddcmp_station.specs.declared.driver.Driven.{Driven}
use Rattle.ddcmp_io.specs.declared.device.LineFault.{LineFault}
use Rattle.ddcmp_io.specs.declared.device.LineFault.TheVariants.{Memory}
use Rattle.ddcmp_station.specs.Driving.{Driving, Devices}
use Rattle.ddcmp_proto.specs.Station.{StationView}
use Rattle.ddcmp_net.specs.declared.serve_fault.ServeFault.{ServeFault}
use Rattle.ddcmp_net.specs.declared.serve_fault.ServeFault.TheVariants.{Line}
use Rattle.ddcmp_net.specs.Serving.{default_config, HasStarted, OffersOnce, WritesOut, report_text}
use Rattle.ddcmp_net.specs.Serving.{served_answer, Serves}
use Rattle.ddcmp_laws.specs.Prefix.{Begins}
use Rattle.ddcmp_laws.specs.Driven.{DriveCall, driven, IsDriven, after_drives, begun, seen_of}
use Rattle.ddcmp_laws.specs.Served.{IsServed}
use Rattle.ddcmp_laws.proofs.Drives.{drives_by_a_call}

one_drive : (restart : Bool) (call : DriveCall)
    → after_drives 0 (call ∷ []) (begun (default_config restart))
    ≡ driven 0 call (begun (default_config restart)).core []
unfolding after_drives
one_drive restart call = refl

from_start : (restart : Bool) (call : DriveCall) (old : StationView) → HasStarted restart old
    → driven old.syn call old.core [] ≡ after_drives 0 (call ∷ []) (begun (default_config restart))
from_start restart call old h =
    ap (λ n. driven n call old.core []) h.syn ∙ ap (λ (k : CoreView). driven 0 call k []) h.core
    ∙ sym (one_drive restart call)

not_memory : (told : Result Driven LineFault) (failed : Bool)
    (answer : Result (Unit {0}) ServeFault) → answer ≡ served_answer told failed
    → answer ≢ Err (Line Memory) → told ≢ Err Memory
not_memory told failed answer e n m = n (e ∙ ap (λ t. served_answer t failed) m)

pub served : (ms turns : ℕ) (restart counted : Bool) (send : List ℕ) (devices : Devices)
    (failed : Bool) (report report_after : Known) (answer : Result (Unit {0}) ServeFault)
    → answer ≢ Err (Line Memory)
    → Serves ms turns restart counted send devices failed report report_after answer
    → (call : DriveCall)
    × IsServed ms restart counted send call devices failed report report_after
served ms turns restart counted send devices failed report report_after answer n s =
    let saw : List UserCall → Type 0 =
    λ calls. OffersOnce send calls
    × WritesOut failed report report_after (report_text counted calls s.driven s.new.core) in
    let c =
    drives_by_a_call ms turns s.old s.new devices saw s.driven
    (not_memory s.driven failed answer s.answers n) s.drives in
    let call = c.0 in
    let d : IsDriven ms call s.old s.new devices saw = c.1 in
    let e = from_start restart call s.old s.begun in
    let seen : d.seen ≡ seen_of (default_config restart) (call ∷ []) =
    sym (d.seen_is [] s.begun.line) ∙ ap (λ (x : Driving). x.seen) e in
    let shown = subst saw seen d.shown in (
      call,
      record {
        timer = d.timer;
        sent = d.sent;
        told = s.driven;
        core = s.new.core;
        consumed = d.consumed;
        appended = d.appended;
        text = sym (ap (λ (x : Driving). x.text) e) ∙ d.text [] s.begun.line;
        written = subst (λ (x : Driving). Begins d.sent x.written) e (d.written [] s.begun.line);
        offered = shown.0;
        reported = shown.1;
      },
    )
