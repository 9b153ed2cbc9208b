-- How `ddcmp tap` logs, and how it ends.
use Rattle.std.specs.Prelude.{◌≡◌, ◌&&◌, if◌then◌else◌, Bool, true, false, Result, Ok, Err}
use Rattle.std.specs.Prelude.{◌++◌, codes, ℕ, List, Option, Some, None}
use Rattle.std.specs.declared.io.ErrorKind.{ErrorKind}
use Rattle.std.specs.Io.KnownBytes.{Keeps}
use Rattle.ddcmp_io.specs.Written.{Known}
use Rattle.ddcmp_explain.specs.declared.notation.Notation.{Notation}
use Rattle.ddcmp_explain.specs.declared.notation.Notation.TheVariants.{Plain, Json}
use Rattle.ddcmp_log.specs.declared.notation.LogNotation.{LogNotation}
use Rattle.ddcmp_log.specs.declared.notation.LogNotation.TheVariants as told
use Rattle.ddcmp_args.specs.declared.tap_args.TapArgs.{TapArgs}
use Rattle.ddcmp_tap.specs.declared.tap_fault.CarrierFault.{CarrierFault}
use Rattle.ddcmp_tap.specs.declared.tap_fault.TapFault.{TapFault}
use Rattle.ddcmp_tap.specs.declared.tap_fault.TapFault.TheVariants as tapping
use Rattle.ddcmp_tap.specs.declared.tap_fault.Stage.{Stage}
use Rattle.ddcmp_tap.specs.declared.tap_fault.Stage.TheVariants as stage
use Rattle.ddcmp_tap.specs.declared.tap_log.LogTimes.{LogTimes}
use Rattle.ddcmp_tap.specs.declared.tap_log.LogTimes.TheVariants as times
use Rattle.ddcmp_tap.specs.InTurn.{Lasts, SaysInTurn}
use Rattle.ddcmp_tap.specs.Logging.{Says, head_of}
use Rattle.ddcmp_ports.specs.declared.fault.Attempt.{Attempt}
use Rattle.ddcmp_ports.specs.declared.fault.Attempt.TheVariants as attempt
use Rattle.ddcmp_ports.specs.declared.fault.Cause.{Cause}
use Rattle.ddcmp_ports.specs.declared.fault.Cause.TheVariants as cause
use Rattle.ddcmp_ports.specs.Events.{attempt_text, cause_text}
use Rattle.ddcmp_commands.specs.declared.fault.Fault.TheVariants.{Read, Write, Memory as NoMemory}
use Rattle.ddcmp_commands.specs.declared.ending.Ending.{Ending}
use Rattle.ddcmp_commands.specs.declared.ending.Ending.TheVariants.{Done, Fault as Faulted}
use Rattle.ddcmp_commands.specs.Endings.{IsLineUnopened, UnlessMisused, is_json}

-- what a tap attempted at this stage
abbrev pub attempt_of : Stage → Attempt
attempt_of stage.Listen = attempt.Listen
attempt_of stage.Connect = attempt.Connect
attempt_of stage.Wait = attempt.Open

abbrev pub name_in : TapArgs → Stage → List ℕ
name_in tapped stage.Listen = tapped.listen.now
name_in tapped stage.Connect = tapped.connect.now
name_in tapped stage.Wait = codes "epoll"

abbrev pub cause_of : Option ErrorKind → Cause
cause_of None = cause.UnknownHost
cause_of (Some kind) = cause.System kind

-- how a connection that a tap can't make is reported: as the line of a link
abbrev pub carrier_text : TapArgs → CarrierFault → List ℕ
carrier_text tapped why =
    attempt_text (attempt_of why.stage)
    ++ (codes " " ++ (name_in tapped why.stage ++ (codes ": " ++ cause_text (cause_of why.cause))))

-- how the program ends after a tap with this result
abbrev pub TapEnds : TapArgs → Result (Unit {0}) TapFault → Ending → Type 0
TapEnds tapped (Ok u) ending = ending ≡ Done
TapEnds tapped (Err (tapping.Carrier why)) ending = IsLineUnopened (carrier_text tapped why) ending
TapEnds tapped (Err tapping.Read) ending = ending ≡ Faulted Read
TapEnds tapped (Err tapping.Write) ending = ending ≡ Faulted Write
TapEnds tapped (Err tapping.Report) ending = ending ≡ Faulted Write
TapEnds tapped (Err tapping.Memory) ending = ending ≡ Faulted NoMemory

-- what lines begin with: the time of day, the milliseconds or neither
abbrev pub times_of : TapArgs → LogTimes
times_of tapped =
    if tapped.clock then times.OfDay else if tapped.time then times.Elapsed else times.Absent

-- A tap writes lines of `explain` in this notation,
abbrev pub lines_in : Notation → LogNotation
lines_in Plain = told.Plain
lines_in Json = told.Json

-- or a ladder, if one is requested.
abbrev pub notation_of : TapArgs → LogNotation
notation_of tapped = if tapped.ladder then told.Ladder else lines_in tapped.notation

-- some pieces of what both sides sent were logged, below the heading of a ladder, and the ending
-- reports the result
abbrev pub Taps : TapArgs → Known → Known → Ending → Type 0
Taps tapped old new ending =
    (result : Result (Unit {0}) TapFault) × TapEnds tapped result ending
    × Says (head_of (notation_of tapped)) (notation_of tapped) (times_of tapped) tapped.max old new
    result

-- callers were served one after another, until a fault that isn't of one side, which the ending
-- reports
abbrev pub TapsInTurn : TapArgs → Known → Known → Ending → Type 0
TapsInTurn tapped old new ending =
    (fault : TapFault) × TapEnds tapped (Err fault) ending × Lasts fault
    × SaysInTurn (notation_of tapped) (times_of tapped) tapped.max old new fault

-- one caller, or one after another if `--again` is given
abbrev pub TapsBy : Bool → TapArgs → Known → Known → Ending → Type 0
TapsBy false tapped old new ending = Taps tapped old new ending
TapsBy true tapped old new ending = TapsInTurn tapped old new ending

-- the result of `tap`: JSON with a ladder is a usage error
abbrev pub TapsAsked : TapArgs → Known → Known → Ending → Type 0
TapsAsked tapped old new ending =
    UnlessMisused (tapped.ladder && is_json tapped.notation) (λ e. Keeps old new)
    (TapsBy tapped.again tapped old new) ending
