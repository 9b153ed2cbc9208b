-- What is written to standard error at the end of a line or of a run.
use Rattle.std.specs.Prelude.{◌≡◌, ℕ, List, [], ◌∷◌, Result, Err}
use Rattle.ddcmp_session.specs.EndText.{unread_text}
use Rattle.ddcmp_session.specs.Logged.{LogView, ReportsEcho, Traces}
use Rattle.ddcmp_session.specs.Session.{SessionView}
use Rattle.ddcmp_session.specs.declared.devices.DeviceFault.{DeviceFault}
use Rattle.ddcmp_session.specs.declared.devices.DeviceFault.TheVariants.{Time}
use Rattle.ddcmp_streams.specs.Errors.{ErrorsView, HasLine, Took}
use Rattle.ddcmp_streams.specs.Trace.{LogsEnd}
use Rattle.ddcmp_streams.specs.declared.errors.TheConstants.{SHORT_LINE}

-- Queued lines were written, in pieces of these lengths, and none was queued but reports of lines
-- that were left out.
abbrev pub TookEach : List ℕ → ErrorsView → ErrorsView → Type 0
TookEach [] old new = new ≡ old
TookEach (n ∷ later) old new = (mid : ErrorsView) × Took n old mid × TookEach later mid new

abbrev pub WritesQueued : ErrorsView → ErrorsView → Type 0
WritesQueued old new = (pieces : List ℕ) × TookEach pieces old new

-- The line echoes, or the trace has discarded bytes left.
abbrev pub WritesLastReports : SessionView → LogView → LogView → Type 0
WritesLastReports s old new =
    (mid : ErrorsView) × ReportsEcho s old.echo old.errors mid
    × Traces LogsEnd old.trace (record old { errors = mid }) new

-- The output was blocked for so long that it isn't read.
abbrev pub ReportsUnread : Result (Unit {0}) DeviceFault → LogView → LogView → Type 0
ReportsUnread (Err Time) old new =
    HasLine SHORT_LINE unread_text old.errors new.errors
    × (new ≡ record old { errors = new.errors })
ReportsUnread _ old new = new ≡ old
