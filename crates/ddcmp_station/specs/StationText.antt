-- The texts of what a station reports.
use Rattle.std.specs.Prelude.{ℕ, List, [], ◌++◌, codes, decimal, Option, Some, None}
use Rattle.ddcmp_core.specs.declared.notice.Notice.{Notice}
use Rattle.ddcmp_core.specs.declared.notice.Notice.TheVariants as notice
use Rattle.ddcmp_core.specs.declared.state.State.{State}
use Rattle.ddcmp_core.specs.declared.state.State.TheVariants.{Halted, IStart, AStart, Running}
use Rattle.ddcmp_core.specs.declared.state.State.TheVariants.{Maintenance}

-- the name of a notice, and its number if it has one
abbrev pub notice_word : Notice → List ℕ
notice_word notice.Running = codes "Running"
notice_word notice.RunningAndHandedUp = codes "RunningAndHandedUp"
notice_word (notice.Acknowledged n) = codes "Acknowledged "
notice_word notice.HandedUp = codes "HandedUp"
notice_word (notice.HandedUpAndAcknowledged n) = codes "HandedUpAndAcknowledged "
notice_word notice.PeerStarts = codes "PeerStarts"
notice_word notice.PeerRestarted = codes "PeerRestarted"
notice_word (notice.Restarted n) = codes "Restarted "
notice_word notice.MaintenanceSeen = codes "MaintenanceSeen"
notice_word notice.MaintenanceHandedUp = codes "MaintenanceHandedUp"
notice_word notice.MaintenanceDropped = codes "MaintenanceDropped"

abbrev pub notice_number : Notice → Option ℕ
notice_number (notice.Acknowledged n) = Some n
notice_number (notice.HandedUpAndAcknowledged n) = Some n
notice_number (notice.Restarted n) = Some n
notice_number _ = None

abbrev pub number_text : Option ℕ → List ℕ
number_text None = []
number_text (Some n) = decimal n

abbrev pub notice_line : List ℕ → Notice → List ℕ
notice_line who n =
    who ++ codes "notice " ++ notice_word n ++ number_text (notice_number n) ++ codes "\n"

-- the name of a state
abbrev pub state_text : State → List ℕ
state_text Halted = codes "Halted"
state_text IStart = codes "IStart"
state_text AStart = codes "AStart"
state_text Running = codes "Running"
state_text Maintenance = codes "Maintenance"
