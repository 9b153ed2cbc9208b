-- The last lines of a session's run.
use Rattle.std.specs.Prelude.{Bool, if◌then◌else◌, List, [], ◌++◌, ℕ, codes, decimal}
use Rattle.ddcmp_io.specs.Causes.{down_text}
use Rattle.ddcmp_io.specs.declared.transfer.Down.{Down}
use Rattle.ddcmp_station.specs.Linking.{LinkView}
use Rattle.ddcmp_station.specs.declared.counts.Layout.{Layout}
use Rattle.ddcmp_station.specs.declared.counts.Layout.TheVariants.{Text}
use Rattle.ddcmp_station.specs.CountersText.{counter_text, counters_line}
use Rattle.ddcmp_station.specs.StationText.{state_text}

-- the totals of a link
abbrev pub totals_text : Layout → LinkView → List ℕ
totals_text layout d =
    counter_text layout (codes "read") d.totals.read
    ++ counter_text layout (codes "written") d.totals.written
    ++ counter_text layout (codes "sent") d.totals.sent
    ++ counter_text layout (codes "acknowledged") d.totals.acknowledged
    ++ counter_text layout (codes "handed") d.totals.handed

-- the last line of a run, and the counters before it, if they are asked for
abbrev pub end_line : LinkView → List ℕ
end_line d =
    codes "state=" ++ state_text d.station.core.station.state ++ totals_text Text d ++ codes "\n"

abbrev pub end_text : Bool → LinkView → List ℕ
end_text counted d =
    if counted then counters_line [] d.station.core.counters ++ end_line d else end_line d

-- a line is down, and why
abbrev pub line_down_text : Down → List ℕ
line_down_text why = codes "line down: " ++ down_text why ++ codes "\n"

-- a line is opened again
abbrev pub pause_text : ℕ → List ℕ
pause_text seconds = codes "retry in " ++ decimal seconds ++ codes " s\n"

-- Standard output was blocked after the time of the run was over.
abbrev pub unread_text : List ℕ
unread_text =
    codes "ddcmp: " ++ codes "standard output isn't read: received messages weren't written"
    ++ codes "\n"

-- all that came over the line is what was sent
abbrev pub echo_text : List ℕ
echo_text =
    codes "ddcmp: " ++ codes "all that came is what was sent: does the line echo?" ++ codes "\n"
