-- The text of reports.
use Rattle.std.specs.Prelude.{List, ◌++◌, ◌==◌, ℕ, codes, decimal, if◌then◌else◌, Option, Some}
use Rattle.std.specs.Prelude.{None}
use Rattle.ddcmp_explain.specs.Json.{member, quoted, reason_in_words}
use Rattle.ddcmp_frame.specs.declared.nak.Nak.{Nak}
use Rattle.ddcmp_session.specs.EndText.{totals_text}
use Rattle.ddcmp_session.specs.Course.{heard_here}
use Rattle.ddcmp_session.specs.declared.course.Course.{Course}
use Rattle.ddcmp_session.specs.declared.course.start.Unstarted.{Unstarted}
use Rattle.ddcmp_session.specs.declared.course.start.Unstarted.TheVariants.{Silence, Noise}
use Rattle.ddcmp_session.specs.declared.course.Wrong.{Wrong}
use Rattle.ddcmp_session.specs.declared.course.Wrong.TheVariants.{Damaged, TooLong}
use Rattle.ddcmp_station.specs.Linking.{LinkView}
use Rattle.ddcmp_station.specs.declared.counts.Layout.TheVariants.{Text, Json}
use Rattle.ddcmp_station.specs.CountersText.{counter_text, counters_line, counts_text}
use Rattle.ddcmp_station.specs.StationText.{state_text}

-- all counters of a link, in one line
abbrev pub report_text : ℕ → LinkView → List ℕ
report_text lost d =
    codes "report state=" ++ state_text d.station.core.station.state ++ totals_text Text d
    ++ counter_text Text (codes "lost") lost ++ counters_line (codes " ") d.station.core.counters

-- the same as the members of a JSON object, with its closing brace
abbrev pub report_members : ℕ → LinkView → List ℕ
report_members lost d =
    codes "\"event\":\"report\""
    ++ member (codes "state") (quoted (state_text d.station.core.station.state))
    ++ totals_text Json d ++ counter_text Json (codes "lost") lost
    ++ counts_text Json d.station.core.counters ++ codes "}\n"

-- why a line without progress is left
abbrev pub given_up_text : Option Nak → List ℕ
given_up_text None = codes "ddcmp: peer " ++ codes "doesn't answer" ++ codes "\n"
given_up_text (Some reason) =
    codes "ddcmp: peer refuses: " ++ reason_in_words reason ++ codes "\n"

-- the peer is silent, and the tries go on
abbrev pub silence_text : List ℕ
silence_text = codes "ddcmp: peer " ++ codes "doesn't answer, still trying" ++ codes "\n"

-- what the peer sends wrong, beside the longest message that this end receives
abbrev pub wrong_text : ℕ → Wrong → List ℕ
wrong_text longest TooLong =
    codes "ddcmp: peer's messages are too long: --max is " ++ decimal longest ++ codes "\n"
wrong_text longest Damaged =
    codes "ddcmp: " ++ codes "damaged frames alone: other speed or parity, telnet?" ++ codes "\n"

-- what is received of a peer that doesn't start
abbrev pub bytes_words : ℕ → List ℕ
bytes_words n = if n == 1 then codes " byte received\n" else codes " bytes received\n"

abbrev pub silence_at_start : ℕ → ℕ → List ℕ
silence_at_start starts bytes =
    codes "ddcmp: no reply yet: " ++ decimal starts ++ codes " STRT sent, " ++ decimal bytes
    ++ bytes_words bytes

abbrev pub noise_text : ℕ → List ℕ
noise_text bytes =
    codes "ddcmp: " ++ decimal bytes
    ++ codes " bytes received, no STRT or STACK: other speed or parity, or not DDCMP?\n"

abbrev pub unstarted_text : Course → Unstarted → List ℕ
unstarted_text c Silence = silence_at_start c.starts (heard_here c)
unstarted_text c Noise = noise_text (heard_here c)

-- the peer has no buffer, and speaks telnet
abbrev pub no_buffer_text : List ℕ
no_buffer_text = codes "ddcmp: " ++ codes "peer has no buffer" ++ codes "\n"

abbrev pub telnet_text : List ℕ
telnet_text = codes "ddcmp: " ++ codes "the peer speaks telnet: turn it off there" ++ codes "\n"
