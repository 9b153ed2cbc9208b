-- The text of a station's counters.
use Rattle.std.specs.Prelude.{ℕ, List, ◌++◌, codes, decimal}
use Rattle.ddcmp_core.specs.declared.counters.NakCounts.{NakCounts}
use Rattle.ddcmp_core.specs.declared.counters.Counters.{Counters}
use Rattle.ddcmp_station.specs.declared.counts.Layout.{Layout}
use Rattle.ddcmp_station.specs.declared.counts.Layout.TheVariants.{Text, Json}

-- the text before a name, and between it and its value
abbrev pub before_name : Layout → List ℕ
before_name Text = codes " "
before_name Json = codes ",\""

abbrev pub before_value : Layout → List ℕ
before_value Text = codes "="
before_value Json = codes "\":"

-- a name and its value: ` NAME=VALUE` in a line of text, `,"NAME":VALUE` in a JSON object
abbrev pub named : Layout → List ℕ → List ℕ → List ℕ
named layout name value = before_name layout ++ name ++ before_value layout ++ value

-- one counter
abbrev pub counter_text : Layout → List ℕ → ℕ → List ℕ
counter_text layout name n = named layout name (decimal n)

-- the NAKs of each reason in one direction
abbrev pub nak_counts_text : Layout → List ℕ → NakCounts → List ℕ
nak_counts_text layout way c =
    counter_text layout (way ++ codes "header_check") c.header_check
    ++ counter_text layout (way ++ codes "data_check") c.data_check
    ++ counter_text layout (way ++ codes "reply_to_rep") c.reply_to_rep
    ++ counter_text layout (way ++ codes "no_buffer") c.no_buffer
    ++ counter_text layout (way ++ codes "overrun") c.overrun
    ++ counter_text layout (way ++ codes "too_long") c.too_long
    ++ counter_text layout (way ++ codes "format") c.format
    ++ counter_text layout (way ++ codes "other") c.other

-- what was received and sent
abbrev pub traffic_text : Layout → Counters → List ℕ
traffic_text layout c =
    counter_text layout (codes "rep_sent") c.rep_sent
    ++ counter_text layout (codes "rep_received") c.rep_received
    ++ counter_text layout (codes "messages_sent") c.messages_sent
    ++ counter_text layout (codes "bytes_sent") c.bytes_sent
    ++ counter_text layout (codes "messages_again") c.messages_again
    ++ counter_text layout (codes "bytes_again") c.bytes_again
    ++ counter_text layout (codes "messages_up") c.messages_up
    ++ counter_text layout (codes "bytes_up") c.bytes_up

-- the faults
abbrev pub fault_counts_text : Layout → Counters → List ℕ
fault_counts_text layout c =
    counter_text layout (codes "expiries") c.expiries
    ++ counter_text layout (codes "header_checks") c.header_checks
    ++ counter_text layout (codes "data_checks") c.data_checks
    ++ counter_text layout (codes "too_longs") c.too_longs
    ++ counter_text layout (codes "formats") c.formats

-- all counters
abbrev pub counts_text : Layout → Counters → List ℕ
counts_text layout c =
    nak_counts_text layout (codes "nak_sent_") c.nak_sent
    ++ nak_counts_text layout (codes "nak_received_") c.nak_received
    ++ traffic_text layout c ++ fault_counts_text layout c

-- their line
abbrev pub counters_line : List ℕ → Counters → List ℕ
counters_line who c = who ++ codes "counters" ++ counts_text Text c ++ codes "\n"
