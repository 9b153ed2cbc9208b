-- What is logged of each side: the lines that `explain` writes for its bytes, each after the
-- milliseconds or the time of day, if requested, and the mark of the side.
use Rattle.std.specs.Prelude.{ℕ, ◌-◌, List, ◌++◌, codes, decimal, drop, length, Option, Some, None}
use Rattle.std.specs.List.{flat_map}
use Rattle.ddcmp_frame.specs.Reading.{ReadItem, items}
use Rattle.ddcmp_explain.specs.declared.notation.Notation.{Notation}
use Rattle.ddcmp_explain.specs.declared.notation.Notation.TheVariants as wording
use Rattle.ddcmp_explain.specs.Output.{line_in, last_line}
use Rattle.ddcmp_log.specs.Ladder.{rung_of}
use Rattle.ddcmp_log.specs.declared.notation.LogNotation.{LogNotation}
use Rattle.ddcmp_log.specs.declared.notation.LogNotation.TheVariants.{Plain, Json, Ladder}
use Rattle.ddcmp_log.specs.Stamps.{stamp_member, stamp_text}
use Rattle.ddcmp_log.specs.declared.side.Added.{Added}
use Rattle.ddcmp_log.specs.declared.side.Side.{Side}
use Rattle.ddcmp_log.specs.declared.side.Side.TheVariants.{Caller, Called}
use Rattle.ddcmp_log.specs.declared.side.Stamp.{Stamp}

abbrev pub mark_of : Side → List ℕ
mark_of Caller = codes ">"
mark_of Called = codes "<"

abbrev pub plain_front : Option Stamp → Side → List ℕ
plain_front None side = mark_of side ++ codes " "
plain_front (Some stamp) side = stamp_text stamp ++ codes " " ++ mark_of side ++ codes " "

-- the first members of an object
abbrev pub json_members : Option Stamp → Side → List ℕ
json_members None side = codes "\"from\":\"" ++ mark_of side ++ codes "\","
json_members (Some stamp) side =
    codes "\"from\":\"" ++ mark_of side ++ codes "\"" ++ stamp_member stamp

abbrev pub json_front : Option Stamp → Side → List ℕ
json_front stamp side = codes "{" ++ json_members stamp side

abbrev pub front_in : Notation → Option Stamp → Side → List ℕ
front_in wording.Plain stamp side = plain_front stamp side
front_in wording.Json stamp side = json_front stamp side

-- how many bytes of a line its front replaces: the brace of an object
abbrev pub replaced : Notation → ℕ
replaced wording.Plain = 0
replaced wording.Json = 1

-- a line with its front
abbrev pub fronted : Notation → Option Stamp → Side → List ℕ → List ℕ
fronted notation stamp side line = front_in notation stamp side ++ drop (replaced notation) line

-- the notation that `explain` uses; a ladder has lines that are no arrows in plain text
abbrev pub wording_of : LogNotation → Notation
wording_of Plain = wording.Plain
wording_of Json = wording.Json
wording_of Ladder = wording.Plain

-- the line of an item with its data; in a ladder its arrow
abbrev pub logged_line : LogNotation → Option Stamp → Side → ReadItem → List ℕ
logged_line Plain stamp side given =
    fronted wording.Plain stamp side (line_in wording.Plain given)
logged_line Json stamp side given = fronted wording.Json stamp side (line_in wording.Json given)
logged_line Ladder stamp side given = rung_of stamp side given.0

-- the lines of items that were logged at the same time
unfoldable pub logged_lines : LogNotation → Option Stamp → Side → List ReadItem → List ℕ
logged_lines notation stamp side given = flat_map (logged_line notation stamp side) given

-- the items that `more` adds to those of `told`
abbrev pub items_added : ℕ → List ℕ → List ℕ → List ReadItem
items_added max told more = drop (length (items max told)) (items max (told ++ more))

-- the last line of a side
abbrev pub logged_last : LogNotation → Option Stamp → Side → ℕ → List ℕ → List ℕ
logged_last notation stamp side max bytes =
    fronted (wording_of notation) stamp side (last_line (wording_of notation) max bytes)

-- A report on a side while it goes on: as the last line, and in an object what was added since the
-- last report.
abbrev pub reported_line : LogNotation → Option Stamp → Side → ℕ → Added → List ℕ → List ℕ
reported_line Plain stamp side max since bytes = logged_last Plain stamp side max bytes
reported_line Ladder stamp side max since bytes = logged_last Ladder stamp side max bytes
reported_line Json stamp side max since bytes =
    json_front stamp side ++ codes "\"event\":\"report\",\"interval\":{\"items\":"
    ++ decimal (length (items max bytes) - since.items) ++ codes ",\"bytes\":"
    ++ decimal (length bytes - since.bytes) ++ codes "},"
    ++ drop 1 (last_line wording.Json max bytes)
