-- What is written, in each notation.
use Rattle.std.specs.Prelude.{ℕ, List, codes, length}
use Rattle.std.specs.List.{flat_map}
use Rattle.ddcmp_frame.specs.declared.item.Item.{Item}
use Rattle.ddcmp_frame.specs.Reading.{ReadItem, items, open_at_end}
use Rattle.ddcmp_explain.specs.declared.notation.Notation.{Notation}
use Rattle.ddcmp_explain.specs.declared.notation.Notation.TheVariants.{Plain, Json}
use Rattle.ddcmp_explain.specs.Text.{front_text, line_of, totals}
use Rattle.ddcmp_explain.specs.Json.{json_front, json_line_of, json_totals}

-- the line of an item with its data
abbrev pub line_in : Notation → ReadItem → List ℕ
line_in Plain given = line_of given
line_in Json given = json_line_of given

-- the same up to the data
abbrev pub front_in : Notation → Item → List ℕ
front_in Plain item = front_text item
front_in Json item = json_front item

-- what follows the data
abbrev pub after_in : Notation → List ℕ
after_in Plain = codes "\n"
after_in Json = codes "\"}\n"

-- the lines of the items of some bytes
unfoldable pub lines : Notation → ℕ → List ℕ → List ℕ
lines notation max bytes = flat_map (line_in notation) (items max bytes)

abbrev pub totals_in : Notation → ℕ → ℕ → ℕ → List ℕ
totals_in Plain count bytes left_open = totals count bytes left_open
totals_in Json count bytes left_open = json_totals count bytes left_open

-- the totals: how many items, how many bytes, and how many of these in the incomplete frame
abbrev pub last_line : Notation → ℕ → List ℕ → List ℕ
last_line notation max bytes =
    totals_in notation (length (items max bytes)) (length bytes) (open_at_end max bytes)
