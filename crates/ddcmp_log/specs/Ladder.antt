-- The ladder: a line for each item, with an arrow from the side that it comes from to the
-- other. The caller is on the left.
use Rattle.std.specs.Prelude.{[], ℕ, ◌-◌, List, ◌++◌, codes, length, replicate, Option}
use Rattle.std.specs.Prelude.{Some, None}
use Rattle.ddcmp_frame.specs.declared.item.Item.{Item}
use Rattle.ddcmp_frame.specs.declared.item.Item.TheVariants.{Good, HeaderCheck, DataCheck, TooLong}
use Rattle.ddcmp_frame.specs.declared.item.Item.TheVariants.{Format}
use Rattle.ddcmp_explain.specs.Label.{item_label}
use Rattle.ddcmp_log.specs.Stamps.{stamp_text}
use Rattle.ddcmp_log.specs.declared.side.Side.{Side}
use Rattle.ddcmp_log.specs.declared.side.Stamp.{Stamp}
use Rattle.ddcmp_log.specs.declared.side.Side.TheVariants.{Caller, Called}

-- when bytes were received, if requested
abbrev pub ladder_front : Option Stamp → List ℕ
ladder_front None = []
ladder_front (Some stamp) = stamp_text stamp ++ codes " "

-- hyphens for a good frame, tildes for anything else
abbrev pub stroke_of : Item → ℕ
stroke_of (Good offset h) = 45
stroke_of (HeaderCheck offset) = 126
stroke_of (DataCheck offset h) = 126
stroke_of (TooLong offset h) = 126
stroke_of (Format offset fault) = 126

-- a line of 78 columns with this label
abbrev pub rung : Side → ℕ → List ℕ → List ℕ
rung Caller stroke label =
    codes "|-- " ++ label ++ codes " " ++ replicate (71 - length label) stroke ++ codes ">|\n"
rung Called stroke label =
    codes "|<" ++ replicate (71 - length label) stroke ++ codes " " ++ label ++ codes " --|\n"

abbrev pub rung_of : Option Stamp → Side → Item → List ℕ
rung_of stamp side item = ladder_front stamp ++ rung side (stroke_of item) (item_label item)
