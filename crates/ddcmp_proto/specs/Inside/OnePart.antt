-- Bytes of the line up to an item, the part of `feed` that is proved by itself.
use Rattle.std.specs.Prelude.{◌≡◌, ℕ, ◌+◌, ◌<◌, ◌≤◌, List, ◌++◌, length, take, option_to_list}
use Rattle.std.specs.Prelude.{Option}
use Rattle.ddcmp_frame.specs.Reader.{StandsFor}
use Rattle.ddcmp_frame.specs.Reading.{ReadItem, items}
use Rattle.ddcmp_core.specs.declared.notice.Notice.{Notice}
use Rattle.ddcmp_core.specs.Table.{acknowledged_by}
use Rattle.ddcmp_proto.specs.Bytes.{after_items, notices_of_items}
use Rattle.ddcmp_proto.specs.Station.{StationView}

-- What bytes of the line do if only the last may complete an item: the items that they add, for
-- every text that the reader stands for, and what these do to the station.
pub record TakesPart (old : StationView) (bytes : List ℕ) (new : StationView)
    (notice : Option Notice) : Type 0 where
  pub given : List ReadItem
  pub stands : (text : List ℕ) → StandsFor old.line text → StandsFor new.line (text ++ bytes)
  pub items_are : (text : List ℕ) → StandsFor old.line text
      → items old.line.max (text ++ bytes) ≡ items old.line.max text ++ given
  pub first : (text : List ℕ) (n : ℕ) → StandsFor old.line text → n < length bytes
      → items old.line.max (text ++ take n bytes) ≡ items old.line.max text
  pub core : new.core ≡ after_items given old.core
  pub told : option_to_list notice ≡ notices_of_items given old.core
  pub leaves : acknowledged_by notice + length new.core.station.out ≤ length old.core.station.out
  pub offset : new.line.offset ≡ old.line.offset + length bytes
  pub longest : old.line.max ≡ old.core.limits.longest
  pub limits : new.core.limits ≡ old.core.limits
  pub syn : new.syn ≡ old.syn
