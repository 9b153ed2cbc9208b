-- What contracts see of the log of a side.
use Rattle.std.specs.Prelude.{◌≡◌, ℕ, List, length}
use Rattle.ddcmp_frame.specs.Reader.{ReaderView, StandsFor}
use Rattle.ddcmp_frame.specs.Reading.{items}
use Rattle.ddcmp_log.specs.declared.notation.LogNotation.{LogNotation}
use Rattle.ddcmp_log.specs.declared.side.Side.{Side}

-- The side and the notation, the reader of its bytes, and the number of their items.
pub record ItemLogView : Type 0 where
  pub side : Side
  pub notation : LogNotation
  pub frames : ReaderView
  pub items : ℕ

-- These bytes were logged: the reader has read them, and their items are counted.
pub record HasTold (frames : ReaderView) (count : ℕ) (told : List ℕ) : Type 0 where
  pub stands : StandsFor frames told
  pub counted : count ≡ length (items frames.max told)
