-- What a tap writes.
use Rattle.std.specs.Prelude.{◌≡◌, ◌⊎◌, ℕ, List, [], ◌∷◌, ◌++◌, All}
use Rattle.std.specs.Prelude.{codes, ⊤, Option, Result, Ok, Err}
use Rattle.std.specs.Io.KnownBytes.{Appends, Keeps}
use Rattle.ddcmp_io.specs.Written.{AppendsPart, Known}
use Rattle.ddcmp_log.specs.declared.notation.LogNotation.{LogNotation}
use Rattle.ddcmp_log.specs.declared.notation.LogNotation.TheVariants.{Plain, Json, Ladder}
use Rattle.ddcmp_log.specs.Logged.{items_added, logged_last, logged_lines}
use Rattle.ddcmp_log.specs.declared.side.Side.{Side}
use Rattle.ddcmp_log.specs.declared.side.Side.TheVariants.{Caller, Called}
use Rattle.ddcmp_log.specs.declared.side.Stamp.{Stamp}
use Rattle.ddcmp_tap.specs.Stamping.{IsStamp}
use Rattle.ddcmp_tap.specs.declared.tap_log.LogTimes.{LogTimes}
use Rattle.ddcmp_tap.specs.declared.tap_fault.TapFault.{TapFault}
use Rattle.ddcmp_tap.specs.declared.tap_fault.TapFault.TheVariants.{Carrier, Read, Write, Report}
use Rattle.ddcmp_tap.specs.declared.tap_fault.TapFault.TheVariants.{Memory}

-- bytes of a side that were logged together, and their time stamp, if there is one
pub record Piece : Type 0 where
  pub side : Side
  pub stamp : Option Stamp
  pub bytes : List ℕ

-- the bytes of a piece, if it is of this side
abbrev pub of_side : Side → Side → List ℕ → List ℕ
of_side Caller Caller bytes = bytes
of_side Caller Called bytes = []
of_side Called Caller bytes = []
of_side Called Called bytes = bytes

-- the bytes of a side in some pieces, in order; the list has the last piece first
unfoldable pub said : Side → List Piece → List ℕ
said side [] = []
said side (p ∷ before) = said side before ++ of_side side p.side p.bytes

-- the lines of pieces: for each, those of the items that it adds to its side
unfoldable pub pieces_text : LogNotation → ℕ → List Piece → List ℕ
pieces_text notation max [] = []
pieces_text notation max (p ∷ before) =
    pieces_text notation max before
    ++ logged_lines notation p.stamp p.side (items_added max (said p.side before) p.bytes)

-- all that a tap writes: those lines, and a last line for each side
abbrev pub tap_text : LogNotation → ℕ → Option Stamp → List Piece → List ℕ
tap_text notation max stamp pieces =
    pieces_text notation max pieces
    ++ (logged_last notation stamp Caller max (said Caller pieces)
    ++ logged_last notation stamp Called max (said Called pieces))

-- Each piece has a time stamp as requested.
abbrev pub AreStamped : LogTimes → List Piece → Type 0
AreStamped times pieces = All (λ (p : Piece). IsStamp times p.stamp) pieces

-- the tap ran until both sides had ended or one had failed
abbrev pub HasReported : Result (Unit {0}) TapFault → Type 0
HasReported (Ok u) = ⊤
HasReported (Err Read) = ⊤
HasReported (Err Write) = ⊤
HasReported (Err (Carrier why)) = ⊥
HasReported (Err Report) = ⊥
HasReported (Err Memory) = ⊥

-- What was written of a text: all of it, a beginning if the log failed, nothing without connection.
abbrev pub WritesText : Known → Known → Result (Unit {0}) TapFault → List ℕ → Type 0
WritesText old new (Ok u) text = Appends old new text
WritesText old new (Err Read) text = Appends old new text
WritesText old new (Err Write) text = Appends old new text
WritesText old new (Err (Carrier why)) text = Keeps old new
WritesText old new (Err Report) text = AppendsPart old new text
WritesText old new (Err Memory) text = AppendsPart old new text

-- the heading of a ladder: which side is which
abbrev pub head_of : LogNotation → List ℕ
head_of Plain = []
head_of Json = []
head_of Ladder =
    codes
    "> who connected to the tap                         whom the tap connected to <\n"

-- A tap wrote a heading and its log, for some pieces of what both sides sent.
pub record Says (head : List ℕ) (notation : LogNotation) (times : LogTimes) (max : ℕ)
    (old new : Known) (result : Result (Unit {0}) TapFault) : Type 0 where
  pub pieces : List Piece
  pub stamp : Option Stamp
  pub stamped : AreStamped times pieces × IsStamp times stamp
  pub wrote : WritesText old new result (head ++ tap_text notation max stamp pieces)
