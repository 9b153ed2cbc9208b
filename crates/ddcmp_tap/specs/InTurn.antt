-- What a tap writes that serves one caller after another.
use Rattle.std.specs.Prelude.{◌≡◌, ◌≢◌, ⊤, ℕ, List, [], ◌∷◌, ◌++◌, All, Option}
use Rattle.std.specs.Prelude.{Result, Ok, Err}
use Rattle.std.specs.Io.KnownBytes.{Appends}
use Rattle.ddcmp_io.specs.Written.{Known}
use Rattle.ddcmp_log.specs.declared.notation.LogNotation.{LogNotation}
use Rattle.ddcmp_log.specs.declared.side.Stamp.{Stamp}
use Rattle.ddcmp_tap.specs.Stamping.{IsStamp}
use Rattle.ddcmp_tap.specs.declared.tap_log.LogTimes.{LogTimes}
use Rattle.ddcmp_tap.specs.declared.tap_fault.Stage.TheVariants.{Connect}
use Rattle.ddcmp_tap.specs.declared.tap_fault.TapFault.{TapFault}
use Rattle.ddcmp_tap.specs.declared.tap_fault.TapFault.TheVariants.{Carrier, Read, Write, Report}
use Rattle.ddcmp_tap.specs.declared.tap_fault.TapFault.TheVariants.{Memory}
use Rattle.ddcmp_tap.specs.Logging.{AreStamped, Piece, Says, head_of, tap_text}

-- what both sides sent over one connection, and the time stamp of its end, if there is one
pub record Carried : Type 0 where
  pub pieces : List Piece
  pub stamp : Option Stamp

-- the logs of connections in order, each with its heading and its last lines; the list has the last
-- connection first
unfoldable pub carried_text : LogNotation → ℕ → List Carried → List ℕ
carried_text notation max [] = []
carried_text notation max (c ∷ before) =
    carried_text notation max before
    ++ (head_of notation ++ tap_text notation max c.stamp c.pieces)

-- What a tap wrote for several callers in turn, until a fault: the whole log of each connection,
-- and then what it wrote for the last one.
pub record SaysInTurn (notation : LogNotation) (times : LogTimes) (max : ℕ) (old new : Known)
    (fault : TapFault) : Type 0 where
  pub carried : List Carried
  pub stamped : All (λ (c : Carried). AreStamped times c.pieces × IsStamp times c.stamp) carried
  pub middle : Known
  pub wrote : Appends old middle (carried_text notation max carried)
  pub last : Says (head_of notation) notation times max middle new (Err fault)

-- a fault that ends the tap: the log, an allocation, listening or waiting failed
abbrev pub Lasts : TapFault → Type 0
Lasts (Carrier why) = why.stage ≢ Connect
Lasts Read = ⊥
Lasts Write = ⊥
Lasts Report = ⊤
Lasts Memory = ⊤

-- a result after which the next caller is served
abbrev pub PassesOver : Result (Unit {0}) TapFault → Type 0
PassesOver (Ok u) = ⊤
PassesOver (Err (Carrier why)) = why.stage ≡ Connect
PassesOver (Err Read) = ⊤
PassesOver (Err Write) = ⊤
PassesOver (Err Report) = ⊥
PassesOver (Err Memory) = ⊥
