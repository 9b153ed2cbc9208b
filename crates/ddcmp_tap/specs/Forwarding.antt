-- What contracts see of a direction of a tap.
use Rattle.std.specs.Prelude.{◌≡◌, ℕ, ◌-◌, ◌^◌, ◌==◌, ◌&&◌, Bool, true, not, nat_lt}
use Rattle.std.specs.Prelude.{if◌then◌else◌, List, [], ◌++◌, length, min}
use Rattle.ddcmp_ports.specs.declared.port.Need.{Need}
use Rattle.ddcmp_ports.specs.declared.port.Need.TheVariants.{Bytes, Nothing, Shutting}
use Rattle.ddcmp_log.specs.Items.{HasTold, ItemLogView}
use Rattle.ddcmp_log.specs.declared.notation.LogNotation.{LogNotation}
use Rattle.ddcmp_log.specs.declared.side.Side.{Side}

-- A direction: the log of what was received; the bytes that weren't forwarded yet, and for how many
-- more there is room; whether its side has ended, and whether the other was told so.
pub record DirectionView : Type 0 where
  pub log : ItemLogView
  pub waiting : List ℕ
  pub room : ℕ
  pub ended : Bool
  pub over : Bool

-- how many more bytes may be received: no more than fit, and than can be counted
abbrev pub room_of : DirectionView → ℕ
room_of d = min d.room ((2 ^ 64 - 1) - d.log.frames.offset)

-- the other side is to be told that this one has ended: all its bytes were forwarded
abbrev pub ends : DirectionView → Bool
ends d = d.ended && (not d.over && (length d.waiting == 0))

abbrev pub reads : DirectionView → Bool
reads d = not d.ended && nat_lt 0 (room_of d)

-- no more bytes can be counted
abbrev pub is_counted_out : DirectionView → Bool
is_counted_out d =
    not d.ended
    && (((2 ^ 64 - 1) - d.log.frames.offset == 0) && (length d.waiting == 0))

-- what is needed of a line from which one direction comes, and to which the other one goes
abbrev pub need_of : DirectionView → DirectionView → Need
need_of from to = if ends to then Shutting else if reads from then Bytes else Nothing

-- the log of this side, with this notation and largest frame
abbrev pub IsOf : Side → LogNotation → ℕ → ItemLogView → Type 0
IsOf side notation max log =
    (log.side ≡ side) × (log.notation ≡ notation) × (log.frames.max ≡ max)

-- Of the bytes that came, which all are logged, those that have gone were forwarded; `whole` had
-- come when the side ended.
pub record Forwards (d : DirectionView) (came gone whole : List ℕ) : Type 0 where
  pub in_order : came ≡ gone ++ d.waiting
  pub logged : HasTold d.log.frames d.log.items came
  pub at_end : d.ended ≡ true → whole ≡ came
  pub over : d.over ≡ true → (d.waiting ≡ []) × (d.ended ≡ true)
