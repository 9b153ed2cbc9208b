-- The pace at which a serial device is written to.
use Rattle.std.specs.Prelude.{ℕ, ◌+◌, ◌-◌, ◌*◌, ◌/◌, ◌≤◌, ◌==◌, if◌then◌else◌, max, min, nat_lt}
use Rattle.ddcmp_device.specs.declared.pace.Pace.{Pace}

abbrev pub us_of : ℕ → ℕ
us_of ms = min (1000 * ms) 18446744073709551615

-- for how many microseconds a device has bytes at this moment, in milliseconds
abbrev pub ahead_at : ℕ → Pace → ℕ
ahead_at now p = p.due - us_of now

-- It is given bytes for a quarter of a second at most, once it has them for an eighth or less.
abbrev pub room_at : ℕ → Pace → ℕ
room_at now p =
    if p.baud == 0 then 18446744073709551615
    else if nat_lt 125000 (ahead_at now p) then 0
    else max 1 ((250000 - ahead_at now p) * p.baud / 10000000)

-- the milliseconds until then
abbrev pub wait_at : ℕ → Pace → ℕ
wait_at now p = (ahead_at now p - 125000 + 999) / 1000

-- It took so many bytes.
abbrev pub after_given : ℕ → ℕ → Pace → Pace
after_given now n p =
    if p.baud == 0 then p
    else record p {
      due =
          min (max p.due (us_of now) + min (10000000 * n) 18446744073709551615 / p.baud)
          18446744073709551615;
    }

-- ---- what holds of a device

-- The pace of a device at a moment: the moments at which it was given bytes don't go back, and each
-- time it was given no more than there was room for.
pub data IsPaced : ℕ → Pace → Type 0 where
  New : (now baud : ℕ) → IsPaced now (record { baud = baud; due = 0 })
  Later : (now later : ℕ) (p : Pace) → IsPaced now p → now ≤ later → IsPaced later p
  Given : (now n : ℕ) (p : Pace) → IsPaced now p → n ≤ room_at now p
      → IsPaced now (after_given now n p)

-- A quarter of a second; or an eighth and one byte, if a byte needs longer than an eighth.
abbrev pub most_ahead : ℕ → ℕ
most_ahead baud = max 250000 (125000 + 10000000 / baud)

-- What a device was given from a moment on, in the same way: the moment now, the pace, how many
-- bytes it was given, and by how many calls.
pub data Gifts (since : ℕ) (first : Pace) : ℕ → Pace → ℕ → ℕ → Type 0 where
  NoGift : Gifts since first since first 0 0
  Afterwards : (now later : ℕ) (p : Pace) (bytes calls : ℕ) → Gifts since first now p bytes calls
      → now ≤ later → Gifts since first later p bytes calls
  Gift : (now n : ℕ) (p : Pace) (bytes calls : ℕ) → Gifts since first now p bytes calls
      → n ≤ room_at now p
      → Gifts since first now (after_given now n p) (bytes + n) (calls + 1)
