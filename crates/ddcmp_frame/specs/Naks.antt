-- The reasons of a NAK and their numbers in its SUBTYPE.
use Rattle.std.specs.Prelude.{ℕ, ◌==◌, if◌then◌else◌}
use Rattle.ddcmp_frame.specs.declared.nak.Nak.{Nak}
use Rattle.ddcmp_frame.specs.declared.nak.Nak.TheVariants.{HeaderCheck, DataCheck, ReplyToRep}
use Rattle.ddcmp_frame.specs.declared.nak.Nak.TheVariants.{NoBuffer, Overrun, TooLong, Format}
use Rattle.ddcmp_frame.specs.declared.nak.Nak.TheVariants.{Other}

-- the SUBTYPE of a reason
abbrev pub subtype_of : Nak → ℕ
subtype_of HeaderCheck = 1
subtype_of DataCheck = 2
subtype_of ReplyToRep = 3
subtype_of NoBuffer = 8
subtype_of Overrun = 9
subtype_of TooLong = 16
subtype_of Format = 17
subtype_of (Other n) = n

-- the reason of a SUBTYPE: the one with this number, otherwise Other
abbrev pub reason_of : ℕ → Nak
reason_of n =
    if n == 1 then HeaderCheck
    else if n == 2 then DataCheck
    else if n == 3 then ReplyToRep
    else if n == 8 then NoBuffer
    else if n == 9 then Overrun
    else if n == 16 then TooLong
    else if n == 17 then Format
    else Other n
