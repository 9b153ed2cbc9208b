-- What a dump is turned into: digits of data are kept, a line that isn't one of a dump becomes
-- question marks, and everything else becomes blanks. This depends on the place of each byte in its
-- line.
use Rattle.std.specs.Prelude.{ℕ, ◌+◌, ◌-◌, ◌^◌, min, Bool, true, false, ◌==◌, ◌||◌, if◌then◌else◌}
use Rattle.std.specs.Prelude.{nat_lt}
use Rattle.std.specs.Prelude.{List, [], ◌∷◌}
use Rattle.std.specs.Char.{is_ascii_hexdigit}
use Rattle.ddcmp_input.specs.declared.place.Kind.{Kind}
use Rattle.ddcmp_input.specs.declared.place.Kind.TheVariants as kind
use Rattle.ddcmp_input.specs.declared.place.Place.{Place}
use Rattle.ddcmp_input.specs.declared.place.Place.TheVariants.{Start, Address, Blanks, High, Low}
use Rattle.ddcmp_input.specs.declared.place.Place.TheVariants.{Colon, Gap, First, Second, Third}
use Rattle.ddcmp_input.specs.declared.place.Place.TheVariants.{Fourth, Text, Return, Refused}
use Rattle.ddcmp_input.specs.declared.place.Place.TheVariants.{LeftOut}
use Rattle.ddcmp_input.specs.declared.dump.NotDumped.{NotDumped}
use Rattle.ddcmp_input.specs.declared.dump.NotDumped.TheVariants.{NotALine, Star}

abbrev pub kind_of_byte : ℕ → Kind
kind_of_byte c =
    if is_ascii_hexdigit c then kind.Digit
    else if c == 32 then kind.Blank
    else if c == 10 then kind.LineFeed
    else if c == 58 then kind.Colon
    else if (c == 124) || (c == 62) then kind.Bar
    else if c == 42 then kind.Star
    else if c == 13 then kind.Return
    else kind.Other

-- A line begins with its address, or is empty; one that begins with `*` stands for omitted lines.
abbrev pub start_then : Kind → Place
start_then kind.Digit = Address 1
start_then kind.LineFeed = Start
start_then kind.Return = Return
start_then kind.Star = LeftOut
start_then _ = Refused

-- After the address there is a colon in a dump of `xxd`, else blanks; or nothing.
abbrev pub past_address : Kind → Place
past_address kind.Colon = Colon
past_address kind.Blank = Blanks
past_address kind.LineFeed = Start
past_address kind.Return = Return
past_address _ = Refused

-- An address has 6 to 15 digits (16 would be a frame).
abbrev pub address_then : ℕ → Kind → Place
address_then count kind.Digit = if nat_lt count 15 then Address (count + 1) else Refused
address_then count k = if nat_lt count 6 then Refused else past_address k

-- Each byte is preceded by blanks, and so is the bar before the text.
abbrev pub blanks_then : Kind → Place
blanks_then kind.Digit = High
blanks_then kind.Blank = Blanks
blanks_then kind.Bar = Text
blanks_then kind.LineFeed = Start
blanks_then kind.Return = Return
blanks_then _ = Refused

-- a byte has two digits
abbrev pub half_then : Kind → Place → Place
half_then kind.Digit on_digit = on_digit
half_then _ on_digit = Refused

-- after a place at which no byte is incomplete
abbrev pub whole_then : Kind → Place → Place → Place
whole_then kind.Digit on_blank on_digit = on_digit
whole_then kind.Blank on_blank on_digit = on_blank
whole_then kind.LineFeed on_blank on_digit = Start
whole_then kind.Return on_blank on_digit = Return
whole_then _ on_blank on_digit = Refused

abbrev pub text_then : Kind → Place
text_then kind.LineFeed = Start
text_then _ = Text

-- A CR is allowed only before LF.
abbrev pub return_then : Kind → Place
return_then kind.LineFeed = Start
return_then _ = Refused

-- In a dump of `xxd` a group has one or two bytes, and two blanks in a row end the data. After a
-- line that isn't one of a dump nothing more is read.
abbrev pub place_of_kind : Place → Kind → Place
place_of_kind Start k = start_then k
place_of_kind (Address count) k = address_then count k
place_of_kind Blanks k = blanks_then k
place_of_kind High k = half_then k Low
place_of_kind Low k = whole_then k Blanks Refused
place_of_kind Colon k = whole_then k Gap Refused
place_of_kind Gap k = whole_then k Text First
place_of_kind First k = half_then k Second
place_of_kind Second k = whole_then k Gap Third
place_of_kind Third k = half_then k Fourth
place_of_kind Fourth k = whole_then k Gap Refused
place_of_kind Text k = text_then k
place_of_kind Return k = return_then k
place_of_kind Refused k = Refused
place_of_kind LeftOut k = LeftOut

unfoldable pub place_after : Place → ℕ → Place
place_after place byte = place_of_kind place (kind_of_byte byte)

abbrev pub is_data_at : Place → Bool
is_data_at High = true
is_data_at Low = true
is_data_at First = true
is_data_at Second = true
is_data_at Third = true
is_data_at Fourth = true
is_data_at _ = false

abbrev pub blank_at : Place → ℕ
blank_at Refused = 63
blank_at LeftOut = 63
blank_at _ = 32

-- what a byte at a place becomes
unfoldable pub shown_at : Place → ℕ → ℕ
shown_at place byte = if is_data_at place then byte else blank_at place

-- what bytes become, one after another; and the place after them
unfoldable pub shown_from : Place → List ℕ → List ℕ
shown_from place [] = []
shown_from place (byte ∷ rest) =
    shown_at (place_after place byte) byte ∷ shown_from (place_after place byte) rest

unfoldable pub place_from : Place → List ℕ → Place
place_from place [] = place
place_from place (byte ∷ rest) = place_from (place_after place byte) rest

-- A line is counted when its LF is accepted.
abbrev pub line_at : Place → ℕ → ℕ
line_at Start line = min (line + 1) (2 ^ 64 - 1)
line_at _ line = line

-- the line number after some bytes, of which the first is in line `line`
unfoldable pub line_from : Place → ℕ → List ℕ → ℕ
line_from place line [] = line
line_from place line (byte ∷ rest) =
    line_from (place_after place byte) (line_at (place_after place byte) line) rest

-- the text of a dump, with everything but the digits of its data replaced
abbrev pub shown : List ℕ → List ℕ
shown text = shown_from Start text

-- the state of reading a dump: the place in the line, and the number of the line, from 1
pub record DumpView : Type 0 where
  pub place : Place
  pub line : ℕ

abbrev pub dump_begun : DumpView
dump_begun = record { place = Start; line = 1 }

abbrev pub dump_after : DumpView → List ℕ → DumpView
dump_after v text = record {
  place = place_from v.place text;
  line = line_from v.place v.line text;
}

-- why the current line isn't one of a dump
abbrev pub not_dumped : DumpView → NotDumped
not_dumped v = not_dumped_at v.place v.line
  where
    not_dumped_at : Place → ℕ → NotDumped
    not_dumped_at LeftOut line = Star line
    not_dumped_at _ line = NotALine line
