-- Messages in binary: each after its length as two bytes, the high one first.
use Rattle.std.specs.Prelude.{ℕ, ◌+◌, ◌-◌, ◌*◌, ◌<◌, ◌≤◌, ◌==◌, ◌||◌, Bool, true, false, nat_le}
use Rattle.std.specs.Prelude.{nat_lt, if◌then◌else◌, List, [], ◌∷◌, ◌++◌, Option, Some, None}
use Rattle.std.specs.Prelude.{option_to_list}
use Rattle.ddcmp_input.specs.declared.entry.Entry.{Entry}
use Rattle.ddcmp_input.specs.declared.entry.Entry.TheVariants.{Message, TooLong, Empty}
use Rattle.ddcmp_input.specs.declared.lengths.LengthPlace.{LengthPlace}
use Rattle.ddcmp_input.specs.declared.lengths.LengthPlace.TheVariants.{Start, Half, Inside}
use Rattle.ddcmp_input.specs.declared.lengths.LengthPlace.TheVariants.{Skipping}

-- the maximum length of a message, the place of the next byte, and the bytes of the message so far
pub record LengthsView : Type 0 where
  pub max : ℕ
  pub place : LengthPlace
  pub message : List ℕ

abbrev pub begun : ℕ → LengthsView
begun max = record { max = max; place = Start; message = [] }

-- a length or a message is incomplete
abbrev pub is_unfinished : LengthPlace → Bool
is_unfinished (Half high) = true
is_unfinished (Inside left) = true
is_unfinished _ = false

-- the next byte is the first of a length
abbrev pub is_between : LengthPlace → Bool
is_between Start = true
is_between _ = false

-- there is room for the rest of the message
abbrev pub HasRoom : LengthPlace → ℕ → ℕ → Type 0
HasRoom (Inside left) held capacity = (0 < left) × (held + left ≤ capacity)
HasRoom _ held capacity = Unit {0}

-- An empty message, or one longer than the maximum, is refused, and its bytes are skipped.
abbrev pub is_refused : ℕ → ℕ → Bool
is_refused max length = (length == 0) || nat_lt max length

abbrev pub place_before : ℕ → LengthPlace
place_before length = if length == 0 then Start else Skipping length

abbrev pub after_length : ℕ → LengthsView → LengthsView
after_length length v =
    if is_refused v.max length
    then record v { place = place_before length }
    else record v { place = Inside length; message = [] }

-- the next byte is the last one of a message, or of one that is skipped
abbrev pub is_last : ℕ → Bool
is_last left = nat_le left 1

abbrev pub after_byte_at : LengthPlace → ℕ → LengthsView → LengthsView
after_byte_at Start byte v = record v { place = Half byte }
after_byte_at (Half high) byte v = after_length (high * 256 + byte) v
after_byte_at (Inside left) byte v = record v {
  place = if is_last left then Start else Inside (left - 1);
  message = v.message ++ byte ∷ [];
}
after_byte_at (Skipping left) byte v =
    record v { place = if is_last left then Start else Skipping (left - 1) }

abbrev pub after_byte : ℕ → LengthsView → LengthsView
after_byte byte v = after_byte_at v.place byte v

abbrev pub entry_of_length : ℕ → ℕ → Option Entry
entry_of_length length max =
    if is_refused max length then Some (if length == 0 then Empty else TooLong) else None

-- what a byte completes
abbrev pub entry_of_byte_at : LengthPlace → ℕ → ℕ → Option Entry
entry_of_byte_at (Half high) byte max = entry_of_length (high * 256 + byte) max
entry_of_byte_at (Inside left) byte max = if is_last left then Some Message else None
entry_of_byte_at _ byte max = None

abbrev pub entry_of_byte : ℕ → LengthsView → Option Entry
entry_of_byte byte v = entry_of_byte_at v.place byte v.max

-- bytes one after another
unfoldable pub after_bytes : List ℕ → LengthsView → LengthsView
after_bytes [] v = v
after_bytes (byte ∷ rest) v = after_bytes rest (after_byte byte v)

unfoldable pub entries_of_bytes : List ℕ → LengthsView → List Entry
entries_of_bytes [] v = []
entries_of_bytes (byte ∷ rest) v =
    option_to_list (entry_of_byte byte v) ++ entries_of_bytes rest (after_byte byte v)
