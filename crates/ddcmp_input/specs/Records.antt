-- Messages in binary with commands among them: records whose lengths have the top bit set.
use Rattle.std.specs.Prelude.{ℕ, ◌+◌, ◌-◌, ◌*◌, ◌<◌, ◌≤◌, ◌==◌, ◌&&◌, Bool, true, nat_le, nat_lt}
use Rattle.std.specs.Prelude.{if◌then◌else◌, List, [], ◌∷◌, ◌++◌, Option, Some, None}
use Rattle.std.specs.Prelude.{option_to_list, false}
use Rattle.ddcmp_input.specs.declared.entry.Entry.{Entry}
use Rattle.ddcmp_input.specs.declared.entry.Entry.TheVariants as entry
use Rattle.ddcmp_input.specs.declared.records.RecordPlace.{RecordPlace}
use Rattle.ddcmp_input.specs.declared.records.RecordPlace.TheVariants.{Message, Half, Command}
use Rattle.ddcmp_input.specs.declared.records.RecordPlace.TheVariants.{Skipping}
use Rattle.ddcmp_input.specs.declared.records.TheConstants.{COMMAND_ROOM}
use Rattle.ddcmp_input.specs.Lengths.{LengthsView, is_between, is_last}
use Rattle.ddcmp_input.specs.Lengths as lengths

-- the messages, the place of the next byte, and the bytes of the command so far
pub record RecordsView : Type 0 where
  pub lengths : LengthsView
  pub place : RecordPlace
  pub command : List ℕ

abbrev pub begun : ℕ → RecordsView
begun max = record { lengths = lengths.begun max; place = Message; command = [] }

-- a record is incomplete
abbrev pub is_cut : RecordPlace → LengthsView → Bool
is_cut Message v = lengths.is_unfinished v.place
is_cut (Half high) v = true
is_cut (Command left) v = true
is_cut (Skipping left) v = false

abbrev pub is_unfinished : RecordsView → Bool
is_unfinished v = is_cut v.place v.lengths

-- there is room for the rest of the command
abbrev pub HasRoom : RecordPlace → ℕ → ℕ → Type 0
HasRoom (Command left) held capacity = (0 < left) × (held + left ≤ capacity)
HasRoom _ held capacity = Unit {0}

-- a length without its top bit: an empty command is complete, and one that is too long is skipped
abbrev pub place_of : ℕ → RecordPlace
place_of length =
    if length == 0 then Message
    else if nat_lt COMMAND_ROOM length then Skipping length
    else Command length

abbrev pub after_length : ℕ → RecordsView → RecordsView
after_length length v =
    record v {
      place = place_of length;
      command = if nat_lt COMMAND_ROOM length then v.command else [];
    }

abbrev pub entry_of_length : ℕ → Option Entry
entry_of_length length =
    if length == 0 then Some entry.Command
    else if nat_lt COMMAND_ROOM length then Some entry.TooLong
    else None

-- the byte begins the length of a command
abbrev pub begins : ℕ → RecordsView → Bool
begins byte v = nat_le 128 byte && is_between v.lengths.place

abbrev pub after_byte_at : RecordPlace → ℕ → RecordsView → RecordsView
after_byte_at Message byte v =
    if begins byte v then record v { place = Half (byte - 128) }
    else record v { lengths = lengths.after_byte byte v.lengths }
after_byte_at (Half high) byte v = after_length (high * 256 + byte) v
after_byte_at (Command left) byte v = record v {
  place = if is_last left then Message else Command (left - 1);
  command = v.command ++ byte ∷ [];
}
after_byte_at (Skipping left) byte v =
    record v { place = if is_last left then Message else Skipping (left - 1) }

abbrev pub after_byte : ℕ → RecordsView → RecordsView
after_byte byte v = after_byte_at v.place byte v

-- what a byte completes
abbrev pub entry_of_byte_at : RecordPlace → ℕ → RecordsView → Option Entry
entry_of_byte_at Message byte v =
    if begins byte v then None else lengths.entry_of_byte byte v.lengths
entry_of_byte_at (Half high) byte v = entry_of_length (high * 256 + byte)
entry_of_byte_at (Command left) byte v = if is_last left then Some entry.Command else None
entry_of_byte_at (Skipping left) byte v = None

abbrev pub entry_of_byte : ℕ → RecordsView → Option Entry
entry_of_byte byte v = entry_of_byte_at v.place byte v

-- bytes one after another
unfoldable pub after_bytes : List ℕ → RecordsView → RecordsView
after_bytes [] v = v
after_bytes (byte ∷ rest) v = after_bytes rest (after_byte byte v)

unfoldable pub entries_of_bytes : List ℕ → RecordsView → List Entry
entries_of_bytes [] v = []
entries_of_bytes (byte ∷ rest) v =
    option_to_list (entry_of_byte byte v) ++ entries_of_bytes rest (after_byte byte v)
