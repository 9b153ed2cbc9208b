-- The messages of an input, and its parts that are refused.
use Rattle.std.specs.Prelude.{ℕ, List}
use Rattle.ddcmp_input.specs.declared.entry.Entry.{Entry}
use Rattle.ddcmp_input.specs.declared.entry.Entry.TheVariants.{Message, NotHexadecimal, TooLong}
use Rattle.ddcmp_input.specs.declared.entry.Entry.TheVariants.{Command, Empty}

-- a message, or why a part of the input isn't one
pub data Told : Type 0 where
  Got : List ℕ → Told
  Refused : Entry → Told

-- an entry, with the message that it completes
abbrev pub told_of : Entry → List ℕ → Told
told_of Message message = Got message
told_of NotHexadecimal message = Refused NotHexadecimal
told_of TooLong message = Refused TooLong
told_of Empty message = Refused Empty
told_of Command message = Refused Command
