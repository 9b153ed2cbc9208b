-- How a command ends: its faults, its status, and what it reads and writes.
use Rattle.std.specs.Prelude.{⊤, ◌↔◌, IsTrue, None, codes, string_bytes, Bool, true, false, ◌≡◌}
use Rattle.std.specs.Prelude.{◌≢◌, ◌⊎◌, ◌++◌, ℕ, List, [], Option, Some, Result, Ok, Err}
use Rattle.std.specs.Io.KnownBytes.{Keeps}
use Rattle.std.specs.declared.io.ErrorKind.{ErrorKind}
use Rattle.ddcmp_explain.specs.declared.explain_fault.ExplainFault.{ExplainFault}
use Rattle.ddcmp_explain.specs.declared.explain_fault.ExplainFault.TheVariants as explaining
use Rattle.ddcmp_line.specs.declared.script_fault.ScriptFault.{ScriptFault}
use Rattle.ddcmp_line.specs.declared.script_fault.ScriptFault.TheVariants as scripting
use Rattle.ddcmp_commands.specs.declared.fault.Fault.{Fault}
use Rattle.ddcmp_commands.specs.declared.fault.Fault.TheVariants.{Odd, NotHex, Dump, Line}
use Rattle.ddcmp_commands.specs.declared.fault.Fault.TheVariants.{Hex as NotHexIn, Message, Read}
use Rattle.ddcmp_commands.specs.declared.fault.Fault.TheVariants.{Write, Memory as NoMemory}
use Rattle.ddcmp_commands.specs.declared.fault.Fault.TheVariants.{Carrier, Ended, Lost}
use Rattle.ddcmp_commands.specs.declared.ending.Ending.{Ending}
use Rattle.ddcmp_commands.specs.declared.ending.Ending.TheVariants.{Done, SomeRefused, NoLine}
use Rattle.ddcmp_commands.specs.declared.ending.Ending.TheVariants.{Usage as Misused, NotText}
use Rattle.ddcmp_commands.specs.declared.ending.Ending.TheVariants.{Unopened, Unread}
use Rattle.ddcmp_commands.specs.declared.ending.Ending.TheVariants.{Fault as Faulted}
use Rattle.ddcmp_explain.specs.declared.notation.Notation.{Notation}
use Rattle.ddcmp_explain.specs.declared.notation.Notation.TheVariants.{Plain, Json}
use Rattle.ddcmp_net.specs.declared.serve_fault.ServeFault.{ServeFault}
use Rattle.ddcmp_net.specs.declared.serve_fault.ServeFault.TheVariants as serving
use Rattle.ddcmp_io.specs.declared.device.LineFault.TheVariants as line
use Rattle.ddcmp_io.specs.declared.device.Worst.TheVariants.{Fine}
use Rattle.ddcmp_io.specs.Causes.{cause_words}
use Rattle.ddcmp_io.specs.Change.{SourceChange}
use Rattle.ddcmp_io.specs.Input.{GaveMost}
use Rattle.ddcmp_io.specs.Written.{Known}

-- the program's fault for one of an input
abbrev pub explain_fault : ExplainFault → Fault
explain_fault explaining.Odd = Odd
explain_fault (explaining.NotHex index) = NotHex index
explain_fault (explaining.Line line) = Dump line
explain_fault explaining.Read = Read
explain_fault explaining.Write = Write
explain_fault explaining.Memory = NoMemory

-- for one of a script
abbrev pub script_fault : ScriptFault → Fault
script_fault (scripting.Line line) = Line line
script_fault (scripting.Hex line) = NotHexIn line
script_fault scripting.Read = Read
script_fault scripting.Write = Write
script_fault scripting.Memory = NoMemory
script_fault scripting.Carrier = Carrier

-- for one of a station
abbrev pub serve_fault : ServeFault → Fault
serve_fault serving.Config = NoMemory
serve_fault serving.Report = Write
serve_fault (serving.Line line.Read) = Read
serve_fault (serving.Line line.Write) = Write
serve_fault (serving.Line line.Ended) = Ended
serve_fault (serving.Line line.Memory) = NoMemory

-- 1 if the input was refused, 3 if a device or an allocation failed
abbrev pub fault_status : Fault → ℕ
fault_status Odd = 1
fault_status (NotHex index) = 1
fault_status (Dump line) = 1
fault_status (Line line) = 1
fault_status (NotHexIn line) = 1
fault_status Message = 1
fault_status Read = 3
fault_status Write = 3
fault_status NoMemory = 3
fault_status Carrier = 3
fault_status Ended = 3
fault_status (Lost count) = 3

abbrev pub status_of : Ending → ℕ
status_of Done = 0
status_of SomeRefused = 1
status_of (NoLine why) = 3
status_of (Misused text) = 2
status_of NotText = 2
status_of (Unopened name why) = 3
status_of (Unread name fault) = fault_status fault
status_of (Faulted fault) = fault_status fault

abbrev pub ending_of : {F : Type 0} → (F → Fault) → Result (Unit {0}) F → Ending
ending_of name (Ok u) = Done
ending_of name (Err fault) = Faulted (name fault)

-- a usage error, or an allocation failure
abbrev pub is_refusal : Ending → Bool
is_refusal Done = false
is_refusal SomeRefused = false
is_refusal (NoLine why) = false
is_refusal (Misused text) = true
is_refusal NotText = false
is_refusal (Unopened name why) = false
is_refusal (Unread name fault) = false
is_refusal (Faulted Odd) = false
is_refusal (Faulted (NotHex index)) = false
is_refusal (Faulted (Dump line)) = false
is_refusal (Faulted Read) = false
is_refusal (Faulted Write) = false
is_refusal (Faulted (Line line)) = false
is_refusal (Faulted (NotHexIn line)) = false
is_refusal (Faulted Message) = false
is_refusal (Faulted Carrier) = false
is_refusal (Faulted Ended) = false
is_refusal (Faulted (Lost count)) = false
is_refusal (Faulted NoMemory) = true

-- a usage error: what is wrong, and where to find help
abbrev pub usage_text : List ℕ → List ℕ
usage_text what = codes "error: " ++ what ++ codes "\n\nFor more information, try '--help'.\n"

-- a usage error of this text, or an allocation failure
abbrev pub IsUsage : List ℕ → Ending → Type 0
IsUsage text (Misused told) = string_bytes told ≡ text
IsUsage text (Faulted NoMemory) = ⊤
IsUsage text _ = ⊥

-- What was read and written: the input and what is left of it, and what the sink held before and
-- holds after.
pub record Streams : Type 0 where
  pub input : List ℕ
  pub left : Known
  pub before : Known
  pub after : Known

abbrev pub streams : List ℕ → Known → Known → Known → Streams
streams input left before after =
    record { input = input; left = left; before = before; after = after }

-- Nothing was read, and nothing was written.
abbrev pub Untouched : Streams → Type 0
Untouched s = (s.left ≡ Some s.input) × Keeps s.before s.after

-- the ending reports that the file of this name can't be opened
abbrev pub IsUnopened : List ℕ → Ending → Type 0
IsUnopened name Done = ⊥
IsUnopened name SomeRefused = ⊥
IsUnopened name (NoLine why) = ⊥
IsUnopened name (Misused text) = ⊥
IsUnopened name NotText = ⊥
IsUnopened name (Unopened told why) = string_bytes told ≡ name
IsUnopened name (Unread told fault) = ⊥
IsUnopened name (Faulted fault) = ⊥

-- If a file can't be opened, this is why.
abbrev pub HasCause : ErrorKind → Ending → Type 0
HasCause why (Unopened name known) = known ≡ why
HasCause why _ = ⊤

-- the ending reports by this text that a line can't be opened, or an allocation failed as that was
-- reported
abbrev pub IsLineUnopened : List ℕ → Ending → Type 0
IsLineUnopened text (NoLine why) = string_bytes why ≡ text
IsLineUnopened text (Faulted NoMemory) = ⊤
IsLineUnopened text _ = ⊥

-- The file can't be opened, or an allocation failed as that was reported, and nothing was written;
-- or its content, if known, was read like this.
abbrev pub ReadsFile : List ℕ → Known → (Streams → Ending → Type 0) → Known → Known → Ending
    → Type 0
ReadsFile name held Reading before after ending =
    (IsUnopened name ending × Keeps before after)
    ⊎ ((ending ≡ Faulted NoMemory) × Keeps before after)
    ⊎ ((content : List ℕ) → held ≡ Some content
    → (rest : Known) × Reading (streams content rest before after) ending)

abbrev pub is_json : Notation → Bool
is_json Plain = false
is_json Json = true

-- If misused, there is a usage error or an allocation failure, and `Refused` holds; else
-- `Explained` holds.
abbrev pub UnlessMisused : Bool → (Ending → Type 0) → (Ending → Type 0) → Ending → Type 0
UnlessMisused true Refused Explained ending = (is_refusal ending ≡ true) × Refused ending
UnlessMisused false Refused Explained ending = Explained ending

-- what is printed on standard error, if it isn't a fault of a command
abbrev pub shown_of : Ending → Option (List ℕ)
shown_of Done = Some []
shown_of SomeRefused = Some []
shown_of (NoLine why) = Some (codes "ddcmp: " ++ string_bytes why ++ codes "\n")
shown_of (Misused text) = Some (string_bytes text)
shown_of NotText = Some (codes "ddcmp: an argument isn't UTF-8\n")
shown_of (Unopened name why) =
    Some (codes "ddcmp: open " ++ string_bytes name ++ codes ": " ++ cause_words why ++ codes "\n")
shown_of (Unread name fault) = None
shown_of (Faulted fault) = None

-- The ending is a failed read if the source's state isn't Fine; and only then, or if it has
-- returned 2^64 - 1 bytes. It is a failed write exactly if a write failed.
pub record TellsDevices (source : SourceChange) (broken : Bool) (ending : Ending) : Type 0 where
  pub read : source.state ≢ Fine → ending ≡ Faulted Read
  pub read_only : ending ≡ Faulted Read
      → (source.state ≢ Fine) ⊎ GaveMost source.before source.after
  pub write : (ending ≡ Faulted Write) ↔ IsTrue broken
