-- What passed at two lines in memory.
use Rattle.std.specs.Prelude.{ℕ, Bool, false, List, [], ◌∷◌, Option, None, Some}
use Rattle.std.specs.Prelude.{if◌then◌else◌}
use Rattle.ddcmp_ports.specs.declared.port.News.TheVariants.{Opened}
use Rattle.ddcmp_ports.specs.declared.port.Port.{Port}
use Rattle.ddcmp_ports.specs.declared.port.Port.TheVariants.{Input, Output, Errors, First, Second}
use Rattle.ddcmp_ports.specs.Running.{Passage, Stuck}

-- a line that was opened once, or not yet
abbrev pub passage_of : List ℕ → List ℕ → Bool → Passage
passage_of came gone is_open = record {
  came = came;
  gone = gone;
  whole = [];
  said = if is_open then Opened None ∷ [] else [];
}

abbrev pub trace_of : Passage → Passage → Port → Option Passage
trace_of first second First = Some first
trace_of first second Second = Some second
trace_of first second Input = None
trace_of first second Output = None
trace_of first second Errors = None

-- A call moves something, if it isn't an opening of an open line.
abbrev pub stuck_in : Bool → Stuck
stuck_in later = record { read = false; write = false; opening = later }

abbrev pub stuck_of : Bool → Bool → Port → Stuck
stuck_of first second First = stuck_in first
stuck_of first second Second = stuck_in second
stuck_of first second Input = stuck_in false
stuck_of first second Output = stuck_in false
stuck_of first second Errors = stuck_in false
