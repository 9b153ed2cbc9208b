-- The run that is drawn.
use Rattle.std.specs.Prelude.{ℕ, false, List, None, Result}
use Rattle.std.specs.Io.KnownBytes.{Appends}
use Rattle.ddcmp_io.specs.Written.{AppendsPart}
use Rattle.ddcmp_line.specs.ScriptEnds.{Around, Plays}
use Rattle.ddcmp_line.specs.declared.script_fault.ScriptFault.{ScriptFault}

-- For each result: which lines of the script were done and how the next one reads, and what the
-- pair and its carrier are then. This is what the same result of `script` implies, without what is
-- written.
abbrev pub DrawsScript : List ℕ → Around → Result (Unit {0}) ScriptFault → Type 0
DrawsScript input x result = Plays false input x (Appends None None) (AppendsPart None None) result
