-- The numbers of results, and the place that a fault has: the index of a byte, or the number of a
-- line.
use Rattle.std.specs.Prelude.{ℕ, Result, Ok, Err}
use Rattle.ddcmp_input.specs.declared.dump.NotDumped.TheVariants as dumped
use Rattle.ddcmp_explain.specs.declared.explain_fault.ExplainFault.{ExplainFault}
use Rattle.ddcmp_explain.specs.declared.explain_fault.ExplainFault.TheVariants as explained
use Rattle.ddcmp_proto.specs.declared.config.ConfigRefusal.{ConfigRefusal}
use Rattle.ddcmp_proto.specs.declared.config.ConfigRefusal.TheVariants as config
use Rattle.ddcmp_pair.specs.declared.pair.PairRefusal.{PairRefusal}
use Rattle.ddcmp_pair.specs.declared.pair.PairRefusal.TheVariants as pair
use Rattle.ddcmp_line.specs.declared.script_fault.ScriptFault.{ScriptFault}
use Rattle.ddcmp_line.specs.declared.script_fault.ScriptFault.TheVariants as script

abbrev pub code_of_input : Result (Unit {0}) ExplainFault → ℕ
code_of_input (Ok u) = 0
code_of_input (Err explained.Memory) = 5
code_of_input (Err explained.Write) = 5
code_of_input (Err explained.Odd) = 32
code_of_input (Err (explained.NotHex index)) = 33
code_of_input (Err (explained.Line (dumped.NotALine line))) = 34
code_of_input (Err (explained.Line (dumped.Star line))) = 35
code_of_input (Err explained.Read) = 38

abbrev pub place_of_input : Result (Unit {0}) ExplainFault → ℕ
place_of_input (Ok u) = 0
place_of_input (Err explained.Memory) = 0
place_of_input (Err explained.Write) = 0
place_of_input (Err explained.Odd) = 0
place_of_input (Err (explained.NotHex index)) = index
place_of_input (Err (explained.Line (dumped.NotALine line))) = line
place_of_input (Err (explained.Line (dumped.Star line))) = line
place_of_input (Err explained.Read) = 0

abbrev pub code_of_script : Result (Unit {0}) ScriptFault → ℕ
code_of_script (Ok u) = 0
code_of_script (Err script.Memory) = 5
code_of_script (Err script.Write) = 5
code_of_script (Err (script.Line line)) = 36
code_of_script (Err (script.Hex line)) = 37
code_of_script (Err script.Read) = 38
code_of_script (Err script.Carrier) = 38

abbrev pub line_of_script : Result (Unit {0}) ScriptFault → ℕ
line_of_script (Ok u) = 0
line_of_script (Err script.Memory) = 0
line_of_script (Err script.Write) = 0
line_of_script (Err (script.Line line)) = line
line_of_script (Err (script.Hex line)) = line
line_of_script (Err script.Read) = 0
line_of_script (Err script.Carrier) = 0

abbrev pub code_of_config : ConfigRefusal → ℕ
code_of_config config.Window = 1
code_of_config config.Inbox = 2
code_of_config config.Max = 3
code_of_config config.Syn = 4
code_of_config config.Memory = 5

abbrev pub code_of_pair : PairRefusal → ℕ
code_of_pair (pair.First refusal) = code_of_config refusal
code_of_pair (pair.Second refusal) = code_of_config refusal
