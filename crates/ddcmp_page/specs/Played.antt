-- What a page asks of a script, and what it sees of it.
use Rattle.std.specs.Prelude.{◌≡◌, ◌⊎◌, ℕ, List, [], ◌∷◌, true, if◌then◌else◌, not, nat_eq}
use Rattle.std.specs.Prelude.{None, Some, Result}
use Rattle.std.specs.Io.KnownBytes.{Appends}
use Rattle.ddcmp_io.specs.declared.carrier.End.TheVariants.{A, B}
use Rattle.ddcmp_proto.specs.declared.config.Config.{Config}
use Rattle.ddcmp_pair.specs.declared.event.Event.TheVariants as event
use Rattle.ddcmp_pair.specs.Run.{PairState, new_pair, run}
use Rattle.ddcmp_pair.specs.Settle.{settled}
use Rattle.ddcmp_io.specs.Written.{AppendsPart}
use Rattle.ddcmp_line.specs.declared.script_fault.ScriptFault.{ScriptFault}
use Rattle.ddcmp_line.specs.ScriptEnds.{Around, around, Plays}
use Rattle.ddcmp_picture.specs.Drawn.{DrawsScript}
use Rattle.ddcmp_page.specs.declared.playing.PageScript.{PageScript}

abbrev pub sizes_by : PageScript → Config
sizes_by it = record {
  window = it.window;
  inbox = it.inbox;
  max = it.max;
  syn = it.syn;
  restart = not (nat_eq it.restart 0);
}

-- a pair after both ends were started, and settled
abbrev pub begins : PairState → PairState
begins p = settled (run (event.Start A ∷ event.Start B ∷ []) p)

abbrev pub begun_by : PageScript → PairState → PairState
begun_by it p = if nat_eq it.begun 0 then p else begins p

abbrev pub pair_by : PageScript → PairState
pair_by it = begun_by it (new_pair (sizes_by it) (sizes_by it))

-- nothing else is known of the carrier than that it is direct
abbrev pub around_by : PairState → PairState → Around
around_by before after = around before after true None None

-- A script was run: its text was written, or it was drawn, of which the output isn't known.
pub record IsRun (asked : PageScript) (script : List ℕ) (before after : PairState)
    (output : List ℕ) (result : Result (Unit {0}) ScriptFault) : Type 0 where
  pub text : asked.shown ≡ 0 → Plays (not (nat_eq asked.counters 0)) script
      (around_by before after) (Appends (Some []) (Some output))
      (AppendsPart (Some []) (Some output)) result
  pub drawn : (asked.shown ≡ 1) ⊎ (asked.shown ≡ 2)
      → DrawsScript script (around_by before after) result
