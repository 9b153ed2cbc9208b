-- Scripts: what their lines do to two ends and to the frames between them.
use Rattle.std.specs.Prelude.{◌≡◌, ◌≢◌, ◌≤◌, ℕ, Bool, true, false, if◌then◌else◌, nat_lt, ◌==◌}
use Rattle.std.specs.Prelude.{List, [], ◌∷◌, ◌++◌, length, take, drop, map, slice_set}
use Rattle.std.specs.Prelude.{slice_index_or, bit_xor, codes, Option, Some, None, ⊤}
use Rattle.ddcmp_io.specs.Carriages.{Carriage}
use Rattle.ddcmp_io.specs.Device.{Logs}
use Rattle.ddcmp_io.specs.Ends.{other}
use Rattle.ddcmp_io.specs.declared.carrier.End.{End}
use Rattle.ddcmp_io.specs.declared.carrier.End.TheVariants.{A, B}
use Rattle.ddcmp_pair.specs.declared.event.Event.{Event}
use Rattle.ddcmp_pair.specs.declared.event.Event.TheVariants as event
use Rattle.ddcmp_pair.specs.declared.event.Reply.{Reply}
use Rattle.ddcmp_pair.specs.declared.event.Reply.TheVariants as reply
use Rattle.ddcmp_line.specs.declared.command.ScriptCommand.{ScriptCommand}
use Rattle.ddcmp_line.specs.declared.command.ScriptCommand.TheVariants.{Happens, Carry, Lose}
use Rattle.ddcmp_line.specs.declared.command.ScriptCommand.TheVariants.{Damage, Raw, Settle}
use Rattle.ddcmp_line.specs.declared.command.ScriptCommand.TheVariants.{Recover, State}
use Rattle.ddcmp_line.specs.declared.command.ParsedLine.{ParsedLine}
use Rattle.ddcmp_line.specs.declared.command.ParsedLine.TheVariants.{Skipped, Asks}
use Rattle.ddcmp_line.specs.declared.command.ParsedLine.TheVariants.{NoCommand, NotHex}
use Rattle.ddcmp_pair.specs.Run.{PairState, at, reply_to, end_of, run}
use Rattle.ddcmp_pair.specs.Settle.{settling}
use Rattle.ddcmp_pair.specs.Recovery.{recovering, recovered, is_done}
use Rattle.ddcmp_line.specs.ScriptWords.{reading_of}
use Rattle.ddcmp_line.specs.ScriptText.{end_name, name_before, counted_line, reply_text}
use Rattle.ddcmp_line.specs.ScriptText.{settled_text, recovered_text, damage_text}
use Rattle.ddcmp_line.specs.ScriptText.{station_line}

-- ---- both ends, and what is between them

-- the frames that each end wrote and that haven't arrived (or what is left of them), in order
pub record Between : Type 0 where
  pub a : List (List ℕ)
  pub b : List (List ℕ)

abbrev pub nothing_between : Between
nothing_between = record { a = []; b = [] }

abbrev pub frames_of : End → Between → List (List ℕ)
frames_of A lines = lines.a
frames_of B lines = lines.b

abbrev pub with_frames : End → List (List ℕ) → Between → Between
with_frames A frames lines = record { a = frames; b = lines.b }
with_frames B frames lines = record { a = lines.a; b = frames }

pub record Scene : Type 0 where
  pub pair : PairState
  pub lines : Between

-- ---- what a command does

-- the events that happen, what is between the ends after them, and the text that is written
pub record Effect : Type 0 where
  pub events : List Event
  pub lines : Between
  pub text : List ℕ

-- nothing happens to the ends
abbrev pub outcome_between : Between → List ℕ → Effect
outcome_between lines text = record { events = []; lines = lines; text = text }

abbrev pub outcome_at : End → List (List ℕ) → Scene → List ℕ → Effect
outcome_at e frames s text =
    record { events = []; lines = with_frames e frames s.lines; text = end_name e ++ text }

-- A frame that was written is the last one on its line.
abbrev pub frames_after : Reply → List (List ℕ) → List (List ℕ)
frames_after (reply.Wrote bytes) frames = frames ++ bytes ∷ []
frames_after _ frames = frames

abbrev pub cleared_by : Reply → Between → Between
cleared_by reply.Cleared lines = nothing_between
cleared_by _ lines = lines

-- A poll may write a frame; Clear empties both lines.
abbrev pub lines_after : Event → Reply → Between → Between
lines_after (event.Poll e) r lines = with_frames e (frames_after r (frames_of e lines)) lines
lines_after event.Clear r lines = cleared_by r lines
lines_after (event.Start e) r lines = lines
lines_after (event.Halt e) r lines = lines
lines_after (event.Send e message) r lines = lines
lines_after (event.Arrive e bytes) r lines = lines
lines_after (event.Expire e) r lines = lines
lines_after (event.Take e) r lines = lines

abbrev pub outcome_of_event : Event → Scene → Effect
outcome_of_event happened s = record {
  events = happened ∷ [];
  lines = lines_after happened (reply_to happened s.pair) s.lines;
  text = reply_text (name_before (end_of happened)) (reply_to happened s.pair);
}

-- Bytes arrive at an end: a line with their number, and then the notices.
abbrev pub arrival_text : End → List ℕ → End → List ℕ → PairState → List ℕ
arrival_text who words to bytes p =
    counted_line (end_name who) words (length bytes)
    ++ reply_text (end_name to) (reply_to (event.Arrive to bytes) p)

-- the part of the first frame that is carried: its first `n` bytes, or all
abbrev pub part_of : Option ℕ → List ℕ → List ℕ
part_of None front = front
part_of (Some n) front = take n front

-- what is left after `n` bytes of the first frame were taken off; the frame is removed if it has no
-- more
abbrev pub left_behind : ℕ → List ℕ → List (List ℕ) → List (List ℕ)
left_behind n front later = if nat_lt n (length front) then drop n front ∷ later else later

abbrev pub taken_off : ℕ → List (List ℕ) → List (List ℕ)
taken_off n [] = []
taken_off n (front ∷ later) = left_behind n front later

-- The first frame of a line arrives at the other end, as the carrier returns it.
abbrev pub outcome_of_carry : End → Option ℕ → List ℕ → List (List ℕ) → Scene → Effect
outcome_of_carry from most came [] s = outcome_at from [] s (codes "empty\n")
outcome_of_carry from most came (front ∷ later) s = record {
  events = event.Arrive (other from) came ∷ [];
  lines = with_frames from (taken_off (length (part_of most front)) (front ∷ later)) s.lines;
  text = arrival_text from (codes "passed ") (other from) came s.pair;
}

abbrev pub outcome_of_lose : End → List (List ℕ) → Scene → Effect
outcome_of_lose from [] s = outcome_at from [] s (codes "empty\n")
outcome_of_lose from (front ∷ later) s =
    outcome_between (with_frames from later s.lines)
    (counted_line (end_name from) (codes "lost ") (length front))

-- byte `at` of the first frame is changed by exclusive or, if the frame has that byte
abbrev pub changed : ℕ → ℕ → List ℕ → List ℕ
changed at by front = slice_set front at (bit_xor (slice_index_or front at 0) by)

abbrev pub has_byte : ℕ → List (List ℕ) → Bool
has_byte at [] = false
has_byte at (front ∷ later) = nat_lt at (length front)

abbrev pub with_change : ℕ → ℕ → List (List ℕ) → List (List ℕ)
with_change at by [] = []
with_change at by (front ∷ later) =
    if nat_lt at (length front) then changed at by front ∷ later else front ∷ later

abbrev pub outcome_of_damage : End → ℕ → ℕ → List (List ℕ) → Scene → Effect
outcome_of_damage from at by frames s =
    outcome_at from (with_change at by frames) s
    (damage_text (length frames == 0) (has_byte at frames))

-- All frames on both lines are lost, and then both ends settle.
abbrev pub outcome_of_settle : Scene → Effect
outcome_of_settle s = record {
  events = (settling s.pair).events;
  lines = nothing_between;
  text = settled_text (settling s.pair).exchanges (settling s.pair).quiet;
}

-- All frames on both lines are lost, and then the line recovers.
abbrev pub outcome_of_recover : Scene → Effect
outcome_of_recover s = record {
  events = (recovering s.pair).events;
  lines = nothing_between;
  text = recovered_text (recovering s.pair).exchanges (is_done (recovered s.pair));
}

-- the effect of a command, if the carrier returns the bytes `came` for what it is passed
unfoldable pub outcome_of : ScriptCommand → List ℕ → Scene → Effect
outcome_of (Happens happened) came s = outcome_of_event happened s
outcome_of (Carry from most) came s =
    outcome_of_carry from most came (frames_of from s.lines) s
outcome_of (Lose from) came s = outcome_of_lose from (frames_of from s.lines) s
outcome_of (Damage from at by) came s =
    outcome_of_damage from at by (frames_of from s.lines) s
outcome_of (Raw to bytes) came s = record {
  events = event.Arrive to bytes ∷ [];
  lines = s.lines;
  text = arrival_text to (codes "got ") to bytes s.pair;
}
outcome_of Settle came s = outcome_of_settle s
outcome_of Recover came s = outcome_of_recover s
outcome_of (State e) came s =
    outcome_between s.lines (station_line (end_name e) (at e s.pair).core.station)

-- ---- the carrier

abbrev pub carriages_from : End → Option ℕ → List ℕ → List (List ℕ) → List Carriage
carriages_from from most came [] = []
carriages_from from most came (front ∷ later) =
    record { from = from; bytes = part_of most front; came = came } ∷ []

-- what a command passes to the carrier
unfoldable pub carriages_of : ScriptCommand → List ℕ → Scene → List Carriage
carriages_of (Carry from most) came s = carriages_from from most came (frames_of from s.lines)
carriages_of _ came s = []

-- The carrier returned exactly what it was passed, each time.
unfoldable pub AreDirect : List Carriage → Type 0
AreDirect [] = ⊤
AreDirect (c ∷ rest) = (c.came ≡ c.bytes) × AreDirect rest

-- The carrier never returned more bytes than it was passed.
unfoldable pub AreWithin : List Carriage → Type 0
AreWithin [] = ⊤
AreWithin (c ∷ rest) = (length c.came ≤ length c.bytes) × AreWithin rest

-- what a carrier was passed, and what it returned
pub record Carries (is_direct : Bool) (old new : Option (List Carriage)) (all : List Carriage)
    : Type 0 where
  pub told : Logs old new all
  pub direct : is_direct ≡ true → AreDirect all
  pub within : AreWithin all

-- ---- lines, one after another

-- a line that was done, and what the carrier returned, if the line uses it
pub record DoneLine : Type 0 where
  pub line : List ℕ
  pub came : List ℕ

abbrev pub after_outcome : Effect → Scene → Scene
after_outcome o s = record { pair = run o.events s.pair; lines = o.lines }

abbrev pub scene_after : ParsedLine → List ℕ → Scene → Scene
scene_after (Asks command) came s = after_outcome (outcome_of command came s) s
scene_after Skipped came s = s
scene_after NoCommand came s = s
scene_after NotHex came s = s

abbrev pub text_of : ParsedLine → List ℕ → Scene → List ℕ
text_of (Asks command) came s = (outcome_of command came s).text
text_of Skipped came s = []
text_of NoCommand came s = []
text_of NotHex came s = []

abbrev pub events_by : ParsedLine → List ℕ → Scene → List Event
events_by (Asks command) came s = (outcome_of command came s).events
events_by Skipped came s = []
events_by NoCommand came s = []
events_by NotHex came s = []

abbrev pub carriages_by : ParsedLine → List ℕ → Scene → List Carriage
carriages_by (Asks command) came s = carriages_of command came s
carriages_by Skipped came s = []
carriages_by NoCommand came s = []
carriages_by NotHex came s = []

abbrev pub after_line : DoneLine → Scene → Scene
after_line d s = scene_after (reading_of d.line) d.came s

-- the scene after some lines, the text that they write, and what they pass to the carrier
unfoldable pub after_lines : List DoneLine → Scene → Scene
after_lines [] s = s
after_lines (d ∷ rest) s = after_lines rest (after_line d s)

unfoldable pub text_of_lines : List DoneLine → Scene → List ℕ
text_of_lines [] s = []
text_of_lines (d ∷ rest) s =
    text_of (reading_of d.line) d.came s ++ text_of_lines rest (after_line d s)

unfoldable pub carriages_of_lines : List DoneLine → Scene → List Carriage
carriages_of_lines [] s = []
carriages_of_lines (d ∷ rest) s =
    carriages_by (reading_of d.line) d.came s ++ carriages_of_lines rest (after_line d s)

-- a line is a command, a comment or empty
abbrev pub IsScriptLine : List ℕ → Type 0
IsScriptLine line = (reading_of line ≢ NoCommand) × (reading_of line ≢ NotHex)

unfoldable pub AllFit : List (List ℕ) → Type 0
AllFit [] = ⊤
AllFit (line ∷ rest) = IsScriptLine line × AllFit rest

abbrev pub lines_done : List DoneLine → List (List ℕ)
lines_done done = map (λ d. d.line) done
