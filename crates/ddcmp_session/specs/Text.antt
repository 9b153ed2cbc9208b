-- The text that a session writes to standard output.
use Rattle.std.specs.Prelude.{◌≡◌, ℕ, ◌+◌, ◌/◌, ◌%◌, ◌≤◌, Bool, ◌==◌, if◌then◌else◌, List, []}
use Rattle.std.specs.Prelude.{◌∷◌, ◌++◌}
use Rattle.std.specs.Prelude.{codes, decimal, length}
use Rattle.hex.specs.Hex.{encode_lower}
use Rattle.ddcmp_core.specs.declared.notice.Notice.{Notice}
use Rattle.ddcmp_core.specs.declared.notice.Notice.TheVariants as notice
use Rattle.ddcmp_input.specs.InBinary.{behind_length}
use Rattle.ddcmp_io.specs.Causes.{down_text}
use Rattle.ddcmp_station.specs.StationText.{notice_line, notice_number, notice_word, number_text}
use Rattle.ddcmp_streams.specs.declared.messages.MessageForm.{MessageForm}
use Rattle.ddcmp_streams.specs.declared.messages.MessageForm.TheVariants.{Digits, Binary, Events}
use Rattle.ddcmp_streams.specs.declared.messages.MessageForm.TheVariants.{EventLines}
use Rattle.ddcmp_io.specs.Queue.{QueueView, after_pushed}
use Rattle.ddcmp_session.specs.declared.line_end.LineEnd.{LineEnd}
use Rattle.ddcmp_session.specs.declared.line_end.LineEnd.TheVariants.{Down, GivenUp, Halted}
use Rattle.ddcmp_session.specs.declared.line_end.LineEnd.TheVariants.{Restarted}

-- a received message
abbrev pub mail_text : MessageForm → List ℕ → List ℕ
mail_text Digits message = codes "mail " ++ encode_lower message ++ codes "\n"
mail_text Binary message = behind_length message
mail_text Events message = behind_length message
mail_text EventLines message = codes "mail " ++ encode_lower message ++ codes "\n"

-- An event among messages in binary: its text after its length, of which the top bit is set.
abbrev pub event_text : List ℕ → List ℕ
event_text text = (32768 + length text) / 256 ∷ (32768 + length text) % 256 ∷ text

-- how many accepted messages were dropped, if any
abbrev pub lost_line : ℕ → List ℕ
lost_line count = codes "lost " ++ decimal count ++ codes "\n"

-- the same without the end of the line
abbrev pub lost_words : ℕ → List ℕ
lost_words count = codes "lost " ++ decimal count

abbrev pub lost_text : MessageForm → ℕ → List ℕ
lost_text Digits count = if count == 0 then [] else lost_line count
lost_text Binary count = []
lost_text Events count = if count == 0 then [] else event_text (lost_words count)
lost_text EventLines count = if count == 0 then [] else lost_line count

abbrev pub dropped_by : Notice → ℕ
dropped_by (notice.Restarted count) = count
dropped_by _ = 0

-- the line of a notice without its end
abbrev pub notice_words : Notice → List ℕ
notice_words n = codes "notice " ++ notice_word n ++ number_text (notice_number n)

-- a notice; with messages in binary it goes to standard output only as an event
abbrev pub notice_text : MessageForm → Notice → List ℕ
notice_text Digits n = notice_line [] n ++ lost_text Digits (dropped_by n)
notice_text Binary n = []
notice_text Events n = event_text (notice_words n) ++ lost_text Events (dropped_by n)
notice_text EventLines n = notice_line [] n ++ lost_text EventLines (dropped_by n)

unfoldable pub notices_text : MessageForm → List Notice → List ℕ
notices_text form [] = []
notices_text form (n ∷ rest) = notice_text form n ++ notices_text form rest

-- the report of a loss, if there was room
abbrev pub reported_lost : Bool → MessageForm → ℕ → List ℕ
reported_lost has_room form count = if has_room then lost_text form count else []

-- how a line ended
abbrev pub line_end_words : LineEnd → List ℕ
line_end_words (Down why) = down_text why
line_end_words Halted = codes "halted"
line_end_words Restarted = codes "restarted"
line_end_words GivenUp = codes "given up"

abbrev pub line_down_words : LineEnd → List ℕ
line_down_words how = codes "line down: " ++ line_end_words how

-- the same, only among messages with events
abbrev pub line_end_text : MessageForm → LineEnd → List ℕ
line_end_text Digits how = []
line_end_text Binary how = []
line_end_text Events how = event_text (line_down_words how)
line_end_text EventLines how = line_down_words how ++ codes "\n"

-- that, and the report of a loss, if there was room for both
abbrev pub reported_end : Bool → MessageForm → LineEnd → ℕ → List ℕ
reported_end has_room form how count =
    if has_room then line_end_text form how ++ lost_text form count else []

-- A text is appended if there is room for it.
abbrev pub Puts : List ℕ → QueueView → QueueView → Type 0
Puts text old new = length text ≤ old.room → new ≡ after_pushed text old

-- A text was appended whole; room may have been made before.
pub record Wrote (text : List ℕ) (old new : QueueView) : Type 0 where
  pub waiting : new.waiting ≡ old.waiting ++ text
  pub room : old.room ≤ new.room + length text
  pub size : new.size ≡ old.size
  pub is_cut : new.is_cut ≡ old.is_cut
