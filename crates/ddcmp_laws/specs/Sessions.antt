-- Sessions as callers of their links: which calls of its link each call of a session makes.
use Rattle.std.specs.Prelude.{◌≡◌, ⊤, ℕ, zero, suc, ◌+◌, ◌*◌, ◌%◌, ◌<◌, true, false, List, [], ◌∷◌, ◌++◌}
use Rattle.std.specs.Prelude.{if◌then◌else◌, drop, length, map, nat_lt, option_to_list, take}
use Rattle.ddcmp_input.specs.declared.entry.Entry.{Entry}
use Rattle.ddcmp_input.specs.declared.entry.Entry.TheVariants.{Message}
use Rattle.ddcmp_input.specs.Told.{Told, Got, Refused}
use Rattle.ddcmp_frame.specs.Reader.{ReaderView}
use Rattle.ddcmp_station.specs.Linking.{LinkView, after_frame, after_taking}
use Rattle.ddcmp_streams.specs.declared.messages.MessageForm.{MessageForm}
use Rattle.ddcmp_streams.specs.declared.options.Options.{Options}
use Rattle.ddcmp_streams.specs.declared.messages.MessageForm.TheVariants.{Digits, Binary, Events}
use Rattle.ddcmp_streams.specs.declared.messages.MessageForm.TheVariants.{EventLines}
use Rattle.ddcmp_streams.specs.Messages.{message_in, after_input, entries_of_input, after_last}
use Rattle.ddcmp_streams.specs.Messages.{entry_of_last, has_events}
use Rattle.ddcmp_session.specs.Session.{SessionView, link_begun, taken_at_once, taken_when_written}
use Rattle.ddcmp_session.specs.Session.{takes_end}
use Rattle.ddcmp_session.specs.Text.{mail_text, notice_text, lost_text, dropped_by, lost_words, notice_words}
use Rattle.ddcmp_session.specs.Text.{line_down_words, line_end_text}
use Rattle.ddcmp_laws.specs.Links.{LinkCall, BeginsAnew, Halts, Wakes, Offers, FillsOne}
use Rattle.ddcmp_laws.specs.Links.{IsSent, Feeds, Takes, LinkStep, LinkHistory, new_history}
use Rattle.ddcmp_laws.specs.Prefix.{Begins}
use Rattle.ddcmp_session.specs.Calls.{SessionCall, InputRead, InputEnded, Connected, LineEnded}
use Rattle.ddcmp_session.specs.Calls.{Received, Filled, LineTook, TimedOut, TimePassed, Delivered}
use Rattle.ddcmp_session.specs.Calls.{OutputTook}
use Rattle.ddcmp_session.specs.Calls.{Closed, Shown, Mail, Reports, Leaves, Loses, SessionHistory}
use Rattle.ddcmp_session.specs.Calls.{SessionStep, after_session_step}
use Rattle.ddcmp_input.specs.HexLines as hex
use Rattle.ddcmp_input.specs.InBinary as binary
use Rattle.ddcmp_input.specs.InLines as lines
use Rattle.ddcmp_input.specs.Lengths as lengths

-- ---- the messages of an input, and the text of an output

abbrev pub got : Told → List (List ℕ)
got (Got message) = message ∷ []
got (Refused why) = []

unfoldable pub got_in : List Told → List (List ℕ)
got_in [] = []
got_in (told ∷ rest) = got told ++ got_in rest

-- Data messages, without events: with these the moments of the events decide which messages of an
-- input are refused.
pub record IsPlain (options : Options) : Type 0 where
  pub of_data : options.maintenance ≡ false
  pub no_events : has_events options.form ≡ false

-- the messages of at most `max` bytes in an input without commands
abbrev pub messages_of : MessageForm → ℕ → List ℕ → List (List ℕ)
messages_of Digits max input =
    got_in (map (λ (told : ℕ × Told). told.1) (lines.told_in input (hex.begun max)))
messages_of Binary max input = got_in (binary.told_in input (lengths.begun max))
messages_of Events max input = []
messages_of EventLines max input = []

abbrev pub mail_of : Shown → List (List ℕ)
mail_of (Mail message) = message ∷ []
mail_of _ = []

-- the messages that were delivered
unfoldable pub mail_in : List Shown → List (List ℕ)
mail_in [] = []
mail_in (one ∷ rest) = mail_of one ++ mail_in rest

abbrev pub text_of : MessageForm → Shown → List ℕ
text_of form (Mail message) = mail_text form message
text_of form (Reports notice) = notice_text form notice
text_of form (Leaves how) = line_end_text form how
text_of form (Loses count) = lost_text form count

unfoldable pub texts_of : MessageForm → List Shown → List ℕ
texts_of form [] = []
texts_of form (one ∷ rest) = text_of form one ++ texts_of form rest

-- What a reader takes for messages of an output with events: of each record, of which it reads at
-- most `n`, the bytes after its length, unless the top bit of that is set.
unfoldable pub mail_among : ℕ → List ℕ → List (List ℕ)
mail_among zero text = []
mail_among (suc n) [] = []
mail_among (suc n) (high ∷ []) = []
mail_among (suc n) (high ∷ low ∷ rest) =
    let size = high % 128 * 256 + low in
    (if nat_lt high 128 then take size rest ∷ [] else []) ++ mail_among n (drop size rest)

-- The length of a record has 15 bits beside that one. A message has at most 16,383 bytes, and a
-- number three digits.
abbrev pub IsShort : Shown → Type 0
IsShort (Mail message) = length message < 32768
IsShort (Reports notice) =
    (length (notice_words notice) < 32768) × (length (lost_words (dropped_by notice)) < 32768)
IsShort (Leaves how) = length (line_down_words how) < 32768
IsShort (Loses count) = length (lost_words count) < 32768

unfoldable pub AreShort : List Shown → Type 0
AreShort [] = ⊤
AreShort (one ∷ rest) = IsShort one × AreShort rest

-- ---- its link

-- the history of the link of a new session, which has chosen when it acknowledges messages
abbrev pub history_begun : Options → ReaderView → LinkHistory
history_begun options line = record (new_history options.config options.timer_ms line) {
  link = link_begun options line;
}

abbrev pub link_step : LinkCall → LinkView → LinkStep
link_step call new = record { call = call; link = new }

-- a message that was read is offered to the link, and nothing else is
abbrev pub offers_of : List Entry → List ℕ → LinkView → List LinkStep
offers_of (Message ∷ rest) message new = link_step (Offers message) new ∷ []
offers_of _ message new = []

unfoldable pub frames_put : ℕ → LinkView → List LinkStep
frames_put zero d = []
frames_put (suc n) d = link_step FillsOne (after_frame d) ∷ frames_put n (after_frame d)

unfoldable pub takes_put : ℕ → LinkView → List LinkStep
takes_put zero d = []
takes_put (suc n) d = link_step Takes (after_taking d) ∷ takes_put n (after_taking d)

-- the calls of the link that a call of a session makes; the link is `new` after them
abbrev pub link_steps_of : SessionCall → SessionView → LinkView → List LinkStep
link_steps_of (InputRead used) s new =
    offers_of (entries_of_input used s.messages) (message_in (after_input used s.messages)) new
link_steps_of InputEnded s new =
    if takes_end s
    then offers_of (option_to_list (entry_of_last s.messages)) (message_in (after_last s.messages))
    new
    else []
link_steps_of Connected s new = link_step BeginsAnew new ∷ []
link_steps_of (LineEnded how is_reported) s new = link_step Halts new ∷ []
link_steps_of (Received used) s new = link_step (Feeds used) new ∷ []
link_steps_of (Filled frames) s new = frames_put frames s.link
link_steps_of (LineTook n) s new = link_step (IsSent n) new ∷ []
link_steps_of (TimedOut now) s new = link_step (Wakes now) new ∷ []
link_steps_of TimePassed s new = []
link_steps_of (Delivered true) s new = takes_put (taken_at_once s) s.link
link_steps_of (Delivered false) s new = []
link_steps_of (OutputTook n) s new = takes_put (taken_when_written n s) s.link
link_steps_of (Closed left is_at_end is_reported) s new = link_step Halts new ∷ []

unfoldable pub link_steps_in : List SessionStep → SessionHistory → List LinkStep
link_steps_in [] h = []
link_steps_in (step ∷ rest) h =
    link_steps_of step.call h.session step.session.link
    ++ link_steps_in rest (after_session_step step h)

-- The history of a session and that of its link agree: the same bytes of the line were used and
-- written; the link accepted the messages of the input, and the messages that were delivered are
-- those taken from it, and after them the first of its inbox, whose text isn't written yet.
pub record IsOfLink (form : MessageForm) (max : ℕ) (h : SessionHistory)
    (l : LinkHistory) : Type 0 where
  pub link : l.link ≡ h.session.link
  pub used : l.used ≡ h.used
  pub gone : l.gone ≡ h.gone
  pub accepted : l.accepted ≡ messages_of form max h.input
  pub taken : l.taken ++ take h.session.unwritten h.session.link.station.core.station.inbox
      ≡ mail_in h.shown

-- Some first part of what was shown was written, and the messages in it are those that were taken
-- from the link.
pub record IsTakenAsWritten (form : MessageForm) (h : SessionHistory)
    (taken : List (List ℕ)) : Type 0 where
  pub front : List Shown
  pub back : List Shown
  pub shown : front ++ back ≡ h.shown
  pub mail : taken ≡ mail_in front
  pub text : Begins (texts_of form front) h.written
