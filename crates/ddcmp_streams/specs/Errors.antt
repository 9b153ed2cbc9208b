-- Lines for standard error.
use Rattle.std.specs.Prelude.{◌≡◌, ℕ, ◌+◌, ◌-◌, ◌^◌, ◌==◌, ◌&&◌, not, Bool}
use Rattle.std.specs.Prelude.{MatchBool, nat_le, min, if◌then◌else◌, List, [], ◌++◌, length}
use Rattle.std.specs.Prelude.{Option, Some, None, codes, decimal}
use Rattle.ddcmp_io.specs.Queue.{QueueView, no_bytes, room_settled, after_taken}
use Rattle.ddcmp_io.specs.Written.{HandsOver}
use Rattle.ddcmp_log.specs.Day.{time_text}
use Rattle.ddcmp_streams.specs.Queued.{queued}
use Rattle.ddcmp_streams.specs.declared.errors.TheConstants.{NOTE, SHORT_LINE}

-- The queued lines, how many were left out since the last that had room, the moment 0 in
-- milliseconds after 1970 if lines begin with the time of day, and the moment of the next lines.
pub record ErrorsView : Type 0 where
  pub queue : QueueView
  pub left_out : ℕ
  pub began : Option ℕ
  pub now : ℕ

abbrev pub no_lines : ℕ → ErrorsView
no_lines size = record { queue = no_bytes size; left_out = 0; began = None; now = 0 }

-- the time of day between two texts, if lines begin with that
abbrev pub stamp_text : List ℕ → List ℕ → Option ℕ → ℕ → List ℕ
stamp_text before after None now = []
stamp_text before after (Some began) now = before ++ time_text (began + now) ++ after

-- ---- lines that were left out

abbrev pub left_out_words : ℕ → List ℕ
left_out_words n = if n == 1 then codes " line left out\n" else codes " lines left out\n"

abbrev pub left_out_text : ℕ → List ℕ
left_out_text n = codes "ddcmp: " ++ decimal n ++ left_out_words n

-- the number of lines left out, after one more
abbrev pub one_more : ℕ → ℕ
one_more n = min (n + 1) (2 ^ 64 - 1)

-- the line that reports them, if there are any
abbrev pub note_text : ErrorsView → List ℕ
note_text e =
    if e.left_out == 0 then []
    else stamp_text [] (codes " ") e.began e.now ++ left_out_text e.left_out

-- ---- lines that are queued

-- Room is made by dropping the bytes that were written.
abbrev pub settled : QueueView → QueueView
settled q = record q { room = room_settled q }

-- there is room for a line of `needed` bytes, with a note before it
abbrev pub has_room : ℕ → ErrorsView → Bool
has_room needed e = nat_le (needed + NOTE) (room_settled e.queue)

-- There was no room for a line, and it is counted as left out.
abbrev pub LeftOut : ErrorsView → ErrorsView → Type 0
LeftOut old new =
    new ≡ record old { queue = settled old.queue; left_out = one_more old.left_out }

-- A text was queued whole, or the queue is cut and has a prefix of it. Nothing else changed.
pub record Queues (text : List ℕ) (old new : ErrorsView) : Type 0 where
  pub wrote : HandsOver (queued old.queue) (queued new.queue) text
  pub stays : new ≡ record old { queue = new.queue }

-- The number of lines left out was reported, if there were any.
pub record HasNoted (old new : ErrorsView) : Type 0 where
  pub wrote : HandsOver (queued old.queue) (queued new.queue) (note_text old)
  pub stays : new ≡ record old { queue = new.queue; left_out = 0 }

-- A text was queued after what precedes it: the report of lines left out, and the time of day.
pub record QueuedAs (opening before after text : List ℕ) (old new : ErrorsView) : Type 0 where
  pub wrote : HandsOver (queued old.queue) (queued new.queue)
      (note_text old ++ opening ++ stamp_text before after old.began old.now ++ text)
  pub stays : new ≡ record old { queue = new.queue; left_out = 0 }

-- as a line of text, or as a JSON object
abbrev pub HasQueued : List ℕ → ErrorsView → ErrorsView → Type 0
HasQueued text old new = QueuedAs [] [] (codes " ") text old new

abbrev pub HasQueuedObject : List ℕ → ErrorsView → ErrorsView → Type 0
HasQueuedObject text old new =
    QueuedAs (codes "{") (codes "\"time\":\"") (codes "\",") text old new

-- A text was queued if there was room for `needed` bytes; otherwise it was counted as left out.
abbrev pub HasLine : ℕ → List ℕ → ErrorsView → ErrorsView → Type 0
HasLine needed text old new =
    MatchBool (has_room needed old) (HasQueued text old new) (LeftOut old new)

abbrev pub HasObject : ℕ → List ℕ → ErrorsView → ErrorsView → Type 0
HasObject needed text old new =
    MatchBool (has_room needed old) (HasQueuedObject text old new) (LeftOut old new)

-- An event was reported, as a line of its own.
abbrev pub HasEvent : List ℕ → ErrorsView → ErrorsView → Type 0
HasEvent event old new = HasLine SHORT_LINE (event ++ codes "\n") old new

-- a part of the input is no message
abbrev pub refused_text : List ℕ → ℕ → List ℕ → List ℕ
refused_text part number why =
    codes "ddcmp: " ++ part ++ decimal number ++ codes ": " ++ why ++ codes "\n"

-- ---- lines that were written

-- Lines were left out, and there is room for a note of that.
abbrev pub reports_left_out : ErrorsView → Bool
reports_left_out e = not (e.left_out == 0) && nat_le NOTE e.queue.room

abbrev pub ReportsLeftOut : ErrorsView → ErrorsView → Type 0
ReportsLeftOut old new = MatchBool (reports_left_out old) (HasNoted old new) (new ≡ old)

abbrev pub after_written : ℕ → ErrorsView → ErrorsView
after_written n e =
    record e { queue = after_taken (min n (length e.queue.waiting)) e.queue }

-- Bytes were written; once all are, the number of lines left out is reported.
abbrev pub Took : ℕ → ErrorsView → ErrorsView → Type 0
Took n old new =
    MatchBool (nat_le (length old.queue.waiting) n) (ReportsLeftOut (after_written n old) new)
    (new ≡ after_written n old)
