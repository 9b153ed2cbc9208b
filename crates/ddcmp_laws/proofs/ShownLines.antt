-- Which lines of an output are messages: those of the messages that were delivered, and no other.
use Rattle.std.proofs.Common.{◌≡◌, ◌∙◌, ap, sym, subst, refl, ℕ, Bool, true, false, cond, List, []}
use Rattle.std.proofs.Common.{◌∷◌, ◌++◌, append-nil, map, Option, Some}
use Rattle.std.proofs.Common.{None}
use Rattle.std.specs.Prelude.{◌==◌, ◌&&◌, codes, decimal}
use Rattle.std.specs.declared.io.ErrorKind.{ErrorKind}
use Rattle.std.specs.declared.io.ErrorKind.TheVariants as kind
use Rattle.hex.specs.Hex.{encode_lower}
use Rattle.ddcmp_core.specs.declared.counters.Counters.{Counters}
use Rattle.ddcmp_core.specs.declared.counters.NakCounts.{NakCounts}
use Rattle.ddcmp_core.specs.declared.notice.Notice.{Notice}
use Rattle.ddcmp_core.specs.declared.notice.Notice.TheVariants as notice
use Rattle.ddcmp_core.specs.declared.state.State.{State}
use Rattle.ddcmp_core.specs.declared.state.State.TheVariants.{Halted, IStart, AStart, Running}
use Rattle.ddcmp_core.specs.declared.state.State.TheVariants.{Maintenance}
use Rattle.ddcmp_io.specs.Causes.{failure_words}
use Rattle.ddcmp_io.specs.declared.transfer.Down.TheVariants.{Closed, Failed}
use Rattle.ddcmp_pair.specs.Prefix.{IsPrefixOf}
use Rattle.ddcmp_station.specs.declared.counts.Layout.TheVariants.{Text}
use Rattle.ddcmp_station.specs.CountersText.{counter_text, counters_line, counts_text}
use Rattle.ddcmp_station.specs.CountersText.{fault_counts_text, nak_counts_text, traffic_text}
use Rattle.ddcmp_station.specs.Linking.{LinkView}
use Rattle.ddcmp_station.specs.StationText.{notice_line, notice_number, notice_word, number_text}
use Rattle.ddcmp_station.specs.StationText.{state_text}
use Rattle.ddcmp_streams.specs.declared.messages.MessageForm.{MessageForm}
use Rattle.ddcmp_streams.specs.declared.messages.MessageForm.TheVariants.{Digits, EventLines}
use Rattle.ddcmp_session.specs.Calls.{Shown, Mail, Reports, Leaves, Loses}
use Rattle.ddcmp_session.specs.declared.line_end.LineEnd.{LineEnd}
use Rattle.ddcmp_session.specs.declared.line_end.LineEnd.TheVariants.{Down, GivenUp, Halted}
use Rattle.ddcmp_session.specs.declared.line_end.LineEnd.TheVariants.{Restarted}
use Rattle.ddcmp_session.specs.EndText.{end_line, end_text, totals_text}
use Rattle.ddcmp_session.specs.Text.{dropped_by, line_end_words, lost_text}
use Rattle.ddcmp_laws.specs.MailLines.{mails_in}
use Rattle.ddcmp_laws.specs.Prefix.{Begins}
use Rattle.ddcmp_laws.specs.Sessions.{mail_in, text_of, texts_of}
use Rattle.ddcmp_laws.proofs.MailLaws.{Tells, decimal_plain, hex_plain, is_plain, mails_first}
use Rattle.ddcmp_laws.proofs.MailLaws.{plain_more, tells_all, tells_line, tells_more}
use Rattle.ddcmp_laws.proofs.Texts.{mail_more}

-- ---- the text of each thing that is shown

mail_tells : (message : List ℕ) → Tells (text_of Digits (Mail message)) (encode_lower message ∷ [])
mail_tells message =
    tells_line (codes "mail " ++ encode_lower message) (hex_plain message)

word_plain : (n : Notice) → is_plain (notice_word n) ≡ true
word_plain notice.Running = refl
word_plain notice.RunningAndHandedUp = refl
word_plain (notice.Acknowledged n) = refl
word_plain notice.HandedUp = refl
word_plain (notice.HandedUpAndAcknowledged n) = refl
word_plain notice.PeerStarts = refl
word_plain notice.PeerRestarted = refl
word_plain (notice.Restarted n) = refl
word_plain notice.MaintenanceSeen = refl
word_plain notice.MaintenanceHandedUp = refl
word_plain notice.MaintenanceDropped = refl

number_plain : (n : Option ℕ) → is_plain (number_text n) ≡ true
number_plain None = refl
number_plain (Some n) = decimal_plain n

notice_tells : (n : Notice) → Tells (notice_line [] n) []
notice_tells n =
    let word = notice_word n in
    let number = number_text (notice_number n) in
    tells_line (codes "notice " ++ (word ++ number))
    (plain_more word number (word_plain n) (number_plain (notice_number n)))

lost_tells : (count : ℕ) → Tells (lost_text Digits count) []
lost_tells count = by (count == 0)
  where
    by : (none : Bool) → Tells (cond none [] (codes "lost " ++ decimal count ++ codes "\n")) []
    by true = λ rest. refl
    by false = tells_line (codes "lost " ++ decimal count) (decimal_plain count)

notices_tell : (n : Notice) → Tells (text_of Digits (Reports n)) []
notices_tell n =
    tells_more (notice_line [] n) (lost_text Digits (dropped_by n)) [] [] (notice_tells n)
    (lost_tells (dropped_by n))

failure_plain : (kind : ErrorKind) → is_plain (failure_words kind) ≡ true
failure_plain kind.NotFound = refl
failure_plain kind.PermissionDenied = refl
failure_plain kind.ConnectionRefused = refl
failure_plain kind.ConnectionReset = refl
failure_plain kind.HostUnreachable = refl
failure_plain kind.NetworkUnreachable = refl
failure_plain kind.ConnectionAborted = refl
failure_plain kind.NotConnected = refl
failure_plain kind.AddrInUse = refl
failure_plain kind.AddrNotAvailable = refl
failure_plain kind.NetworkDown = refl
failure_plain kind.BrokenPipe = refl
failure_plain kind.AlreadyExists = refl
failure_plain kind.WouldBlock = refl
failure_plain kind.NotADirectory = refl
failure_plain kind.IsADirectory = refl
failure_plain kind.DirectoryNotEmpty = refl
failure_plain kind.ReadOnlyFilesystem = refl
failure_plain kind.FilesystemLoop = refl
failure_plain kind.StaleNetworkFileHandle = refl
failure_plain kind.InvalidInput = refl
failure_plain kind.InvalidData = refl
failure_plain kind.TimedOut = refl
failure_plain kind.WriteZero = refl
failure_plain kind.StorageFull = refl
failure_plain kind.NotSeekable = refl
failure_plain kind.QuotaExceeded = refl
failure_plain kind.FileTooLarge = refl
failure_plain kind.ResourceBusy = refl
failure_plain kind.ExecutableFileBusy = refl
failure_plain kind.Deadlock = refl
failure_plain kind.CrossesDevices = refl
failure_plain kind.TooManyLinks = refl
failure_plain kind.InvalidFilename = refl
failure_plain kind.ArgumentListTooLong = refl
failure_plain kind.Interrupted = refl
failure_plain kind.Unsupported = refl
failure_plain kind.UnexpectedEof = refl
failure_plain kind.OutOfMemory = refl
failure_plain kind.InProgress = refl
failure_plain kind.Other = refl
failure_plain kind.Uncategorized = refl

end_plain : (how : LineEnd) → is_plain (line_end_words how) ≡ true
end_plain (Down Closed) = refl
end_plain (Down (Failed kind)) = failure_plain kind
end_plain Halted = refl
end_plain Restarted = refl
end_plain GivenUp = refl

-- ---- the text of all

TellsEach : MessageForm → Type 0
TellsEach f = (one : Shown) → Tells (text_of f one) (map encode_lower (mail_in (one ∷ [])))

in_digits : TellsEach Digits
unfolding TellsEach mail_in
in_digits (Mail message) = mail_tells message
in_digits (Reports n) = notices_tell n
in_digits (Leaves how) = λ rest. refl
in_digits (Loses count) = lost_tells count

in_event_lines : TellsEach EventLines
unfolding TellsEach mail_in
in_event_lines (Mail message) = mail_tells message
in_event_lines (Reports n) = notices_tell n
in_event_lines (Leaves how) =
    tells_line (codes "line down: " ++ line_end_words how) (end_plain how)
in_event_lines (Loses count) = lost_tells count

pub map_more : (xs ys : List (List ℕ))
    → map encode_lower (xs ++ ys) ≡ map encode_lower xs ++ map encode_lower ys
map_more [] ys = refl
map_more (x ∷ xs) ys = ap (λ zs. encode_lower x ∷ zs) (map_more xs ys)

each_tells : (f : MessageForm) → TellsEach f → (shown : List Shown)
    → Tells (texts_of f shown) (map encode_lower (mail_in shown))
unfolding TellsEach texts_of mail_in
each_tells f tells [] = λ rest. refl
each_tells f tells (one ∷ shown) =
    subst (λ ms. Tells (text_of f one ++ texts_of f shown) ms)
    (sym (map_more (mail_in (one ∷ [])) (mail_in shown))
    ∙ ap (map encode_lower) (sym (mail_more (one ∷ []) shown)))
    (tells_more (text_of f one) (texts_of f shown)
    (map encode_lower (mail_in (one ∷ []))) (map encode_lower (mail_in shown))
    (tells one) (each_tells f tells shown))

pub all_tell : (shown : List Shown)
    → Tells (texts_of Digits shown) (map encode_lower (mail_in shown))
all_tell shown = each_tells Digits in_digits shown

pub digits_tell : (shown : List Shown)
    → mails_in (texts_of Digits shown) ≡ map encode_lower (mail_in shown)
digits_tell shown =
    tells_all (texts_of Digits shown) (map encode_lower (mail_in shown)) (all_tell shown)

pub events_tell : (shown : List Shown)
    → mails_in (texts_of EventLines shown) ≡ map encode_lower (mail_in shown)
events_tell shown =
    tells_all (texts_of EventLines shown) (map encode_lower (mail_in shown))
    (each_tells EventLines in_event_lines shown)

-- ---- the last lines

counter_plain : (name : List ℕ) (n : ℕ) → is_plain name ≡ true
    → is_plain (counter_text Text name n) ≡ true
counter_plain name n p =
    plain_more (name ++ codes "=") (decimal n) (plain_more name (codes "=") p refl)
    (decimal_plain n)

-- a text, and then these counters, whose names begin with `way`
abbrev with_counters : List ℕ → List ℕ → List (List ℕ × ℕ) → List ℕ
with_counters way first [] = first
with_counters way first (one ∷ more) =
    with_counters way (first ++ counter_text Text (way ++ one.0) one.1) more

abbrev are_plain : List (List ℕ × ℕ) → Bool
are_plain [] = true
are_plain (one ∷ more) = is_plain one.0 && are_plain more

counters_plain : (way first : List ℕ) (more : List (List ℕ × ℕ)) → is_plain way ≡ true
    → is_plain first ≡ true → are_plain more ≡ true
    → is_plain (with_counters way first more) ≡ true
counters_plain way first [] p q r = q
counters_plain way first (one ∷ more) p q r =
    let two = both (is_plain one.0) (are_plain more) r in
    counters_plain way (first ++ counter_text Text (way ++ one.0) one.1) more p
    (plain_more first (counter_text Text (way ++ one.0) one.1) q
    (counter_plain (way ++ one.0) one.1 (plain_more way one.0 p two.0)))
    two.1
  where
    both : (a b : Bool) → (a && b) ≡ true → (a ≡ true) × (b ≡ true)
    both true b e = (refl, e)
    both false b e = cc

naks_plain : (way : List ℕ) (c : NakCounts) → is_plain way ≡ true
    → is_plain (nak_counts_text Text way c) ≡ true
naks_plain way c p =
    counters_plain way (counter_text Text (way ++ codes "header_check") c.header_check)
    ((codes "data_check", c.data_check)
    ∷ (codes "reply_to_rep", c.reply_to_rep)
    ∷ (codes "no_buffer", c.no_buffer)
    ∷ (codes "overrun", c.overrun)
    ∷ (codes "too_long", c.too_long)
    ∷ (codes "format", c.format)
    ∷ (codes "other", c.other) ∷ [])
    p
    (counter_plain (way ++ codes "header_check") c.header_check
    (plain_more way (codes "header_check") p refl))
    refl

traffic_plain : (c : Counters) → is_plain (traffic_text Text c) ≡ true
traffic_plain c =
    counters_plain [] (counter_text Text (codes "rep_sent") c.rep_sent)
    ((codes "rep_received", c.rep_received)
    ∷ (codes "messages_sent", c.messages_sent)
    ∷ (codes "bytes_sent", c.bytes_sent)
    ∷ (codes "messages_again", c.messages_again)
    ∷ (codes "bytes_again", c.bytes_again)
    ∷ (codes "messages_up", c.messages_up)
    ∷ (codes "bytes_up", c.bytes_up) ∷ [])
    refl (counter_plain (codes "rep_sent") c.rep_sent refl) refl

faults_plain : (c : Counters) → is_plain (fault_counts_text Text c) ≡ true
faults_plain c =
    counters_plain [] (counter_text Text (codes "expiries") c.expiries)
    ((codes "header_checks", c.header_checks)
    ∷ (codes "data_checks", c.data_checks)
    ∷ (codes "too_longs", c.too_longs)
    ∷ (codes "formats", c.formats) ∷ [])
    refl (counter_plain (codes "expiries") c.expiries refl) refl

totals_plain : (d : LinkView) → is_plain (totals_text Text d) ≡ true
totals_plain d =
    counters_plain [] (counter_text Text (codes "read") d.totals.read)
    ((codes "written", d.totals.written)
    ∷ (codes "sent", d.totals.sent)
    ∷ (codes "acknowledged", d.totals.acknowledged)
    ∷ (codes "handed", d.totals.handed) ∷ [])
    refl (counter_plain (codes "read") d.totals.read refl) refl

counts_plain : (c : Counters) → is_plain (counts_text Text c) ≡ true
counts_plain c =
    let sent = nak_counts_text Text (codes "nak_sent_") c.nak_sent in
    let received = nak_counts_text Text (codes "nak_received_") c.nak_received in
    let traffic = traffic_text Text c in
    plain_more (sent ++ received ++ traffic) (fault_counts_text Text c)
    (plain_more (sent ++ received) traffic
    (plain_more sent received (naks_plain (codes "nak_sent_") c.nak_sent refl)
    (naks_plain (codes "nak_received_") c.nak_received refl))
    (traffic_plain c))
    (faults_plain c)

state_plain : (s : State) → is_plain (state_text s) ≡ true
state_plain Halted = refl
state_plain IStart = refl
state_plain AStart = refl
state_plain Running = refl
state_plain Maintenance = refl

line_tells : (d : LinkView) → Tells (end_line d) []
line_tells d =
    let state = state_text d.station.core.station.state in
    let totals = totals_text Text d in
    tells_line (codes "state=" ++ (state ++ totals))
    (plain_more state totals (state_plain d.station.core.station.state) (totals_plain d))

end_tells : (counted : Bool) (d : LinkView) → Tells (end_text counted d) []
end_tells true d =
    tells_more (counters_line [] d.station.core.counters) (end_line d) [] []
    (tells_line (codes "counters" ++ counts_text Text d.station.core.counters)
    (counts_plain d.station.core.counters))
    (line_tells d)
end_tells false d = line_tells d

-- ---- an output: what was shown, and what was written of the last lines

none_of : (front rest : List (List ℕ)) → front ++ rest ≡ [] → front ≡ []
none_of [] rest e = refl
none_of (x ∷ xs) rest e = cc

end_has_none : (counted : Bool) (d : LinkView) (extra : List ℕ)
    → Begins extra (end_text counted d) → mails_in extra ≡ []
end_has_none counted d extra begins =
    let m = mails_first extra begins.0 in
    none_of (mails_in extra) m.0
    (m.1 ∙ ap mails_in begins.1 ∙ tells_all (end_text counted d) [] (end_tells counted d))

-- all of it
pub mails_of_output : (shown : List Shown) (counted : Bool) (d : LinkView) (extra : List ℕ)
    → Begins extra (end_text counted d)
    → mails_in (texts_of Digits shown ++ extra) ≡ map encode_lower (mail_in shown)
mails_of_output shown counted d extra begins =
    all_tell shown extra
    ∙ ap (λ ms. map encode_lower (mail_in shown) ++ ms) (end_has_none counted d extra begins)
    ∙ append-nil (map encode_lower (mail_in shown))

-- what of it was written
pub mails_written : (written waiting : List ℕ) (shown : List Shown) (counted : Bool) (d : LinkView)
    (extra : List ℕ) → Begins extra (end_text counted d)
    → written ++ waiting ≡ texts_of Digits shown ++ extra
    → IsPrefixOf (mails_in written) (map encode_lower (mail_in shown))
mails_written written waiting shown counted d extra begins is =
    let m = mails_first written waiting in
    (m.0, m.1 ∙ ap mails_in is ∙ mails_of_output shown counted d extra begins)
