-- How a session goes on by bytes of its input, and by its end.
use Rattle.std.proofs.Common.{◌≡◌, ◌∙◌, ap, sym, subst, refl, ℕ, zero, suc, ◌==◌, Bool, true}
use Rattle.std.proofs.Common.{false, List, [], ◌∷◌, ◌++◌, length, take, drop, Option}
use Rattle.std.proofs.Common.{append_assoc, append-nil}
use Rattle.std.proofs.lemmas.List.{take-append-drop, nil_from_length}
use Rattle.ddcmp_frame.proofs.Tests.{eqb-true}
use Rattle.std.specs.Prelude.{◌&&◌, ◌||◌, not, option_to_list}
use Rattle.ddcmp_input.specs.declared.entry.Entry.{Entry}
use Rattle.ddcmp_input.specs.declared.entry.Entry.TheVariants as entry
use Rattle.ddcmp_core.specs.Table.{may_send, may_send_maintenance, after_accept}
use Rattle.ddcmp_station.specs.Linking.{after_offered, after_offered_maintenance, with_state}
use Rattle.ddcmp_station.specs.Linking.{total_plus}
use Rattle.ddcmp_streams.specs.declared.messages.Messages.{Messages}
use Rattle.ddcmp_streams.specs.declared.messages.Messages.TheVariants.{Digits, Binary, Events}
use Rattle.ddcmp_streams.specs.declared.messages.Messages.TheVariants.{EventLines}
use Rattle.ddcmp_streams.specs.Messages.{message_in, after_input, entries_of_input, after_last}
use Rattle.ddcmp_streams.specs.Messages.{entry_of_last, has_last_line, is_message_unfinished}
use Rattle.ddcmp_session.specs.Session.{after_command, after_entry, after_entries}
use Rattle.ddcmp_session.specs.Session.{after_input_read, after_message, is_held}
use Rattle.ddcmp_streams.specs.Messages.{command_in}
use Rattle.ddcmp_streams.specs.declared.messages.Command.{Command}
use Rattle.ddcmp_streams.specs.declared.messages.Command.TheVariants as command
use Rattle.ddcmp_session.specs.Session.{after_unfinished}
use Rattle.ddcmp_session.specs.Session.{after_offered_in, takes_in}
use Rattle.ddcmp_session.proofs.InputLaws.{form-stays}
use Rattle.std.proofs.Common.{cond}
use Rattle.ddcmp_frame.specs.Reader.{StandsFor}
use Rattle.ddcmp_io.specs.declared.device.Got.TheVariants as got
use Rattle.ddcmp_station.specs.Linking.{LinkView}
use Rattle.ddcmp_session.specs.Session.{SessionView, form_of, takes_end}
use Rattle.ddcmp_session.specs.Session.{after_input_end}
use Rattle.ddcmp_session.specs.Calls.{InputRead, InputEnded}
use Rattle.ddcmp_session.specs.Calls.{HasReadInput}
use Rattle.ddcmp_session.specs.Calls.{SessionHistory, end_in}
use Rattle.ddcmp_session.specs.Calls.{input_in}
use Rattle.ddcmp_session.specs.Devices.{BuffersView, Agrees, GoesOn}
use Rattle.ddcmp_session.specs.Traffic.{Becomes, Traffic, after_read}
use Rattle.ddcmp_session.specs.Devices.{end_of}
use Rattle.ddcmp_session.proofs.GoingLaws.{end-is, none-went, one-went, nothing-more, same-at}

none-ended : (h : SessionHistory) → h.is_told ≡ false → end_of h ≡ []
none-ended h e = ap (λ b. cond b (end_in (form_of h.session.messages)) []) e

-- bytes were read of the input
pub input-came : {held : BuffersView} {s : SessionView} {k k' : Option Traffic} (n : ℕ)
    (space : List ℕ) (over : Bool) → held.is_over ≡ false
    → Becomes k k' (after_read (got.Bytes n) space) → over ≡ (n == 0)
    → GoesOn held s k (record held { input = held.input ++ take n space; is_over = over }) s k'
input-came {held} {s} {k} {k'} n space over goes becomes ends = λ h t is was a.
    let unread = not-read h a in (
      after_read (got.Bytes n) space t,
      becomes t was,
      none-went h s (record held { input = held.input ++ take n space; is_over = over })
          (after_read (got.Bytes n) space t) is
          (record {
            read =
                ap (λ xs. (t.read ++ take n space) ++ xs) (none-ended h unread)
                ∙ append-nil (t.read ++ take n space)
                ∙ ap (λ xs. xs ++ take n space) (nothing-more (none-ended h unread) ∙ a.read)
                ∙ append_assoc h.input held.input (take n space);
            over = ends;
            told = λ e. absurd (sym unread ∙ e);
            drained = λ e. let bad : false ≡ true = sym unread ∙ e in cc;
            ended = a.ended;
            came = a.came;
            gone = a.gone;
            written = a.written;
            down = a.down;
            stands = a.stands;
          }),
    )
  where
    absurd : false ≡ true → over ≡ true
    absurd e = cc

    not-read : (h : SessionHistory) {t : Traffic} → Agrees held h t → h.is_told ≡ false
    not-read h a = by h.is_told a.told
      where
        by : (b : Bool) → (b ≡ true → held.is_over ≡ true) → b ≡ false
        by true told = let bad : true ≡ false = sym (told refl) ∙ goes in cc
        by false told = refl

none-dropped : (n : ℕ) → ◌≡◌ {A = List ℕ} (drop n []) []
none-dropped zero = refl
none-dropped (suc n) = refl

-- a call of `input_read` took bytes
pub input_read-goes : {held : BuffersView} {known : Option Traffic} (old new : SessionView) (n : ℕ)
    → HasReadInput (take n held.input) old new → form_of new.messages ≡ form_of old.messages
    → (old.is_read ≡ true → new.is_read ≡ true)
    → new.link.station.line ≡ old.link.station.line
    → GoesOn held old known (record held { input = drop n held.input }) new known
input_read-goes {held} {known} old new n does form reads line = λ h t is was a.
    let used = take n held.input in
    let to : SessionHistory = record h { session = old } in (
      t,
      was,
      one-went (InputRead used) h new (record held { input = drop n held.input }) t held.received
          t.log tt
          (subst (λ (x : SessionView). HasReadInput used x new) (sym is) does)
          (record {
            read =
                ap (λ xs. t.read ++ xs)
                (end-is h new (form ∙ sym (same-at (λ x. form_of x.messages) h.session old is)))
                ∙ a.read
                ∙ ap (λ xs. h.input ++ xs) (sym (take-append-drop n held.input))
                ∙ sym (append_assoc h.input used (drop n held.input));
            over = a.over;
            told = a.told;
            drained = λ e. ap (drop n) (a.drained e) ∙ none-dropped n;
            ended = λ e. reads (sym (same-at (λ x. x.is_read) h.session old is) ∙ a.ended e);
            came = a.came ∙ ap (λ xs. xs ++ held.received) (sym (append-nil h.used));
            gone = a.gone ∙ sym (append-nil h.gone);
            written = a.written ∙ sym (append-nil h.written);
            down = a.down;
            stands =
                subst (λ l. StandsFor l (h.used ++ []))
                (same-at (λ x. x.link.station.line) h.session old is ∙ sym line)
                (subst (StandsFor h.session.link.station.line) (sym (append-nil h.used))
                a.stands);
          }) (λ own f. f),
    )

-- a session that accepts the end of the input was told of it
pub ended-goes : {held : BuffersView} {known : Option Traffic} (old new : SessionView)
    → new ≡ after_input_end old → takes_end old ≡ true → old.is_read ≡ false
    → held.input ≡ [] → held.is_over ≡ true
    → form_of new.messages ≡ form_of old.messages → new.is_read ≡ true
    → new.link.station.line ≡ old.link.station.line
    → GoesOn held old known held new known
ended-goes {held} {known} old new does wants unread empty over form reads line = λ h t is was a. (
  t,
  was,
  one-went InputEnded h new held t held.received t.log tt
      (subst (λ (x : SessionView). new ≡ after_input_end x) (sym is) does)
      (record {
        read =
            ap (λ xs. t.read ++ xs)
            (ap (λ b. cond (b || h.is_told) (end_in (form_of new.messages)) [])
            (same-at takes_end h.session old is ∙ wants)
            ∙ ap end_in form)
            ∙ ap (λ xs. xs ++ end_in (form_of old.messages))
            (nothing-more (none-ended h (untold h is a)) ∙ a.read
            ∙ ap (λ xs. h.input ++ xs) empty ∙ append-nil h.input)
            ∙ ap (λ xs. h.input ++ xs)
            (sym (same-at (input_in InputEnded) h.session old is
            ∙ ap (λ b. cond b (end_in (form_of old.messages)) []) wants))
            ∙ nothing-more empty;
        over = a.over;
        told = λ e. over;
        drained = λ e. empty;
        ended = λ e. reads;
        came = a.came ∙ ap (λ xs. xs ++ held.received) (sym (append-nil h.used));
        gone = a.gone ∙ sym (append-nil h.gone);
        written = a.written ∙ sym (append-nil h.written);
        down = a.down;
        stands =
            subst (λ l. StandsFor l (h.used ++ []))
            (same-at (λ x. x.link.station.line) h.session old is ∙ sym line)
            (subst (StandsFor h.session.link.station.line) (sym (append-nil h.used))
            a.stands);
      }) (λ own f. f),
)
  where
    untold : (h : SessionHistory) {t : Traffic} → h.session ≡ old → Agrees held h t
        → h.is_told ≡ false
    untold h is a = by h.is_told a.ended
      where
        by : (b : Bool) → (b ≡ true → h.session.is_read ≡ true) → b ≡ false
        by true ended =
            let bad : true ≡ false =
            sym (ended refl) ∙ same-at (λ x. x.is_read) h.session old is ∙ unread in cc
        by false ended = refl

-- ---- what stays

offered-line : (message : List ℕ) (d : LinkView)
    → (after_offered message d).station.line ≡ d.station.line
offered-line message d = by (may_send d.station.core.limits d.station.core.station message)
  where
    by : (b : Bool)
        → (cond b
        (record (with_state (after_accept d.station.core.station message) d)
        { totals = record d.totals { sent = total_plus d.totals.sent 1 } }) d).station.line
        ≡ d.station.line
    by true = refl
    by false = refl

offered-maintenance-line : (message : List ℕ) (d : LinkView)
    → (after_offered_maintenance message d).station.line ≡ d.station.line
offered-maintenance-line message d =
    by (may_send_maintenance d.station.core.limits d.station.core.station message)
  where
    by : (b : Bool)
        → (cond b
        (record (with_state (after_accept d.station.core.station message) d)
        { totals = record d.totals { sent = total_plus d.totals.sent 1 } }) d).station.line
        ≡ d.station.line
    by true = refl
    by false = refl

offered-in-line : (b : Bool) (message : List ℕ) (d : LinkView)
    → (after_offered_in b message d).station.line ≡ d.station.line
offered-in-line true message d = offered-maintenance-line message d
offered-in-line false message d = offered-line message d

message-line : (held : Bool) (s : SessionView)
    → (after_message held s).link.station.line ≡ s.link.station.line
message-line true s = refl
message-line false s =
    offered-in-line s.options.maintenance (message_in s.messages) s.link

command-line : (c : Command) (s : SessionView)
    → (after_command c s).link.station.line ≡ s.link.station.line
command-line command.Ready s = refl
command-line command.Restart s = refl
command-line command.Halt s = refl
command-line command.Start s = refl
command-line command.Report s = refl
command-line command.Quit s = refl
command-line command.Unknown s = refl

entry-line : (e : Entry) (s : SessionView)
    → (after_entry e s).link.station.line ≡ s.link.station.line
entry-line entry.Message s = message-line (is_held s) s
entry-line entry.Command s = command-line (command_in s.messages) s
entry-line entry.NotHexadecimal s = refl
entry-line entry.TooLong s = refl
entry-line entry.Empty s = refl

abbrev StaysRead : SessionView → SessionView → Type 0
StaysRead s new = s.is_read ≡ true → new.is_read ≡ true

message-read : (held : Bool) (s : SessionView) → StaysRead s (after_message held s)
message-read true s read = read
message-read false s read = read

command-read : (c : Command) (s : SessionView) → StaysRead s (after_command c s)
command-read command.Ready s read = read
command-read command.Restart s read = read
command-read command.Halt s read = read
command-read command.Start s read = read
command-read command.Report s read = read
command-read command.Quit s read = refl
command-read command.Unknown s read = read

entry-read : (e : Entry) (s : SessionView) → StaysRead s (after_entry e s)
entry-read entry.Message s read = message-read (is_held s) s read
entry-read entry.NotHexadecimal s read = read
entry-read entry.TooLong s read = read
entry-read entry.Empty s read = read
entry-read entry.Command s read = command-read (command_in s.messages) s read

message-messages : (held : Bool) (s : SessionView)
    → (after_message held s).messages ≡ s.messages
message-messages true s = refl
message-messages false s = refl

command-messages : (c : Command) (s : SessionView) → (after_command c s).messages ≡ s.messages
command-messages command.Ready s = refl
command-messages command.Restart s = refl
command-messages command.Halt s = refl
command-messages command.Start s = refl
command-messages command.Report s = refl
command-messages command.Quit s = refl
command-messages command.Unknown s = refl

entry-messages : (e : Entry) (s : SessionView) → (after_entry e s).messages ≡ s.messages
entry-messages entry.Message s = message-messages (is_held s) s
entry-messages entry.Command s = command-messages (command_in s.messages) s
entry-messages entry.NotHexadecimal s = refl
entry-messages entry.TooLong s = refl
entry-messages entry.Empty s = refl

pub entries-line : (es : List Entry) (s : SessionView)
    → (after_entries es s).link.station.line ≡ s.link.station.line
entries-line [] s = refl
entries-line (e ∷ rest) s = entry-line e s

pub entries-read : (es : List Entry) (s : SessionView) → StaysRead s (after_entries es s)
entries-read [] s read = read
entries-read (e ∷ rest) s read = entry-read e s read

pub entries-messages : (es : List Entry) (s : SessionView)
    → (after_entries es s).messages ≡ s.messages
entries-messages [] s = refl
entries-messages (e ∷ rest) s = entry-messages e s

-- a call of `input_read` took the first bytes of those that are held
pub types : {held : BuffersView} {known : Option Traffic} (old new : SessionView) (n : ℕ)
    → HasReadInput (take n held.input) old new
    → GoesOn held old known (record held { input = drop n held.input }) new known
types {held} {known} old new n does =
    let used = take n held.input in
    let es = entries_of_input used old.messages in
    let s = record old { messages = after_input used old.messages } in
    input_read-goes old new n does
    (same-at (λ x. form_of x.messages) new (after_input_read used old) does.state
    ∙ ap form_of (entries-messages es s) ∙ form-stays used old.messages)
    (λ read.
    same-at (λ x. x.is_read) new (after_input_read used old) does.state ∙ entries-read es s read)
    (same-at (λ x. x.link.station.line) new (after_input_read used old) does.state
    ∙ entries-line es s)

-- the end of the input
last-form : (m : Messages) → form_of (after_last m) ≡ form_of m
last-form (Digits v) = refl
last-form (Binary v) = refl
last-form (Events v) = refl
last-form (EventLines v) = refl

unfinished-line : (s : SessionView) → (after_unfinished s).link.station.line ≡ s.link.station.line
unfinished-line s = by (is_message_unfinished s.messages)
  where
    by : (b : Bool)
        → (cond b (record s { was_refused = true }) s).link.station.line ≡ s.link.station.line
    by true = refl
    by false = refl

unfinished-form : (s : SessionView)
    → form_of (after_unfinished s).messages ≡ form_of s.messages
unfinished-form s = by (is_message_unfinished s.messages)
  where
    by : (b : Bool) → form_of (cond b (record s { was_refused = true }) s).messages
        ≡ form_of s.messages
    by true = refl
    by false = refl

unfinished-read : (s : SessionView) → (after_unfinished s).is_read ≡ s.is_read
unfinished-read s = by (is_message_unfinished s.messages)
  where
    by : (b : Bool) → (cond b (record s { was_refused = true }) s).is_read ≡ s.is_read
    by true = refl
    by false = refl

pub ends : {held : BuffersView} {known : Option Traffic} (old new : SessionView)
    → new ≡ after_input_end old → takes_end old ≡ true
    → held.input ≡ [] → held.is_over ≡ true
    → GoesOn held old known held new known
ends {held} {known} old new does wants empty over =
    let es = option_to_list (entry_of_last old.messages) in
    let s = record old { messages = after_last old.messages; is_read = true } in
    let to = after_unfinished (after_entries es s) in
    let done = does ∙ ap (λ b. cond b to old) wants in
    ended-goes old new does wants (unread old.is_read wants) empty over
    (same-at (λ x. form_of x.messages) new to done ∙ unfinished-form (after_entries es s)
    ∙ ap form_of (entries-messages es s) ∙ last-form old.messages)
    (same-at (λ x. x.is_read) new to done ∙ unfinished-read (after_entries es s)
    ∙ entries-read es s refl)
    (same-at (λ x. x.link.station.line) new to done
    ∙ unfinished-line (after_entries es s) ∙ entries-line es s)
  where
    unread : (b : Bool)
        → not b
        && (takes_in old.options.maintenance old.link
        || (old.course.has_run && not (has_last_line old.messages)))
        ≡ true
        → b ≡ false
    unread true e = cc
    unread false e = refl

-- the same of bytes that are those held
pub types-held : {held : BuffersView} {known : Option Traffic} (old new : SessionView) (n : ℕ)
    (bytes rest : List ℕ) → bytes ≡ held.input → rest ≡ drop n held.input
    → HasReadInput (take n bytes) old new
    → GoesOn held old known (record held { input = rest }) new known
types-held {held} {known} old new n bytes rest same left does =
    subst (λ xs. GoesOn held old known (record held { input = xs }) new known) (sym left)
    (types old new n (subst (λ xs. HasReadInput (take n xs) old new) same does))

-- bytes of the input, or none, are held now
pub input-given : {held : BuffersView} {s : SessionView} {k k' : Option Traffic} (n : ℕ)
    (space input : List ℕ) (over : Bool) → held.is_over ≡ false
    → input ≡ held.input ++ take n space → Becomes k k' (after_read (got.Bytes n) space)
    → over ≡ (n == 0)
    → GoesOn held s k (record held { input = input; is_over = over }) s k'
input-given {held} {s} {k} {k'} n space input over goes is becomes ends =
    subst (λ xs. GoesOn held s k (record held { input = xs; is_over = over }) s k') (sym is)
    (input-came n space over goes becomes ends)

pub no-input : {held : BuffersView} {s : SessionView} {k k' : Option Traffic} (input : List ℕ)
    → input ≡ held.input ++ [] → GoesOn held s k held s k'
    → GoesOn held s k (record held { input = input }) s k'
no-input {held} {s} {k} {k'} input none goes =
    subst (λ xs. GoesOn held s k (record held { input = xs }) s k')
    (sym (none ∙ append-nil held.input)) goes

pub none-left : (xs : List ℕ) → true ≡ (length xs == 0) → xs ≡ []
none-left xs e = nil_from_length xs (eqb-true (length xs) 0 (sym e))
