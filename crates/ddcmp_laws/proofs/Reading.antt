-- What a session reads of its input.
use Rattle.std.proofs.Common.{◌≡◌, ℕ, ◌+◌, Bool, true, false, cond, List, [], ◌∷◌}
use Rattle.std.proofs.Common.{◌++◌, refl, sym, ◌∙◌, ap, subst}
use Rattle.std.proofs.Common.{append-nil, option_to_list}
use Rattle.std.specs.Prelude.{◌&&◌, ◌||◌, not, is_some, Option, None, Some}
use Rattle.ddcmp_input.specs.declared.entry.Entry.{Entry}
use Rattle.ddcmp_input.specs.declared.entry.Entry.TheVariants.{Message, NotHexadecimal, TooLong}
use Rattle.ddcmp_input.specs.declared.entry.Entry.TheVariants.{Command, Empty}
use Rattle.ddcmp_input.specs.CommandLines as command_lines
use Rattle.ddcmp_input.specs.HexLines as hex
use Rattle.ddcmp_input.specs.InBinary.{Fits}
use Rattle.ddcmp_input.specs.Lengths as lengths
use Rattle.ddcmp_input.specs.Records as records
use Rattle.ddcmp_station.specs.Linking.{LinkView}
use Rattle.ddcmp_station.specs.Linking.{after_offered, takes_message}
use Rattle.ddcmp_streams.specs.declared.messages.MessageForm.{MessageForm}
use Rattle.ddcmp_streams.specs.declared.messages.Messages.{Messages}
use Rattle.ddcmp_streams.specs.declared.messages.Messages.TheVariants.{Digits, Binary, Events}
use Rattle.ddcmp_streams.specs.declared.messages.Messages.TheVariants.{EventLines}
use Rattle.ddcmp_streams.specs.Messages.{message_in, after_input, entries_of_input}
use Rattle.ddcmp_streams.specs.Messages.{after_last, entry_of_last, has_last_line}
use Rattle.ddcmp_streams.specs.Messages.{is_message_unfinished}
use Rattle.ddcmp_session.specs.Session.{SessionView, form_of, takes_end, wants_input}
use Rattle.ddcmp_session.specs.Session.{after_command, after_entries, after_message, is_barred}
use Rattle.ddcmp_session.specs.Session.{has_commands, is_held, is_idle}
use Rattle.ddcmp_streams.specs.Messages.{command_in, has_events}
use Rattle.ddcmp_streams.specs.declared.messages.Command.TheVariants as command
use Rattle.ddcmp_session.specs.Session.{after_last_line, after_unfinished, after_offered_in}
use Rattle.ddcmp_session.specs.Session.{takes_in}
use Rattle.ddcmp_laws.specs.Links.{Offers}
use Rattle.ddcmp_laws.specs.Links.{after_history}
use Rattle.ddcmp_laws.specs.Links.{offered_in}
use Rattle.ddcmp_session.specs.Calls.{CompletesLast, HasReadInput, SessionHistory, end_in}
use Rattle.ddcmp_laws.specs.Sessions.{messages_of, link_step, offers_of}
use Rattle.ddcmp_session.proofs.InputLaws.{form-stays}
use Rattle.ddcmp_laws.proofs.Inputs.{read_by, read_more, after_more, read_fits}
use Rattle.ddcmp_laws.proofs.Inputs.{IfMessage}
use Rattle.ddcmp_laws.proofs.Limits.{accepts, both, longest_of, offered_longest}
use Rattle.ddcmp_laws.proofs.Holding.{Holds, Leads, link_history, no_input, parts, quiet_mail}
use Rattle.ddcmp_laws.proofs.Holding.{same_parts, session_parts, text_on}
use Rattle.ddcmp_laws.proofs.Inboxes.{adds-same, inbox_in, offered-inbox}
use Rattle.ddcmp_laws.proofs.Queues.{IsKept, queued_kept, taken_kept, taken_of}

-- ---- what is read of the input

-- the link after some entries
abbrev pub IsEntered : List Entry → List ℕ → LinkView → LinkView → Type 0
IsEntered (Message ∷ rest) message old new = new ≡ after_offered message old
IsEntered _ message old new = new ≡ old

abbrev pub Entered : List Entry → SessionView → SessionView → Type 0
Entered es s new =
    (new.messages ≡ s.messages)
    × (new.output ≡ s.output)
    × IsEntered es (message_in s.messages) s.link new.link
    × (new.is_read ≡ s.is_read)

-- without events no message is refused, and there are no commands
not_held : (s : SessionView) → has_events (form_of s.messages) ≡ false → is_held s ≡ false
not_held s plain = by s.messages plain
  where
    by : (m : Messages) → has_events (form_of m) ≡ false
        → is_barred m s.course || (has_commands m && is_idle s) ≡ false
    by (Digits v) n = refl
    by (Binary v) n = refl
    by (Events v) n = cc
    by (EventLines v) n = cc

-- nor is input wanted but for messages
or_none : (takes : Bool) → takes || false ≡ takes
or_none true = refl
or_none false = refl

wants_messages : (s : SessionView) → has_events (form_of s.messages) ≡ false
    → wants_input s ≡ not s.is_read && takes_in s.options.maintenance s.link
wants_messages s plain =
    ap
    (λ b. not s.is_read
    && (takes_in s.options.maintenance s.link
    || (b && (is_idle s && (s.course.has_run && not s.course.ready_ahead))))) plain
    ∙ ap (λ b. not s.is_read && b) (or_none (takes_in s.options.maintenance s.link))

no_command : (m : Messages) → has_events (form_of m) ≡ false → command_in m ≡ command.Unknown
no_command (Digits v) n = refl
no_command (Binary v) n = refl
no_command (Events v) n = cc
no_command (EventLines v) n = cc

pub entered : (es : List Entry) (s new : SessionView) → has_events (form_of s.messages) ≡ false
    → s.options.maintenance ≡ false → new ≡ after_entries es s → Entered es s new
entered [] s new plain of_data e = (
  ap (λ (x : SessionView). x.messages) e,
  ap (λ (x : SessionView). x.output) e,
  ap (λ (x : SessionView). x.link) e,
  ap (λ (x : SessionView). x.is_read) e,
)
entered (Message ∷ rest) s new plain of_data e =
    let is : new ≡ after_message false s = e ∙ ap (λ b. after_message b s) (not_held s plain) in (
      ap (λ (x : SessionView). x.messages) is,
      ap (λ (x : SessionView). x.output) is,
      ap (λ (x : SessionView). x.link) is
          ∙ ap (λ b. after_offered_in b (message_in s.messages) s.link) of_data,
      ap (λ (x : SessionView). x.is_read) is,
    )
entered (Command ∷ rest) s new plain of_data e =
    let is : new ≡ after_command command.Unknown s =
    e ∙ ap (λ c. after_command c s) (no_command s.messages plain) in (
      ap (λ (x : SessionView). x.messages) is,
      ap (λ (x : SessionView). x.output) is,
      ap (λ (x : SessionView). x.link) is,
      ap (λ (x : SessionView). x.is_read) is,
    )
entered (NotHexadecimal ∷ rest) s new plain of_data e = (
  ap (λ (x : SessionView). x.messages) e,
  ap (λ (x : SessionView). x.output) e,
  ap (λ (x : SessionView). x.link) e,
  ap (λ (x : SessionView). x.is_read) e,
)
entered (TooLong ∷ rest) s new plain of_data e = (
  ap (λ (x : SessionView). x.messages) e,
  ap (λ (x : SessionView). x.output) e,
  ap (λ (x : SessionView). x.link) e,
  ap (λ (x : SessionView). x.is_read) e,
)
entered (Empty ∷ rest) s new plain of_data e = (
  ap (λ (x : SessionView). x.messages) e,
  ap (λ (x : SessionView). x.output) e,
  ap (λ (x : SessionView). x.link) e,
  ap (λ (x : SessionView). x.is_read) e,
)

-- so whether the input was read stays
pub reads-on : (es : List Entry) (s : SessionView) → has_events (form_of s.messages) ≡ false
    → (after_entries es s).is_read ≡ s.is_read
reads-on [] s plain = refl
reads-on (Message ∷ rest) s plain =
    ap (λ b. (after_message b s).is_read) (not_held s plain)
reads-on (NotHexadecimal ∷ rest) s plain = refl
reads-on (TooLong ∷ rest) s plain = refl
reads-on (Empty ∷ rest) s plain = refl
reads-on (Command ∷ rest) s plain =
    ap (λ c. (after_command c s).is_read) (no_command s.messages plain)

abbrev SameMode : SessionView → SessionView → Type 0
SameMode s new = new.options.maintenance ≡ s.options.maintenance

entered_mode : (es : List Entry) (s : SessionView) → SameMode s (after_entries es s)
entered_mode [] s = refl
entered_mode (Message ∷ rest) s = by (is_held s)
  where
    by : (held : Bool) → SameMode s (after_message held s)
    by true = refl
    by false = refl
entered_mode (Command ∷ rest) s = by (command_in s.messages)
  where
    by : (c : command.the_data) → SameMode s (after_command c s)
    by command.Ready = refl
    by command.Restart = refl
    by command.Halt = refl
    by command.Start = refl
    by command.Report = refl
    by command.Quit = refl
    by command.Unknown = refl
entered_mode (NotHexadecimal ∷ rest) s = refl
entered_mode (TooLong ∷ rest) s = refl
entered_mode (Empty ∷ rest) s = refl

unfinished_mode : (s : SessionView) → SameMode s (after_unfinished s)
unfinished_mode s = by (is_message_unfinished s.messages)
  where
    by : (b : Bool) → SameMode s (cond b (record s { was_refused = true }) s)
    by true = refl
    by false = refl

-- nor is a message taken
abbrev SameCount : SessionView → SessionView → Type 0
SameCount s new = new.unwritten ≡ s.unwritten

entered_count : (es : List Entry) (s : SessionView) → SameCount s (after_entries es s)
entered_count [] s = refl
entered_count (Message ∷ rest) s = by (is_held s)
  where
    by : (held : Bool) → SameCount s (after_message held s)
    by true = refl
    by false = refl
entered_count (Command ∷ rest) s = by (command_in s.messages)
  where
    by : (c : command.the_data) → SameCount s (after_command c s)
    by command.Ready = refl
    by command.Restart = refl
    by command.Halt = refl
    by command.Start = refl
    by command.Report = refl
    by command.Quit = refl
    by command.Unknown = refl
entered_count (NotHexadecimal ∷ rest) s = refl
entered_count (TooLong ∷ rest) s = refl
entered_count (Empty ∷ rest) s = refl

unfinished_count : (s : SessionView) → SameCount s (after_unfinished s)
unfinished_count s = by (is_message_unfinished s.messages)
  where
    by : (b : Bool) → SameCount s (cond b (record s { was_refused = true }) s)
    by true = refl
    by false = refl

-- what reading needs of what was read
pub record HasRead (f : MessageForm) (max : ℕ) (h : SessionHistory) (used : List ℕ)
    (es : List Entry)
    (message : List ℕ) (new : SessionView) : Type 0 where
  pub messages : new.messages ≡ after_input used h.session.messages
  pub output : new.output ≡ h.session.output
  pub mode : new.options.maintenance ≡ h.session.options.maintenance
  pub going : new.is_read ≡ false → h.session.is_read ≡ false
  pub left : new.unwritten ≡ h.session.unwritten
  pub link : IsEntered es message h.session.link new.link
  pub fits : IfMessage es (Fits max message)
  pub takes : IfMessage es (takes_message h.session.link ≡ true)
  pub more : messages_of f max (h.input ++ used) ≡ messages_of f max h.input ++ read_by es message

pub entered_longest : (es : List Entry) (message : List ℕ) (old new : LinkView)
    → IsEntered es message old new → longest_of new ≡ longest_of old
entered_longest [] message old new e = ap longest_of e
entered_longest (Message ∷ rest) message old new e = ap longest_of e ∙ offered_longest message old
entered_longest (NotHexadecimal ∷ rest) message old new e = ap longest_of e
entered_longest (TooLong ∷ rest) message old new e = ap longest_of e
entered_longest (Empty ∷ rest) message old new e = ap longest_of e
entered_longest (Command ∷ rest) message old new e = ap longest_of e

entered_inbox : (es : List Entry) (message : List ℕ) (old new : LinkView)
    → IsEntered es message old new → inbox_in new ≡ inbox_in old
entered_inbox [] message old new e = ap inbox_in e
entered_inbox (Message ∷ rest) message old new e = ap inbox_in e ∙ offered-inbox message old
entered_inbox (NotHexadecimal ∷ rest) message old new e = ap inbox_in e
entered_inbox (TooLong ∷ rest) message old new e = ap inbox_in e
entered_inbox (Empty ∷ rest) message old new e = ap inbox_in e
entered_inbox (Command ∷ rest) message old new e = ap inbox_in e

read_kept : (f : MessageForm) (max : ℕ) (h : SessionHistory) (used : List ℕ) (es : List Entry)
    (message : List ℕ) (new : SessionView) → HasRead f max h used es message new
    → IsKept h.session h.shown new (h.shown ++ [])
read_kept f max h used es message new r = record {
  left = r.left;
  inbox =
      adds-same (inbox_in h.session.link) (inbox_in new.link)
      (entered_inbox es message h.session.link new.link r.link);
  mail = quiet_mail h.shown;
}

pub read_holds : {told : Bool} (f : MessageForm) (max : ℕ) (h : SessionHistory) (used : List ℕ)
    (es : List Entry) (message : List ℕ) (new : SessionView) → Holds f max h
    → HasRead f max h used es message new → Holds f max
    (session_parts told new (h.used ++ []) (h.gone ++ []) (h.input ++ used) (h.written ++ [])
    (h.shown ++ []))
read_holds {told} f max h used es message new k r = record {
  kind = ap form_of r.messages ∙ form-stays used h.session.messages ∙ k.kind;
  longest = entered_longest es message h.session.link new.link r.link ∙ k.longest;
  reads = λ going. r.messages
      ∙ after_more f max h.input used h.session.messages (k.reads (r.going going));
  text = text_on f max h new k r.output;
  of_data = r.mode ∙ k.of_data;
  plain = k.plain;
  queued =
      queued_kept h.session new h.shown (h.shown ++ []) (read_kept f max h used es message new r)
      k.queued;
}

pub offered_is : (es : List Entry) (message : List ℕ) (d : LinkView)
    → offered_in (offers_of es message d) ≡ read_by es message
unfolding offered_in
offered_is [] message d = refl
offered_is (Message ∷ rest) message d = refl
offered_is (NotHexadecimal ∷ rest) message d = refl
offered_is (TooLong ∷ rest) message d = refl
offered_is (Empty ∷ rest) message d = refl
offered_is (Command ∷ rest) message d = refl

abbrev pub after_reading : SessionHistory → List ℕ → SessionView → SessionHistory
after_reading h used new =
    session_parts false new (h.used ++ []) (h.gone ++ []) (h.input ++ used) (h.written ++ [])
    (h.shown ++ [])

pub read_leads : (f : MessageForm) (max : ℕ) (h : SessionHistory) (used : List ℕ) (es : List Entry)
    (message : List ℕ) (new : SessionView) (k : ℕ) → Holds f max h
    → HasRead f max h used es message new
    → Leads (offers_of es message new.link) (link_history f max h k) f max
    (session_parts false new (h.used ++ []) (h.gone ++ []) (h.input ++ used) (h.written ++ [])
    (h.shown ++ []))
unfolding after_history
read_leads f max h used es message new k holds r =
    by es r.link r.fits r.takes r.more
  where
    kept : IsKept h.session h.shown new (h.shown ++ [])
    kept = read_kept f max h used es message new r

    quiet : new.link ≡ h.session.link
        → messages_of f max (h.input ++ used) ≡ messages_of f max h.input ++ []
        → Leads [] (link_history f max h k) f max (after_reading h used new)
    quiet e more = (
      tt,
      (
        k,
        λ i. parts (sym e i) (sym (append-nil h.used) i) (sym (append-nil h.gone) i)
            (sym (more ∙ append-nil (messages_of f max h.input)) i)
            (sym (taken_kept h.session new h.shown (h.shown ++ []) kept) i) k,
      ),
    )

    offers : new.link ≡ after_offered message h.session.link → Fits max message
        → takes_message h.session.link ≡ true
        → messages_of f max (h.input ++ used) ≡ messages_of f max h.input ++ message ∷ []
        → Leads (link_step (Offers message) new.link ∷ []) (link_history f max h k) f max
        (after_reading h used new)
    offers e fit takes more = (
      (e, tt),
      (
        k + 0,
        same_parts new.link (k + 0) refl refl
            (ap (λ b. messages_of f max h.input ++ cond b (message ∷ []) [])
            (accepts h.session.link message takes
            (subst (λ n. Fits n message) (sym holds.longest) fit))
            ∙ sym more)
            (append-nil (taken_of h.session h.shown)
            ∙ sym (taken_kept h.session new h.shown (h.shown ++ []) kept)),
      ),
    )

    by : (xs : List Entry) → IsEntered xs message h.session.link new.link
        → IfMessage xs (Fits max message)
        → IfMessage xs (takes_message h.session.link ≡ true)
        → messages_of f max (h.input ++ used) ≡ messages_of f max h.input ++ read_by xs message
        → Leads (offers_of xs message new.link) (link_history f max h k) f max
        (after_reading h used new)
    by [] e fit takes more = quiet e more
    by (Message ∷ rest) e fit takes more = offers e fit takes more
    by (NotHexadecimal ∷ rest) e fit takes more = quiet e more
    by (TooLong ∷ rest) e fit takes more = quiet e more
    by (Empty ∷ rest) e fit takes more = quiet e more
    by (Command ∷ rest) e fit takes more = quiet e more

pub none_read : (m : Messages) → entries_of_input [] m ≡ []
unfolding lengths.entries_of_bytes hex.entries_of_bytes records.entries_of_bytes
    command_lines.entries_of_bytes
none_read (Digits v) = refl
none_read (Binary v) = refl
none_read (Events v) = refl
none_read (EventLines v) = refl

pub if_message : (es : List Entry) {P : Type 0} → P → IfMessage es P
if_message [] p = tt
if_message (Message ∷ rest) p = p
if_message (NotHexadecimal ∷ rest) p = tt
if_message (TooLong ∷ rest) p = tt
if_message (Empty ∷ rest) p = tt
if_message (Command ∷ rest) p = tt

-- some bytes were read: what they complete fits, is taken, and is more of the messages
abbrev pub IsReading : MessageForm → ℕ → SessionHistory → List ℕ → Type 0
IsReading f max h used =
    IfMessage (entries_of_input used h.session.messages)
    (Fits max (message_in (after_input used h.session.messages)))
    × IfMessage (entries_of_input used h.session.messages) (takes_message h.session.link ≡ true)
    × (messages_of f max (h.input ++ used)
    ≡ messages_of f max h.input
    ++ read_by (entries_of_input used h.session.messages)
    (message_in (after_input used h.session.messages)))

pub none_reading : (f : MessageForm) (max : ℕ) (h : SessionHistory) → IsReading f max h []
none_reading f max h =
    let m = h.session.messages in
    let none = sym (none_read m) in (
      subst (λ es. IfMessage es (Fits max (message_in (after_input [] m)))) none tt,
      subst (λ es. IfMessage es (takes_message h.session.link ≡ true)) none tt,
      no_input f max h.input
          ∙ sym (append-nil (messages_of f max h.input))
          ∙ ap (λ es. messages_of f max h.input ++ read_by es (message_in (after_input [] m))) none,
    )

pub is_reading : (f : MessageForm) (max : ℕ) (h : SessionHistory) (used : List ℕ) → Holds f max h
    → (wants_input h.session ≡ false → used ≡ []) → CompletesLast used h.session.messages
    → IsReading f max h used
is_reading f max h used k wanted part =
    by h.session.is_read (takes_message h.session.link)
    (λ e.
    wanted
    (wants_messages h.session (ap has_events k.kind ∙ k.plain)
    ∙ ap (λ b. not h.session.is_read && takes_in b h.session.link) k.of_data ∙ e)) refl
    refl
  where
    by : (is_read takes : Bool) → (not is_read && takes ≡ false → used ≡ [])
        → h.session.is_read ≡ is_read → takes_message h.session.link ≡ takes
        → IsReading f max h used
    by true takes wanted e t = subst (IsReading f max h) (sym (wanted refl)) (none_reading f max h)
    by false false wanted e t = subst (IsReading f max h) (sym (wanted refl)) (none_reading f max h)
    by false true wanted e t = (
      read_fits f max h.input used h.session.messages k.plain (k.reads e) part,
      if_message (entries_of_input used h.session.messages) t,
      read_more f max h.input used h.session.messages k.plain (k.reads e) part,
    )

pub reading_input : (f : MessageForm) (max : ℕ) (h : SessionHistory) (used : List ℕ)
    (new : SessionView)
    → Holds f max h → HasReadInput used h.session new
    → HasRead f max h used (entries_of_input used h.session.messages)
    (message_in (after_input used h.session.messages)) new
reading_input f max h used new k t =
    let e = entered (entries_of_input used h.session.messages)
    (record h.session { messages = after_input used h.session.messages }) new
    (ap has_events (form-stays used h.session.messages ∙ k.kind) ∙ k.plain) k.of_data
    t.state in
    let r = is_reading f max h used k t.wanted t.part in
    record {
      messages = e.0;
      output = e.1;
      mode =
          ap (λ (x : SessionView). x.options.maintenance) t.state
          ∙ entered_mode (entries_of_input used h.session.messages)
          (record h.session { messages = after_input used h.session.messages });
      going = λ going. sym e.3 ∙ going;
      left =
          ap (λ (x : SessionView). x.unwritten) t.state
          ∙ entered_count (entries_of_input used h.session.messages)
          (record h.session { messages = after_input used h.session.messages });
      link = e.2;
      fits = r.0;
      takes = r.1;
      more = r.2;
    }

-- ---- the end of the input

pub record LastReads (m : Messages) : Type 0 where
  pub state : after_last m ≡ after_input (end_in (form_of m)) m
  pub entries : option_to_list (entry_of_last m) ≡ entries_of_input (end_in (form_of m)) m
  pub part : CompletesLast (end_in (form_of m)) m

pub one_byte : (m : Messages) → CompletesLast (10 ∷ []) m
one_byte m [] byte e = none_read m
one_byte m (x ∷ []) byte e = cc
one_byte m (x ∷ y ∷ front) byte e = cc

pub no_byte : (m : Messages) → CompletesLast [] m
no_byte m [] byte e = cc
no_byte m (x ∷ front) byte e = cc

pub last_reads : (m : Messages) → LastReads m
unfolding lengths.entries_of_bytes hex.entries_of_bytes lengths.after_bytes hex.after_bytes
    records.entries_of_bytes records.after_bytes command_lines.entries_of_bytes
    command_lines.after_bytes
last_reads (Digits v) = record {
  state = refl;
  entries = sym (append-nil (option_to_list (hex.entry_of_byte 10 v)));
  part = one_byte (Digits v);
}
last_reads (Binary v) = record { state = refl; entries = refl; part = no_byte (Binary v) }
last_reads (Events v) = record { state = refl; entries = refl; part = no_byte (Events v) }
last_reads (EventLines v) = record {
  state = refl;
  entries = sym (append-nil (option_to_list (command_lines.entry_of_byte 10 v)));
  part = one_byte (EventLines v);
}

abbrev pub KeepsView : SessionView → SessionView → Type 0
KeepsView s new =
    (new.messages ≡ s.messages) × (new.output ≡ s.output) × (new.link ≡ s.link)

pub unfinished_keeps : (s : SessionView) → KeepsView s (after_unfinished s)
unfinished_keeps s = by (is_message_unfinished s.messages)
  where
    by : (b : Bool) → KeepsView s (cond b (record s { was_refused = true }) s)
    by true = (refl, refl, refl)
    by false = (refl, refl, refl)

pub entered_same : (es : List Entry) (message : List ℕ) (old mid new : LinkView) → new ≡ mid
    → IsEntered es message old mid → IsEntered es message old new
entered_same es message old mid new e = subst (IsEntered es message old) (sym e)

pub not_true : (b : Bool) → not b ≡ true → b ≡ false
not_true true e = cc
not_true false e = refl

last_taken : (takes ran : Bool) (e : Option Entry) → takes || (ran && not (is_some e)) ≡ true
    → IfMessage (option_to_list e) (takes ≡ true)
last_taken true ran e taken = if_message (option_to_list e) refl
last_taken false ran None taken = tt
last_taken false true (Some e) taken = cc
last_taken false false (Some e) taken = cc

last_form : (m : Messages) → form_of (after_last m) ≡ form_of m
last_form (Digits v) = refl
last_form (Binary v) = refl
last_form (Events v) = refl
last_form (EventLines v) = refl

pub ended_reads : (f : MessageForm) (max : ℕ) (h : SessionHistory) (new : SessionView)
    → Holds f max h
    → takes_end h.session ≡ true → new ≡ after_unfinished (after_last_line h.session)
    → HasRead f max h (end_in (form_of h.session.messages))
    (option_to_list (entry_of_last h.session.messages))
    (message_in (after_last h.session.messages)) new
ended_reads f max h new k takes is =
    let m = h.session.messages in
    let used = end_in (form_of m) in
    let es = option_to_list (entry_of_last m) in
    let r = last_reads m in
    let mid = after_last_line h.session in
    let last = record h.session { messages = after_last m; is_read = true } in
    let e = entered es last mid (ap has_events (last_form m ∙ k.kind) ∙ k.plain) k.of_data refl in
    let u = unfinished_keeps mid in
    let late = h.session.course.has_run && not (has_last_line m) in
    let w = both (not h.session.is_read) (takes_message h.session.link || late)
    (sym (ap (λ b. not h.session.is_read && (takes_in b h.session.link || late)) k.of_data)
    ∙ takes) in
    let going = not_true h.session.is_read w.0 in
    record {
      messages = ap (λ (x : SessionView). x.messages) is ∙ u.0 ∙ e.0 ∙ r.state;
      output = ap (λ (x : SessionView). x.output) is ∙ u.1 ∙ e.1;
      mode =
          ap (λ (x : SessionView). x.options.maintenance) is ∙ unfinished_mode mid
          ∙ entered_mode es last;
      going = λ _. going;
      left =
          ap (λ (x : SessionView). x.unwritten) is ∙ unfinished_count mid
          ∙ entered_count es last;
      link =
          entered_same es (message_in (after_last m)) h.session.link mid.link new.link
          (ap (λ (x : SessionView). x.link) is ∙ u.2) e.2;
      fits =
          subst (λ xs. IfMessage xs (Fits max (message_in (after_last m)))) (sym r.entries)
          (subst (λ x. IfMessage (entries_of_input used m) (Fits max (message_in x)))
          (sym r.state) (read_fits f max h.input used m k.plain (k.reads going) r.part));
      takes =
          last_taken (takes_message h.session.link) h.session.course.has_run (entry_of_last m)
          w.1;
      more =
          read_more f max h.input used m k.plain (k.reads going) r.part
          ∙ ap (λ xs. messages_of f max h.input ++ read_by xs (message_in (after_input used m)))
          (sym r.entries)
          ∙ ap (λ x. messages_of f max h.input ++ read_by es (message_in x)) (sym r.state);
    }
