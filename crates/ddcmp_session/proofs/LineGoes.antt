-- How a session goes on by bytes of its line, and by those that the line and its output take.
use Rattle.std.proofs.Common.{◌≡◌, ◌∙◌, ap, sym, subst, refl, ℕ}
use Rattle.std.proofs.Common.{List, [], ◌++◌, length, take, drop, min, Option}
use Rattle.std.proofs.Common.{append_assoc, append-nil}
use Rattle.std.proofs.lemmas.List.{take-append-drop, take_min}
use Rattle.ddcmp_frame.specs.Reader.{StandsFor}
use Rattle.ddcmp_station.specs.Linking.{after_sent}
use Rattle.ddcmp_io.specs.declared.transfer.Transfer.{Transfer}
use Rattle.ddcmp_io.specs.declared.transfer.Transfer.TheVariants.{Bytes, Nothing, Interrupted}
use Rattle.ddcmp_io.specs.declared.transfer.Transfer.TheVariants.{Ended}
use Rattle.ddcmp_session.specs.declared.devices.DeviceFault.TheVariants.{Line}
use Rattle.ddcmp_session.specs.Session.{SessionView, after_output, form_of, taken_when_written}
use Rattle.ddcmp_session.specs.Calls.{Received, LineTook}
use Rattle.ddcmp_session.specs.Calls.{OutputTook, HasReceived}
use Rattle.ddcmp_session.specs.Calls.{gone_in}
use Rattle.ddcmp_session.specs.Calls.{written_in}
use Rattle.ddcmp_session.specs.Devices.{BuffersView, GoesOn}
use Rattle.ddcmp_session.specs.Traffic.{Becomes, Traffic, after_line_read, after_line_written}
use Rattle.ddcmp_session.specs.Traffic.{after_written, moved_of}
use Rattle.ddcmp_session.specs.Traffic.{Receives, Writes, log_with}
use Rattle.ddcmp_session.specs.Orders.{Follows}
use Rattle.ddcmp_session.proofs.OrderLaws.{follows-came, follows-used, follows-wrote}
use Rattle.ddcmp_session.proofs.OrderLaws.{received-none, received-one, sent-none, sent-one}
use Rattle.ddcmp_session.proofs.GoingLaws.{end-is, faulted, idles, nothing-went, one-went, same-at}
use Rattle.ddcmp_session.proofs.TakenLaws.{takes-line}

-- the line returned bytes
bytes-came : {held : BuffersView} {s : SessionView} {k k' : Option Traffic} (came : List ℕ)
    → held.received ≡ []
    → Becomes k k' (λ t. record t { log = log_with (Receives came) t.log })
    → GoesOn held s k (record held { received = came }) s k'
bytes-came {held} {s} {k} {k'} came empty becomes = λ h t is was a. (
  record t { log = log_with (Receives came) t.log },
  becomes t was,
  nothing-went h held.received t.log s (record held { received = came })
      (record t { log = log_with (Receives came) t.log }) is
      (record {
        read = a.read;
        over = a.over;
        told = a.told;
        drained = a.drained;
        ended = a.ended;
        came =
            received-one t.log.acts came
            ∙ ap (λ xs. xs ++ came)
            (a.came ∙ ap (λ xs. h.used ++ xs) empty ∙ append-nil h.used);
        gone = sent-none t.log.acts came ∙ a.gone;
        written = a.written;
        down = a.down;
        stands = a.stands;
      })
      (λ own f. follows-came came own t.log (subst (λ xs. Follows own xs t.log) empty f)),
)

pub line-came : {held : BuffersView} {s : SessionView} {k k' : Option Traffic} (m : Transfer)
    (space : List ℕ) → held.received ≡ [] → Becomes k k' (after_line_read m space)
    → GoesOn held s k (record held { received = moved_of m space }) s k'
line-came (Bytes n) space empty becomes = bytes-came (take n space) empty becomes
line-came {held} {s} {k} {k'} Nothing space empty becomes =
    subst (λ xs. GoesOn held s k (record held { received = xs }) s k') empty
    (idles (after_line_read Nothing space) becomes (λ t. refl))
line-came {held} {s} {k} {k'} Interrupted space empty becomes =
    subst (λ xs. GoesOn held s k (record held { received = xs }) s k') empty
    (idles (after_line_read Interrupted space) becomes (λ t. refl))
line-came {held} {s} {k} {k'} (Ended why) space empty becomes =
    subst (λ xs. GoesOn held s k (record held { received = xs }) s k') empty
    (faulted (Line why) becomes)

-- a call of `received` took bytes
pub received-goes : {held : BuffersView} {known : Option Traffic} (old new : SessionView) (n : ℕ)
    → ((text : List ℕ) → StandsFor old.link.station.line text
    → HasReceived text (take n held.received) old new)
    → ((text : List ℕ) → StandsFor old.link.station.line text
    → StandsFor new.link.station.line (text ++ take n held.received))
    → GoesOn held old known (record held { received = drop n held.received }) new known
received-goes {held} {known} old new n does line = λ h t is was a.
    let used = take n held.received in
    let s =
    subst (λ l. StandsFor l h.used) (same-at (λ x. x.link.station.line) h.session old is)
    a.stands in
    let f = does h.used s in (
      t,
      was,
      one-went (Received used) h new (record held { received = drop n held.received }) t
          held.received t.log tt
          (subst (λ (x : SessionView). HasReceived h.used used x new) (sym is) f)
          (record {
            read =
                ap (λ xs. t.read ++ xs)
                (end-is h new
                (same-at (λ x. form_of x.messages) new
                (record old { link = new.link; course = new.course; output = new.output }) f.stays
                ∙ sym (same-at (λ x. form_of x.messages) h.session old is)))
                ∙ a.read
                ∙ ap (λ xs. xs ++ held.input) (sym (append-nil h.input));
            over = a.over;
            told = a.told;
            drained = a.drained;
            ended = λ e.
                same-at (λ x. x.is_read) new
                (record old { link = new.link; course = new.course; output = new.output }) f.stays
                ∙ sym (same-at (λ x. x.is_read) h.session old is)
                ∙ a.ended e;
            came =
                a.came
                ∙ ap (λ xs. h.used ++ xs) (sym (take-append-drop n held.received))
                ∙ sym (append_assoc h.used used (drop n held.received));
            gone = a.gone ∙ sym (append-nil h.gone);
            written = a.written ∙ sym (append-nil h.written);
            down = a.down;
            stands = line h.used s;
          })
          (λ own f.
          follows-used used (drop n held.received) own t.log
          (subst (λ xs. Follows own xs t.log) (sym (take-append-drop n held.received)) f)),
    )

-- the line took bytes, and the session was told so
line-told : {held : BuffersView} {k k' : Option Traffic} (old new : SessionView) (n : ℕ)
    → Becomes k k' (after_line_written (Bytes n) old.link.outbox.waiting)
    → new ≡ record old {
      link = after_sent (min n (length old.link.outbox.waiting)) old.link;
    }
    → GoesOn held old k held new k'
line-told {held} {k} {k'} old new n becomes does = λ h t is was a.
    let m = min n (length old.link.outbox.waiting) in
    let now-is = record old { link = after_sent m old.link } in (
      after_line_written (Bytes n) old.link.outbox.waiting t,
      becomes t was,
      one-went (LineTook m) h new held (after_line_written (Bytes n) old.link.outbox.waiting t)
          held.received t.log tt
          (subst (λ (x : SessionView). new ≡ record x { link = after_sent m x.link }) (sym is)
          does)
          (record {
            read =
                ap (λ xs. t.read ++ xs)
                (end-is h new
                (same-at (λ x. form_of x.messages) new now-is does
                ∙ sym (same-at (λ x. form_of x.messages) h.session old is)))
                ∙ a.read
                ∙ ap (λ xs. xs ++ held.input) (sym (append-nil h.input));
            over = a.over;
            told = a.told;
            drained = a.drained;
            ended = λ e.
                same-at (λ x. x.is_read) new now-is does
                ∙ sym (same-at (λ x. x.is_read) h.session old is)
                ∙ a.ended e;
            came =
                received-none t.log.acts (take n old.link.outbox.waiting)
                ∙ a.came
                ∙ ap (λ xs. xs ++ held.received) (sym (append-nil h.used));
            gone =
                sent-one t.log.acts (take n old.link.outbox.waiting)
                ∙ ap (λ xs. xs ++ take n old.link.outbox.waiting) a.gone
                ∙ ap (λ xs. h.gone ++ xs)
                (sym (same-at (gone_in (LineTook m)) h.session old is
                ∙ take_min n old.link.outbox.waiting));
            written = a.written ∙ sym (append-nil h.written);
            down = a.down;
            stands =
                subst (λ l. StandsFor l (h.used ++ []))
                (same-at (λ x. x.link.station.line) h.session old is
                ∙ sym (same-at (λ x. x.link.station.line) new now-is does))
                (subst (StandsFor h.session.link.station.line) (sym (append-nil h.used))
                a.stands);
          })
          (λ own f.
          subst
          (λ xs. Follows (log_with (Writes (gone_in (LineTook m) h.session)) own) held.received
          (log_with (Writes xs) t.log))
          (same-at (gone_in (LineTook m)) h.session old is ∙ take_min n old.link.outbox.waiting)
          (follows-wrote (gone_in (LineTook m) h.session) held.received own t.log f)),
    )

pub line-took : {held : BuffersView} {k k' : Option Traffic} (old new : SessionView) (n : ℕ)
    (bytes : List ℕ) → bytes ≡ old.link.outbox.waiting
    → Becomes k k' (after_line_written (Bytes n) bytes)
    → new ≡ record old {
      link = after_sent (min n (length old.link.outbox.waiting)) old.link;
    }
    → GoesOn held old k held new k'
line-took {held} {k} {k'} old new n bytes same becomes does =
    line-told old new n (subst (λ xs. Becomes k k' (after_line_written (Bytes n) xs)) same becomes)
    does

-- the output took bytes, and the session was told so
output-told : {held : BuffersView} {k k' : Option Traffic} (old new : SessionView) (n : ℕ)
    → Becomes k k' (after_written (Bytes n) old.output.waiting)
    → new ≡ after_output (min n (length old.output.waiting)) old
    → GoesOn held old k held new k'
output-told {held} {k} {k'} old new n becomes does = λ h t is was a.
    let m = min n (length old.output.waiting) in
    let now-is = after_output m old in (
      after_written (Bytes n) old.output.waiting t,
      becomes t was,
      one-went (OutputTook m) h new held (after_written (Bytes n) old.output.waiting t)
          held.received t.log tt
          (subst (λ (x : SessionView). new ≡ after_output m x) (sym is) does)
          (record {
            read =
                ap (λ xs. t.read ++ xs)
                (end-is h new
                (same-at (λ x. form_of x.messages) new now-is does
                ∙ sym (same-at (λ x. form_of x.messages) h.session old is)))
                ∙ a.read
                ∙ ap (λ xs. xs ++ held.input) (sym (append-nil h.input));
            over = a.over;
            told = a.told;
            drained = a.drained;
            ended = λ e.
                same-at (λ x. x.is_read) new now-is does
                ∙ sym (same-at (λ x. x.is_read) h.session old is)
                ∙ a.ended e;
            came = a.came ∙ ap (λ xs. xs ++ held.received) (sym (append-nil h.used));
            gone = a.gone ∙ sym (append-nil h.gone);
            written =
                ap (λ xs. xs ++ take n old.output.waiting) a.written
                ∙ ap (λ xs. h.written ++ xs)
                (sym (same-at (written_in (OutputTook m)) h.session old is
                ∙ take_min n old.output.waiting));
            down = a.down;
            stands =
                subst (λ l. StandsFor l (h.used ++ []))
                (same-at (λ x. x.link.station.line) h.session old is
                ∙ sym (same-at (λ x. x.link.station.line) new now-is does
                ∙ takes-line (taken_when_written m old) old.link))
                (subst (StandsFor h.session.link.station.line) (sym (append-nil h.used))
                a.stands);
          }) (λ own f. f),
    )

pub output-took : {held : BuffersView} {k k' : Option Traffic} (old new : SessionView) (n : ℕ)
    (bytes : List ℕ) → bytes ≡ old.output.waiting → Becomes k k' (after_written (Bytes n) bytes)
    → new ≡ after_output (min n (length old.output.waiting)) old
    → GoesOn held old k held new k'
output-took {held} {k} {k'} old new n bytes same becomes does =
    output-told old new n (subst (λ xs. Becomes k k' (after_written (Bytes n) xs)) same becomes)
    does

pub received-held : {held : BuffersView} {known : Option Traffic} (old new : SessionView) (n : ℕ)
    (bytes rest : List ℕ) → bytes ≡ held.received → rest ≡ drop n held.received
    → ((text : List ℕ) → StandsFor old.link.station.line text
    → HasReceived text (take n bytes) old new)
    → ((text : List ℕ) → StandsFor old.link.station.line text
    → StandsFor new.link.station.line (text ++ take n bytes))
    → GoesOn held old known (record held { received = rest }) new known
received-held {held} {known} old new n bytes rest same left does line =
    subst (λ xs. GoesOn held old known (record held { received = xs }) new known) (sym left)
    (received-goes old new n
    (λ text s. subst (λ xs. HasReceived text (take n xs) old new) same (does text s))
    (λ text s. subst (λ xs. StandsFor new.link.station.line (text ++ take n xs)) same
    (line text s)))

pub line-given : {held : BuffersView} {s : SessionView} {k k' : Option Traffic} (m : Transfer)
    (space came : List ℕ) → held.received ≡ [] → came ≡ moved_of m space
    → Becomes k k' (after_line_read m space)
    → GoesOn held s k (record held { received = came }) s k'
line-given {held} {s} {k} {k'} m space came empty is becomes =
    subst (λ xs. GoesOn held s k (record held { received = xs }) s k') (sym is)
    (line-came m space empty becomes)
