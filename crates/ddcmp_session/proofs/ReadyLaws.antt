-- What is read of the input leaves the received messages, and the room for them, as they were.
use Rattle.std.proofs.Common.{◌≡◌, Bool, true, false, cond, List, [], ◌∷◌, sym, subst}
use Rattle.std.specs.Prelude.{ℕ, option_to_list}
use Rattle.ddcmp_core.specs.Table.{may_send, may_send_maintenance, after_accept}
use Rattle.ddcmp_input.specs.declared.entry.Entry.{Entry}
use Rattle.ddcmp_input.specs.declared.entry.Entry.TheVariants as entry
use Rattle.ddcmp_streams.specs.declared.messages.Command.{Command}
use Rattle.ddcmp_streams.specs.declared.messages.Command.TheVariants as command
use Rattle.ddcmp_streams.specs.Messages.{after_input, after_last, command_in, entries_of_input}
use Rattle.ddcmp_streams.specs.Messages.{entry_of_last, is_message_unfinished, message_in}
use Rattle.ddcmp_station.specs.Linking.{LinkView, total_plus, with_state}
use Rattle.ddcmp_session.specs.Lines.{IsReady}
use Rattle.ddcmp_session.specs.Session.{SessionView, after_command, after_entries, after_entry}
use Rattle.ddcmp_session.specs.Session.{after_input_end, after_input_read, after_message}
use Rattle.ddcmp_session.specs.Session.{after_offered_in, after_unfinished, is_held, takes_end}

abbrev StaysReady : SessionView → SessionView → Type 0
StaysReady s new = IsReady s → IsReady new

accepted-ready : (b : Bool) (message : List ℕ) (s : SessionView)
    → StaysReady s (record s {
      link = cond b
          (record (with_state (after_accept s.link.station.core.station message) s.link) {
            totals = record s.link.totals { sent = total_plus s.link.totals.sent 1 };
          }) s.link;
    })
accepted-ready true message s ready = ready
accepted-ready false message s ready = ready

offered-ready : (maintenance : Bool) (message : List ℕ) (s : SessionView)
    → StaysReady s (record s { link = after_offered_in maintenance message s.link })
offered-ready true message s =
    accepted-ready
    (may_send_maintenance s.link.station.core.limits s.link.station.core.station message) message s
offered-ready false message s =
    accepted-ready (may_send s.link.station.core.limits s.link.station.core.station message)
    message s

message-ready : (held : Bool) (s : SessionView) → StaysReady s (after_message held s)
message-ready true s ready = ready
message-ready false s ready =
    offered-ready s.options.maintenance (message_in s.messages) s ready

command-ready : (c : Command) (s : SessionView) → StaysReady s (after_command c s)
command-ready command.Ready s ready = ready
command-ready command.Restart s ready = ready
command-ready command.Halt s ready = ready
command-ready command.Start s ready = ready
command-ready command.Report s ready = ready
command-ready command.Quit s ready = ready
command-ready command.Unknown s ready = ready

entry-ready : (e : Entry) (s : SessionView) → StaysReady s (after_entry e s)
entry-ready entry.Message s ready = message-ready (is_held s) s ready
entry-ready entry.Command s ready = command-ready (command_in s.messages) s ready
entry-ready entry.NotHexadecimal s ready = ready
entry-ready entry.TooLong s ready = ready
entry-ready entry.Empty s ready = ready

entries-ready : (es : List Entry) (s : SessionView) → StaysReady s (after_entries es s)
entries-ready [] s ready = ready
entries-ready (e ∷ rest) s ready = entry-ready e s ready

pub read-ready : (bytes : List ℕ) (old new : SessionView) → new ≡ after_input_read bytes old
    → StaysReady old new
read-ready bytes old new does ready =
    subst IsReady (sym does)
    (entries-ready (entries_of_input bytes old.messages)
    (record old { messages = after_input bytes old.messages }) ready)

unfinished-ready : (s : SessionView) → StaysReady s (after_unfinished s)
unfinished-ready s = by (is_message_unfinished s.messages)
  where
    by : (b : Bool) → StaysReady s (cond b (record s { was_refused = true }) s)
    by true ready = ready
    by false ready = ready

pub ended-ready : (old new : SessionView) → new ≡ after_input_end old → StaysReady old new
ended-ready old new does ready = subst IsReady (sym does) (by (takes_end old))
  where
    last : SessionView
    last = record old { messages = after_last old.messages; is_read = true }

    to : SessionView
    to = after_entries (option_to_list (entry_of_last old.messages)) last

    by : (b : Bool) → IsReady (cond b (after_unfinished to) old)
    by true =
        unfinished-ready to (entries-ready (option_to_list (entry_of_last old.messages)) last ready)
    by false = ready
