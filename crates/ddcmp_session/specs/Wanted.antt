-- Which devices a session waits for.
use Rattle.std.specs.Prelude.{◌&&◌, ◌==◌, Bool, is_none, length, not}
use Rattle.ddcmp_io.specs.declared.transfer.Wanted.{Wanted}
use Rattle.ddcmp_session.specs.Devices.{BuffersView}
use Rattle.ddcmp_session.specs.Logged.{LoggedSession}
use Rattle.ddcmp_session.specs.Session.{SessionView, wants_input, wants_line}

-- the input, if a message is wanted and what was read before is used
abbrev pub reads_input : BuffersView → SessionView → Bool
reads_input held s = not held.is_over && (length held.input == 0) && wants_input s

-- the line, if what was received before is used
abbrev pub reads_line : BuffersView → SessionView → Bool
reads_line held s = (length held.received == 0) && wants_line s

-- each of them, and an output if bytes are queued for it
abbrev pub wanted : BuffersView → LoggedSession → Wanted
wanted held it = record {
  input = reads_input held it.state;
  output = not (length it.state.output.waiting == 0);
  errors = not (length it.log.errors.queue.waiting == 0);
  from_line = reads_line held it.state;
  to_line = is_none held.down && not (length it.state.link.outbox.waiting == 0);
}
