use Rattle.std.proofs.Common.{◌≡◌}
use Rattle.std.specs.Io.KnownBytes.{Keeps}
use Rattle.ddcmp_commands.specs.Early.{unread}
use Rattle.ddcmp_commands.proofs.file_pair.read_as_received.Given as goal

abbrev pub invariant-loop-wait : goal.invariant-loop-wait
invariant-loop-wait g l = record {
  own : unread l.own.taken l.own.bytes.items (g.R.Source.left l.own.source)
      ≡ unread l.fn.own.taken l.fn.own.bytes.items (g.R.Source.left l.fn.own.source);
  other : Keeps (unread l.fn.other.taken l.fn.other.bytes.items (g.R.Source.left l.fn.other.source))
      (unread l.other.taken l.other.bytes.items (g.R.Source.left l.other.source));
}
