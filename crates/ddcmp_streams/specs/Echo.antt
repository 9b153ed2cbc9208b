-- What came over a line beside what was sent: whether the line echoes.
use Rattle.std.specs.Prelude.{◌≡◌, ◌+◌, ◌<◌, ℕ, List, length, min, take}
use Rattle.ddcmp_io.specs.Queue.{QueueView, after_pushed, no_bytes}

-- the first bytes of a direction, and how many there were
pub record BeginningView : Type 0 where
  pub bytes : QueueView
  pub count : ℕ

abbrev pub none_yet : BeginningView
none_yet = record { bytes = no_bytes 64; count = 0 }

abbrev pub after_more : List ℕ → BeginningView → BeginningView
after_more piece b = record {
  bytes = after_pushed (take b.bytes.room piece) b.bytes;
  count = min (b.count + length piece) 18446744073709551615;
}

pub record EchoView : Type 0 where
  pub sent : BeginningView
  pub came : BeginningView

abbrev pub none_echoed : EchoView
none_echoed = record { sent = none_yet; came = none_yet }

-- As many bytes came as were sent, and the first ones are the same.
pub record IsEcho (e : EchoView) : Type 0 where
  pub some : 0 < e.came.count
  pub all : e.came.count ≡ e.sent.count
  pub same : e.came.bytes.waiting ≡ e.sent.bytes.waiting
