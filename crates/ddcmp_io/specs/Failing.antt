-- What contracts see of the devices in memory for tests.
use Rattle.std.specs.Prelude.{ℕ, ◌-◌, ◌^◌, Bool, false, List, []}
use Rattle.ddcmp_io.specs.declared.device.Worst.{Worst}
use Rattle.ddcmp_io.specs.declared.device.Worst.TheVariants.{Fine}

-- A source over chunks: the bytes that are left and the worst status so far; how many reads there
-- were, the maximum number of bytes of a read, and which read is idle and which fails (0 for none).
pub record PiecesView : Type 0 where
  pub left : List ℕ
  pub worst : Worst
  pub reads : ℕ
  pub most : ℕ
  pub idle_at : ℕ
  pub fails_at : ℕ

-- a source of these bytes before any read: its reads have no maximum, and none fails
abbrev pub pieces_of : List ℕ → PiecesView
pieces_of bytes = record {
  left = bytes;
  worst = Fine;
  reads = 0;
  most = 2 ^ 64 - 1;
  idle_at = 0;
  fails_at = 0;
}

-- A sink over an array: the bytes that it holds and whether a write failed; how many writes there
-- were, how many bytes fit, the maximum of a write, and which write fails (0 for none).
pub record BoundedSinkView : Type 0 where
  pub bytes : List ℕ
  pub broken : Bool
  pub writes : ℕ
  pub room : ℕ
  pub most : ℕ
  pub fails_at : ℕ

-- a sink for `room` bytes before any write
abbrev pub empty_sink : ℕ → BoundedSinkView
empty_sink room = record {
  bytes = [];
  broken = false;
  writes = 0;
  room = room;
  most = 2 ^ 64 - 1;
  fails_at = 0;
}
