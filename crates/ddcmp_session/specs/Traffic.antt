-- What devices report of the bytes that were read from them and written to them.
use Rattle.std.specs.Prelude.{◌≡◌, ◌==◌, ◌+◌, ℕ, Bool, true, false, Option, Some, List, [], ◌∷◌}
use Rattle.std.specs.Prelude.{◌++◌, take}
use Rattle.ddcmp_io.specs.declared.device.Got.{Got}
use Rattle.ddcmp_io.specs.declared.device.Got.TheVariants as got
use Rattle.ddcmp_io.specs.declared.transfer.Transfer.{Transfer}
use Rattle.ddcmp_io.specs.declared.transfer.Transfer.TheVariants.{Bytes, Nothing, Interrupted}
use Rattle.ddcmp_io.specs.declared.transfer.Transfer.TheVariants.{Ended}
use Rattle.ddcmp_io.specs.Transfers.{count_moved}
use Rattle.ddcmp_session.specs.declared.devices.DeviceFault.{DeviceFault}
use Rattle.ddcmp_session.specs.declared.devices.DeviceFault.TheVariants.{Line, Input, Output}

-- Bytes were received from the line, or written to it.
pub data LineAct : Type 0 where
  Receives : (bytes : List ℕ) → LineAct
  Writes : (bytes : List ℕ) → LineAct

abbrev pub received_by : LineAct → List ℕ
received_by (Receives bytes) = bytes
received_by (Writes bytes) = []

abbrev pub written_by : LineAct → List ℕ
written_by (Receives bytes) = []
written_by (Writes bytes) = bytes

-- all bytes that were received, and all that were written
unfoldable pub received : List LineAct → List ℕ
received [] = []
received (act ∷ rest) = received_by act ++ received rest

unfoldable pub sent : List LineAct → List ℕ
sent [] = []
sent (act ∷ rest) = written_by act ++ sent rest

-- What was done at the line that was opened last, in its order, and how many lines were opened.
pub record LineLog : Type 0 where
  pub acts : List LineAct
  pub lines : ℕ

abbrev pub log_with : LineAct → LineLog → LineLog
log_with act log = record log { acts = log.acts ++ act ∷ [] }

abbrev pub log_begun : LineLog → LineLog
log_begun log = record { acts = []; lines = log.lines + 1 }

-- The traffic of the devices: the bytes read from the input, and whether its end was read; what was
-- done at the line; the bytes written to the output; and the faults that the devices reported.
pub record Traffic : Type 0 where
  pub read : List ℕ
  pub is_over : Bool
  pub log : LineLog
  pub written : List ℕ
  pub faults : List DeviceFault

-- nothing was read or written yet
abbrev pub no_traffic : Traffic
no_traffic = record {
  read = [];
  is_over = false;
  log = record { acts = []; lines = 0 };
  written = [];
  faults = [];
}

-- ---- what a call of a device adds to that

-- a fault was reported
abbrev pub after_fault : DeviceFault → Traffic → Traffic
after_fault fault t = record t { faults = t.faults ++ fault ∷ [] }

-- how many bytes were read
abbrev pub count_read : Got → ℕ
count_read (got.Bytes n) = n
count_read got.Idle = 0
count_read got.Failed = 0

-- a read of the input; no bytes are its end
abbrev pub after_read : Got → List ℕ → Traffic → Traffic
after_read (got.Bytes n) space t =
    record t { read = t.read ++ take n space; is_over = n == 0 }
after_read got.Idle space t = t
after_read got.Failed space t = after_fault Input t

-- a line was opened
abbrev pub line_begun : Traffic → Traffic
line_begun t = record t { log = log_begun t.log }

-- a read of the line, and a write to it
abbrev pub after_line_read : Transfer → List ℕ → Traffic → Traffic
after_line_read (Bytes n) space t = record t { log = log_with (Receives (take n space)) t.log }
after_line_read Nothing space t = t
after_line_read Interrupted space t = t
after_line_read (Ended why) space t = after_fault (Line why) t

abbrev pub after_line_written : Transfer → List ℕ → Traffic → Traffic
after_line_written (Bytes n) bytes t = record t { log = log_with (Writes (take n bytes)) t.log }
after_line_written Nothing bytes t = t
after_line_written Interrupted bytes t = t
after_line_written (Ended why) bytes t = after_fault (Line why) t

-- the bytes that were moved
abbrev pub moved_of : Transfer → List ℕ → List ℕ
moved_of moved bytes = take (count_moved moved) bytes

-- a write to the output
abbrev pub after_written : Transfer → List ℕ → Traffic → Traffic
after_written (Ended why) bytes t = after_fault Output t
after_written moved bytes t = record t { written = t.written ++ moved_of moved bytes }

-- a wait that succeeded, or failed
abbrev pub after_wait : Bool → Traffic → Traffic
after_wait true t = t
after_wait false t = after_fault Input t

-- If the traffic was known, it is known afterwards, and has changed so.
abbrev pub Becomes : Option Traffic → Option Traffic → (Traffic → Traffic) → Type 0
Becomes old new change = (before : Traffic) → old ≡ Some before → new ≡ Some (change before)
