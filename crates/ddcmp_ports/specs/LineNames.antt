-- The names of lines on the command line.
use Rattle.std.specs.Prelude.{ℕ, List, ◌++◌, ◌≢◌, codes, get_or, length, ◌<◌, ⊤}
use Rattle.std.specs.Prelude.{Bool, if◌then◌else◌}
use Rattle.std.specs.Borrow.{Bor}
use Rattle.ddcmp_ports.specs.declared.fault.Attempt.{Attempt}
use Rattle.ddcmp_ports.specs.declared.fault.Attempt.TheVariants as attempt
use Rattle.ddcmp_ports.specs.declared.fault.OpenFault.{OpenFault}
use Rattle.ddcmp_ports.specs.declared.line_name.LineName.{LineName}
use Rattle.ddcmp_ports.specs.declared.line_name.LineName.TheVariants.{Connect, Listen, Udp}
use Rattle.ddcmp_ports.specs.declared.line_name.LineName.TheVariants.{Device}
use Rattle.ddcmp_ports.specs.declared.fault.OpenRefusal.{OpenRefusal}
use Rattle.ddcmp_io.specs.declared.line_kind.LineKind.{LineKind}
use Rattle.ddcmp_io.specs.declared.line_kind.LineKind.TheVariants as kind

-- the name of a line
unfoldable pub word_of : LineName → List ℕ
word_of (Connect at) = codes "connect:" ++ at.now
word_of (Listen at) = codes "listen:" ++ at.now
word_of (Udp local remote) = codes "udp:" ++ (local.now ++ (codes "," ++ remote.now))
word_of (Device path) = codes "device:" ++ path.now

-- The first of two addresses has no comma in it, so that no name stands for two lines.
unfoldable pub IsPlain : LineName → Type 0
IsPlain (Udp local remote) = (k : ℕ) → k < length local.now → get_or local.now k 0 ≢ 44
IsPlain _ = ⊤

abbrev pub line_kind : LineName → LineKind
line_kind (Connect at) = kind.Connect
line_kind (Listen at) = kind.Listen
line_kind (Udp local remote) = kind.Datagrams
line_kind (Device path) = kind.Device

-- ---- a line that couldn't be opened

-- what was attempted
abbrev pub attempt_of : LineKind → Attempt
attempt_of kind.Connect = attempt.Connect
attempt_of kind.Listen = attempt.Listen
attempt_of kind.Datagrams = attempt.Open
attempt_of kind.Device = attempt.Open

-- the address or path to be reported: of two addresses the remote one if that failed
abbrev pub blamed : Bool → LineName → Bor (List ℕ)
blamed is_remote (Connect at) = at
blamed is_remote (Listen at) = at
blamed is_remote (Udp local remote) = if is_remote then remote else local
blamed is_remote (Device path) = path

-- what is reported
abbrev pub open_fault_of : LineName → OpenRefusal → OpenFault
open_fault_of name refused = record {
  attempt = attempt_of (line_kind name);
  name = blamed refused.is_remote name;
  cause = refused.cause;
}
