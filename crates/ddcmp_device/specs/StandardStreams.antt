-- What the owner of a standard stream writes in one call, and which standard input has an end.
use Rattle.std.specs.Prelude.{ℕ, Bool, true, false, List, take}
use Rattle.ddcmp_device.specs.declared.standard_stream.StandardStream.{StandardStream}
use Rattle.ddcmp_device.specs.declared.standard_stream.StandardStream.TheVariants.{Again, File}
use Rattle.ddcmp_device.specs.declared.standard_stream.StandardStream.TheVariants.{Other}
use Rattle.ddcmp_device.specs.declared.standard_input.StandardInput.{StandardInput}
use Rattle.ddcmp_device.specs.declared.standard_input.StandardInput.TheVariants.{Ends, Device}
use Rattle.ddcmp_device.specs.declared.standard_input.StandardInput.TheVariants.{KeptOpen}

-- to a file all bytes; elsewhere at most 4096, whose write doesn't block once the stream is ready
abbrev pub at_once : StandardStream → List ℕ → List ℕ
at_once File bytes = bytes
at_once (Again file) bytes = take 4096 bytes
at_once Other bytes = take 4096 bytes

-- whether standard input has an end that is waited for
abbrev pub has_end : StandardInput → Bool
has_end Ends = true
has_end Device = false
has_end (KeptOpen file) = false
