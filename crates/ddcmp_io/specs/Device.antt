-- What a source has left and what a sink holds, if known.
use Rattle.std.specs.Prelude.{◌≡◌, ℕ, ◌<◌, ◌≤◌, Bool, List, ◌++◌, length, take, Option, Some, None}
use Rattle.std.specs.Io.KnownBytes.{Appends, Consumes, Keeps, IsAtEnd}
use Rattle.std.specs.declared.io.ErrorKind.{ErrorKind}
use Rattle.std.specs.declared.io.ErrorKind.TheVariants.{WouldBlock, TimedOut, Interrupted}
use Rattle.ddcmp_io.specs.declared.device.FromRead.{FromRead}
use Rattle.ddcmp_io.specs.declared.device.ToWrite.{ToWrite}
use Rattle.ddcmp_io.specs.declared.device.Got.{Got}
use Rattle.ddcmp_io.specs.declared.device.Got.TheVariants.{Bytes, Idle, Failed}
use Rattle.ddcmp_io.specs.declared.device.Worst.{Worst}
use Rattle.ddcmp_io.specs.declared.device.Worst.TheVariants.{Fine, Idle as HadIdle}
use Rattle.ddcmp_io.specs.declared.device.Worst.TheVariants.{Failed as HadFailed}

-- A read returned the first bytes that were left; none only at the end.
abbrev pub ReadGives : Option (List ℕ) → Option (List ℕ) → Got → List ℕ → Type 0
ReadGives old new (Bytes n) buf =
    (n ≤ length buf) × Consumes old new (take n buf) × (n ≡ 0 → 0 < length buf → IsAtEnd new)
ReadGives old new Idle buf = Keeps old new
ReadGives old new Failed buf = Keeps old new

-- If a log was known it is known, and has grown by `xs`.
abbrev pub Logs : {A : Type 0} → Option (List A) → Option (List A) → List A → Type 0
Logs None new xs = Unit {0}
Logs (Some old) None xs = ⊥
Logs (Some old) (Some new) xs = new ≡ old ++ xs

-- An error of a read means that there is nothing to read yet if it would block, timed out or was
-- interrupted; any other is a failure.
abbrev pub got_of_error : ErrorKind → Got
got_of_error WouldBlock = Idle
got_of_error TimedOut = Idle
got_of_error Interrupted = Idle
got_of_error _ = Failed

-- the worse of the worst status so far and a result
abbrev pub worse : Worst → Got → Worst
worse HadFailed (Bytes n) = HadFailed
worse HadFailed Idle = HadFailed
worse HadFailed Failed = HadFailed
worse Fine (Bytes n) = Fine
worse Fine Idle = HadIdle
worse Fine Failed = HadFailed
worse HadIdle (Bytes n) = HadIdle
worse HadIdle Idle = HadIdle
worse HadIdle Failed = HadFailed

-- A write took the first bytes, at least one if there is one; or it failed.
abbrev pub WriteTakes : Option (List ℕ) → Option (List ℕ) → Option ℕ → List ℕ → Type 0
WriteTakes old new (Some n) bytes =
    (n ≤ length bytes) × (0 < length bytes → 0 < n) × Appends old new (take n bytes)
WriteTakes old new None bytes = Keeps old new

-- the reader that a source wraps, and the worst status that the source has returned
abbrev pub reader_of : {R : Type 0} → FromRead R → R
reader_of s = s.inner

abbrev pub worst_of : {R : Type 0} → FromRead R → Worst
worst_of s = s.worst

-- the writer that a sink wraps, and whether a write has failed
abbrev pub writer_of : {W : Type 0} → ToWrite W → W
writer_of s = s.inner

abbrev pub has_failed : {W : Type 0} → ToWrite W → Bool
has_failed s = s.failed
