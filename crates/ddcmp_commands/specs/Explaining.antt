-- What `ddcmp explain` does, and how it ends.
use Rattle.std.specs.Prelude.{if◌then◌else◌, ◌||◌, is_some, is_none, None, string_bytes, Bool, true}
use Rattle.std.specs.Prelude.{false, ◌≡◌, ◌⊎◌, ℕ, List, Option, Some, Result}
use Rattle.std.specs.Io.KnownBytes.{Keeps}
use Rattle.ddcmp_explain.specs.declared.explain_fault.ExplainFault.{ExplainFault}
use Rattle.ddcmp_commands.specs.declared.fault.Fault.TheVariants.{Write, Memory as NoMemory}
use Rattle.ddcmp_commands.specs.declared.ending.Ending.{Ending}
use Rattle.ddcmp_commands.specs.declared.ending.Ending.TheVariants.{Done, Unread, Fault as Faulted}
use Rattle.std.specs.Borrow.{Bor}
use Rattle.ddcmp_explain.specs.declared.form.Form.{Form}
use Rattle.ddcmp_explain.specs.declared.form.Form.TheVariants as form
use Rattle.ddcmp_args.specs.declared.explain_args.ExplainArgs.{ExplainArgs}
use Rattle.ddcmp_io.specs.Written.{Known}
use Rattle.ddcmp_explain.specs.Explains.{Explains}
use Rattle.ddcmp_commands.specs.Origins.{origin_of, written}
use Rattle.ddcmp_commands.specs.Endings.{explain_fault, ending_of}
use Rattle.ddcmp_commands.specs.Endings.{Streams, Untouched, IsUnopened, ReadsFile, is_json}
use Rattle.ddcmp_commands.specs.Endings.{UnlessMisused}

-- An input was explained, and the ending reports the result.
abbrev pub ExplainsInput : ExplainArgs → Streams → Ending → Type 0
ExplainsInput e s ending =
    (result : Result (Unit {0}) ExplainFault) × (ending ≡ ending_of explain_fault result)
    × Explains (written e) e.style e.max s.input s.left s.before s.after result

-- Standard input was explained; or a file was, and standard input wasn't read. `held` has the
-- contents of files by their names.
abbrev pub ExplainsFrom : (List ℕ → Known) → Option (Bor (List ℕ)) → ExplainArgs → Streams → Ending
    → Type 0
ExplainsFrom held None e s ending = ExplainsInput e s ending
ExplainsFrom held (Some name) e s ending =
    (s.left ≡ Some s.input)
    × ReadsFile name.now (held name.now) (ExplainsInput e) s.before s.after ending

-- whether `--from` is unknown, or used with `--raw`
abbrev pub is_misused : Form → Option (Bor (List ℕ)) → Bool
is_misused asked None = false
is_misused form.Raw (Some word) = true
is_misused form.Hex (Some word) = is_none (origin_of word.now)
is_misused form.Text (Some word) = is_none (origin_of word.now)
is_misused form.Dump (Some word) = is_none (origin_of word.now)

-- A ladder needs two files and can't be in JSON; two files are only for a ladder.
abbrev pub is_ladder_misused : ExplainArgs → Bool
is_ladder_misused e =
    if e.ladder then is_none e.file || (is_none e.second || is_json e.style.notation)
    else is_some e.second

-- the ending reports a fault of the file of this name
abbrev pub IsUnread : List ℕ → Ending → Type 0
IsUnread name (Unread told fault) = string_bytes told ≡ name
IsUnread name _ = ⊥

-- Two files were drawn, or one of them had a fault and is named; what was written isn't defined
-- here. If one can't be opened, nothing was written.
abbrev pub DrawsFiles : List ℕ → List ℕ → Known → Known → Ending → Type 0
DrawsFiles first second before after ending =
    ((IsUnopened first ending ⊎ IsUnopened second ending) × Keeps before after)
    ⊎ ((ending ≡ Done) ⊎ (ending ≡ Faulted Write) ⊎ (ending ≡ Faulted NoMemory)
    ⊎ IsUnread first ending ⊎ IsUnread second ending)

-- Two files were drawn, and standard input wasn't read; or one input was explained.
abbrev pub ExplainsOrDraws : (List ℕ → Known) → Option (Bor (List ℕ)) → Option (Bor (List ℕ))
    → ExplainArgs → Streams → Ending → Type 0
ExplainsOrDraws held file None e s ending = ExplainsFrom held file e s ending
ExplainsOrDraws held None (Some second) e s ending = ExplainsFrom held None e s ending
ExplainsOrDraws held (Some first) (Some second) e s ending =
    (s.left ≡ Some s.input) × DrawsFiles first.now second.now s.before s.after ending

-- `explain` with its options
abbrev pub ExplainsAsked : (List ℕ → Known) → ExplainArgs → Streams → Ending → Type 0
ExplainsAsked held e s ending =
    UnlessMisused (is_misused e.form e.from || is_ladder_misused e) (λ ended. Untouched s)
    (λ ended. ExplainsOrDraws held e.file e.second e s ended) ending
