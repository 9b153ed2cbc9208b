-- The promise of two links as pipes, in the bytes that their devices report.
use Rattle.std.specs.Prelude.{◌≡◌, ◌≤◌, ℕ, false, List, ◌++◌}
use Rattle.std.specs.List.{All}
use Rattle.ddcmp_input.specs.InBinary.{in_binary, Fits}
use Rattle.ddcmp_io.specs.declared.carrier.End.{End}
use Rattle.ddcmp_io.specs.declared.carrier.End.TheVariants.{A, B}
use Rattle.ddcmp_streams.specs.declared.messages.MessageForm.TheVariants as form
use Rattle.ddcmp_streams.specs.declared.options.Options.{Options}
use Rattle.ddcmp_session.specs.Traffic.{LineAct, Traffic, received, sent}
use Rattle.ddcmp_laws.specs.Prefix.{Begins}
use Rattle.ddcmp_laws.specs.Traces.{IsHonest, acts_of}

-- data messages, each after its length
pub record IsBinary (options : Options) : Type 0 where
  pub form : options.form ≡ form.Binary
  pub of_data : options.maintenance ≡ false

-- Each opened at most one line; and in some order of what both did there, it was honest.
pub record IsOneLine (first second : Options) (t u : Traffic) : Type 0 where
  pub one : t.log.lines ≤ 1
  pub other : u.log.lines ≤ 1
  pub order : List (End × LineAct)
  pub of_first : acts_of A order ≡ t.log.acts
  pub of_second : acts_of B order ≡ u.log.acts
  pub honest : IsHonest first.config.max second.config.max order

-- If what the first read from its input is a prefix of a file of messages that fit, what the second
-- wrote to its output is a prefix of that file, too.
abbrev pub BytesBegin : Options → Traffic → Traffic → Type 0
BytesBegin options t u = (messages : List (List ℕ)) → All (Fits options.config.max) messages
    → Begins t.read (in_binary messages) → Begins u.written (in_binary messages)

-- If it is the whole file, so is what the second wrote.
abbrev pub BytesArrive : Options → Traffic → Traffic → Type 0
BytesArrive options t u = (messages : List (List ℕ)) → All (Fits options.config.max) messages
    → t.read ≡ in_binary messages → u.written ≡ in_binary messages

-- At each moment what each has received is a prefix of what the other has written, as over a
-- connection.
abbrev pub IsStream : List (End × LineAct) → Type 0
IsStream order = (past future : List (End × LineAct)) → past ++ future ≡ order
    → Begins (received (acts_of A past)) (sent (acts_of B past))
    × Begins (received (acts_of B past)) (sent (acts_of A past))
