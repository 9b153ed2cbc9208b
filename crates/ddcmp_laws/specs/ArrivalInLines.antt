-- The promise of two links as pipes, in the lines that their devices report.
use Rattle.std.specs.Prelude.{◌≡◌, ℕ, Bool, true, false, List, map}
use Rattle.std.specs.List.{All}
use Rattle.hex.specs.Hex.{encode_lower}
use Rattle.ddcmp_input.specs.InLines.{IsLine, Line, in_lines}
use Rattle.ddcmp_pair.specs.Prefix.{IsPrefixOf}
use Rattle.ddcmp_streams.specs.declared.messages.MessageForm.TheVariants as form
use Rattle.ddcmp_streams.specs.declared.options.Options.{Options}
use Rattle.ddcmp_session.specs.Traffic.{Traffic}
use Rattle.ddcmp_laws.specs.MailLines.{mails_in}
use Rattle.ddcmp_laws.specs.Prefix.{Begins}

-- data messages, one a line
pub record IsInLines (options : Options) : Type 0 where
  pub form : options.form ≡ form.Digits
  pub of_data : options.maintenance ≡ false

-- The input is this text: what was read of it is a prefix, and all of it once its end was read.
pub record IsInput (text : List ℕ) (t : Traffic) : Type 0 where
  pub begins : Begins t.read text
  pub whole : t.is_over ≡ true → t.read ≡ text

-- the messages of these lines, in digits of lower case
abbrev pub digits_of : List Line → List (List ℕ)
digits_of lines = map (λ (line : Line). encode_lower line.message) lines

-- If the input of the first is lines of messages that fit, those in the output of the second are a
-- prefix of these messages.
abbrev pub LinesBegin : Options → Traffic → Traffic → Type 0
LinesBegin options t u = (lines : List Line) (returns : Bool)
    → All (IsLine options.config.max) lines → IsInput (in_lines returns lines) t
    → IsPrefixOf (mails_in u.written) (digits_of lines)

-- If the first has read all of it, they are these messages.
abbrev pub LinesArrive : Options → Traffic → Traffic → Type 0
LinesArrive options t u = (lines : List Line) (returns : Bool)
    → All (IsLine options.config.max) lines → t.read ≡ in_lines returns lines
    → mails_in u.written ≡ digits_of lines
