-- The messages in an input of lines, and in a part of it.
use Rattle.std.proofs.Common.{◌≡◌, ◌∙◌, ap, sym, refl, ℕ, Bool, true, false, cond, List, []}
use Rattle.std.proofs.Common.{◌∷◌, ◌++◌, append_assoc, append-nil, map}
use Rattle.std.specs.List.{All}
use Rattle.std.proofs.lemmas.List.Elements.{All-head, All-tail}
use Rattle.ddcmp_input.specs.InLines.{IsLine, Line, in_lines, line_at, line_end, next_number}
use Rattle.ddcmp_input.specs.InLines.{told_in}
use Rattle.ddcmp_input.specs.InLines as lines
use Rattle.ddcmp_input.specs.Told.{Got}
use Rattle.ddcmp_input.proofs.LineLaws.{all_lines, empty_line, one_line}
use Rattle.ddcmp_pair.specs.Prefix.{IsPrefixOf}
use Rattle.ddcmp_streams.specs.declared.messages.MessageForm.{MessageForm}
use Rattle.ddcmp_streams.specs.declared.messages.MessageForm.TheVariants as form
use Rattle.ddcmp_session.specs.Calls.{end_in}
use Rattle.ddcmp_session.specs.Traffic.{Traffic}
use Rattle.ddcmp_laws.specs.ArrivalInLines.{IsInput}
use Rattle.ddcmp_laws.specs.Loops.{messages_given}
use Rattle.ddcmp_laws.specs.Pipe.{Made}
use Rattle.ddcmp_laws.specs.Sessions.{got_in, messages_of}
use Rattle.ddcmp_laws.proofs.Given.{messages_more}
use Rattle.ddcmp_laws.proofs.Inputs.{second}

abbrev pub message_of : Line → List ℕ
message_of line = line.message

got_lines : (of : List Line) (number : ℕ)
    → got_in (map second (lines.messages_of number of)) ≡ map message_of of
unfolding got_in lines.messages_of
got_lines [] number = refl
got_lines (line ∷ rest) number =
    ap (λ ms. line.message ∷ ms) (got_lines rest (next_number number))

pub read_lines : (max : ℕ) (of : List Line) (returns : Bool) → All (IsLine max) of
    → messages_of form.Digits max (in_lines returns of) ≡ map message_of of
read_lines max of returns fit =
    ap (λ ts. got_in (map second ts)) (all_lines of returns max 1 fit) ∙ got_lines of 1

-- a LF after the last line is no message
told_ended : (of : List Line) (returns : Bool) (max number : ℕ) → All (IsLine max) of
    → told_in (in_lines returns of ++ 10 ∷ []) (line_at max number) ≡ lines.messages_of number of
unfolding in_lines told_in lines.messages_of
told_ended [] returns max number f = empty_line [] false max number
told_ended (line ∷ rest) returns max number f =
    let is = All-head (IsLine max) line rest f in
    let more = in_lines returns rest in
    ap (λ text. told_in text (line_at max number))
    (append_assoc line.digits (line_end returns ++ more) (10 ∷ [])
    ∙ ap (λ text. line.digits ++ text) (append_assoc (line_end returns) more (10 ∷ [])))
    ∙ one_line line.digits line.message (more ++ 10 ∷ []) returns max number is.spells is.fits
    ∙ ap (λ ts. (number, Got line.message) ∷ ts)
    (told_ended rest returns max (next_number number) (All-tail (IsLine max) line rest f))

-- the messages given by an input in lines
given_in_lines : (made : Made) (t : Traffic) → made.options.form ≡ form.Digits
    → messages_given made t
    ≡ messages_of form.Digits made.options.config.max (t.read ++ cond t.is_over (10 ∷ []) [])
given_in_lines made t is =
    ap
    (λ (f : MessageForm).
    messages_of f made.options.config.max (t.read ++ cond t.is_over (end_in f) [])) is

with_end : (max : ℕ) (of : List Line) (returns over : Bool) → All (IsLine max) of
    → messages_of form.Digits max (in_lines returns of ++ cond over (10 ∷ []) [])
    ≡ map message_of of
with_end max of returns true fit =
    ap (λ ts. got_in (map second ts)) (told_ended of returns max 1 fit) ∙ got_lines of 1
with_end max of returns false fit =
    ap (messages_of form.Digits max) (append-nil (in_lines returns of))
    ∙ read_lines max of returns fit

-- once all of it was read
pub given_lines : (made : Made) (t : Traffic) (of : List Line) (returns : Bool)
    → made.options.form ≡ form.Digits → All (IsLine made.options.config.max) of
    → t.read ≡ in_lines returns of → messages_given made t ≡ map message_of of
given_lines made t of returns is fit all =
    let max = made.options.config.max in
    given_in_lines made t is
    ∙ ap (λ text. messages_of form.Digits max (text ++ cond t.is_over (10 ∷ []) [])) all
    ∙ with_end max of returns t.is_over fit

-- and before
pub given_first : (made : Made) (t : Traffic) (of : List Line) (returns : Bool)
    → made.options.form ≡ form.Digits → All (IsLine made.options.config.max) of
    → IsInput (in_lines returns of) t → IsPrefixOf (messages_given made t) (map message_of of)
given_first made t of returns is fit input = by t.is_over refl
  where
    by : (over : Bool) → t.is_over ≡ over
        → IsPrefixOf (messages_given made t) (map message_of of)
    by true e = (
      [],
      append-nil (messages_given made t)
          ∙ given_lines made t of returns is fit (input.whole e),
    )
    by false e =
        let max = made.options.config.max in
        let rest = input.begins.0 in
        let m = messages_more form.Digits max t.read rest in (
          m.0,
          ap (λ ms. ms ++ m.0)
              (given_in_lines made t is
              ∙ ap (λ o. messages_of form.Digits max (t.read ++ cond o (10 ∷ []) [])) e
              ∙ ap (messages_of form.Digits max) (append-nil t.read))
              ∙ sym m.1
              ∙ ap (messages_of form.Digits max) input.begins.1
              ∙ read_lines max of returns fit,
        )
