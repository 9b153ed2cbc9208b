-- What a result reports of the input that was seen.
use Rattle.std.proofs.Common.{◌≡◌, ℕ, List, [], ◌++◌, sym, ◌∙◌, ap, subst, Option, Some, None, Ok}
use Rattle.std.proofs.Common.{Err}
use Rattle.std.specs.Prelude.{is_none, if◌then◌else◌}
use Rattle.std.specs.Io.KnownBytes.{Appends}
use Rattle.std.proofs.lemmas.List.{append-nil}
use Rattle.ddcmp_io.specs.declared.device.Worst.{Worst}
use Rattle.ddcmp_io.specs.Written.{AppendsPart}
use Rattle.ddcmp_io.proofs.WrittenLaws.{part-append}
use Rattle.ddcmp_explain.specs.declared.explain_fault.ExplainFault.{ExplainFault}
use Rattle.ddcmp_explain.specs.declared.explain_fault.ExplainFault.TheVariants.{Odd, NotHex, Line}
use Rattle.ddcmp_explain.specs.declared.explain_fault.ExplainFault.TheVariants.{Read, Write, Memory}
use Rattle.ddcmp_explain.specs.declared.form.Form.{Form}
use Rattle.ddcmp_explain.specs.declared.input_bytes.InputBytes.{InputBytes}
use Rattle.ddcmp_explain.specs.declared.style.Style.{Style}
use Rattle.ddcmp_explain.specs.Digits.{bytes_of}
use Rattle.ddcmp_explain.specs.Discarded.{lines_in, end_in}
use Rattle.ddcmp_explain.specs.Explains.{Ends, refusal, explained, Tells}
use Rattle.ddcmp_explain.specs.Reads.{IsNext}

module _ (form : Form) (style : Style) (max : ℕ) (seen : List ℕ) (start sink : Option (List ℕ))
  where
    -- where the input is refused there is no last line
    explained-refused : (fault : ExplainFault) → refusal form seen ≡ Some fault
        → explained form style max seen ≡ lines_in style max (bytes_of form seen)
    unfolding explained
    explained-refused fault e =
        ap (λ r. lines_in style max (bytes_of form seen)
        ++ (if is_none r then end_in style max (bytes_of form seen) else []))
        e
        ∙ append-nil (lines_in style max (bytes_of form seen))

    explained-whole : refusal form seen ≡ None
        → explained form style max seen
        ≡ lines_in style max (bytes_of form seen) ++ end_in style max (bytes_of form seen)
    unfolding explained
    explained-whole e =
        ap (λ r. lines_in style max (bytes_of form seen)
        ++ (if is_none r then end_in style max (bytes_of form seen) else []))
        e

    -- a beginning of the lines is a beginning of the whole text
    pub tells-part : AppendsPart start sink (lines_in style max (bytes_of form seen))
        → AppendsPart start sink (explained form style max seen)
    unfolding explained
    tells-part p = part-append start sink (lines_in style max (bytes_of form seen)) _ p

    -- no more could be read
    pub tells-stopped : (fault : ExplainFault) (left : Option (List ℕ)) (old new : InputBytes)
        (state : Worst)
        → IsNext old new state (Err fault) → Ends form seen left (Err fault)
        → Appends start sink (lines_in style max (bytes_of form seen))
        → Tells form style max seen start sink (Err fault)
    tells-stopped Odd left old new state n e w =
        subst (Appends start sink) (sym (explained-refused Odd e.1)) w
    tells-stopped (NotHex index) left old new state n e w =
        subst (Appends start sink) (sym (explained-refused (NotHex index) e.1)) w
    tells-stopped (Line line) left old new state n e w =
        subst (Appends start sink) (sym (explained-refused (Line line) e.1)) w
    tells-stopped Read left old new state n e w = w
    tells-stopped Write left old new state n e w = absurd n
    tells-stopped Memory left old new state n e w = absurd n

    -- the last lines were written too
    pub tells-whole : refusal form seen ≡ None
        → Appends start sink
        (lines_in style max (bytes_of form seen) ++ end_in style max (bytes_of form seen))
        → Tells form style max seen start sink (Ok tt)
    tells-whole r w = subst (Appends start sink) (sym (explained-whole r)) w

    pub tells-cut : refusal form seen ≡ None
        → AppendsPart start sink
        (lines_in style max (bytes_of form seen) ++ end_in style max (bytes_of form seen))
        → Tells form style max seen start sink (Err Write)
    tells-cut r w = subst (AppendsPart start sink) (sym (explained-whole r)) w
