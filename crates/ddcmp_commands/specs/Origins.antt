-- How an input is written, by the value of `--from`.
use Rattle.std.specs.Prelude.{ℕ, ◌||◌, if◌then◌else◌, List, Option, Some, None, codes, unwrap_or}
use Rattle.std.specs.Borrow.{Bor}
use Rattle.std.specs.Option.{option_and_then}
use Rattle.std.specs.Str.{bytes_eq}
use Rattle.clap.specs.Words.{Text}
use Rattle.ddcmp_explain.specs.declared.form.Form.TheVariants as form
use Rattle.ddcmp_explain.specs.declared.form.InputForm.{InputForm}
use Rattle.ddcmp_explain.specs.declared.form.InputForm.TheVariants.{As, Detected}
use Rattle.ddcmp_args.specs.declared.explain_args.ExplainArgs.{ExplainArgs}

-- The dumps of three programs have one parser.
abbrev pub origin_of : Text → Option InputForm
origin_of word =
    if bytes_eq word (codes "hexdump") || bytes_eq word (codes "xxd") || bytes_eq word (codes "od")
    then Some (As form.Dump)
    else if bytes_eq word (codes "text") then Some (As form.Text)
    else if bytes_eq word (codes "auto") then Some Detected
    else None

abbrev pub named_by : Option (Bor (List ℕ)) → Option InputForm
named_by from = option_and_then (λ word. origin_of word.now) from

-- by `--from` if it is given, else in the form that is requested
abbrev pub written : ExplainArgs → InputForm
written e = unwrap_or (named_by e.from) (As e.form)
