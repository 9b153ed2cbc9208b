use Rattle.std.proofs.Common.{ℕ, sym, ◌∙◌, subst, IfOk, Result, Ok, Err, List, take}
use Rattle.ddcmp_frame.specs.declared.header.Header.{Header}
use Rattle.ddcmp_frame.specs.declared.header.HeaderFault.{HeaderFault}
use Rattle.ddcmp_frame.specs.declared.header.HeaderFault.TheVariants.{NotAStart, Check, BadType}
use Rattle.ddcmp_frame.specs.declared.header.HeaderFault.TheVariants.{CountZero}
use Rattle.ddcmp_frame.specs.Spelling.{Spells, HasCheck}
use Rattle.ddcmp_frame.proofs.SpellingLaws.{parsed-says, says-parsed, parsed-decides}
use Rattle.ddcmp_frame.specs.Spelling.{Says}
use Rattle.ddcmp_frame.proofs.header.Header.parse.Goals as goal

found : (r : Result Header HeaderFault) (bytes : List ℕ) → Says r bytes
    → IfOk r (λ h. Spells h (take 6 bytes) × HasCheck bytes)
found (Ok h) bytes s = s
found (Err f) bytes s = tt

pub returns-clause-found : goal.returns-clause-found
returns-clause-found c =
    found c.parse_exactly.result c.args.bytes.now
    (subst (λ x. Says x c.args.bytes.now) (sym c.parse_exactly.ensures)
    (parsed-says c.args.bytes.now c.told-bytes))

pub returns-clause-only : goal.returns-clause-only
returns-clause-only c =
    λ h spelled check. c.parse_exactly.ensures
    ∙ says-parsed (Ok h) c.args.bytes.now c.told-bytes (spelled, check)

pub returns-clause-not_a_start : goal.returns-clause-not_a_start
returns-clause-not_a_start c =
    parsed-decides c.parse_exactly.result (Err NotAStart)
    c.args.bytes.now c.told-bytes c.parse_exactly.ensures

pub returns-clause-check : goal.returns-clause-check
returns-clause-check c =
    parsed-decides c.parse_exactly.result (Err Check)
    c.args.bytes.now c.told-bytes c.parse_exactly.ensures

pub returns-clause-bad_type : goal.returns-clause-bad_type
returns-clause-bad_type c =
    λ t. parsed-decides c.parse_exactly.result (Err (BadType t))
    c.args.bytes.now c.told-bytes c.parse_exactly.ensures

pub returns-clause-count_zero : goal.returns-clause-count_zero
returns-clause-count_zero c =
    parsed-decides c.parse_exactly.result (Err CountZero)
    c.args.bytes.now c.told-bytes c.parse_exactly.ensures
