use Rattle.std.proofs.Common.{◌∙◌, rules, Ok, Err, false}
use Rattle.ddcmp_frame.specs.declared.header.HeaderFault.TheVariants.{Check, BadType, CountZero}
use Rattle.ddcmp_frame.proofs.ReadingLaws.{row-empty, row-skips, row-waits, row-by}
use Rattle.ddcmp_frame.proofs.plain.row.Goals as goal

pub returns-then-is_empty-clause-row : goal.returns-then-is_empty-clause-row
returns-then-is_empty-clause-row c = λ lost. row-empty c.args.max _ (search rules)

pub returns-then-not-is_start-clause-row : goal.returns-then-not-is_start-clause-row
returns-then-not-is_start-clause-row c =
    λ lost. row-skips c.args.max _ (search rules) (search rules)

pub returns-in_default-clause-row : goal.returns-in_default-clause-row
returns-in_default-clause-row c = λ lost. row-waits c.args.max _ (search rules) (search rules)

pub returns-in-Ok-clause-row : goal.returns-in-Ok-clause-row
returns-in-Ok-clause-row c = λ lost.
    row-by c.args.max
    (record { offset = c.args.at; lost = lost; told = false; rest = c.args.bytes.now })
    (Ok c.in-Ok.header) (search rules) (search rules) (search rules)
    ∙ c.row_after_header.ensures.row lost

pub returns-in-Err-Check-clause-row : goal.returns-in-Err-Check-clause-row
returns-in-Err-Check-clause-row c =
    λ lost. row-by c.args.max
    (record { offset = c.args.at; lost = lost; told = false; rest = c.args.bytes.now }) (Err Check)
    (search rules) (search rules) (search rules)

pub returns-in-Err-BadType-clause-row : goal.returns-in-Err-BadType-clause-row
returns-in-Err-BadType-clause-row c =
    λ lost. row-by c.args.max
    (record { offset = c.args.at; lost = lost; told = false; rest = c.args.bytes.now })
    (Err (BadType c.in-Err-BadType.code)) (search rules) (search rules) (search rules)

pub returns-in-Err-CountZero-clause-row : goal.returns-in-Err-CountZero-clause-row
returns-in-Err-CountZero-clause-row c =
    λ lost. row-by c.args.max
    (record { offset = c.args.at; lost = lost; told = false; rest = c.args.bytes.now })
    (Err CountZero) (search rules) (search rules) (search rules)
