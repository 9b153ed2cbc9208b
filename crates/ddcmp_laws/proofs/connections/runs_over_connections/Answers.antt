use Rattle.ddcmp_laws.proofs.ConnectionLaws.{once-in-files, once-together}
use Rattle.ddcmp_laws.proofs.RunLaws.{all-to-a, all-to-b, files-begin-a, files-begin-b}
use Rattle.ddcmp_laws.proofs.RunLaws.{files-pass-a, files-pass-b, first-to-a, first-to-b}
use Rattle.ddcmp_laws.proofs.connections.runs_over_connections.Goals as goal

pub returns-clause-to_b : goal.returns-clause-to_b
returns-clause-to_b c = λ a b f g done_a done_b once_a once_b ran.
    first-to-b a b f g done_a done_b
    (once-together a b f g done_a done_b once_a once_b ran)

pub returns-clause-to_a : goal.returns-clause-to_a
returns-clause-to_a c = λ a b f g done_a done_b once_a once_b ran.
    first-to-a a b f g done_a done_b
    (once-together a b f g done_a done_b once_a once_b ran)

pub returns-clause-all_to_b : goal.returns-clause-all_to_b
returns-clause-all_to_b c = λ a b f g done_a done_b once_a once_b ran.
    all-to-b a b f g done_a done_b
    (once-together a b f g done_a done_b once_a once_b ran)

pub returns-clause-all_to_a : goal.returns-clause-all_to_a
returns-clause-all_to_a c = λ a b f g done_a done_b once_a once_b ran.
    all-to-a a b f g done_a done_b
    (once-together a b f g done_a done_b once_a once_b ran)

pub returns-clause-in_files_to_b : goal.returns-clause-in_files_to_b
returns-clause-in_files_to_b c = λ a b f g done_a done_b once_a once_b ran.
    once-in-files a b done_a done_b once_a once_b

pub returns-clause-in_files_to_a : goal.returns-clause-in_files_to_a
returns-clause-in_files_to_a c = λ a b f g done_a done_b once_a once_b ran.
    once-in-files b a done_b done_a once_b once_a

pub returns-clause-files_to_b : goal.returns-clause-files_to_b
returns-clause-files_to_b c = λ a b f g done_a done_b once_a once_b ran.
    files-begin-b a b f g done_a done_b
    (once-together a b f g done_a done_b once_a once_b ran)

pub returns-clause-files_to_a : goal.returns-clause-files_to_a
returns-clause-files_to_a c = λ a b f g done_a done_b once_a once_b ran.
    files-begin-a a b f g done_a done_b
    (once-together a b f g done_a done_b once_a once_b ran)

pub returns-clause-whole_to_b : goal.returns-clause-whole_to_b
returns-clause-whole_to_b c = λ a b f g done_a done_b once_a once_b ran.
    files-pass-b a b f g done_a done_b
    (once-together a b f g done_a done_b once_a once_b ran)

pub returns-clause-whole_to_a : goal.returns-clause-whole_to_a
returns-clause-whole_to_a c = λ a b f g done_a done_b once_a once_b ran.
    files-pass-a a b f g done_a done_b
    (once-together a b f g done_a done_b once_a once_b ran)
