use Rattle.ddcmp_laws.proofs.RunLaws.{all-to-a, all-to-b, files-begin-a, files-begin-b}
use Rattle.ddcmp_laws.proofs.RunLaws.{files-pass-a, files-pass-b, first-to-a, first-to-b}
use Rattle.ddcmp_laws.proofs.session_runs.runs_are_pipes.Goals as goal

pub returns-clause-to_b : goal.returns-clause-to_b
returns-clause-to_b c = first-to-b

pub returns-clause-to_a : goal.returns-clause-to_a
returns-clause-to_a c = first-to-a

pub returns-clause-all_to_b : goal.returns-clause-all_to_b
returns-clause-all_to_b c = all-to-b

pub returns-clause-all_to_a : goal.returns-clause-all_to_a
returns-clause-all_to_a c = all-to-a

pub returns-clause-files_to_b : goal.returns-clause-files_to_b
returns-clause-files_to_b c = files-begin-b

pub returns-clause-files_to_a : goal.returns-clause-files_to_a
returns-clause-files_to_a c = files-begin-a

pub returns-clause-whole_to_b : goal.returns-clause-whole_to_b
returns-clause-whole_to_b c = files-pass-b

pub returns-clause-whole_to_a : goal.returns-clause-whole_to_a
returns-clause-whole_to_a c = files-pass-a
