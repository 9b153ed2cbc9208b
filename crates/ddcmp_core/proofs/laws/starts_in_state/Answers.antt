use Rattle.ddcmp_core.specs.Table.{Strt, Stack}
use Rattle.ddcmp_core.proofs.StartLaws.{sent_in_state}
use Rattle.ddcmp_core.proofs.laws.starts_in_state.Goals as goal

pub returns-clause-strt : goal.returns-clause-strt
returns-clause-strt c = λ s u. sent_in_state s Strt u

pub returns-clause-stack : goal.returns-clause-stack
returns-clause-stack c = λ s u. sent_in_state s Stack u
