use borrow.Author.Rules.{rules}
use Rattle.std.proofs.Common.{refl}
use Rattle.ddcmp_commands.proofs.explain_command.explain_asked.Goals as goal

pub returns-then-is_misused-clause-explains : goal.returns-then-is_misused-clause-explains
returns-then-is_misused-clause-explains g c = search rules

pub returns-then-is_misused-clause-read : goal.returns-then-is_misused-clause-read
returns-then-is_misused-clause-read g c = λ e. absurd (e c.requires.fine)

pub returns-then-is_misused-clause-read_only : goal.returns-then-is_misused-clause-read_only
returns-then-is_misused-clause-read_only g c = search rules

pub returns-then-is_misused-clause-write : goal.returns-then-is_misused-clause-write
returns-then-is_misused-clause-write g c = search rules

pub returns-then-is_misused-clause-untouched : goal.returns-then-is_misused-clause-untouched
returns-then-is_misused-clause-untouched g c = λ _. refl
