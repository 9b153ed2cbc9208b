use borrow.Author.Rules.{rules}
use Rattle.std.proofs.Common.{refl}
use Rattle.ddcmp_commands.proofs.explain_command.explain_one.Goals as goal

pub returns-in-None-clause-explains : goal.returns-in-None-clause-explains
returns-in-None-clause-explains g c = search rules

pub returns-in-None-clause-read : goal.returns-in-None-clause-read
returns-in-None-clause-read g c = c.explain_source.ensures.devices.read

pub returns-in-None-clause-read_only : goal.returns-in-None-clause-read_only
returns-in-None-clause-read_only g c = λ _. c.explain_source.ensures.devices.read_only

pub returns-in-None-clause-write : goal.returns-in-None-clause-write
returns-in-None-clause-write g c = c.explain_source.ensures.devices.write

pub returns-in-None-clause-untouched : goal.returns-in-None-clause-untouched
returns-in-None-clause-untouched g c = search rules

pub returns-in-Some-clause-explains : goal.returns-in-Some-clause-explains
returns-in-Some-clause-explains g c = search rules

pub returns-in-Some-clause-read : goal.returns-in-Some-clause-read
returns-in-Some-clause-read g c = λ e. absurd (e c.requires.fine)

pub returns-in-Some-clause-read_only : goal.returns-in-Some-clause-read_only
returns-in-Some-clause-read_only g c = search rules

pub returns-in-Some-clause-write : goal.returns-in-Some-clause-write
returns-in-Some-clause-write g c = c.explain_file.ensures.write

pub returns-in-Some-clause-untouched : goal.returns-in-Some-clause-untouched
returns-in-Some-clause-untouched g c = λ _. refl
