use Rattle.std.proofs.Common.{inr}
use Rattle.ddcmp_commands.proofs.explain_command.explain_file.Goals as goal

pub returns-in-Ok-clause-explains : goal.returns-in-Ok-clause-explains
returns-in-Ok-clause-explains g c =
    inr
    (inr
    (λ content
    e. (_, c.explain_source.ensures.explains content (c.in-Ok.ensures.held content e))))
