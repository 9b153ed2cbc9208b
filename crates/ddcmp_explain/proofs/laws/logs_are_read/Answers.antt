use Rattle.std.proofs.Common.{ap}
use Rattle.std.specs.Option.{option_map}
use Rattle.ddcmp_explain.proofs.LogGrammar.{log-bytes, log-whole}
use Rattle.ddcmp_explain.proofs.laws.logs_are_read.Goals as goal

pub returns-clause-bytes : goal.returns-clause-bytes
returns-clause-bytes c = log-bytes

pub returns-clause-whole : goal.returns-clause-whole
returns-clause-whole c = λ text bytes log. ap (option_map _) (log-whole text bytes log)
