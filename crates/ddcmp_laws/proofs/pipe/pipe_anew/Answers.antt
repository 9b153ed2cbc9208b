use Rattle.ddcmp_laws.proofs.AnewPipes.{pipes_anew_a, pipes_anew_b, pipes_all_anew_a, pipes_all_anew_b}
use Rattle.ddcmp_laws.proofs.AnewPipes.{writes_anew_a, writes_anew_b}
use Rattle.ddcmp_laws.proofs.pipe.pipe_anew.Goals as goal

pub returns-clause-to_b : goal.returns-clause-to_b
returns-clause-to_b c = pipes_anew_b

pub returns-clause-to_a : goal.returns-clause-to_a
returns-clause-to_a c = pipes_anew_a

pub returns-clause-all_to_b : goal.returns-clause-all_to_b
returns-clause-all_to_b c = pipes_all_anew_b

pub returns-clause-all_to_a : goal.returns-clause-all_to_a
returns-clause-all_to_a c = pipes_all_anew_a

pub returns-clause-bytes_at_a : goal.returns-clause-bytes_at_a
returns-clause-bytes_at_a c = writes_anew_a

pub returns-clause-bytes_at_b : goal.returns-clause-bytes_at_b
returns-clause-bytes_at_b c = writes_anew_b
