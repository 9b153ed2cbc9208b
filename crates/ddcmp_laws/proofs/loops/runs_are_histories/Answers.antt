use Rattle.ddcmp_laws.proofs.LoopLaws.{is_history, is_text_of}
use Rattle.ddcmp_laws.proofs.loops.runs_are_histories.Goals as goal

pub returns-clause-history : goal.returns-clause-history
returns-clause-history c = λ made connected now held known line does stands goes.
    is_history made connected does now held known stands goes

pub returns-clause-text : goal.returns-clause-text
returns-clause-text c = is_text_of
