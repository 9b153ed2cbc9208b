-- Each feed uses some of the piece.
use Rattle.std.proofs.Common.{length}
use Rattle.examples.proofs.exchange.End.receive.Given as goal

abbrev pub decreases-loop-rest : goal.decreases-loop-rest
decreases-loop-rest g l = length l.rest
