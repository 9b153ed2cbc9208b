use Rattle.ddcmp_tap.specs.Logging.{head_of}
use Rattle.ddcmp_tap.proofs.HeadLaws.{no-carrier}
use Rattle.ddcmp_tap.proofs.connections.tap.Goals as goal

pub returns-in-Err-clause-says : goal.returns-in-Err-clause-says
returns-in-Err-clause-says g c =
    no-carrier (head_of c.args.log.notation) c.args.log.notation c.args.log.times c.args.log.max
    (g.W.Sink.contents c.args.writer.now) c.carrier_fault.result
