use Rattle.ddcmp_tap.specs.Logging.{head_of}
use Rattle.ddcmp_tap.proofs.HeadLaws.{no-carrier, not-begun}
use Rattle.ddcmp_tap.proofs.connections.carry.Goals as goal

pub returns-in-Err-clause-says : goal.returns-in-Err-clause-says
returns-in-Err-clause-says g c =
    no-carrier (head_of c.args.log.notation) c.args.log.notation c.args.log.times c.args.log.max
    (g.W.Sink.contents c.args.writer.now) c.carrier_fault-why.result

pub returns-in-Err-new-clause-says : goal.returns-in-Err-new-clause-says
returns-in-Err-new-clause-says g c =
    not-begun (head_of c.args.log.notation) c.args.log.notation c.args.log.times c.args.log.max
    (g.W.Sink.contents c.args.writer.now) _ c.no_waiting.ensures
