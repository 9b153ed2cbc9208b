use Rattle.std.proofs.Common.{ap, sym}
use Rattle.ddcmp_io.proofs.WrittenLaws.{sends-then}
use Rattle.ddcmp_io.proofs.TextLaws.{sends-as}
use Rattle.ddcmp_log.specs.Logged.{plain_front}
use Rattle.ddcmp_log.proofs.front.write_plain_front.Goals as goal

pub returns-in-Some : goal.returns-in-Some
returns-in-Some g c =
    sends-as (ap (λ stamp. plain_front stamp c.args.origin.side) (sym c.in-Some.is))
    (sends-then (sends-then (sends-then c.write_stamp.ensures c.write.ensures.sends)
    (sends-as c.mark.ensures c.write-in-Some.ensures.sends)) c.write-in-Some-2.ensures.sends)

pub returns-in-None : goal.returns-in-None
returns-in-None g c =
    sends-as (ap (λ stamp. plain_front stamp c.args.origin.side) (sym c.in-None.is))
    (sends-then (sends-as c.mark-in-None.ensures c.write-in-None.ensures.sends)
    c.write-in-None-2.ensures.sends)
