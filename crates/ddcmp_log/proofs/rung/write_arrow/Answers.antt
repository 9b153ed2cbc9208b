use Rattle.std.proofs.Common.{ap, sym}
use Rattle.ddcmp_io.proofs.WrittenLaws.{sends-then}
use Rattle.ddcmp_io.proofs.TextLaws.{sends-as}
use Rattle.ddcmp_log.specs.Ladder.{rung}
use Rattle.ddcmp_log.proofs.rung.write_arrow.Goals as goal

pub returns-in-Caller : goal.returns-in-Caller
returns-in-Caller g c =
    sends-as (ap (λ side. rung side c.args.stroke c.args.label.now) (sym c.in-Caller.is))
    (sends-then (sends-then (sends-then (sends-then c.write.ensures.sends
    c.write-in-Caller.ensures.sends) c.write-in-Caller-2.ensures.sends)
    c.write_strokes.ensures) c.write-in-Caller-3.ensures.sends)

pub returns-in-Called : goal.returns-in-Called
returns-in-Called g c =
    sends-as (ap (λ side. rung side c.args.stroke c.args.label.now) (sym c.in-Called.is))
    (sends-then (sends-then (sends-then (sends-then c.write-in-Called.ensures.sends
    c.write_strokes-in-Called.ensures) c.write-in-Called-2.ensures.sends)
    c.write-in-Called-3.ensures.sends) c.write-in-Called-4.ensures.sends)
