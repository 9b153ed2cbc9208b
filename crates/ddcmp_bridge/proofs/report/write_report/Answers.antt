use Rattle.ddcmp_io.proofs.WrittenLaws.{sends-then}
use Rattle.ddcmp_bridge.proofs.ReportLaws.{went-out}
use Rattle.ddcmp_bridge.proofs.report.write_report.Goals as goal

pub returns-clause-writes : goal.returns-clause-writes
returns-clause-writes g c =
    went-out _ _ _ _ _ _ _ _ c.requires.whole c.new-page.ensures c.flush.ensures.empty
    c.flush.ensures.broken
    (sends-then (sends-then c.write_direction.ensures c.write_direction-2.ensures)
    c.flush.ensures.sends)
