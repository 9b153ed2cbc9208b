use Rattle.std.proofs.Common.{subst, codes}
use Rattle.ddcmp_bridge.specs.Reporting.{ReportsCounts}
use Rattle.ddcmp_bridge.specs.declared.counts.Counts.{Counts}
use Rattle.ddcmp_bridge.proofs.reports.Reports.report.Goals as goal

pub returns-clause-both : goal.returns-clause-both
returns-clause-both c = record {
  middle = c.report_counts.new.self;
  first =
      subst
      (λ (m : Counts). ReportsCounts c.args.self.now.is_json (codes ">") c.args.there m
      c.args.errors.now c.report_counts.new.self)
      c.since.ensures c.report_counts.ensures;
  second =
      subst
      (λ (m : Counts). ReportsCounts c.args.self.now.is_json (codes "<") c.args.back m
      c.report_counts.new.self c.report_counts-2.new.self)
      c.since-2.ensures c.report_counts-2.ensures;
}
