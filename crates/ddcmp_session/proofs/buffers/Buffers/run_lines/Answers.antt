use Rattle.std.proofs.Common.{◌∙◌, refl}
use Rattle.ddcmp_session.proofs.LinesGo.{goes-over, none-over, over-then, reports-at, reports-by}
use Rattle.ddcmp_session.proofs.StopLaws.{keeps-same, keeps-then, stops}
use Rattle.ddcmp_session.proofs.buffers.Buffers.run_lines.Goals as goal

pub returns-clause-ends : goal.returns-clause-ends
returns-clause-ends g c = record {
  unclosed = c.run_each-ran.new.session.state;
  over =
      over-then c.run_each-ran.ensures.over
      (over-then (goes-over c.judge-judged.ensures.on) (none-over refl c.close_line.ensures));
  closes = c.judge-judged.ensures.closes;
  well = c.judge-judged.ensures.well;
  read = c.judge-judged.ensures.read_to_end;
}

pub returns-clause-stops : goal.returns-clause-stops
unfolding returns-clause-ends
returns-clause-stops g c = (
  returns-clause-ends g c,
  stops c.run_each-ran.ensures.over
      (keeps-then c.judge-judged.ensures.keeps (keeps-same c.close_line.ensures))
      c.run_each-ran.ensures.ended c.run_each-ran.ensures.left c.run_each-ran.ensures.shut
      c.run_each-ran.ensures.time c.judge-judged.ensures.judges,
)

pub returns-clause-reports : goal.returns-clause-reports
returns-clause-reports g c = λ fault untimed e.
    reports-at c.close_line.ensures
    (reports-by c.run_each-ran.ensures.over
    (λ same. c.run_each-ran.ensures.reports fault untimed (same ∙ e))
    (c.judge-judged.ensures.reports fault untimed e))
