use Rattle.std.proofs.Common.{◌∙◌, ap, refl, sym}
use Rattle.ddcmp_session.proofs.NewRunLaws.{reports-new, runs-new}
use Rattle.ddcmp_session.proofs.NewRunLaws.{served-in, stop-of}
use Rattle.ddcmp_session.proofs.link.run_link.Goals as goal

pub returns-in-Ok-run_to_end-clause-served : goal.returns-in-Ok-run_to_end-clause-served
returns-in-Ok-run_to_end-clause-served g c = λ served e. (
  c.run_to_end.new.session.state,
  runs-new c.in-Ok-new.ensures c.in-Ok.ensures.made c.in-Ok.ensures.stands
      c.in-Ok-run_to_end.ensures.ends,
  c.in-Ok-run_to_end.ensures.whole refl,
  sym (served-in e) ∙ c.served.ensures,
)

pub returns-clause-lost : goal.returns-clause-lost
returns-clause-lost g c = λ count e. (
  c.run_to_end.new.session.state,
  runs-new c.in-Ok-new.ensures c.in-Ok.ensures.made c.in-Ok.ensures.stands
      c.in-Err-run_to_end.ensures.ends,
  (c.in-Err-run_to_end.ensures.lost count (ap stop-of e)).0,
  (c.in-Err-run_to_end.ensures.lost count (ap stop-of e)).1,
)

pub returns-clause-left : goal.returns-clause-left
returns-clause-left g c = λ e. (
  c.run_to_end.new.session.state,
  runs-new c.in-Ok-new.ensures c.in-Ok.ensures.made c.in-Ok.ensures.stands
      c.in-Err-run_to_end.ensures.ends,
  c.in-Err-run_to_end.ensures.left (ap stop-of e),
)

pub returns-clause-unread : goal.returns-clause-unread
returns-clause-unread g c = λ e. (
  c.run_to_end.new.session.state,
  runs-new c.in-Ok-new.ensures c.in-Ok.ensures.made c.in-Ok.ensures.stands
      c.in-Err-run_to_end.ensures.ends,
  (c.in-Err-run_to_end.ensures.unread (ap stop-of e)).1,
)

pub returns-clause-reports : goal.returns-clause-reports
returns-clause-reports g c = λ fault untimed e.
    reports-new c.in-Ok-new.ensures c.in-Ok.ensures.made c.in-Ok.ensures.stands
    (c.in-Err-run_to_end.ensures.reports fault untimed (ap stop-of e))

pub returns-in-Ok-run_to_end-clause-ran : goal.returns-in-Ok-run_to_end-clause-ran
returns-in-Ok-run_to_end-clause-ran g c = λ ran. (
  c.run_to_end.new.session.state,
  runs-new c.in-Ok-new.ensures c.in-Ok.ensures.made c.in-Ok.ensures.stands
      c.in-Ok-run_to_end.ensures.ends,
)

pub returns-clause-ran : goal.returns-clause-ran
returns-clause-ran g c = λ ran. (
  c.run_to_end.new.session.state,
  runs-new c.in-Ok-new.ensures c.in-Ok.ensures.made c.in-Ok.ensures.stands
      c.in-Err-run_to_end.ensures.ends,
)

pub returns-in-Err-clause-ran : goal.returns-in-Err-clause-ran
returns-in-Err-clause-ran g c = λ ran. absurd (ran _ refl)

pub returns-in_default-clause-ran : goal.returns-in_default-clause-ran
returns-in_default-clause-ran g c = λ ran. absurd (ran _ refl)
