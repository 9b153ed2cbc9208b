use Rattle.std.proofs.Common.{◌≡◌, ◌∙◌, Bool, true, false, cond}
use Rattle.ddcmp_session.specs.Session.{SessionView, after_queued, taken_at_once}
use Rattle.ddcmp_session.proofs.GoingLaws.{same-at}
use Rattle.ddcmp_session.proofs.TakenLaws.{takes-line}
use Rattle.ddcmp_laws.proofs.session_steps.delivers.Goals as goal

line-stays : (has : Bool) (old new : SessionView)
    → new ≡ record (cond has (after_queued old) old) { output = new.output }
    → new.link.station.line ≡ old.link.station.line
line-stays true old new stays =
    same-at (λ x. x.link.station.line) new _ stays ∙ takes-line (taken_at_once old) old.link
line-stays false old new stays = same-at (λ x. x.link.station.line) new _ stays

pub returns-clause-line : goal.returns-clause-line
returns-clause-line c =
    line-stays c.deliver.result c.args.session.now.state c.deliver.new.self.state
    c.deliver.ensures.stays
