use Rattle.std.proofs.Common.{◌≡◌, ◌∙◌, ◌<◌, ◌≤◌, ap, subst, length, min}
use Rattle.ddcmp_io.specs.Queue.{after_taken}
use Rattle.ddcmp_session.specs.Logged.{LoggedSession}
use Rattle.ddcmp_session.specs.Session.{SessionView, with_taken}
use Rattle.ddcmp_session.specs.contracts.session.Session as session
use Rattle.ddcmp_session.proofs.TakenLaws.{output-all, output-part}
use Rattle.ddcmp_session.proofs.session.Session.output_took.Goals.{then-queued-n, else-queued-n}
use Rattle.ddcmp_session.proofs.session.Session.output_took.Goals as goal

pub returns-clause-state : goal.returns-clause-state
returns-clause-state c =
    let old : SessionView = c.args.self.now.state in
    let mid : SessionView = (session.the_view c.self-2.inside).state in
    let waiting : c.waiting-queued.result.now ≡ old.output.waiting =
    c.waiting-queued.ensures ∙ ap (λ (s : LoggedSession). s.state.output.waiting) c.self.view_is in
    let output : c.took.new.self
    ≡ after_taken (min c.args.n (length old.output.waiting)) mid.output =
    c.took.ensures.taken
    ∙ ap (λ k. after_taken k mid.output)
    (c.min.ensures ∙ ap (λ xs. min c.args.n (length xs)) waiting) in
    elim c.if-queued-n.branch [
      | then-queued-n w ↦
          output-all c.args.n old mid c.took.new.self output
          (subst (λ xs. length xs ≤ c.args.n) waiting w.if-queued-n.true)
          (ap (λ (s : LoggedSession). s.state) c.self-2.view_is
          ∙ ap (λ (s : LoggedSession). s.state) w.self-is
          ∙ w.take_mail-then-queued-n.ensures.state
          ∙ ap (λ (s : LoggedSession). with_taken s.state.unwritten old) w.take_mail.view_is)
      | else-queued-n w ↦
          output-part c.args.n old mid c.took.new.self output
          (subst (λ xs. c.args.n < length xs) waiting w.if-queued-n.false)
          (ap (λ (s : LoggedSession). s.state) c.self-2.view_is
          ∙ ap (λ (s : LoggedSession). s.state) w.self-is)
    ]
