use Rattle.std.proofs.Common.{◌≡◌, ◌∙◌, ap, sym}
use Rattle.ddcmp_streams.specs.declared.messages.MessageForm.{MessageForm}
use Rattle.ddcmp_session.specs.declared.session.Session.TheInside.{Inside}
use Rattle.ddcmp_streams.specs.Errors.{ErrorsView}
use Rattle.ddcmp_session.specs.Session.{form_of}
use Rattle.ddcmp_session.specs.Text.{dropped_by}
use Rattle.ddcmp_session.proofs.LineLogLaws.{HasNoticeLine, drops-none, line-in-binary}
use Rattle.ddcmp_session.proofs.LineLogLaws.{line-in-events, line-in-lines, noticed-alone, noticed-loss}
use Rattle.ddcmp_session.proofs.session.Session.report_notice.Goals.{in-Digits, in-Binary, in-Events}
use Rattle.ddcmp_session.proofs.session.Session.report_notice.Goals as goal

pub returns-in-Restarted-clause-errors : goal.returns-in-Restarted-clause-errors
returns-in-Restarted-clause-errors c =
    let by : MessageForm = form_of c.self.inside.messages in
    let old : ErrorsView = c.self.inside.errors in
    let mid : ErrorsView = c.match-self.self-inside.errors in
    let line : HasNoticeLine by c.args.notice old mid =
    elim c.match-self.branch [
      | in-Digits w ↦
          line-in-lines by _ c.args.notice old mid (sym c.self.invariant.0) w.in-Digits.is
          (ap (λ (i : Inside). i.errors) w.self-inside-is)
      | in-Binary w ↦
          line-in-binary by c.args.notice old w.put_notice.new.errors mid
          (sym c.self.invariant.0 ∙ w.in-Binary.is)
          (ap (λ (i : Inside). i.errors) w.self-inside-is) w.put_notice.ensures
      | in-Events w ↦
          line-in-events by c.args.notice old mid (sym c.self.invariant.0 ∙ w.in-Events.is)
          (ap (λ (i : Inside). i.errors) w.self-inside-is)
    ] in
    let same : form_of c.match-self.self-inside.messages ≡ by =
    elim c.match-self.branch [
      | in-Digits w ↦ ap (λ (i : Inside). form_of i.messages) w.self-inside-is
      | in-Binary w ↦ ap (λ (i : Inside). form_of i.messages) w.self-inside-is
      | in-Events w ↦ ap (λ (i : Inside). form_of i.messages) w.self-inside-is
    ] in
    rw (sym c.self.view_is) (noticed-loss by (form_of c.match-self.self-inside.messages)
    c.args.notice c.in-Restarted.lost old mid c.report_lost-has_room.new.self.log.errors same
    c.in-Restarted.is line c.report_lost-has_room.ensures.errors)

pub returns-in-PeerRestarted-clause-errors : goal.returns-in-PeerRestarted-clause-errors
returns-in-PeerRestarted-clause-errors c =
    let by : MessageForm = form_of c.self.inside.messages in
    let old : ErrorsView = c.self.inside.errors in
    let mid : ErrorsView = c.match-self.self-inside.errors in
    let line : HasNoticeLine by c.args.notice old mid =
    elim c.match-self.branch [
      | in-Digits w ↦
          line-in-lines by _ c.args.notice old mid (sym c.self.invariant.0) w.in-Digits.is
          (ap (λ (i : Inside). i.errors) w.self-inside-is)
      | in-Binary w ↦
          line-in-binary by c.args.notice old w.put_notice.new.errors mid
          (sym c.self.invariant.0 ∙ w.in-Binary.is)
          (ap (λ (i : Inside). i.errors) w.self-inside-is) w.put_notice.ensures
      | in-Events w ↦
          line-in-events by c.args.notice old mid (sym c.self.invariant.0 ∙ w.in-Events.is)
          (ap (λ (i : Inside). i.errors) w.self-inside-is)
    ] in
    rw (sym c.self.view_is)
    (noticed-alone by c.args.notice old mid (ap dropped_by c.in-PeerRestarted.is) line)

pub returns-in_default-clause-errors : goal.returns-in_default-clause-errors
returns-in_default-clause-errors c =
    let by : MessageForm = form_of c.self.inside.messages in
    let old : ErrorsView = c.self.inside.errors in
    let mid : ErrorsView = c.match-self.self-inside.errors in
    let line : HasNoticeLine by c.args.notice old mid =
    elim c.match-self.branch [
      | in-Digits w ↦
          line-in-lines by _ c.args.notice old mid (sym c.self.invariant.0) w.in-Digits.is
          (ap (λ (i : Inside). i.errors) w.self-inside-is)
      | in-Binary w ↦
          line-in-binary by c.args.notice old w.put_notice.new.errors mid
          (sym c.self.invariant.0 ∙ w.in-Binary.is)
          (ap (λ (i : Inside). i.errors) w.self-inside-is) w.put_notice.ensures
      | in-Events w ↦
          line-in-events by c.args.notice old mid (sym c.self.invariant.0 ∙ w.in-Events.is)
          (ap (λ (i : Inside). i.errors) w.self-inside-is)
    ] in
    rw (sym c.self.view_is)
    (noticed-alone by c.args.notice old mid
    (drops-none c.args.notice c.in_default.not-Restarted) line)
