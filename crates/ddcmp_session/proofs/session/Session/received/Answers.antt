use Rattle.std.proofs.Common.{◌∙◌, ap, sym, take}
use Rattle.std.specs.Prelude.{option_to_list}
use Rattle.ddcmp_core.specs.declared.counters.Counters.{Counters}
use Rattle.ddcmp_proto.proofs.FeedLaws.{after_piece-none, notices_of_piece-none}
use Rattle.ddcmp_proto.specs.Bytes.{notices_of_piece}
use Rattle.ddcmp_session.specs.Logged.{LoggedSession}
use Rattle.ddcmp_session.specs.Session.{SessionView, course_received, wants_line}
use Rattle.ddcmp_session.proofs.CourseLaws.{received-none, received-one}
use Rattle.ddcmp_session.proofs.LineLogLaws.{notices-none, notices-one}
use Rattle.ddcmp_session.proofs.NoticeLaws.{wrote-none, wrote-one}
use Rattle.ddcmp_session.specs.contracts.session.Session as session
use Rattle.ddcmp_session.proofs.session.Session.received.Goals as goal

pub returns-then-not-wants_line-clause-state : goal.returns-then-not-wants_line-clause-state
returns-then-not-wants_line-clause-state c = λ text s.
    sym (after_piece-none text c.args.self.now.state.link.station.core)

pub returns-then-not-wants_line-clause-wrote : goal.returns-then-not-wants_line-clause-wrote
returns-then-not-wants_line-clause-wrote c = λ text s.
    wrote-none _ _ c.args.self.now.state.output
    (notices_of_piece-none text c.args.self.now.state.link.station.core)

pub returns-in-Some-clause-wrote : goal.returns-in-Some-clause-wrote
returns-in-Some-clause-wrote c =
    rw (sym c.self.view_is) (λ text s.
    wrote-one _ _ c.in-Some.notice _ _
    (c.feed-fed.ensures.told text s ∙ ap option_to_list c.in-Some.is)
    c.report_notice.ensures.wrote)

pub returns-in_default-clause-wrote : goal.returns-in_default-clause-wrote
returns-in_default-clause-wrote c =
    rw (sym c.self.view_is) (λ text s.
    wrote-none _ _ c.self.inside.output
    (c.feed-fed.ensures.told text s ∙ ap option_to_list c.in_default.is))

pub returns-in-Some-clause-course : goal.returns-in-Some-clause-course
returns-in-Some-clause-course c =
    rw (sym c.self.view_is) (λ text s.
    received-one (session.the_view c.self.inside).state c.feed-fed.new.self _ _ c.look.new.self
    (c.if-not-wants_line.ensures ∙ ap (λ (v : LoggedSession). wants_line v.state)
    (sym c.self.view_is))
    (ap (λ (k : Counters). k.nak_received) c.counters.ensures) c.look.ensures
    c.in-Some.notice _ (c.feed-fed.ensures.told text s ∙ ap option_to_list c.in-Some.is)
    c.report_notice.ensures.course
    ∙ ap (λ (v : SessionView). course_received (session.the_view c.self.inside).state v.link
    (notices_of_piece text (take c.feed-fed.result.used c.args.bytes.now)
    c.self.inside.link.station.core)) (sym c.report_notice.ensures.stays))

pub returns-in_default-clause-stands : goal.returns-in_default-clause-stands
returns-in_default-clause-stands c = rw (sym c.self.view_is) c.feed-fed.ensures.stands

pub returns-in_default-clause-course : goal.returns-in_default-clause-course
returns-in_default-clause-course c =
    rw (sym c.self.view_is) (λ text s.
    received-none (session.the_view c.self.inside).state c.feed-fed.new.self _ _ c.look.new.self
    (c.if-not-wants_line.ensures ∙ ap (λ (v : LoggedSession). wants_line v.state)
    (sym c.self.view_is))
    (ap (λ (k : Counters). k.nak_received) c.counters.ensures) c.look.ensures
    (c.feed-fed.ensures.told text s ∙ ap option_to_list c.in_default.is))

pub returns-in-Some-clause-errors : goal.returns-in-Some-clause-errors
returns-in-Some-clause-errors c =
    rw (sym c.self.view_is) (λ wanted text s.
    notices-one _ _ c.in-Some.notice _ _
    (c.feed-fed.ensures.told text s ∙ ap option_to_list c.in-Some.is)
    c.report_notice.ensures.errors)

pub returns-in_default-clause-errors : goal.returns-in_default-clause-errors
returns-in_default-clause-errors c =
    rw (sym c.self.view_is) (λ wanted text s.
    notices-none _ _ c.self.inside.errors
    (c.feed-fed.ensures.told text s ∙ ap option_to_list c.in_default.is))
