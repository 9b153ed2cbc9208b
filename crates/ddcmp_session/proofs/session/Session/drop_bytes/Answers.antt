use Rattle.std.proofs.Common.{◌≡◌, ◌∙◌, ◌+◌, [], ap, arith, refl, subst, sym}
use Rattle.ddcmp_session.specs.contracts.session.Session as session
use Rattle.ddcmp_session.proofs.DropLaws.{Dropped, all-dropped, drops-none, drops-part}
use Rattle.ddcmp_session.proofs.DropReportLaws.{drops-all, drops-silent, drops-slice, has-dropped}
use Rattle.ddcmp_session.proofs.InputLaws.{no-entries}
use Rattle.ddcmp_session.proofs.LogLaws.{reads-on}
use Rattle.ddcmp_session.specs.Logged.{LoggedSession}
use Rattle.ddcmp_session.specs.Reported.{dropping}
use Rattle.ddcmp_session.proofs.session.Session.drop_bytes.Goals as goal

pub loop-part-init : goal.loop-part-init
loop-part-init c = (
  drops-none c.args.bytes.now c.args.self.now.state,
  refl,
  drops-silent [] c.args.self.now.state.messages (dropping c.args.self.now)
      (no-entries c.args.self.now.state.messages),
)

pub loop-part-preserved : goal.loop-part-preserved
loop-part-preserved c = (
  subst
      (λ n. Dropped c.args.bytes.now c.args.self.now.state (c.loop-part._part + 1)
      (c.loop-part.at + c.push-pushed.result.used) (c.loop-part.lost + n)
      c.drop_entry-lost.new.self.state)
      (sym c.drop_entry-lost.ensures.lost)
      (drops-part c.args.bytes.now c.args.self.now.state c.loop-part.self.state
      (session.the_view c.self.inside).state c.loop-part._part c.loop-part.at c.loop-part.lost
      c.push-pushed.result.used c.push-pushed.result.entry c.push-pushed.new.self
      c.drop_entry-lost.new.self.state c.loop-part.invariant.0
      (ap (λ (s : LoggedSession). s.state) c.self.view_is)
      (omega (arith, c.if-at-bytes.false, c.loop-part.invariant.0.most))
      c.push-pushed.ensures.used c.push-pushed.ensures.whole c.push-pushed.ensures.entries
      c.push-pushed.ensures.state c.drop_entry-lost.ensures.stays),
  reads-on c.args.self.now.log c.loop-part.self.log c.drop_entry-lost.new.self.log
      c.loop-part.invariant.1
      (subst
      (λ (s : LoggedSession). c.drop_entry-lost.new.self.log ≡ record s.log {
        errors = c.drop_entry-lost.new.self.log.errors;
        read = c.drop_entry-lost.new.self.log.read;
      }) c.self.view_is c.drop_entry-lost.ensures.log),
  drops-slice c.args.bytes.now _ c.loop-part.at c.push-pushed.result.used
      c.args.self.now.state.messages (session.the_view c.self.inside).state.messages
      c.push-pushed.new.self c.push-pushed.result.entry (dropping c.args.self.now)
      (dropping c.loop-part.self) (dropping c.drop_entry-lost.new.self) refl
      (ap (λ (s : LoggedSession). s.state.messages) c.self.view_is
      ∙ c.loop-part.invariant.0.messages)
      c.loop-part.invariant.2 c.push-pushed.ensures.first c.push-pushed.ensures.entries
      c.push-pushed.ensures.state
      (has-dropped c.push-pushed.result.entry c.push-pushed.new.self c.push-pushed.new.self
      (dropping c.loop-part.self) (dropping (session.the_view c.self.inside))
      (dropping c.drop_entry-lost.new.self)
      (ap (λ (s : LoggedSession). dropping s) c.self.view_is) refl
      c.drop_entry-lost.ensures.errors c.drop_entry-lost.ensures.read
      c.drop_entry-lost.ensures.refused c.drop_entry-lost.ensures.log),
)

pub returns-after-loop-part-clause-lost : goal.returns-after-loop-part-clause-lost
returns-after-loop-part-clause-lost c =
    (all-dropped c.args.bytes.now c.args.self.now.state c.loop-part.self.state c.loop-part._part
    c.loop-part.at
    c.loop-part.lost c.loop-part.invariant.0
    (omega (arith, c.loop-part-test.false, c.loop-part.invariant.0.parts))).0

pub returns-after-loop-part-clause-messages : goal.returns-after-loop-part-clause-messages
returns-after-loop-part-clause-messages c =
    (all-dropped c.args.bytes.now c.args.self.now.state c.loop-part.self.state c.loop-part._part
    c.loop-part.at
    c.loop-part.lost c.loop-part.invariant.0
    (omega (arith, c.loop-part-test.false, c.loop-part.invariant.0.parts))).1

pub returns-then-at-bytes-clause-lost : goal.returns-then-at-bytes-clause-lost
returns-then-at-bytes-clause-lost c =
    (all-dropped c.args.bytes.now c.args.self.now.state c.loop-part.self.state c.loop-part._part
    c.loop-part.at
    c.loop-part.lost c.loop-part.invariant.0 (omega (arith, c.if-at-bytes.true))).0

pub returns-then-at-bytes-clause-messages : goal.returns-then-at-bytes-clause-messages
returns-then-at-bytes-clause-messages c =
    (all-dropped c.args.bytes.now c.args.self.now.state c.loop-part.self.state c.loop-part._part
    c.loop-part.at
    c.loop-part.lost c.loop-part.invariant.0 (omega (arith, c.if-at-bytes.true))).1

pub returns-after-loop-part-clause-dropped : goal.returns-after-loop-part-clause-dropped
returns-after-loop-part-clause-dropped c =
    drops-all c.args.bytes.now c.loop-part.at c.args.self.now.state.messages
    (dropping c.args.self.now) (dropping c.loop-part.self)
    (omega (arith, c.loop-part-test.false, c.loop-part.invariant.0.parts)) c.loop-part.invariant.2

pub returns-then-at-bytes-clause-dropped : goal.returns-then-at-bytes-clause-dropped
returns-then-at-bytes-clause-dropped c =
    drops-all c.args.bytes.now c.loop-part.at c.args.self.now.state.messages
    (dropping c.args.self.now) (dropping c.loop-part.self) (omega (arith, c.if-at-bytes.true))
    c.loop-part.invariant.2
