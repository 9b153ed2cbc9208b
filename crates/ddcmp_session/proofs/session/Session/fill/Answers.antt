use Rattle.std.proofs.Common.{◌∙◌, ap, refl}
use Rattle.ddcmp_session.specs.contracts.session.Session as session
use Rattle.ddcmp_session.specs.Logged.{LoggedSession}
use Rattle.ddcmp_session.specs.Session.{SessionView}
use Rattle.ddcmp_session.proofs.FrameLaws.{at-most, not-datagrams, one-datagram, puts-none}
use Rattle.ddcmp_session.proofs.FrameLaws.{puts-at-most-none, puts-at-most-one, puts-some}
use Rattle.ddcmp_session.proofs.FrameLaws.{puts-then}
use Rattle.ddcmp_session.proofs.session.Session.fill.Goals as goal
use Rattle.ddcmp_session.proofs.session.Session.fill.Goals.{else-is_of_datagrams-via-then-is_of_datagrams+else-not-is_empty}
use Rattle.ddcmp_session.proofs.session.Session.fill.Goals.{else-is_of_datagrams-via-else-is_of_datagrams}

pub returns-then-not-is_empty-clause-frames : goal.returns-then-not-is_empty-clause-frames
returns-then-not-is_empty-clause-frames c = puts-none c.args.self.now.state

pub returns-then-not-is_empty-clause-datagrams : goal.returns-then-not-is_empty-clause-datagrams
returns-then-not-is_empty-clause-datagrams c = λ e. puts-at-most-none _ c.args.self.now.state

pub loop-self-init : goal.loop-self-init
loop-self-init c = record {
  puts = puts-none c.args.self.now.state;
  log = refl;
  first = λ e. (
    elim c.else-is_of_datagrams.branch [
      | else-is_of_datagrams-via-then-is_of_datagrams+else-not-is_empty w ↦
          one-datagram w.unsent.result.now (session.the_view c.self.inside) c.args.self.now
          w.unsent.ensures w.if-not-is_empty.ensures c.self.view_is
      | else-is_of_datagrams-via-else-is_of_datagrams w ↦
          not-datagrams c.is_of_datagrams.result c.self.inside.kind c.args.self.now.state.kind
          c.is_of_datagrams.ensures w.if-is_of_datagrams.false
          (ap (λ (s : LoggedSession). s.state.kind) c.self.view_is) e
    ],
    refl,
  );
}

pub loop-self-preserved : goal.loop-self-preserved
loop-self-preserved c = record {
  puts =
      puts-then c.args.self.now.state c.loop-self.self.state c.fill_one.new.self.state
      c.loop-self.invariant.puts (puts-some _ _ _ c.fill_one.ensures.state);
  log = c.fill_one.ensures.log ∙ c.loop-self.invariant.log;
  first = λ e.
      not-datagrams c.is_of_datagrams-in-loop-self.result c.self-in-loop-self.inside.kind
      c.args.self.now.state.kind c.is_of_datagrams-in-loop-self.ensures
      c.if-is_of_datagrams-2.false
      (ap (λ (s : LoggedSession). s.state.kind) c.self-in-loop-self.view_is
      ∙ ap (λ (s : SessionView). s.kind) c.fill_one.ensures.state
      ∙ ap (λ (s : SessionView). s.kind) (c.loop-self.invariant.first e).1) e;
}

pub returns-after-loop-self-clause-frames : goal.returns-after-loop-self-clause-frames
returns-after-loop-self-clause-frames c =
    puts-then c.args.self.now.state c.loop-self.self.state c.fill_one.new.self.state
    c.loop-self.invariant.puts (puts-some _ _ _ c.fill_one.ensures.state)

pub returns-after-loop-self-clause-datagrams : goal.returns-after-loop-self-clause-datagrams
returns-after-loop-self-clause-datagrams c = λ e.
    at-most c.args.self.now.state c.loop-self.self.state c.fill_one.new.self.state
    (c.loop-self.invariant.first e).0 (c.loop-self.invariant.first e).1
    (puts-at-most-one _ _ _ c.fill_one.ensures.state)

pub returns-then-is_of_datagrams-2-clause-frames :
    goal.returns-then-is_of_datagrams-2-clause-frames
returns-then-is_of_datagrams-2-clause-frames c =
    puts-then c.args.self.now.state c.loop-self.self.state c.fill_one.new.self.state
    c.loop-self.invariant.puts (puts-some _ _ _ c.fill_one.ensures.state)

pub returns-then-is_of_datagrams-2-clause-datagrams :
    goal.returns-then-is_of_datagrams-2-clause-datagrams
returns-then-is_of_datagrams-2-clause-datagrams c = λ e.
    at-most c.args.self.now.state c.loop-self.self.state c.fill_one.new.self.state
    (c.loop-self.invariant.first e).0 (c.loop-self.invariant.first e).1
    (puts-at-most-one _ _ _ c.fill_one.ensures.state)
