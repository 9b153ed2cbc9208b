use Rattle.std.proofs.Common.{◌∙◌, ap, sym, subst, take, List, ℕ, ◌≡◌}
use Rattle.std.proofs.lemmas.List.{take_min}
use Rattle.ddcmp_streams.specs.declared.trace.Way.TheVariants.{ToLine}
use Rattle.ddcmp_session.specs.Logged.{LogView, Traces}
use Rattle.ddcmp_streams.specs.Trace.{Logs}
use Rattle.ddcmp_session.proofs.LineLogLaws.{traces-some, traces-none}
use Rattle.ddcmp_session.specs.contracts.session.Session as session
use Rattle.ddcmp_session.proofs.session.Session.trace_taken.Goals.{in-Some, in_default}
use Rattle.ddcmp_session.proofs.session.Session.trace_taken.Goals as goal

pub returns-clause-traced : goal.returns-clause-traced
returns-clause-traced c =
    let old : LogView = (session.the_view c.self.inside).log in
    let waiting : List ℕ = c.self.inside.link.outbox.waiting in
    let bytes : take c.min-n.result c.unsent-unsent.result.now ≡ take c.args.n waiting =
    ap (λ k. take k c.unsent-unsent.result.now) c.min-n.ensures
    ∙ take_min c.args.n c.unsent-unsent.result.now
    ∙ ap (take c.args.n) c.unsent-unsent.ensures in
    rw (sym c.self.view_is) (elim c.match-self.branch [
      | in-Some w ↦
          subst
          (λ i. Traces (Logs ToLine (take c.args.n waiting)) old.trace old
          (session.the_view i).log)
          (sym w.self-inside-is)
          (traces-some (Logs ToLine (take c.args.n waiting)) w.in-Some.trace w.log.new.self old
          w.log.new.errors w.in-Some.is
          (subst (λ b. Logs ToLine b w.in-Some.trace w.log.new.self old.errors
          w.log.new.errors) bytes w.log.ensures))
      | in_default w ↦
          traces-none (Logs ToLine (take c.args.n waiting)) old
          (session.the_view c.match-self.self-inside).log w.in_default.is
          (ap (λ i. (session.the_view i).log) w.self-inside-is)
    ])
