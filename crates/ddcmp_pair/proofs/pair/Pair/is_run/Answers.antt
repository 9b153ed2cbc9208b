use Rattle.std.proofs.Common.{Bool, ◌≡◌, ◌∙◌, subst, sym}
use Rattle.ddcmp_io.specs.declared.carrier.End.TheVariants.{A, B}
use Rattle.ddcmp_pair.specs.InOrder.{IsInOrder}
use Rattle.ddcmp_pair.specs.Pairs.{IsRunBy}
use Rattle.ddcmp_pair.specs.Run.{PairState}
use Rattle.ddcmp_pair.proofs.Modes.{mode-of-run, run-by-mode, holds-taken}
use Rattle.ddcmp_pair.proofs.Ordered.{run-in-order, run-holds}
use Rattle.ddcmp_pair.proofs.pair.Pair.is_run.Goals as goal

pub returns-clause-run : goal.returns-clause-run
returns-clause-run c =
    subst (λ (p : PairState). IsRunBy p.a.core.station.by_user p) c.self.view_is
    (run-by-mode c.self.inside.ends c.self.invariant.1)

pub returns-clause-mode : goal.returns-clause-mode
returns-clause-mode c =
    subst (λ (p : PairState). p.b.core.station.by_user ≡ p.a.core.station.by_user) c.self.view_is
    (mode-of-run c.self.inside.ends c.self.invariant.1 B
    ∙ sym (mode-of-run c.self.inside.ends c.self.invariant.1 A))

pub returns-clause-early : goal.returns-clause-early
returns-clause-early c = λ early.
    subst (λ (b : Bool). IsRunBy b c.args.self.now) early (returns-clause-run c)

pub returns-clause-order : goal.returns-clause-order
returns-clause-order c =
    subst IsInOrder c.self.view_is (run-in-order c.self.inside.ends c.self.invariant.1)

pub returns-clause-taken : goal.returns-clause-taken
returns-clause-taken c =
    holds-taken c.args.self.now (run-holds c.args.self.now (returns-clause-run c))
