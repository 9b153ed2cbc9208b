use Rattle.std.proofs.Common.{◌∙◌, ap, sym, subst, refl}
use Rattle.ddcmp_io.specs.declared.carrier.End.TheVariants.{A, B}
use Rattle.ddcmp_pair.specs.Run.{run}
use Rattle.ddcmp_pair.specs.Settle.{crossing, WantsMemory}
use Rattle.ddcmp_pair.proofs.Runs.{on-err, run-append, wanted-later}
use Rattle.ddcmp_pair.proofs.Watching.{saw-next}
use Rattle.ddcmp_pair.proofs.pair.Pair.exchange.Goals as goal

pub returns-in_err-second-clause-memory : goal.returns-in_err-second-clause-memory
returns-in_err-second-clause-memory g c =
    let p = c.args.self.now in
    on-err _ (wanted-later (crossing A p) _ p c.cross-2.new.self
    (subst (λ q. WantsMemory (crossing B q) q c.cross-2.new.self) (c.in_ok-first.ensures.state refl)
    c.in_err-second.ensures.memory))

pub returns-then-first-clause-state : goal.returns-then-first-clause-state
returns-then-first-clause-state g c = λ ok.
    let p = c.args.self.now in
    c.in_ok-second.ensures.state refl
    ∙ ap (λ q. run (crossing B q) q) (c.in_ok-first.ensures.state refl)
    ∙ sym (run-append (crossing A p) _ p)

pub returns-else-first-clause-state : goal.returns-else-first-clause-state
returns-else-first-clause-state g c = λ ok.
    let p = c.args.self.now in
    c.in_ok-second.ensures.state refl
    ∙ ap (λ q. run (crossing B q) q) (c.in_ok-first.ensures.state refl)
    ∙ sym (run-append (crossing A p) _ p)

pub returns-then-first-clause-seen : goal.returns-then-first-clause-seen
returns-then-first-clause-seen g c = λ ok.
    saw-next _ _ _ (crossing A c.args.self.now) (λ q. crossing B q) c.args.self.now c.cross.new.self
    (c.in_ok-first.ensures.seen refl) (c.in_ok-first.ensures.state refl)
    (c.in_ok-second.ensures.seen refl)

pub returns-else-first-clause-seen : goal.returns-else-first-clause-seen
returns-else-first-clause-seen g c = λ ok.
    saw-next _ _ _ (crossing A c.args.self.now) (λ q. crossing B q) c.args.self.now c.cross.new.self
    (c.in_ok-first.ensures.seen refl) (c.in_ok-first.ensures.state refl)
    (c.in_ok-second.ensures.seen refl)
