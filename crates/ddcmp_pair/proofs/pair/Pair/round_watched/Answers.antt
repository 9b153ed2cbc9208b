use Rattle.std.proofs.Common.{◌≡◌, ◌∙◌, ap, sym, subst, refl}
use Rattle.std.specs.Prelude.{ℕ, Bool, IfOk}
use Rattle.ddcmp_pair.specs.Run.{PairState}
use Rattle.ddcmp_pair.specs.Settle.{settling, settled, WantsMemory}
use Rattle.ddcmp_pair.proofs.Runs.{on-err}
use Rattle.ddcmp_pair.proofs.Recoveries.{on-err-by, rounding-exchanges, rounding-quiet, rounded-is}
use Rattle.ddcmp_pair.proofs.Recoveries.{both-expired, wanted-at-first, wanted-between}
use Rattle.ddcmp_pair.proofs.Recoveries.{wanted-in-round}
use Rattle.ddcmp_pair.proofs.Watching.{saw-round}
use Rattle.ddcmp_pair.proofs.pair.Pair.round_watched.Goals as goal

pub returns-in_err-_first-clause-memory : goal.returns-in_err-_first-clause-memory
returns-in_err-_first-clause-memory g c =
    on-err _
    (wanted-at-first c.args.self.now c.step_watched.new.self c.in_err-_first.ensures.memory
    c.in_err-_first.ensures.asks)

pub returns-in_err-_second-clause-memory : goal.returns-in_err-_second-clause-memory
returns-in_err-_second-clause-memory g c =
    on-err _
    (wanted-between c.args.self.now c.step_watched.new.self c.step_watched-2.new.self
    (c.in_ok-_first.ensures.state refl)
    c.in_err-_second.ensures.memory c.in_err-_second.ensures.asks)

pub returns-clause-state : goal.returns-clause-state
returns-clause-state g c = λ ok.
    let p = c.args.self.now in
    let e =
    both-expired p c.step_watched.new.self c.step_watched-2.new.self
    (c.in_ok-_first.ensures.state refl)
    (c.in_ok-_second.ensures.state refl) in
    c.settle_watched.ensures.state ok ∙ ap (λ (q : PairState). settled q) e ∙ sym (rounded-is p)

pub returns-clause-exchanges : goal.returns-clause-exchanges
returns-clause-exchanges g c =
    let p = c.args.self.now in
    let e =
    both-expired p c.step_watched.new.self c.step_watched-2.new.self
    (c.in_ok-_first.ensures.state refl)
    (c.in_ok-_second.ensures.state refl) in
    subst (λ (n : ℕ). IfOk c.settle_watched.result (λ s. s.exchanges ≡ n))
    (ap (λ (q : PairState). (settling q).exchanges) e ∙ sym (rounding-exchanges p))
    c.settle_watched.ensures.exchanges

pub returns-clause-quiet : goal.returns-clause-quiet
returns-clause-quiet g c =
    let p = c.args.self.now in
    let e =
    both-expired p c.step_watched.new.self c.step_watched-2.new.self
    (c.in_ok-_first.ensures.state refl)
    (c.in_ok-_second.ensures.state refl) in
    subst (λ (b : Bool). IfOk c.settle_watched.result (λ s. s.quiet ≡ b))
    (ap (λ (q : PairState). (settling q).quiet) e ∙ sym (rounding-quiet p))
    c.settle_watched.ensures.quiet

pub returns-clause-memory : goal.returns-clause-memory
returns-clause-memory g c =
    let p = c.args.self.now in
    let e =
    both-expired p c.step_watched.new.self c.step_watched-2.new.self
    (c.in_ok-_first.ensures.state refl)
    (c.in_ok-_second.ensures.state refl) in
    on-err-by c.settle_watched.result
    (λ s. wanted-in-round p c.settle_watched.new.self
    (subst (λ (q : PairState). WantsMemory (settling q).events q c.settle_watched.new.self) e s))
    c.settle_watched.ensures.memory

pub returns-clause-seen : goal.returns-clause-seen
returns-clause-seen g c = λ ok.
    saw-round _ _ _ _ c.args.self.now c.step_watched.new.self c.step_watched-2.new.self
    (c.in_ok-_first.ensures.seen refl) (c.in_ok-_first.ensures.state refl)
    (c.in_ok-_second.ensures.seen refl)
    (both-expired c.args.self.now c.step_watched.new.self c.step_watched-2.new.self
    (c.in_ok-_first.ensures.state refl) (c.in_ok-_second.ensures.state refl))
    (c.settle_watched.ensures.seen ok)
