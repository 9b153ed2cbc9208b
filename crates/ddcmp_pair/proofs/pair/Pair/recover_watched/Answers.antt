use Rattle.std.specs.Prelude.{ℕ, ◌+◌, ◌*◌, ◌≤◌, List}
use Rattle.std.specs.List.{All}
use Rattle.ddcmp_pair.specs.Settle.{most_exchanges}
use Rattle.ddcmp_pair.specs.Recovery.{larger_window, IsDone}
use Rattle.std.proofs.Common.{subst, sym, ◌∙◌, refl}
use Rattle.ddcmp_pair.proofs.Runs.{on-err}
use Rattle.ddcmp_pair.proofs.Recoveries.{wanted-in-first, wanted-in-second, wanted-in-third}
use Rattle.ddcmp_pair.proofs.Recoveries.{recovered-is, recovering-exchanges, recovering-quiet}
use Rattle.ddcmp_pair.proofs.Watching.{saw-recovery}
use Rattle.ddcmp_pair.proofs.pair.Pair.recover_watched.Goals as goal

pub returns-in_err-first-clause-memory : goal.returns-in_err-first-clause-memory
returns-in_err-first-clause-memory g c =
    on-err _
    (wanted-in-first c.args.self.now c.settle_watched.new.self c.in_err-first.ensures.memory)

pub returns-in_err-second-clause-memory : goal.returns-in_err-second-clause-memory
returns-in_err-second-clause-memory g c =
    on-err _
    (wanted-in-second c.args.self.now c.settle_watched.new.self c.round_watched.new.self
    (c.in_ok-first.ensures.state refl) c.in_err-second.ensures.memory)

pub returns-in_err-third-clause-memory : goal.returns-in_err-third-clause-memory
returns-in_err-third-clause-memory g c =
    on-err _
    (wanted-in-third c.args.self.now c.settle_watched.new.self c.round_watched.new.self
    c.round_watched-2.new.self
    (c.in_ok-first.ensures.state refl) (c.in_ok-second.ensures.state refl)
    c.in_err-third.ensures.memory)

pub returns-clause-state : goal.returns-clause-state
returns-clause-state g c = λ ok.
    recovered-is c.args.self.now c.settle_watched.new.self c.round_watched.new.self
    c.round_watched-2.new.self
    (c.in_ok-first.ensures.state refl) (c.in_ok-second.ensures.state refl)
    (c.in_ok-third.ensures.state refl)

pub returns-clause-exchanges : goal.returns-clause-exchanges
returns-clause-exchanges g c =
    c.of.ensures.exchanges
    ∙ recovering-exchanges c.args.self.now c.settle_watched.new.self c.round_watched.new.self _ _ _
    (c.in_ok-first.ensures.state refl) (c.in_ok-second.ensures.state refl)
    c.in_ok-first.ensures.exchanges c.in_ok-second.ensures.exchanges
    c.in_ok-third.ensures.exchanges

pub returns-clause-quiet : goal.returns-clause-quiet
returns-clause-quiet g c =
    c.of.ensures.quiet
    ∙ recovering-quiet c.args.self.now c.settle_watched.new.self c.round_watched.new.self _ _ _
    (c.in_ok-first.ensures.state refl) (c.in_ok-second.ensures.state refl)
    c.in_ok-first.ensures.quiet c.in_ok-second.ensures.quiet c.in_ok-third.ensures.quiet

pub returns-clause-repaired : goal.returns-clause-repaired
returns-clause-repaired g c = λ ready. returns-clause-quiet g c
    ∙ (c.is_repaired.ensures ready).quiet

pub returns-clause-within : goal.returns-clause-within
returns-clause-within g c = λ ready.
    subst (λ (t : List ℕ). All (λ n. n ≤ most_exchanges c.args.self.now) t)
    (sym (returns-clause-exchanges g c)) (c.is_repaired.ensures ready).within

pub returns-clause-fewer : goal.returns-clause-fewer
returns-clause-fewer g c = λ ready.
    subst (λ (t : List ℕ). All (λ n. n ≤ 12 * larger_window c.args.self.now + 12) t)
    (sym (returns-clause-exchanges g c)) (c.is_repaired.ensures ready).fewer

pub returns-clause-done : goal.returns-clause-done
returns-clause-done g c =
    λ ready ok. subst IsDone (sym (returns-clause-state g c ok)) (c.is_repaired.ensures ready).done

pub returns-clause-seen : goal.returns-clause-seen
returns-clause-seen g c = λ ok.
    saw-recovery _ _ _ _ c.args.self.now c.settle_watched.new.self c.round_watched.new.self
    (c.in_ok-first.ensures.seen refl) (c.in_ok-first.ensures.state refl)
    (c.in_ok-second.ensures.seen refl) (c.in_ok-second.ensures.state refl)
    (c.in_ok-third.ensures.seen refl)
