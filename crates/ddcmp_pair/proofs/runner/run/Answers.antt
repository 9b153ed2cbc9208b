use Rattle.std.proofs.Common.{◌≡◌, ◌∙◌, ◌<◌, ℕ, length, take, Result, Ok, Err, ap, refl, subst}
use Rattle.std.proofs.Common.{rules, get_or, Option, Some, None, true, ◌⊎◌, inl, inr}
use Rattle.std.specs.Result.{IsOk}
use Rattle.ddcmp_proto.specs.declared.config.ConfigRefusal.{ConfigRefusal}
use Rattle.ddcmp_proto.specs.declared.config.ConfigRefusal.TheVariants as config
use Rattle.ddcmp_pair.specs.declared.event.Event.TheVariants as event_value
use Rattle.ddcmp_pair.specs.Run.{PairState, new_pair, run, asks_memory}
use Rattle.ddcmp_pair.specs.InOrder.{IsInOrder}
use Rattle.ddcmp_pair.specs.declared.runner.RunRefusal.{RunRefusal}
use Rattle.ddcmp_pair.specs.declared.pair.PairRefusal.{PairRefusal}
use Rattle.ddcmp_pair.specs.declared.pair.PairRefusal.TheVariants as pair_refusal
use Rattle.ddcmp_pair.specs.declared.runner.RunRefusal.TheVariants.{First, Second, Memory}
use Rattle.ddcmp_pair.proofs.runner.run.Goals as goal

-- what a refusal on an allocation failure reports
done_of : Result PairState RunRefusal → ℕ
done_of (Err (Memory done _)) = done
done_of _ = 0

pair_of : PairState → Result PairState RunRefusal → PairState
pair_of _ (Err (Memory _ pair)) = pair
pair_of other _ = other

pub returns-in-Err-clause-memory : goal.returns-in-Err-clause-memory
unfolding done_of pair_of
returns-in-Err-clause-memory c done pair e =
    subst
    (λ p. (done < length c.args.events.now)
    × (p ≡ run (take done c.args.events.now) (new_pair c.args.first c.args.second))
    × IsInOrder p) (ap (pair_of c.play-played.new.pair) e)
    (subst
    (λ n. (n < length c.args.events.now)
    × (c.play-played.new.pair
    ≡ run (take n c.args.events.now) (new_pair c.args.first c.args.second))
    × IsInOrder c.play-played.new.pair) (ap done_of e) (
      (c.in-Err.ensures.memory _ refl).0,
      ((c.in-Err.ensures.memory _ refl).1
          ∙ ap (run (take c.in-Err.done c.args.events.now)) c.in-Ok.ensures.made),
      c.is_run.ensures.order,
    ))

-- what no answer but that of its kind is
ok_or_err : {T E : Type 0} (x : T) (y : E) → ◌≡◌ {A = Result T E} (Ok x) (Err y) → ⊥
ok_or_err x y e = cc

first_or_memory : (r : ConfigRefusal) (done : ℕ) (pair : PairState)
    → ◌≡◌ {A = Result PairState RunRefusal} (Err (First r)) (Err (Memory done pair)) → ⊥
first_or_memory r done pair e = cc

second_or_memory : (r : ConfigRefusal) (done : ℕ) (pair : PairState)
    → ◌≡◌ {A = Result PairState RunRefusal} (Err (Second r)) (Err (Memory done pair)) → ⊥
second_or_memory r done pair e = cc

memory_or_first : (r : ConfigRefusal) (done : ℕ) (pair : PairState)
    → ◌≡◌ {A = Result PairState RunRefusal} (Err (Memory done pair)) (Err (First r)) → ⊥
memory_or_first r done pair e = cc

memory_or_second : (r : ConfigRefusal) (done : ℕ) (pair : PairState)
    → ◌≡◌ {A = Result PairState RunRefusal} (Err (Memory done pair)) (Err (Second r)) → ⊥
memory_or_second r done pair e = cc

-- what a refused size, or none, says of an answer
record Sizes (a b : Option ConfigRefusal) (result : Result PairState RunRefusal) : Type 0 where
  first_size : (r : ConfigRefusal) → a ≡ Some r → result ≡ Err (First r)
  second_size : (r : ConfigRefusal) → a ≡ None → b ≡ Some r → (result ≡ Err (Second r)) ⊎
      (result ≡ Err (First config.Memory))
  first : (r : ConfigRefusal) → result ≡ Err (First r) → (a ≡ Some r) ⊎
      ((r ≡ config.Memory) × (a ≡ None))
  second : (r : ConfigRefusal) → result ≡ Err (Second r) → (a ≡ None) ×
      ((b ≡ Some r) ⊎ ((r ≡ config.Memory) × (b ≡ None)))

module _ (a b : Option ConfigRefusal) (made : Result PairState PairRefusal)
    (first : (r : ConfigRefusal) → a ≡ Some r → made ≡ Err (pair_refusal.First r))
    (second : (r : ConfigRefusal) → a ≡ None → b ≡ Some r → (made ≡ Err (pair_refusal.Second r)) ⊎
    (made ≡ Err (pair_refusal.First config.Memory)))
    (only : a ≡ None → b ≡ None → IsOk made ⊎ ((made ≡ Err (pair_refusal.First config.Memory)) ⊎
    (made ≡ Err (pair_refusal.Second config.Memory)))) where
  first_refused : (s : ConfigRefusal) → made ≡ Err (pair_refusal.First s) → Sizes a b
      (Err (First s))
  first_refused s e = record {
    first_size = search rules;
    second_size = search rules;
    first = search rules;
    second = search rules;
  }

  second_refused : (s : ConfigRefusal) → made ≡ Err (pair_refusal.Second s) → Sizes a b
      (Err (Second s))
  second_refused s e = record {
    first_size = search rules;
    second_size = search rules;
    first = search rules;
    second = search rules;
  }

pub returns-in-Ok-played-clause-first_size : goal.returns-in-Ok-played-clause-first_size
returns-in-Ok-played-clause-first_size c = λ refusal e. absurd
    (ok_or_err _ _ (c.in-Ok.ensures.first refusal e))

pub returns-in-Ok-played-clause-second_size : goal.returns-in-Ok-played-clause-second_size
returns-in-Ok-played-clause-second_size c =
    λ refusal none e. elim (c.in-Ok.ensures.second refusal none e) [
      | inl second ↦ absurd (ok_or_err _ _ second)
      | inr memory ↦ absurd (ok_or_err _ _ memory)
    ]

pub returns-in-Err-clause-first_size : goal.returns-in-Err-clause-first_size
returns-in-Err-clause-first_size c = λ refusal e. absurd
    (ok_or_err _ _ (c.in-Ok.ensures.first refusal e))

pub returns-in-Err-clause-second_size : goal.returns-in-Err-clause-second_size
returns-in-Err-clause-second_size c =
    λ refusal none e. elim (c.in-Ok.ensures.second refusal none e) [
      | inl second ↦ absurd (ok_or_err _ _ second)
      | inr memory ↦ absurd (ok_or_err _ _ memory)
    ]

pub returns-in-Err-First-clause-first_size : goal.returns-in-Err-First-clause-first_size
returns-in-Err-First-clause-first_size c =
    let refused = c.in-Err-First.is ∙ ap Err c.in-Err-First.field-0-is in
    let n = c.new.ensures in
    (first_refused _ _ _ n.first n.second n.only _ refused).first_size

pub returns-in-Err-First-clause-second_size : goal.returns-in-Err-First-clause-second_size
returns-in-Err-First-clause-second_size c =
    let refused = c.in-Err-First.is ∙ ap Err c.in-Err-First.field-0-is in
    let n = c.new.ensures in
    (first_refused _ _ _ n.first n.second n.only _ refused).second_size

pub returns-in-Err-First-clause-first : goal.returns-in-Err-First-clause-first
returns-in-Err-First-clause-first c =
    let refused = c.in-Err-First.is ∙ ap Err c.in-Err-First.field-0-is in
    let n = c.new.ensures in
    (first_refused _ _ _ n.first n.second n.only _ refused).first

pub returns-in-Err-First-clause-second : goal.returns-in-Err-First-clause-second
returns-in-Err-First-clause-second c =
    let refused = c.in-Err-First.is ∙ ap Err c.in-Err-First.field-0-is in
    let n = c.new.ensures in
    (first_refused _ _ _ n.first n.second n.only _ refused).second

pub returns-in-Err-First-clause-memory : goal.returns-in-Err-First-clause-memory
returns-in-Err-First-clause-memory c = λ done pair e. absurd (first_or_memory _ _ _ e)

pub returns-in-Err-First-clause-asks : goal.returns-in-Err-First-clause-asks
returns-in-Err-First-clause-asks c = λ done pair e. absurd (first_or_memory _ _ _ e)

pub returns-in-Err-Second-clause-first_size : goal.returns-in-Err-Second-clause-first_size
returns-in-Err-Second-clause-first_size c =
    let refused = c.in-Err-Second.is ∙ ap Err c.in-Err-Second.field-0-is in
    let n = c.new.ensures in
    (second_refused _ _ _ n.first n.second n.only _ refused).first_size

pub returns-in-Err-Second-clause-second_size : goal.returns-in-Err-Second-clause-second_size
returns-in-Err-Second-clause-second_size c =
    let refused = c.in-Err-Second.is ∙ ap Err c.in-Err-Second.field-0-is in
    let n = c.new.ensures in
    (second_refused _ _ _ n.first n.second n.only _ refused).second_size

pub returns-in-Err-Second-clause-first : goal.returns-in-Err-Second-clause-first
returns-in-Err-Second-clause-first c =
    let refused = c.in-Err-Second.is ∙ ap Err c.in-Err-Second.field-0-is in
    let n = c.new.ensures in
    (second_refused _ _ _ n.first n.second n.only _ refused).first

pub returns-in-Err-Second-clause-second : goal.returns-in-Err-Second-clause-second
returns-in-Err-Second-clause-second c =
    let refused = c.in-Err-Second.is ∙ ap Err c.in-Err-Second.field-0-is in
    let n = c.new.ensures in
    (second_refused _ _ _ n.first n.second n.only _ refused).second

pub returns-in-Err-Second-clause-memory : goal.returns-in-Err-Second-clause-memory
returns-in-Err-Second-clause-memory c = λ done pair e. absurd (second_or_memory _ _ _ e)

pub returns-in-Err-Second-clause-asks : goal.returns-in-Err-Second-clause-asks
returns-in-Err-Second-clause-asks c = λ done pair e. absurd (second_or_memory _ _ _ e)

pub returns-in-Ok-played-clause-first : goal.returns-in-Ok-played-clause-first
returns-in-Ok-played-clause-first c = λ refusal e. absurd (ok_or_err _ _ e)

pub returns-in-Err-clause-first : goal.returns-in-Err-clause-first
returns-in-Err-clause-first c = λ refusal e. absurd (memory_or_first _ _ _ e)

pub returns-in-Ok-played-clause-second : goal.returns-in-Ok-played-clause-second
returns-in-Ok-played-clause-second c = λ refusal e. absurd (ok_or_err _ _ e)

pub returns-in-Err-clause-second : goal.returns-in-Err-clause-second
returns-in-Err-clause-second c = λ refusal e. absurd (memory_or_second _ _ _ e)

pub returns-in-Ok-played-clause-memory : goal.returns-in-Ok-played-clause-memory
returns-in-Ok-played-clause-memory c = λ done pair e. absurd (ok_or_err _ _ e)

pub returns-in-Ok-played-clause-asks : goal.returns-in-Ok-played-clause-asks
returns-in-Ok-played-clause-asks c = λ done pair e. absurd (ok_or_err _ _ e)

pub returns-in-Ok-played-clause-done : goal.returns-in-Ok-played-clause-done
returns-in-Ok-played-clause-done c = c.in-Ok-played.ensures.done refl ∙ ap (run c.args.events.now)
    c.in-Ok.ensures.made

pub returns-in-Err-clause-asks : goal.returns-in-Err-clause-asks
unfolding done_of pair_of
returns-in-Err-clause-asks c = λ done pair e.
    subst (λ p. asks_memory (get_or c.args.events.now done event_value.Clear) p ≡ true)
    (ap (pair_of c.play-played.new.pair) e)
    (subst (λ n. asks_memory (get_or c.args.events.now n event_value.Clear) c.play-played.new.pair ≡
    true) (ap done_of e) (c.in-Err.ensures.asks _ refl))
