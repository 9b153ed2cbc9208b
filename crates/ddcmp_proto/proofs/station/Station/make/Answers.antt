use Rattle.std.proofs.Common.{◌≡◌, ◌≤◌, Result, Ok, Err, Some, None, refl, sym, ap, ◌∙◌}
use Rattle.std.proofs.Common.{rules, tests, arith}
use Rattle.std.specs.Result.{result_ok}
use Rattle.ddcmp_frame.proofs.Tests.{some-inj}
use Rattle.ddcmp_proto.specs.Config.{first_refusal}
use Rattle.ddcmp_proto.specs.declared.config.Config.{Config}
use Rattle.ddcmp_proto.proofs.station.Station.make.Goals as goal

record InRange (config : Config) : Type 0 where
  window : (1 ≤ config.window) × (config.window ≤ 255)
  inbox : (1 ≤ config.inbox) × (config.inbox ≤ 255)
  max : (1 ≤ config.max) × (config.max ≤ 16383)
  syn : config.syn ≤ 16

in_range : (config : Config) → first_refusal config ≡ None → InRange config
in_range config h = record {
  window = search (rules, tests);
  inbox = search (rules, tests);
  max = search (rules, tests);
  syn = search (rules, tests);
}

was_made : {T E : Type 0} (r : Result T E) (x : T) → Some x ≡ result_ok r → r ≡ Ok x
was_made (Ok y) x e = ap Ok (some-inj (sym e))
was_made (Err y) x e = absurd (cc e)

pub overflow_cast-config : goal.overflow_cast-config
overflow_cast-config c = omega (arith, (in_range c.args.config c.requires).window)

pub new-requires-clause-limit : goal.new-requires-clause-limit
new-requires-clause-limit c = (in_range c.args.config c.requires).window.0

pub new-requires-clause-longest : goal.new-requires-clause-longest
new-requires-clause-longest c = (in_range c.args.config c.requires).max

pub returns-in_err-out-clause-made : goal.returns-in_err-out-clause-made
returns-in_err-out-clause-made c = rw c.from_residual.ensures tt

pub returns-in_err-out-clause-stands : goal.returns-in_err-out-clause-stands
returns-in_err-out-clause-stands c = rw c.from_residual.ensures tt

pub overflow_cast-config-2 : goal.overflow_cast-config-2
overflow_cast-config-2 c = omega (arith, (in_range c.args.config c.requires).inbox)

pub new-requires-2-clause-limit : goal.new-requires-2-clause-limit
new-requires-2-clause-limit c = (in_range c.args.config c.requires).inbox.0

pub new-requires-2-clause-longest : goal.new-requires-2-clause-longest
new-requires-2-clause-longest c = (in_range c.args.config c.requires).max

pub returns-in_err-inbox-clause-made : goal.returns-in_err-inbox-clause-made
returns-in_err-inbox-clause-made c = rw c.from_residual-in_err-inbox.ensures tt

pub returns-in_err-inbox-clause-stands : goal.returns-in_err-inbox-clause-stands
returns-in_err-inbox-clause-stands c = rw c.from_residual-in_err-inbox.ensures tt

pub returns-in_err-reader-clause-made : goal.returns-in_err-reader-clause-made
returns-in_err-reader-clause-made c = rw c.from_residual-in_err-reader.ensures tt

pub returns-in_err-reader-clause-stands : goal.returns-in_err-reader-clause-stands
returns-in_err-reader-clause-stands c = rw c.from_residual-in_err-reader.ensures tt

pub new-requires-4-clause-out_empty : goal.new-requires-4-clause-out_empty
new-requires-4-clause-out_empty c =
    rw (was_made _ _ c.in_ok-out.ensures.value) at c.new.ensures.messages

pub new-requires-4-clause-inbox_empty : goal.new-requires-4-clause-inbox_empty
new-requires-4-clause-inbox_empty c =
    rw (was_made _ _ c.in_ok-inbox.ensures.value) at c.new-2.ensures.messages

pub new-requires-4-clause-one_longest : goal.new-requires-4-clause-one_longest
new-requires-4-clause-one_longest c =
    let out = rw (was_made _ _ c.in_ok-out.ensures.value) at c.new.ensures.longest in
    let inbox = rw (was_made _ _ c.in_ok-inbox.ensures.value) at c.new-2.ensures.longest in
    out ∙ sym inbox

pub invariant_of-result : goal.invariant_of-result
invariant_of-result c =
    let window = rw (was_made _ _ c.in_ok-out.ensures.value) at c.new.ensures.limit in
    let max = rw (was_made _ _ c.in_ok-out.ensures.value) at c.new.ensures.longest in
    let inbox = rw (was_made _ _ c.in_ok-inbox.ensures.value) at c.new-2.ensures.limit in
    let reader = rw (was_made _ _ c.in_ok-reader.ensures.value) at c.new-3.ensures.max in
    let syn = (in_range c.args.config c.requires).syn in
    rw (c.new-4.ensures, window, max, inbox) (reader, syn, refl)

pub returns-clause-made : goal.returns-clause-made
returns-clause-made c =
    let window = rw (was_made _ _ c.in_ok-out.ensures.value) at c.new.ensures.limit in
    let max = rw (was_made _ _ c.in_ok-out.ensures.value) at c.new.ensures.longest in
    let inbox = rw (was_made _ _ c.in_ok-inbox.ensures.value) at c.new-2.ensures.limit in
    rw (c.new-4.ensures, window, max, inbox) (refl, refl)

pub returns-clause-stands : goal.returns-clause-stands
returns-clause-stands c =
    rw (was_made _ _ c.in_ok-reader.ensures.value) at c.new-3.ensures.stands
