use Rattle.std.proofs.Common.{rules, ◌∙◌, ap, ◌≡◌, ◌*◌, ◌++◌, ℕ, Bool, Option, Some, FitsSigned}
use Rattle.std.proofs.Common.{arith, codes, of_z, pos, to_z}
use Rattle.std.proofs.lemmas.Int.{ints}
use Rattle.std.specs.Int.{w128}
use Rattle.jiff_fmt.specs.Text.{datetime_text}
use Rattle.ddcmp_io.proofs.TextLaws.{sends-as}
use Rattle.ddcmp_io.proofs.WrittenLaws.{sends-then}
use Rattle.ddcmp_log.specs.Day.{time_text}
use Rattle.ddcmp_log.proofs.DayLaws.{printed}
use Rattle.ddcmp_log.proofs.day.write_time.Goals as goal

pub returns : goal.returns
unfolding time_text
returns g c =
    let at = c.from_nanosecond_in_range-at in
    let fits : FitsSigned w128 c.nanoseconds.result = search rules in
    let passed : to_z w128 (of_z w128 c.nanoseconds.result) ≡ c.nanoseconds.result =
    omega (arith, ints) in
    let set =
    c.precision.ensures ∙ ap (λ (o : Bool × ℕ × Option ℕ). (o.0, o.1, Some 3)) c.new.ensures in
    let text =
    c.as_bytes.ensures.value ∙ c.as_str.ensures.value ∙ c.datetime_text-text.ensures
    ∙ ap (λ (o : Bool × ℕ × Option ℕ). datetime_text o.0 o.1 o.2 at.result) set in
    let nanos =
    at.ensures ∙ passed ∙ c.nanoseconds.ensures
    ∙ ap (λ ms. pos (ms * 1_000_000)) c.min.ensures in
    sends-as (ap (λ t. t ++ codes "Z") text ∙ printed at.result _ nanos)
    (sends-then c.write.ensures.sends c.write-2.ensures.sends)
