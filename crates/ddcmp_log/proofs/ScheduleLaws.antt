-- After a report none is due.
use Rattle.std.proofs.Common.{◌≡◌, ◌<◌, ◌≤◌, ◌+◌, ◌-◌, ◌%◌, ◌^◌, ◌&&◌, ℕ, Bool, true, false, refl}
use Rattle.std.proofs.Common.{arith, not}
use Rattle.std.specs.Prelude.{◌==◌, min, nat_le, nat_lt}
use Rattle.std.proofs.lemmas.Bool.{and_parts}
use Rattle.std.proofs.lemmas.Bool.Decides.{nat_tests}
use native.Mathlib.Nat.{mod-lt}
use Rattle.ddcmp_log.specs.Scheduling.{NoneIsDue, is_due, next_due_after}
use Rattle.ddcmp_log.specs.declared.schedule.Schedule.{Schedule}

some : (every : ℕ) → not (every == 0) ≡ true → 0 < every
some every e = grind (arith, nat_tests)

-- the next moment is later, but for the last one
later : (now due every late : ℕ) → late < every → late ≤ now
    → (nat_le (min (now - late + every) (2 ^ 64 - 1)) now && nat_lt now (2 ^ 64 - 1)) ≡ false
later now due every late less within = grind (arith, nat_tests)

passes : (a b c : Bool) → (b && c) ≡ false → ((a && b) && c) ≡ false
passes true b c e = e
passes false b c e = refl

pub none-due-after : (now : ℕ) (s : Schedule) → is_due s now ≡ true
    → NoneIsDue now (record s { due_at = next_due_after s now })
none-due-after now s is =
    let parts = and_parts (not (s.every_ms == 0)) (nat_le s.due_at now) is in
    let less : (now - s.due_at) % s.every_ms < s.every_ms =
    mod-lt (now - s.due_at) (some s.every_ms parts.0) in
    passes (not (s.every_ms == 0)) (nat_le (next_due_after s now) now) (nat_lt now (2 ^ 64 - 1))
    (later now s.due_at s.every_ms ((now - s.due_at) % s.every_ms) less (omega arith))
