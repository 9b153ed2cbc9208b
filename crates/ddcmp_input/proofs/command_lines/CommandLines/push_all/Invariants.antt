use Rattle.std.proofs.Common.{◌≡◌, [], take}
use Rattle.ddcmp_input.specs.CommandLines.{after_bytes, entries_of_bytes}
use Rattle.ddcmp_input.proofs.command_lines.CommandLines.push_all.Given as goal

abbrev pub invariant-loop-used : goal.invariant-loop-used
invariant-loop-used l =
    (l.self ≡ after_bytes (take l.used l.piece) l.initial.self)
    × (entries_of_bytes (take l.used l.piece) l.initial.self ≡ [])
