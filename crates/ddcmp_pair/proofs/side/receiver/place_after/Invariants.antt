use Rattle.std.proofs.Common.{◌≡◌}
use Rattle.ddcmp_pair.specs.Place.{place_after}
use Rattle.ddcmp_pair.proofs.side.receiver.place_after.Given as goal

-- what is looked for from here on is what was looked for at first
abbrev pub invariant-loop-i : goal.invariant-loop-i
invariant-loop-i l =
    place_after (l.header, l.data) l.sent.all l.i
    ≡ place_after (l.header, l.data) l.sent.all l.place
