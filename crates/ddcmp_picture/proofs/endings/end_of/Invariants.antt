use Rattle.ddcmp_picture.proofs.EndLaws.{HasEnded}
use Rattle.ddcmp_picture.proofs.endings.end_of.Given as goal

abbrev pub invariant-loop-trip : goal.invariant-loop-trip
invariant-loop-trip g l =
    HasEnded l.end l.trip_end (g.P.Paper.drawn l.initial.paper) (g.P.Paper.drawn l.paper)
    l.initial.flights l.flights l._trip
