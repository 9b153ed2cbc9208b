use Rattle.std.proofs.Common.{sym, ◌∙◌}
use Rattle.ddcmp_picture.proofs.EndLaws.{ends_one, ends_start}
use Rattle.ddcmp_picture.proofs.endings.end_of.Goals as goal

pub loop-trip-init : goal.loop-trip-init
loop-trip-init g c = ends_start _ _ _ _

pub loop-trip-preserved : goal.loop-trip-preserved
loop-trip-preserved g c =
    ends_one c.args.end c.args.trip_end _ _ _ _ _ _ _ c.in-Some.trip c.loop-trip.invariant
    c.pop.ensures.trips
    (sym c.pop.ensures.first ∙ c.in-Some.is) c.put.ensures
