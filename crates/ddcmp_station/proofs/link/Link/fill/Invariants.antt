use Rattle.std.proofs.Common.{◌≡◌, ℕ}
use Rattle.ddcmp_station.specs.Linking.{after_frames}
use Rattle.ddcmp_station.proofs.link.Link.fill.Given as goal

abbrev pub invariant-loop : goal.invariant-loop
invariant-loop l = (n : ℕ) × (l.self ≡ after_frames n l.initial.self)

abbrev pub decreases-loop : goal.decreases-loop
decreases-loop l = l.self.outbox.room
