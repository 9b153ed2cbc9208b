use Rattle.std.proofs.Common.{◌≡◌, take}
use Rattle.ddcmp_session.specs.Reported.{DropsBytes, dropping}
use Rattle.ddcmp_session.proofs.DropLaws.{Dropped}
use Rattle.ddcmp_session.proofs.session.Session.drop_bytes.Given as goal

abbrev pub invariant-loop-part : goal.invariant-loop-part
invariant-loop-part l =
    Dropped l.bytes l.initial.self.state l._part l.at l.lost l.self.state
    × (l.self.log
    ≡ record l.initial.self.log { errors = l.self.log.errors; read = l.self.log.read })
    × DropsBytes (take l.at l.bytes) l.initial.self.state.messages (dropping l.initial.self)
    (dropping l.self)
