use Rattle.ddcmp_io.proofs.TextLaws.{sends-nothing}
use Rattle.ddcmp_io.proofs.page.Page.make_room.Goals as goal

pub returns-else-room-n-clause-sends : goal.returns-else-room-n-clause-sends
returns-else-room-n-clause-sends g c = sends-nothing _
