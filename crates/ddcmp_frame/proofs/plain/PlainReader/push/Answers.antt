use Rattle.ddcmp_frame.proofs.FrameLaws.{pushes}
use Rattle.ddcmp_frame.proofs.plain.PlainReader.push.Goals as goal

pub returns : goal.returns
returns c =
    let took = c.take.ensures in
    pushes c.args.self.now c.args.byte c.take.result c.take.new.self
    took.counted took.max took.lent took.within took.grows
