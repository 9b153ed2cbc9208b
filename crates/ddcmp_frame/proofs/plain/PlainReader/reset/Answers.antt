use Rattle.std.proofs.Common.{refl}
use Rattle.ddcmp_frame.proofs.PushLaws.{stands_anew}
use Rattle.ddcmp_frame.proofs.plain.PlainReader.reset.Goals as goal

pub returns-clause-stands : goal.returns-clause-stands
returns-clause-stands c = stands_anew c.self.inside.max c.self.inside.buffer.items 0 refl
