use Rattle.std.proofs.Common.{◌∙◌, ap, take}
use Rattle.std.proofs.lemmas.List.{take_min}
use Rattle.ddcmp_device.proofs.standard_stream.front.Goals as goal

pub returns-clause-front : goal.returns-clause-front
returns-clause-front c = ap (λ k. take k c.args.bytes.now) c.min.ensures ∙ take_min 4096 c.args.bytes.now
