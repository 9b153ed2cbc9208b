use Rattle.std.proofs.Common.{◌∙◌}
use Rattle.ddcmp_io.proofs.VectorLaws.{high-small, high-are}
use Rattle.ddcmp_io.proofs.text.high_digits.Goals as goal

pub digits_of-requires : goal.digits_of-requires
digits_of-requires c = high-small c.args.bytes c.fits-bytes.1

pub returns : goal.returns
returns c = c.digits_of.ensures ∙ high-are c.args.bytes c.fits-bytes.0
