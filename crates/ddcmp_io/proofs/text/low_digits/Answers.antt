use Rattle.std.proofs.Common.{◌∙◌}
use Rattle.ddcmp_io.proofs.VectorLaws.{low-small, low-are}
use Rattle.ddcmp_io.proofs.text.low_digits.Goals as goal

pub digits_of-requires : goal.digits_of-requires
digits_of-requires c = low-small c.args.bytes

pub returns : goal.returns
returns c = c.digits_of.ensures ∙ low-are c.args.bytes c.fits-bytes.0
