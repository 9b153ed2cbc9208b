use Rattle.ddcmp_explain.proofs.DigitVectors.{pairs-are}
use Rattle.ddcmp_explain.proofs.hex_values.bytes_of.Goals as goal

pub returns : goal.returns
returns c = pairs-are c.args.values c.fits-values.0 c.requires
