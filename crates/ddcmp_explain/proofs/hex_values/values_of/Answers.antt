use Rattle.ddcmp_explain.proofs.DigitVectors.{values-are}
use Rattle.ddcmp_explain.proofs.hex_values.values_of.Goals as goal

pub returns : goal.returns
returns c = values-are c.args.digits c.fits-digits.0 c.fits-digits.1
