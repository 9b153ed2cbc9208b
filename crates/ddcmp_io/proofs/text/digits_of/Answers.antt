use Rattle.ddcmp_io.proofs.VectorLaws.{digits-ok, digits-are}
use Rattle.ddcmp_io.proofs.text.digits_of.Goals as goal

pub swizzle : goal.swizzle
swizzle c = digits-ok c.args.values c.fits-values.0 c.requires

pub returns : goal.returns
returns c = digits-are c.args.values c.fits-values.0 c.requires
