use Rattle.std.proofs.lemmas.Simd.{length-chunk, length-put_chunk}
use Rattle.std.specs.Simd.Lanes.{chunk}
use Rattle.ddcmp_io.proofs.VectorLaws.{sixteen-put}
use Rattle.ddcmp_io.proofs.text.put_sixteen.Goals as goal

pub returns : goal.returns
returns c =
    let bytes = chunk c.args.at 16 c.args.bytes.now in
    sixteen-put c.args.digits.now c.high_digits.result c.low_digits.result bytes c.args.at
    c.requires.digits (length-chunk c.args.at 16 c.args.bytes.now c.requires.bytes)
    c.high_digits.ensures c.low_digits.ensures (length-put_chunk _ _ _)
