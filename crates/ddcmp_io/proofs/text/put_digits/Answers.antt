use Rattle.std.proofs.Common.{◌≡◌, ◌∙◌, ◌+◌, ◌-◌, ◌*◌, ◌++◌, ap, sym, arith, length, take, take_all}
use Rattle.std.proofs.Common.{drop}
use Rattle.std.proofs.lemmas.Slice.{take-put_mid}
use Rattle.hex.specs.Hex.{encode_lower}
use Rattle.ddcmp_io.proofs.TextLaws.{hex-nothing, hex-more}
use Rattle.ddcmp_io.proofs.text.put_digits.Goals as goal

pub loop-at-init : goal.loop-at-init
loop-at-init c = record { within = omega arith; put = sym hex-nothing }

pub loop-at-preserved : goal.loop-at-preserved
loop-at-preserved c = record {
  within = omega arith;
  put =
      c.put_sixteen.ensures
      ∙ ap (λ t. t ++ encode_lower (take 16 (drop c.loop-at.at c.args.bytes.now)))
      c.loop-at.invariant.put
      ∙ hex-more c.args.bytes.now c.loop-at.at 16;
}

pub returns : goal.returns
returns c =
    let bytes = c.args.bytes.now in
    let at = c.loop-at.at in
    let within = c.loop-at.invariant.within in
    let rest = length bytes - at in
    let all : at + rest ≡ length bytes = omega arith in
    take-put_mid (2 * at) _ c.loop-at.digits c.encode_to_slice.new.output (2 * length bytes)
    (omega (arith, c.encode_to_slice.auto.output)) (omega (arith, c.loop-at.auto.digits))
    ∙ ap (λ t. t ++ c.encode_to_slice.new.output) c.loop-at.invariant.put
    ∙ ap (λ t. encode_lower (take at bytes) ++ t) c.in-Ok.ensures.written
    ∙ hex-more bytes at rest
    ∙ ap encode_lower (take_all (at + rest) bytes (omega arith))
