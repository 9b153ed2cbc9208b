use Rattle.std.proofs.Common.{◌≡◌, ◌+◌, ◌<◌, ◌≤◌, ◌∙◌, ◌++◌, ℕ, get_or, length, map, take, ap}
use Rattle.std.proofs.Common.{subst, arith, w8}
use Rattle.std.proofs.lemmas.List.{length-map}
use Rattle.std.proofs.lemmas.Simd.{length-chunk, chunk-fits, below_from_Fits, take_more_put_chunk}
use Rattle.std.specs.Simd.Lanes.{Each1, chunk}
use Rattle.ddcmp_explain.specs.declared.hex_digits.TheConstants.{HEX_VALUES}
use Rattle.ddcmp_explain.specs.Digits.{pairs}
use Rattle.ddcmp_explain.proofs.DigitVectors.{all-small, all-digits, eight-long}
use Rattle.ddcmp_explain.proofs.hex_values.put_eight.Goals as goal

pub bytes_of-requires : goal.bytes_of-requires
bytes_of-requires c =
    all-small c.values_of-values.result c.type_inv.values.0 c.if-values-ne65535.false

pub returns-clause-put : goal.returns-clause-put
returns-clause-put c = λ _.
    let piece = c.args.piece.now in
    let bytes = c.args.bytes.now in
    let t = chunk c.args.i 16 piece in
    let f = λ (c : ℕ). get_or HEX_VALUES c 0 in
    let inside : c.args.i + 16 ≤ length piece =
    omega (arith, c.if-piece-i-lt16.false, c.requires.inside) in
    let long = length-chunk c.args.i 16 piece inside in
    let values : c.values_of-values.result ≡ map f t = c.values_of-values.ensures in
    let small =
    all-small c.values_of-values.result (ap length values ∙ length-map t f ∙ long)
    c.if-values-ne65535.false in
    let eight : c.bytes_of.result ≡ pairs (map f t) = c.bytes_of.ensures ∙ ap pairs values in
    let eight_long : length c.bytes_of.result ≡ 8 = ap length eight ∙ eight-long f t long in
    record {
      inside = inside;
      digits =
          all-digits t (below_from_Fits w8 t (chunk-fits w8 c.args.i 16 piece c.type_inv.piece))
          (subst (Each1 (λ v. v < 16)) values small);
      put =
          take_more_put_chunk c.args.count bytes c.bytes_of.result (c.args.count + 8)
          (omega (arith, eight_long))
          (omega (arith, c.requires.within, c.requires.room, inside))
          ∙ ap (λ e. take c.args.count bytes ++ e) eight;
    }
