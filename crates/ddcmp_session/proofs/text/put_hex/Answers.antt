use Rattle.std.proofs.Common.{◌≡◌, ◌+◌, ◌-◌, take, drop, sym, ap, arith}
use Rattle.hex.specs.Hex.{encode_lower}
use Rattle.ddcmp_io.proofs.TextLaws.{hex-nothing, hex-more}
use Rattle.ddcmp_session.proofs.TextLaws.{puts-as, puts-nothing, puts-then}
use Rattle.ddcmp_session.proofs.text.put_hex.Goals as goal

pub loop-at-init : goal.loop-at-init
loop-at-init c =
    record {
      within = omega arith;
      put = puts-as _ _ _ _ (sym hex-nothing) (puts-nothing c.args.out.now);
    }

pub loop-at-preserved : goal.loop-at-preserved
loop-at-preserved c =
    let i = c.loop-at.at in
    let n = c.min.result in
    let bytes = c.args.bytes.now in
    let length_is : i + n - i ≡ n = omega arith in
    record {
      within = omega (arith, c.min.ensures, c.loop-at-test.true);
      put =
          puts-as _ _ c.args.out.now c.put_chunk.new.out (hex-more bytes i n)
          (puts-then (encode_lower (take i bytes)) (encode_lower (take n (drop i bytes)))
          c.args.out.now c.loop-at.out c.put_chunk.new.out c.loop-at.invariant.put
          (puts-as _ _ c.loop-at.out c.put_chunk.new.out
          (ap (λ k. encode_lower (take k (drop i bytes))) length_is)
          c.put_chunk.ensures));
    }
