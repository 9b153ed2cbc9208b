use Rattle.std.proofs.Common.{◌≡◌, ◌+◌, ◌-◌, take, drop, sym, ap, arith}
use Rattle.hex.specs.Hex.{encode_lower}
use Rattle.ddcmp_io.proofs.WrittenLaws.{sends-then}
use Rattle.ddcmp_io.proofs.TextLaws.{sends-as, sends-nothing, hex-nothing, hex-more}
use Rattle.ddcmp_io.proofs.text.write_hex.Goals as goal

pub loop-at-init : goal.loop-at-init
loop-at-init g c =
    record { within = omega arith; sent = sends-as (sym hex-nothing) (sends-nothing _) }

pub loop-at-preserved : goal.loop-at-preserved
loop-at-preserved g c =
    let i = c.loop-at.at in
    let n = c.min.result in
    let bytes = c.args.bytes.now in
    let length_is : i + n - i ≡ n = omega arith in
    record {
      within = omega (arith, c.min.ensures, c.loop-at-test.true);
      sent =
          sends-as (hex-more bytes i n)
          (sends-then c.loop-at.invariant.sent
          (sends-as (ap (λ k. encode_lower (take k (drop i bytes))) length_is)
          c.write_chunk.ensures));
    }
