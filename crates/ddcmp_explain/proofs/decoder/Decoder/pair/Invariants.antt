use Rattle.std.proofs.Common.{◌≡◌, ◌≤◌, ◌-◌, ℕ, List, None, take, length}
use Rattle.std.specs.Prelude.{option_to_list}
use Rattle.ddcmp_explain.specs.declared.form.Form.TheVariants.{Hex}
use Rattle.ddcmp_explain.specs.Digits.{left_in, unexpected_in}
use Rattle.ddcmp_explain.specs.Inside.Decoding.{Decodes}
use Rattle.ddcmp_explain.proofs.decoder.Decoder.pair.Given as goal

abbrev pub invariant-loop-i : goal.invariant-loop-i
invariant-loop-i l = record {
  spot : l.self.spot ≡ l.initial.self.spot;
  within : l.count ≤ l.i;
  inside : l.i ≤ length l.piece;
  waits : l.wait ≤ 1024;
  decodes : (seen : List ℕ) → unexpected_in Hex seen ≡ None
      → left_in Hex seen ≡ option_to_list l.initial.self.high
      → Decodes Hex seen (take l.i l.piece) (record { count = l.count; unexpected = None }) l.bytes
      l.self.high;
}

abbrev pub decreases-loop-i : goal.decreases-loop-i
decreases-loop-i l = length l.piece - l.i
