use Rattle.std.proofs.Common.{◌≡◌, ◌≤◌, ◌-◌, ℕ, List, None, length}
use Rattle.ddcmp_explain.specs.declared.form.Form.TheVariants.{Text}
use Rattle.ddcmp_explain.specs.Digits.{spot_in, unexpected_in}
use Rattle.ddcmp_explain.proofs.LogLaws.{Logs}
use Rattle.ddcmp_explain.proofs.decoder.Decoder.spell.Given as goal

abbrev pub invariant-loop-i : goal.invariant-loop-i
invariant-loop-i l = record {
  within : l.count ≤ l.i;
  inside : l.i ≤ length l.piece;
  logs : (seen : List ℕ) → unexpected_in Text seen ≡ None
      → spot_in Text seen ≡ l.initial.self.spot
      → Logs seen l.piece l.i l.count l.bytes l.self.spot;
}

abbrev pub decreases-loop-i : goal.decreases-loop-i
decreases-loop-i l = length l.piece - l.i
