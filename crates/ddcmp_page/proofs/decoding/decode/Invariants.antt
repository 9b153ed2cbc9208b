use Rattle.std.proofs.Common.{◌≡◌, List, Some, ℕ}
use Rattle.ddcmp_io.specs.declared.device.Worst.TheVariants.{Fine}
use Rattle.ddcmp_explain.specs.Detection.{form_in}
use Rattle.ddcmp_explain.specs.Digits.{bytes_of}
use Rattle.ddcmp_explain.specs.Reads.{Reads, turns}
use Rattle.ddcmp_page.proofs.decoding.decode.Given as goal

abbrev pub invariant-loop-count : goal.invariant-loop-count
invariant-loop-count l = record {
  fine : l.reader.worst ≡ Fine;
  so_far : (seen : List ℕ) × Reads l.fn.form l.fn.input seen (Some l.reader.left) l.read
      × (l.kept.items ≡ bytes_of (form_in l.fn.form l.fn.input) seen);
}

abbrev pub decreases-loop-count : goal.decreases-loop-count
decreases-loop-count l = turns l.read
