use Rattle.std.proofs.Common.{◌≡◌, ◌+◌, refl, sym, ◌∙◌, ap, arith, rules, take, slice_index}
use Rattle.ddcmp_frame.specs.Inside.Scan.{bytes_in, skipped_in, left_in, IsDataFrame}
use Rattle.ddcmp_frame.proofs.ScanLaws.{begun, index-take, takes-frame}
use Rattle.ddcmp_frame.proofs.scan.Scan.take_frame.Goals.{then-is_empty-via-then-is_empty}
use Rattle.ddcmp_frame.proofs.scan.Scan.take_frame.Goals.{
  then-is_empty-via-else-is_empty+then-piece,
}
use Rattle.ddcmp_frame.proofs.scan.Scan.take_frame.Goals as goal

pub returns-in-Some-clause-takes : goal.returns-in-Some-clause-takes
returns-in-Some-clause-takes c =
    let s = c.args.self.now in
    let h = c.in-Some.fields in
    let piece = c.args.piece.now in
    let f : IsDataFrame s.max h (take (h.count + 10) piece) = c.in-Some.ensures.is in
    takes-frame s _ piece h c.in-Seeking.is f refl (record {
      max = refl;
      counted = ap (λ n. s.offset + n) (ap (λ x. x.count + 10) c.fields.view_is ∙ sym f.size);
      lost = refl;
      bytes = ap (λ p. bytes_in p s.buffer.items) c.in-Seeking.is;
      skipped = ap skipped_in c.in-Seeking.is;
      left = ap left_in c.in-Seeking.is;
    })

pub returns-then-is_empty-clause-found : goal.returns-then-is_empty-clause-found
returns-then-is_empty-clause-found c h message rest phase b =
    let piece = c.args.piece.now in
    let k = begun c.args.self.now.max piece h message rest b in
    let long = k.long in
    let first : slice_index piece 0 ≡ 129 = sym (index-take 8 0 piece (omega arith)) ∙ k.first in
    elim c.then-is_empty.branch [
      | then-is_empty-via-then-is_empty w ↦ search rules
      | then-is_empty-via-else-is_empty+then-piece w ↦ search rules
    ]
