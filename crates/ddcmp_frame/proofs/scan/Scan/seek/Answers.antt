use Rattle.std.proofs.Common.{◌≡◌, ◌+◌, ◌++◌, [], slice_index, refl, sym, ◌∙◌, ap, arith, take}
use Rattle.std.proofs.Common.{drop}
use Rattle.std.proofs.lemmas.List.{length-take-le, drop_all}
use Rattle.ddcmp_frame.specs.Spelling.{is_start}
use Rattle.ddcmp_frame.specs.Inside.Scan.{bytes_in, skipped_in, left_in, view_of}
use Rattle.ddcmp_frame.proofs.ReadingLaws.{row-nothing, row-waits}
use Rattle.ddcmp_frame.proofs.PushLaws.{next_place}
use Rattle.ddcmp_frame.proofs.ScanLaws.{takes-nothing, seeks, index-take}
use Rattle.ddcmp_frame.proofs.scan.Scan.seek.Goals as goal

pub returns-then-other-gt0-clause-takes : goal.returns-then-other-gt0-clause-takes
returns-then-other-gt0-clause-takes c =
    let s = c.args.self.now in
    let piece = c.args.piece.now in
    let n = c.before_start-other.result in
    let u = take n piece in
    let lu = length-take-le n piece (omega arith) in
    let none : drop n u ≡ [] = drop_all n u (omega arith) in
    let nothing : bytes_in s.phase s.buffer.items ≡ [] =
    ap (λ p. bytes_in p s.buffer.items) c.requires.phase in
    takes-nothing (view_of s) _ piece n (omega arith) (omega arith) refl refl
    (ap (λ n. take n (drop 8 s.buffer.items)) c.requires.ready.lent) (λ text.
    seeks (view_of s) _ text u n nothing (ap left_in c.requires.phase) (omega arith)
    (λ i few. ap is_start (index-take n i piece few) ∙ c.before_start-other.ensures.other i few)
    (row-nothing s.max (next_place (s.offset + n) s.lost (drop n u)) none)
    (record {
      max = refl;
      counted = omega arith;
      lost = refl;
      bytes = nothing ∙ sym none;
      skipped = ap skipped_in c.requires.phase;
      left = ap left_in c.requires.phase;
    }))

pub returns-clause-takes : goal.returns-clause-takes
returns-clause-takes c =
    let s = c.args.self.now in
    let piece = c.args.piece.now in
    let u = take 1 piece in
    let here : c.before_start-other.result ≡ 0 = omega arith in
    let lu = length-take-le 1 piece (omega (arith, c.requires.ready.some)) in
    let nothing : bytes_in s.phase s.buffer.items ≡ [] =
    ap (λ p. bytes_in p s.buffer.items) c.requires.phase in
    takes-nothing (view_of s) _ piece 1 (omega (arith, c.requires.ready.some)) (omega arith) refl
    refl (ap (λ k. take k (drop 8 c.keep.new.buffer.items)) c.requires.ready.lent) (λ text.
    seeks (view_of s) _ text u 0 nothing (ap left_in c.requires.phase) (omega arith)
    (λ i few. absurd (omega (arith, few)))
    (row-waits s.max (next_place (s.offset + 0) s.lost u)
    (ap is_start (index-take 1 0 piece (omega arith) ∙ ap (slice_index piece) (sym here))
    ∙ c.before_start-other.ensures.start (omega (arith, here, c.requires.ready.some)))
    (omega (arith, lu)))
    (record {
      max = refl;
      counted = omega (arith, lu);
      lost = refl;
      bytes = c.keep.ensures.items ∙ ap (λ t. t ++ u) c.clear.ensures.items;
      skipped = refl;
      left = refl;
    }))
