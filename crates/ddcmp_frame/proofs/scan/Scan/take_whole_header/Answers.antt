use Rattle.std.proofs.Common.{◌≡◌, ◌+◌, [], ◌∷◌, ◌++◌, Some, false, refl, sym, ◌∙◌, ap, subst}
use Rattle.std.proofs.Common.{arith, length, take, take_all, drop, slice_index}
use Rattle.std.proofs.lemmas.List.{length-take}
use Rattle.ddcmp_frame.specs.declared.scan.Candidate.TheVariants.{Gives, Begins, Announces}
use Rattle.ddcmp_frame.specs.Spelling.{is_start, parsed}
use Rattle.ddcmp_frame.specs.Reader.{LentBeside, EndsWith}
use Rattle.ddcmp_frame.specs.Reading.{by_verdict, place_after}
use Rattle.ddcmp_frame.specs.Inside.Scan.{bytes_in, skipped_in, left_in, view_of, IsCandidate}
use Rattle.ddcmp_frame.proofs.ReadingLaws.{row-full}
use Rattle.ddcmp_frame.proofs.PushLaws.{next_place}
use Rattle.ddcmp_frame.proofs.ScanLaws.{takes-nothing, takes-item, whole-header, after-taking}
use Rattle.ddcmp_frame.proofs.ScanLaws.{waits, gives, announces, row-short}
use Rattle.ddcmp_frame.proofs.scan.Scan.take_whole_header.Goals as goal

pub returns-in-Gives-clause-takes : goal.returns-in-Gives-clause-takes
returns-in-Gives-clause-takes c =
    let s = c.args.self.now in
    let ready = c.requires.ready in
    let piece = c.args.piece.now in
    let u = take 8 piece in
    let item = c.in-Gives.item in
    let front = c.requires.front in
    let eight : length u ≡ 8 = ap length (sym front) ∙ c.told-front in
    let long = length-take 8 piece in
    let start = ap (λ t. is_start (slice_index t 0)) (sym front) ∙ c.requires.start in
    let t = whole-header s u c.requires.phase eight start in
    let place = next_place s.offset s.lost u in
    let all : take 8 u ≡ u = take_all 8 u (omega (arith, eight)) in
    let g = subst (λ y. IsCandidate s.max s.offset y (Gives item)) front c.in-Gives.ensures in
    let unlent = ap (λ n. take n (drop 8 s.buffer.items)) ready.lent in
    let row_is =
    row-full s.max place start (omega (arith, eight))
    ∙ ap (λ y. by_verdict s.max place (parsed y)) all ∙ g.row s.lost in
    takes-item (view_of s) _ piece 8 (Some item) (omega arith) (omega arith) refl refl
    (subst (LentBeside (Some item)) (sym unlent) g.lent) (omega (arith, ap length unlent))
    (λ text.
    gives (view_of s) _ text u u _ item 8 t.more
    (row_is ∙ ap (λ l. Some ((item, l) ∷ [], place_after 8 false place)) (sym unlent))
    (omega (arith, eight)) t.quiet
    (λ y ends. subst (λ l. EndsWith (Some item) l y) (sym unlent) (g.wire y ends)) (record {
      max = refl;
      counted = ap (λ n. s.offset + n) (sym eight);
      lost = refl;
      bytes = ap (λ p. bytes_in p s.buffer.items) c.requires.phase;
      skipped = ap skipped_in c.requires.phase;
      left = ap left_in c.requires.phase;
    }))

pub returns-in-Begins-clause-takes : goal.returns-in-Begins-clause-takes
returns-in-Begins-clause-takes c =
    let s = c.args.self.now in
    let ready = c.requires.ready in
    let piece = c.args.piece.now in
    let u = take 8 piece in
    let x = c.keep.new.buffer.items in
    let h = c.in-Begins.header in
    let n = c.in-Begins.count in
    let front = c.requires.front in
    let eight : length u ≡ 8 = ap length (sym front) ∙ c.told-front in
    let long = length-take 8 piece in
    let start = ap (λ t. is_start (slice_index t 0)) (sym front) ∙ c.requires.start in
    let t = whole-header s u c.requires.phase eight start in
    let held : x ≡ u =
    c.keep.ensures.items ∙ ap (λ y. y ++ c.args.front.now) c.clear.ensures.items ∙ front in
    let all : take 8 u ≡ u = take_all 8 u (omega (arith, eight)) in
    let is =
    subst (λ y. IsCandidate s.max s.offset y (Begins h n)) (front ∙ sym all)
    c.in-Begins.ensures in
    takes-nothing (view_of s) _ piece 8 (omega arith) (omega arith) refl refl
    (ap (λ n. take n (drop 8 x)) ready.lent) (λ text.
    waits (view_of s) _ text u u _ t.more
    (row-short s.max _ s.lost u h n start (omega (arith, eight)) is.0 is.1 is.2
    (omega (arith, eight))) (record {
      max = refl;
      counted = ap (λ n. s.offset + n) (sym eight);
      lost = refl;
      bytes = held;
      skipped = refl;
      left = refl;
    }))

pub returns-in-Announces-clause-takes : goal.returns-in-Announces-clause-takes
returns-in-Announces-clause-takes c =
    let s = c.args.self.now in
    let ready = c.requires.ready in
    let piece = c.args.piece.now in
    let u = take 8 piece in
    let h = c.in-Announces.header in
    let n = c.in-Announces.count in
    let front = c.requires.front in
    let eight : length u ≡ 8 = ap length (sym front) ∙ c.told-front in
    let long = length-take 8 piece in
    let start = ap (λ t. is_start (slice_index t 0)) (sym front) ∙ c.requires.start in
    let t = whole-header s u c.requires.phase eight start in
    let all : take 8 u ≡ u = take_all 8 u (omega (arith, eight)) in
    let is =
    subst (λ y. IsCandidate s.max s.offset y (Announces h n)) (front ∙ sym all)
    c.in-Announces.ensures in
    let unlent = ap (λ n. take n (drop 8 s.buffer.items)) ready.lent in
    takes-item (view_of s) _ piece 8 _ (omega arith) (omega arith) refl refl unlent
    (omega (arith, ap length unlent)) (λ text.
    announces (view_of s) _ text u u _ h n t.more eight start is.0 is.1 is.2 t.quiet unlent
    (after-taking (view_of s) _ piece 8 eight refl refl))
