use Rattle.std.proofs.Common.{◌≡◌, ◌≤◌, refl, ap, subst, arith, length, take, drop}
use Rattle.std.proofs.lemmas.List.{length-take-le}
use Rattle.ddcmp_frame.specs.declared.scan.Phase.TheVariants.{TooLong}
use Rattle.ddcmp_frame.specs.Inside.Scan.{FitsPhase, skipped_in, left_in, view_of}
use Rattle.ddcmp_frame.proofs.ScanLaws.{takes-nothing, passes, passes-all}
use Rattle.ddcmp_frame.proofs.scan.Scan.pass.Goals as goal

pub returns-then-used-left-clause-takes : goal.returns-then-used-left-clause-takes
returns-then-used-left-clause-takes c =
    let s = c.args.self.now in
    let used = c.min-used.result in
    let within : used ≤ length c.args.piece.now = omega arith in
    let lu = length-take-le used c.args.piece.now within in
    let past : skipped_in s.phase ≡ c.args.skipped = ap skipped_in c.requires.phase in
    let to_come : left_in s.phase ≡ c.args.left = ap left_in c.requires.phase in
    takes-nothing (view_of s) _ c.args.piece.now used within (omega arith) refl refl
    (ap (λ n. take n (drop 8 s.buffer.items)) c.requires.ready.lent) (λ text.
    passes (view_of s) _ text (take used c.args.piece.now) (omega arith)
    (record {
      max = refl;
      counted = omega arith;
      lost = refl;
      bytes = refl;
      skipped = omega arith;
      left = omega arith;
    }))

pub returns-clause-takes : goal.returns-clause-takes
returns-clause-takes c =
    let s = c.args.self.now in
    let used = c.min-used.result in
    let within : used ≤ length c.args.piece.now = omega arith in
    let lu = length-take-le used c.args.piece.now within in
    let to_come : left_in s.phase ≡ c.args.left = ap left_in c.requires.phase in
    let fits : FitsPhase s.max (TooLong c.args.skipped c.args.left) s.buffer.items =
    subst (λ p. FitsPhase s.max p s.buffer.items)
    c.requires.phase c.requires.ready.sound.fits in
    let some = fits.0 in
    takes-nothing (view_of s) _ c.args.piece.now used within (omega arith) refl refl
    (ap (λ n. take n (drop 8 s.buffer.items)) c.requires.ready.lent) (λ text.
    passes-all (view_of s) _ text (take used c.args.piece.now) (omega arith) (omega arith)
    (record {
      max = refl;
      counted = omega arith;
      lost = refl;
      bytes = refl;
      skipped = refl;
      left = refl;
    }))
