use Rattle.std.proofs.Common.{◌≡◌, sym, ◌∙◌, ap, arith, rules, None, Ok, length, take, take_all}
use Rattle.ddcmp_frame.specs.Spelling.{parsed}
use Rattle.ddcmp_frame.specs.Reading.{count_of, by_verdict, by_count}
use Rattle.ddcmp_frame.specs.Reader.{frame_length}
use Rattle.ddcmp_frame.specs.Step.{place_untold}
use Rattle.ddcmp_frame.proofs.WireLaws.{control-whole, frame_length-control}
use Rattle.ddcmp_frame.proofs.scan.candidate_at.Goals as goal

pub returns-in-None : goal.returns-in-None
returns-in-None c =
    let h = c.in-Ok.header in
    let t = c.args.front.now in
    let none : count_of h ≡ None = search rules in
    let is : parsed t ≡ Ok h = search rules in
    let eight : length t ≡ 8 = omega arith in
    let all : take 8 t ≡ t = take_all 8 t (omega arith) in
    let whole =
    control-whole h t (λ i. omega (arith, c.fits-front i)) (omega arith) (ap parsed all ∙ is)
    none in
    record {
      row =
          λ lost. ap (by_verdict c.args.max (place_untold c.args.at lost t)) is
          ∙ ap (by_count c.args.max (place_untold c.args.at lost t) h) none;
      lent = whole.0;
      wire =
          λ text ends. ends
          ∙ sym (take_all (frame_length h) t (omega (arith, frame_length-control h none)))
          ∙ whole.1;
    }
