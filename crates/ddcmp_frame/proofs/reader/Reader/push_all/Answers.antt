use Rattle.std.proofs.Common.{◌≡◌, ◌<◌, ◌++◌, List, ℕ, [], sym, ◌∙◌, ap, arith, take, subst, rules}
use Rattle.std.proofs.lemmas.List.{length-take-le, take-take}
use Rattle.ddcmp_frame.specs.Reader.{StandsFor}
use Rattle.ddcmp_frame.specs.Reading.{items}
use Rattle.ddcmp_frame.specs.Inside.Scan.{view_of}
use Rattle.ddcmp_frame.proofs.PartLaws.{stands-unlent}
use Rattle.ddcmp_frame.proofs.reader.Reader.push_all.Goals as goal

pub returns : goal.returns
returns c =
    let takes = c.take_all.ensures.takes in
    let piece = c.args.piece.now in
    let used = c.take_all.result.used in
    let max = c.self.inside.scan.max in
    let first =
    subst
    (λ v. (text : List ℕ) (n : ℕ) → StandsFor v text → n < used
    → items v.max (text ++ take n piece) ≡ items v.max text) c.self.view_is
    (λ text n s few.
    ap (λ t. items max (text ++ t)) (sym (take-take n used piece (omega (arith, few))))
    ∙ (takes.grows text (stands-unlent (view_of c.self.inside.scan) [] text s)).first n
    (omega (arith, few, length-take-le used piece takes.within))) in
    record {
      counted = search rules;
      max = search rules;
      stands = search rules;
      item = search rules;
      first = first;
      used = search rules;
      whole = search rules;
      some = search rules;
      lent = search rules;
      within = search rules;
      wire = search rules;
    }
