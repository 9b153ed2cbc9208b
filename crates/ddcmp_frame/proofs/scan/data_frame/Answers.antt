use Rattle.std.proofs.Common.{◌≡◌, ◌+◌, refl, sym, ◌∙◌, ap, arith, rules, Ok}
use Rattle.std.proofs.Common.{Some, take, slice_index}
use Rattle.std.proofs.Common.{Result}
use Rattle.std.proofs.lemmas.List.{length-take-le, take-take}
use Rattle.ddcmp_frame.specs.Fields.{CountedFields}
use Rattle.ddcmp_frame.specs.declared.header.Header.{Header}
use Rattle.ddcmp_frame.specs.declared.header.Header.TheVariants.{Data}
use Rattle.ddcmp_frame.specs.declared.header.HeaderFault.{HeaderFault}
use Rattle.ddcmp_frame.specs.Spelling.{is_start, parsed}
use Rattle.ddcmp_frame.specs.Reading.{is_data_right}
use Rattle.ddcmp_frame.proofs.ScanLaws.{begun, index-take}
use Rattle.ddcmp_frame.proofs.scan.data_frame.Goals.{in_default-header-via-in-Data+else-is_whole}
use Rattle.ddcmp_frame.proofs.scan.data_frame.Goals.{in_default-header-via-in_default-header}
use Rattle.ddcmp_frame.proofs.scan.data_frame.Goals as goal

pub returns-in_default-clause-found : goal.returns-in_default-clause-found
returns-in_default-clause-found c h message rest b =
    let k = begun c.args.max c.args.piece.now h message rest b in
    absurd (omega (arith, k.long, c.in_default.ensures.cases))

pub returns-then-front-clause-found : goal.returns-then-front-clause-found
returns-then-front-clause-found c h message rest b =
    let k = begun c.args.max c.args.piece.now h message rest b in
    let front : c.in-Some.front.now ≡ take 8 c.args.piece.now = search rules in
    let first = ap (λ t. slice_index t 0) front ∙ k.first in
    search rules

pub returns-in_default-parse-clause-found : goal.returns-in_default-parse-clause-found
returns-in_default-parse-clause-found c h message rest b =
    let k = begun c.args.max c.args.piece.now h message rest b in
    let front : c.in-Some.front.now ≡ take 8 c.args.piece.now = search rules in
    let is = c.parse.ensures.exact ∙ ap parsed front ∙ k.is in
    absurd (cc (is, c.in_default-parse.is))

-- what was read is one header
same-header : (r : Result Header HeaderFault) (header other : Header) → r ≡ Ok header
    → r ≡ Ok other → header ≡ other
same-header r header other p q = by (sym p ∙ q)
  where
    by : ◌≡◌ {A = Result Header HeaderFault} (Ok header) (Ok other) → header ≡ other
    by e = cc

same-fields : (header : Header) (x y : CountedFields) → header ≡ Data x → header ≡ Data y → x ≡ y
same-fields header x y p q = cc

pub returns-in-Data-clause-is : goal.returns-in-Data-clause-is
returns-in-Data-clause-is c =
    let piece = c.args.piece.now in
    let n = c.fields.inside.count in
    let front : c.in-Some.front.now ≡ take 8 piece = search rules in
    let first : slice_index c.in-Some.front.now 0 ≡ 129 = search rules in
    let w = c.if-is_whole.ensures in
    record {
      bytes = w.bytes refl;
      size = length-take-le (n + 10) piece (w.fits refl).1;
      start =
          ap is_start
          (index-take (n + 10) 0 piece (omega arith) ∙ sym (index-take 8 0 piece (omega arith))
          ∙ ap (λ t. slice_index t 0) (sym front) ∙ first);
      is =
          ap parsed (take-take 8 (n + 10) piece (omega arith) ∙ sym front)
          ∙ sym c.parse.ensures.exact ∙ c.in-Ok.is
          ∙ ap Ok (c.in-Data.is ∙ ap Data (sym c.fields.view_is));
      taken = (w.fits refl).0;
      right = w.right refl;
    }

pub returns-in-Data-clause-found : goal.returns-in-Data-clause-found
returns-in-Data-clause-found c h message rest b =
    let k = begun c.args.max c.args.piece.now h message rest b in
    let front : c.in-Some.front.now ≡ take 8 c.args.piece.now = search rules in
    let is = c.parse.ensures.exact ∙ ap parsed front ∙ k.is in
    ap Some
    (c.fields.view_is
    ∙ same-fields c.in-Ok.header c.in-Data.fields h c.in-Data.is
    (same-header c.parse.result c.in-Ok.header (Data h) c.in-Ok.is is))

pub returns-in_default-header-clause-found : goal.returns-in_default-header-clause-found
returns-in_default-header-clause-found c h message rest b =
    let k = begun c.args.max c.args.piece.now h message rest b in
    let front : c.in-Some.front.now ≡ take 8 c.args.piece.now = search rules in
    let read =
    same-header c.parse.result c.in-Ok.header (Data h) c.in-Ok.is
    (c.parse.ensures.exact ∙ ap parsed front ∙ k.is) in
    elim c.in_default-header.branch [
      | in_default-header-via-in-Data+else-is_whole w ↦
          let same =
          w.fields.view_is ∙ same-fields c.in-Ok.header w.in-Data.fields h w.in-Data.is read in
          let n : w.fields.inside.count ≡ h.count = ap (λ x. x.count) same in
          let whole =
          w.is_whole.ensures.found (omega (arith, n, b.taken)) (omega (arith, n, k.long))
          (ap (λ i. is_data_right i (take (i + 10) c.args.piece.now)) n ∙ k.right) in
          absurd (cc (whole, w.if-is_whole.false))
      | in_default-header-via-in_default-header w ↦ absurd (w.in_default-header.not-Data h read)
    ]
