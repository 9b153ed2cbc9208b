use Rattle.std.proofs.Common.{◌∙◌, ap, refl, [], ◌∷◌, Ok, Err, true, false}
use Rattle.ddcmp_frame.specs.declared.header.HeaderFault.TheVariants.{Check, BadType, CountZero}
use Rattle.ddcmp_frame.specs.declared.item.Item.TheVariants.{Good, TooLong}
use Rattle.ddcmp_frame.specs.Reading.{place_after, by_count}
use Rattle.ddcmp_frame.specs.Rows.{outcome_after}
use Rattle.ddcmp_frame.specs.Step.{place_untold}
use Rattle.ddcmp_frame.proofs.ReadingLaws.{read-none, read-some, read-nothing, row-passes}
use Rattle.ddcmp_frame.proofs.ReadingLaws.{row-waits}
use Rattle.ddcmp_frame.proofs.TableLaws.{read-by, read-too-long, read-passed, read-passing}
use Rattle.ddcmp_frame.proofs.TableLaws.{read-unfinished, read-whole}
use Rattle.ddcmp_frame.proofs.laws.reading_table.Goals as goal

pub returns : goal.returns
returns c = record {
  nothing = λ max o lost. read-nothing max (place_untold o lost []) refl;
  skipped =
      λ max o b lost t other. read-some max (place_untold o lost (b ∷ t)) _
      (row-passes max (place_untold o lost (b ∷ t)) b t refl other);
  short =
      λ max o lost t start few. read-none max (place_untold o lost t)
      (row-waits max (place_untold o lost t) start few);
  failed = λ max o lost t start full is. read-by max o lost t (Err Check) _ start full is refl;
  bad_type =
      λ max o code lost t start full is. read-by max o lost t (Err (BadType code))
      _ start full is refl;
  count_zero =
      λ max o lost t start full is. read-by max o lost t (Err CountZero) _ start full is refl;
  control =
      λ max o lost t h start full is none. read-by max o lost t (Ok h)
      ((Good o h, []) ∷ [], place_after 8 false (place_untold o lost t)) start full is
      (ap (by_count max (place_untold o lost t) h) none);
  too_long = λ max o n lost t h start full is some above whole.
      read-too-long max o n lost t h start full is some above
      ∙ ap (outcome_after ((TooLong o h, []) ∷ []))
      (read-passed max o n lost t h start full is some above whole);
  too_long_open = λ max o n lost t h start full is some above short.
      read-too-long max o n lost t h start full is some above
      ∙ ap (outcome_after ((TooLong o h, []) ∷ []))
      (read-passing max o n lost t h start full is some above short);
  unfinished =
      λ max o n lost t h start full is some below short. read-unfinished max o n lost t h start full
      is some below short;
  good =
      λ max o n lost t h start full is some below whole right. read-whole max o n lost t h true
      start full is some below whole right;
  damaged =
      λ max o n lost t h start full is some below whole wrong. read-whole max o n lost t h false
      start full is some below whole wrong;
}
