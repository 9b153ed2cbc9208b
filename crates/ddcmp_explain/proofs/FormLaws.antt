-- What holds of each form.
use Rattle.std.proofs.Common.{◌≡◌, ℕ, List, [], ◌++◌, ◌∙◌, refl, ap, Some, None}
use Rattle.ddcmp_input.specs.declared.place.Place.TheVariants.{Start}
use Rattle.ddcmp_input.specs.Dump.{dump_begun, line_from, place_from, shown, shown_from}
use Rattle.ddcmp_input.proofs.DumpLaws.{shown-more}
use Rattle.std.specs.Prelude.{option_to_list}
use Rattle.ddcmp_explain.specs.declared.form.Form.{Form}
use Rattle.ddcmp_explain.specs.declared.form.Form.TheVariants.{Hex, Text, Raw, Dump}
use Rattle.ddcmp_explain.specs.declared.spot.Spot.TheVariants.{Between}
use Rattle.ddcmp_explain.specs.Digits.{bytes_of, digits, first_unexpected, half_at, left_in}
use Rattle.ddcmp_explain.specs.Digits.{left_over, pairs, spelled, spot_in, unexpected_in}
use Rattle.ddcmp_explain.specs.Reads.{dump_in}
use Rattle.ddcmp_explain.proofs.DigitLaws.{digits-none, none-some, unexpected-more, unexpected-none}
use Rattle.ddcmp_explain.proofs.LogLaws.{nothing-logged, nothing-wrong, nowhere, wrong-stays}

shown-nothing : shown [] ≡ []
unfolding shown_from
shown-nothing = refl

pub unexpected-stays : (form : Form) (s t : List ℕ) (n : ℕ) → unexpected_in form s ≡ Some n
    → unexpected_in form (s ++ t) ≡ Some n
unexpected-stays Hex s t n e = unexpected-more s t n e
unexpected-stays Text s t n e = wrong-stays Between 0 n s t e
unexpected-stays Raw s t n e = absurd (none-some e)
unexpected-stays Dump s t n e =
    ap first_unexpected (shown-more Start s t)
    ∙ unexpected-more (shown s) (shown_from (place_from Start s) t) n e

pub nothing-unexpected : (form : Form) → unexpected_in form [] ≡ None
nothing-unexpected Hex = unexpected-none
nothing-unexpected Text = nothing-wrong Between 0
nothing-unexpected Raw = refl
nothing-unexpected Dump = ap first_unexpected shown-nothing ∙ unexpected-none

pub nothing-spelled : (form : Form) → bytes_of form [] ≡ []
nothing-spelled Hex = ap pairs digits-none
nothing-spelled Text = nothing-logged Between
nothing-spelled Raw = refl
nothing-spelled Dump = ap spelled shown-nothing ∙ ap pairs digits-none

pub nothing-left : (form : Form) → left_in form [] ≡ []
nothing-left Hex = ap left_over digits-none
nothing-left Text = ap (λ p. option_to_list (half_at p)) (nowhere Between)
nothing-left Raw = refl
nothing-left Dump = ap (λ t. left_over (digits t)) shown-nothing ∙ ap left_over digits-none

pub nothing-begun : (form : Form) → spot_in form [] ≡ Between
nothing-begun Hex = refl
nothing-begun Text = nowhere Between
nothing-begun Raw = refl
nothing-begun Dump = refl

pub nothing-dumped : (form : Form) → dump_in form [] ≡ dump_begun
unfolding place_from line_from
nothing-dumped Hex = refl
nothing-dumped Text = refl
nothing-dumped Raw = refl
nothing-dumped Dump = refl
