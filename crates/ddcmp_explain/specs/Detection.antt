-- Which form an input has, judged by its first bytes.
use Rattle.std.specs.Prelude.{ℕ, ◌+◌, ◌==◌, ◌&&◌, ◌||◌, nat_lt, nat_le, Bool, if◌then◌else◌, List}
use Rattle.std.specs.Prelude.{[], ◌∷◌, take}
use Rattle.std.specs.Char.{is_ascii_hexdigit}
use Rattle.ddcmp_explain.specs.declared.detection.Sight.{Sight}
use Rattle.ddcmp_explain.specs.declared.detection.Sight.TheVariants as sight
use Rattle.ddcmp_explain.specs.declared.form.Form.{Form}
use Rattle.ddcmp_explain.specs.declared.form.Form.TheVariants.{Raw, Dump, Text}
use Rattle.ddcmp_explain.specs.declared.form.InputForm.{InputForm}
use Rattle.ddcmp_explain.specs.declared.form.InputForm.TheVariants.{As, Detected}

-- printable ASCII, tab, CR and LF
abbrev pub is_text : ℕ → Bool
is_text c = (nat_le 32 c && nat_le c 126) || ((c == 9) || ((c == 13) || (c == 10)))

-- ---- the first line that isn't empty, if it begins like a line of a dump

-- It begins with an address.
abbrev pub start_then : ℕ → Sight
start_then c =
    if is_ascii_hexdigit c then sight.Address 1
    else if (c == 10) || (c == 13) then sight.Start
    else sight.Text

-- Blanks follow.
abbrev pub colon_then : ℕ → Sight
colon_then c = if c == 32 then sight.Blanks else sight.Text

-- An address has 6 to 15 hexadecimal digits (16 would be a frame); a colon may follow.
abbrev pub address_then : ℕ → ℕ → Sight
address_then count c =
    if is_ascii_hexdigit c
    then if nat_lt count 15 then sight.Address (count + 1) else sight.Text
    else if nat_lt count 6 then sight.Text
    else if c == 58 then sight.Colon
    else colon_then c

-- Then follows a digit of data.
abbrev pub blanks_then : ℕ → Sight
blanks_then c = if is_ascii_hexdigit c then sight.Dump else colon_then c

abbrev pub line_then : Sight → ℕ → Sight
line_then sight.Start c = start_then c
line_then (sight.Address count) c = address_then count c
line_then sight.Colon c = colon_then c
line_then sight.Blanks c = blanks_then c
line_then sight.Dump c = sight.Dump
line_then sight.Text c = sight.Text
line_then sight.Raw c = sight.Raw

-- A byte that isn't text makes the input raw.
unfoldable pub sight_after : Sight → ℕ → Sight
sight_after at c = if is_text c then line_then at c else sight.Raw

unfoldable pub sight_from : Sight → List ℕ → Sight
sight_from at [] = at
sight_from at (c ∷ rest) = sight_from (sight_after at c) rest

abbrev pub detected_at : Sight → Form
detected_at sight.Start = Text
detected_at (sight.Address count) = Text
detected_at sight.Colon = Text
detected_at sight.Blanks = Text
detected_at sight.Dump = Dump
detected_at sight.Text = Text
detected_at sight.Raw = Raw

abbrev pub detected_first : List ℕ → Form
detected_first first = detected_at (sight_from sight.Start first)

-- the form of an input, detected from its first 64 bytes
abbrev pub detected : List ℕ → Form
detected input = detected_first (take 64 input)

-- the form in which an input is read
abbrev pub form_in : InputForm → List ℕ → Form
form_in (As form) input = form
form_in Detected input = detected input
