-- The caption below a document.
use Rattle.std.specs.Prelude.{ℕ, Bool, ◌-◌, if◌then◌else◌, nat_lt, ◌&&◌, ◌||◌, ◌==◌, List, [], ◌∷◌}
use Rattle.std.specs.Prelude.{◌++◌, length, slice_index}
use Rattle.ddcmp_pair.specs.Run.{PairState}
use Rattle.ddcmp_line.specs.ScriptText.{counters_lines, totals_line}

-- a word that ends in "=0"
abbrev pub is_zero : List ℕ → Bool
is_zero word =
    nat_lt 1 (length word) && (slice_index word (length word - 2) == 61)
    && (slice_index word (length word - 1) == 48)

abbrev pub unless_zero : List ℕ → List ℕ
unless_zero word = if is_zero word then [] else word

-- the bytes that end a word
abbrev pub is_gap : ℕ → Bool
is_gap byte = (byte == 32) || (byte == 10)

-- A text without the counters that are 0, each with the blank before it. `word` has the bytes since
-- the last blank or LF.
unfoldable pub without_zeros : List ℕ → List ℕ → List ℕ
without_zeros word [] = unless_zero word
without_zeros word (byte ∷ rest) =
    if is_gap byte
    then unless_zero word ++ without_zeros (byte ∷ []) rest
    else without_zeros (word ++ byte ∷ []) rest

-- the end of the text of a run (`closing_text`), without the counters that are 0
abbrev pub caption_text : Bool → PairState → List ℕ
caption_text counted p =
    (if counted then without_zeros [] (counters_lines p) else []) ++ totals_line p
