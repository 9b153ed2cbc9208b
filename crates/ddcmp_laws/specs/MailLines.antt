-- The messages in an output of lines.
use Rattle.std.specs.Prelude.{ℕ, ◌==◌, if◌then◌else◌, List, [], ◌∷◌, ◌++◌, codes}
use Rattle.std.specs.Prelude.{Option, Some, None, option_to_list}

-- the lines of a text that end with LF, the first of which has begun with `front`
unfoldable pub lines_from : List ℕ → List ℕ → List (List ℕ)
lines_from front [] = []
lines_from front (byte ∷ rest) =
    if byte == 10 then front ∷ lines_from [] rest else lines_from (front ++ byte ∷ []) rest

-- what follows a word in a line that begins with it
abbrev pub after_word : List ℕ → List ℕ → Option (List ℕ)
after_word [] line = Some line
after_word (letter ∷ word) [] = None
after_word (letter ∷ word) (byte ∷ line) = if letter == byte then after_word word line else None

unfoldable pub mails_of : List (List ℕ) → List (List ℕ)
mails_of [] = []
mails_of (line ∷ rest) = option_to_list (after_word (codes "mail ") line) ++ mails_of rest

-- what follows `mail ` in each line that begins with it
abbrev pub mails_in : List ℕ → List (List ℕ)
mails_in text = mails_of (lines_from [] text)
