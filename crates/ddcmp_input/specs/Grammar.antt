-- The lines of a dump, and the digits of their data, as a grammar, independent of the parser.
use Rattle.std.specs.Prelude.{◌≡◌, ◌≢◌, ◌≤◌, ◌⊎◌, ℕ, true, List, [], ◌∷◌, ◌++◌, length}
use Rattle.std.specs.Char.{is_ascii_hexdigit}
use Rattle.std.specs.List.{All, filter}
use Rattle.ddcmp_input.specs.declared.place.Place.{Place}
use Rattle.ddcmp_input.specs.declared.place.Place.TheVariants.{Start}
use Rattle.ddcmp_input.specs.Dump.{place_from, shown_from}

abbrev pub IsDigit : ℕ → Type 0
IsDigit c = is_ascii_hexdigit c ≡ true

-- no LF, since that ends a line
abbrev pub IsOneLine : List ℕ → Type 0
IsOneLine text = All (λ c. c ≢ 10) text

-- After the address in a dump of `hexdump -C` or `od`: bytes of two digits, each preceded by
-- blanks; then optional blanks, or a bar and the column of text.
pub data Bytes : List ℕ → List ℕ → Type 0 where
  NoByte : Bytes [] []
  Blank : {text digits : List ℕ} → Bytes text digits → Bytes (32 ∷ text) digits
  Byte : {a b : ℕ} {text digits : List ℕ} → IsDigit a → IsDigit b → Bytes text digits
      → Bytes (32 ∷ a ∷ b ∷ text) (a ∷ b ∷ digits)
  Column : {bar : ℕ} {text : List ℕ} → (bar ≡ 124) ⊎ (bar ≡ 62) → IsOneLine text
      → Bytes (32 ∷ bar ∷ text) []

-- After the colon in a dump of `xxd`: groups of one or two bytes, each preceded by one blank; then
-- an optional blank, or two and the column of text.
pub data Groups : List ℕ → List ℕ → Type 0 where
  NoGroup : Groups [] []
  LastBlank : Groups (32 ∷ []) []
  One : {a b : ℕ} {text digits : List ℕ} → IsDigit a → IsDigit b → Groups text digits
      → Groups (32 ∷ a ∷ b ∷ text) (a ∷ b ∷ digits)
  Two : {a b c d : ℕ} {text digits : List ℕ} → IsDigit a → IsDigit b → IsDigit c → IsDigit d
      → Groups text digits → Groups (32 ∷ a ∷ b ∷ c ∷ d ∷ text) (a ∷ b ∷ c ∷ d ∷ digits)
  Behind : {text : List ℕ} → IsOneLine text → Groups (32 ∷ 32 ∷ text) []

-- 6 to 15 digits (16 would be a frame)
pub record IsAddress (text : List ℕ) : Type 0 where
  pub digits : All IsDigit text
  pub least : 6 ≤ length text
  pub most : length text ≤ 15

-- a line, which may be empty, or be just an address
pub data Line : List ℕ → List ℕ → Type 0 where
  Empty : Line [] []
  Dumped : (address : List ℕ) {text digits : List ℕ} → IsAddress address → Bytes text digits
      → Line (address ++ text) digits
  Grouped : (address : List ℕ) {text digits : List ℕ} → IsAddress address → Groups text digits
      → Line (address ++ (58 ∷ text)) digits

-- A line ends with LF, or with CR LF.
pub data LineEnd : List ℕ → Type 0 where
  Feed : LineEnd (10 ∷ [])
  ReturnFeed : LineEnd (13 ∷ 10 ∷ [])

-- the digits of a text that is otherwise blank
abbrev pub digits_in : List ℕ → List ℕ
digits_in text = filter is_ascii_hexdigit text

-- Read from a place on, of a text just these digits are kept, and the next line begins after it.
pub record Reads (place : Place) (text digits : List ℕ) : Type 0 where
  pub keeps : digits_in (shown_from place text) ≡ digits
  pub ends : place_from place text ≡ Start
