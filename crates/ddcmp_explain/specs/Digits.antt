-- How an input encodes bytes: as hexadecimal digits, as a log, raw, or as a dump.
use Rattle.std.specs.Prelude.{ℕ, ◌+◌, ◌*◌, ◌==◌, ◌||◌, nat_lt, Bool, not, is_some, List, [], ◌∷◌}
use Rattle.std.specs.Prelude.{◌++◌, ◌<◌, true, false, if◌then◌else◌, option_to_list, Option}
use Rattle.std.specs.Prelude.{Some, None}
use Rattle.std.specs.Option.{ForSome, option_map}
use Rattle.std.specs.Char.{digit_value}
use Rattle.std.specs.List.{filter_map, take_while, position_from}
use Rattle.ddcmp_input.specs.Dump.{shown}
use Rattle.ddcmp_explain.specs.declared.form.Form.{Form}
use Rattle.ddcmp_explain.specs.declared.form.Form.TheVariants.{Hex, Text, Raw, Dump}
use Rattle.ddcmp_explain.specs.declared.spot.Spot.{Spot}
use Rattle.ddcmp_explain.specs.declared.spot.Spot.TheVariants.{Between, Zero, Prefixed, Half}
use Rattle.ddcmp_explain.specs.declared.spot.Spot.TheVariants.{Comment, Wrong}

-- the value of a hexadecimal digit, in either case
abbrev pub hex_value : ℕ → Option ℕ
hex_value c = if nat_lt (digit_value c) 16 then Some (digit_value c) else None

-- space, tab, CR and LF, which may be between digits and are ignored
abbrev pub is_blank : ℕ → Bool
is_blank c = (c == 32) || ((c == 9) || ((c == 13) || (c == 10)))

abbrev pub is_readable : ℕ → Bool
is_readable c = is_blank c || is_some (hex_value c)

-- the index of the first byte that is neither blank nor a digit
unfoldable pub first_unexpected : List ℕ → Option ℕ
first_unexpected input = position_from (λ c. not (is_readable c)) 0 input

-- the values of the digits before it
unfoldable pub digits : List ℕ → List ℕ
digits input = filter_map hex_value (take_while is_readable input)

-- Two digits make a byte, the high one first. An odd digit at the end is ignored.
abbrev pub pairs : List ℕ → List ℕ
pairs [] = []
pairs (high ∷ []) = []
pairs (high ∷ low ∷ rest) = (high * 16 + low) ∷ pairs rest

-- the odd digit at the end, if there is one
abbrev pub left_over : List ℕ → List ℕ
left_over [] = []
left_over (high ∷ []) = high ∷ []
left_over (high ∷ low ∷ rest) = left_over rest

-- the complete bytes that an input encodes
abbrev pub spelled : List ℕ → List ℕ
spelled input = pairs (digits input)

-- ---- a log: two digits a byte, optionally after `0x`

-- separators between bytes: blanks, colons, hyphens and commas
abbrev pub is_between : ℕ → Bool
is_between c = is_blank c || ((c == 58) || ((c == 45) || (c == 44)))

-- between bytes: a digit begins a byte, a `#` begins a comment
abbrev pub begins_with : Option ℕ → ℕ → Spot
begins_with (Some high) c = if high == 0 then Zero else Half high
begins_with None c =
    if is_between c then Between else if c == 35 then Comment else Wrong

-- the `x` of `0x`
abbrev pub is_x : ℕ → Bool
is_x c = (c == 120) || (c == 88)

-- The second digit completes a byte.
abbrev pub ends_with : Option ℕ → Spot
ends_with (Some low) = Between
ends_with None = Wrong

abbrev pub zero_then : Option ℕ → ℕ → Spot
zero_then (Some low) c = Between
zero_then None c = if is_x c then Prefixed else Wrong

-- After `0x` a digit must follow.
abbrev pub prefixed_then : Option ℕ → Spot
prefixed_then (Some high) = Half high
prefixed_then None = Wrong

-- A comment ends with its line. Nothing is parsed after a wrong character.
abbrev pub spot_by : Spot → Option ℕ → ℕ → Spot
spot_by Between digit c = begins_with digit c
spot_by Zero digit c = zero_then digit c
spot_by Prefixed digit c = prefixed_then digit
spot_by (Half high) digit c = ends_with digit
spot_by Comment digit c = if c == 10 then Between else Comment
spot_by Wrong digit c = Wrong

unfoldable pub spot_after : Spot → ℕ → Spot
spot_after spot c = spot_by spot (hex_value c) c

-- the byte that a character completes
abbrev pub completed_by : Spot → Option ℕ → Option ℕ
completed_by Between digit = None
completed_by Zero digit = digit
completed_by Prefixed digit = None
completed_by (Half high) digit = option_map (λ low. high * 16 + low) digit
completed_by Comment digit = None
completed_by Wrong digit = None

unfoldable pub completed_at : Spot → ℕ → Option ℕ
completed_at spot c = completed_by spot (hex_value c)

-- the state after some characters, and the bytes that they complete
unfoldable pub spot_from : Spot → List ℕ → Spot
spot_from spot [] = spot
spot_from spot (c ∷ rest) = spot_from (spot_after spot c) rest

unfoldable pub logged_from : Spot → List ℕ → List ℕ
logged_from spot [] = []
logged_from spot (c ∷ rest) =
    option_to_list (completed_at spot c) ++ logged_from (spot_after spot c) rest

abbrev pub is_wrong : Spot → Bool
is_wrong Between = false
is_wrong Zero = false
is_wrong Prefixed = false
is_wrong (Half high) = false
is_wrong Comment = false
is_wrong Wrong = true

-- the index of the first wrong character, if the first of these has index `place`
unfoldable pub wrong_from : Spot → ℕ → List ℕ → Option ℕ
wrong_from spot place [] = None
wrong_from spot place (c ∷ rest) =
    if is_wrong (spot_after spot c) then Some place
    else wrong_from (spot_after spot c) (place + 1) rest

-- the first digit of a byte that isn't complete; after `0x` it is the zero
abbrev pub half_at : Spot → Option ℕ
half_at Between = None
half_at Zero = Some 0
half_at Prefixed = Some 0
half_at (Half high) = Some high
half_at Comment = None
half_at Wrong = None

-- ---- for each form; a dump encodes what the digits of its data do

-- the complete bytes of an input
abbrev pub bytes_of : Form → List ℕ → List ℕ
bytes_of Hex input = spelled input
bytes_of Text input = logged_from Between input
bytes_of Raw input = input
bytes_of Dump input = spelled (shown input)

-- the index of the first byte that isn't allowed where it is
abbrev pub unexpected_in : Form → List ℕ → Option ℕ
unexpected_in Hex input = first_unexpected input
unexpected_in Text input = wrong_from Between 0 input
unexpected_in Raw input = None
unexpected_in Dump input = first_unexpected (shown input)

-- the digit that is left over, if there is one
abbrev pub left_in : Form → List ℕ → List ℕ
left_in Hex input = left_over (digits input)
left_in Text input = option_to_list (half_at (spot_from Between input))
left_in Raw input = []
left_in Dump input = left_over (digits (shown input))

-- the state of the log parser after an input
abbrev pub spot_in : Form → List ℕ → Spot
spot_in Hex input = Between
spot_in Text input = spot_from Between input
spot_in Raw input = Between
spot_in Dump input = Between

-- The digit that is left over is below 16.
abbrev pub IsSmall : Spot → Type 0
IsSmall spot = ForSome (half_at spot) (λ v. v < 16)
