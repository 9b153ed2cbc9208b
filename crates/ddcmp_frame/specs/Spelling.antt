-- How a header is encoded in bytes.
use Rattle.std.specs.Prelude.{◌≡◌, ◌≢◌, ℕ, ◌+◌, ◌*◌, ◌/◌, ◌%◌, ◌<◌, ◌≤◌, ◌==◌, ◌&&◌, ◌||◌, ◌↔◌}
use Rattle.std.specs.Prelude.{Bool, true, false, IsTrue, List, length, take, drop, slice_index}
use Rattle.std.specs.Prelude.{if◌then◌else◌, Option, Some, None, Result, Ok, Err}
use Rattle.ddcmp_num.specs.Check.{check_of, check_pair}
use Rattle.ddcmp_frame.specs.declared.header.Flags.{Flags}
use Rattle.ddcmp_frame.specs.declared.header.ControlType.{ControlType}
use Rattle.ddcmp_frame.specs.declared.header.ControlType.TheVariants.{Ack, Nak, Rep, Strt, Stack}
use Rattle.ddcmp_frame.specs.declared.header.Header.{Header}
use Rattle.ddcmp_frame.specs.declared.header.Header.TheVariants.{Data, Maint, Control}
use Rattle.ddcmp_frame.specs.declared.header.HeaderFault.{HeaderFault}
use Rattle.ddcmp_frame.specs.declared.header.HeaderFault.TheVariants.{NotAStart, Check, BadType}
use Rattle.ddcmp_frame.specs.declared.header.HeaderFault.TheVariants.{CountZero}
use Rattle.ddcmp_num.specs.declared.limits.TheConstants.{MAX_COUNT}
use Rattle.ddcmp_frame.specs.declared.codes.TheConstants.{CONTROL_START, DATA_START, MAINT_START}
use Rattle.ddcmp_frame.specs.declared.codes.TheConstants.{ACK_TYPE, NAK_TYPE, REP_TYPE, STRT_TYPE}
use Rattle.ddcmp_frame.specs.declared.codes.TheConstants.{STACK_TYPE}
use Rattle.ddcmp_frame.specs.Fields.{ShortFields, CountedFields}

-- a text: each of its numbers is below 256
abbrev pub IsBytes : List ℕ → Type 0
IsBytes bytes = (i : ℕ) → slice_index bytes i < 256

-- the bytes at which a header may begin: of a control, a data and a maintenance message
abbrev pub is_start : ℕ → Bool
is_start b = (b == CONTROL_START) || ((b == DATA_START) || (b == MAINT_START))

-- ---- the relation

-- the TYPE of a control header
abbrev pub type_code : ControlType → ℕ
type_code Ack = ACK_TYPE
type_code Nak = NAK_TYPE
type_code Rep = REP_TYPE
type_code Strt = STRT_TYPE
type_code Stack = STACK_TYPE

-- COUNT: the second byte and the six low bits of the third
abbrev pub count_field : List ℕ → ℕ
count_field bytes = slice_index bytes 1 + 256 * (slice_index bytes 2 % 64)

-- a control header and its six bytes
pub record SpellsShort (h : ShortFields) (bytes : List ℕ) : Type 0 where
  pub len : length bytes ≡ 6
  pub start : slice_index bytes 0 ≡ CONTROL_START
  pub kind : slice_index bytes 1 ≡ type_code h.kind
  pub sub : slice_index bytes 2 % 64 ≡ h.sub
  pub q : IsTrue h.flags.q ↔ (slice_index bytes 2 / 64 % 2 ≡ 1)
  pub s : IsTrue h.flags.s ↔ (slice_index bytes 2 / 128 % 2 ≡ 1)
  pub resp : slice_index bytes 3 ≡ h.resp
  pub num : slice_index bytes 4 ≡ h.num
  pub addr : slice_index bytes 5 ≡ h.addr

-- a header with COUNT, its start byte and its six bytes
pub record SpellsCounted (first : ℕ) (h : CountedFields) (bytes : List ℕ) : Type 0 where
  pub len : length bytes ≡ 6
  pub start : slice_index bytes 0 ≡ first
  pub count : count_field bytes ≡ h.count
  pub some : 0 < h.count
  pub q : IsTrue h.flags.q ↔ (slice_index bytes 2 / 64 % 2 ≡ 1)
  pub s : IsTrue h.flags.s ↔ (slice_index bytes 2 / 128 % 2 ≡ 1)
  pub resp : slice_index bytes 3 ≡ h.resp
  pub num : slice_index bytes 4 ≡ h.num
  pub addr : slice_index bytes 5 ≡ h.addr

-- a header and the six bytes that encode it
abbrev pub Spells : Header → List ℕ → Type 0
Spells (Data h) bytes = SpellsCounted DATA_START h bytes
Spells (Maint h) bytes = SpellsCounted MAINT_START h bytes
Spells (Control h) bytes = SpellsShort h bytes

-- the last two of eight bytes are the CRC of the first six
abbrev pub HasCheck : List ℕ → Type 0
HasCheck bytes = drop 6 bytes ≡ check_pair (check_of (take 6 bytes))

-- a TYPE that no control message has
abbrev pub IsNoType : ℕ → Type 0
IsNoType c = (kind : ControlType) → c ≢ type_code kind

-- the ranges of the numbers that a header holds
abbrev pub IsInRange : Header → Type 0
IsInRange (Data h) = (0 < h.count) × (h.count ≤ MAX_COUNT)
IsInRange (Maint h) = (0 < h.count) × (h.count ≤ MAX_COUNT)
IsInRange (Control h) = h.sub < 64

-- what each verdict means for eight bytes
abbrev pub Says : Result Header HeaderFault → List ℕ → Type 0
Says (Ok h) bytes = Spells h (take 6 bytes) × HasCheck bytes
Says (Err NotAStart) bytes = is_start (slice_index bytes 0) ≡ false
Says (Err Check) bytes = (is_start (slice_index bytes 0) ≡ true) × (¬ HasCheck bytes)
Says (Err (BadType c)) bytes =
    (slice_index bytes 0 ≡ CONTROL_START) × HasCheck bytes × (slice_index bytes 1 ≡ c) × IsNoType c
Says (Err CountZero) bytes =
    (is_start (slice_index bytes 0) ≡ true) × (slice_index bytes 0 ≢ CONTROL_START)
    × HasCheck bytes × (count_field bytes ≡ 0)

-- ---- the same as a function, for the reading of a text

abbrev pub kind_of : ℕ → Option ControlType
kind_of c =
    if c == ACK_TYPE then Some Ack
    else if c == NAK_TYPE then Some Nak
    else if c == REP_TYPE then Some Rep
    else if c == STRT_TYPE then Some Strt
    else if c == STACK_TYPE then Some Stack
    else None

unfoldable pub is_check_right : List ℕ → Bool
is_check_right bytes =
    (slice_index bytes 6 == check_of (take 6 bytes) % 256)
    && (slice_index bytes 7 == check_of (take 6 bytes) / 256)

abbrev pub flags_of : List ℕ → Flags
flags_of bytes =
    record { q = slice_index bytes 2 / 64 % 2 == 1; s = slice_index bytes 2 / 128 % 2 == 1 }

abbrev pub short_of : ControlType → List ℕ → ShortFields
short_of kind bytes = record {
  kind = kind;
  sub = slice_index bytes 2 % 64;
  flags = flags_of bytes;
  resp = slice_index bytes 3;
  num = slice_index bytes 4;
  addr = slice_index bytes 5;
}

abbrev pub counted_of : List ℕ → CountedFields
counted_of bytes = record {
  count = count_field bytes;
  flags = flags_of bytes;
  resp = slice_index bytes 3;
  num = slice_index bytes 4;
  addr = slice_index bytes 5;
}

abbrev pub short_or_fault : List ℕ → Option ControlType → Result Header HeaderFault
short_or_fault bytes (Some kind) = Ok (Control (short_of kind bytes))
short_or_fault bytes None = Err (BadType (slice_index bytes 1))

abbrev pub counted_or_none : List ℕ → Option CountedFields
counted_or_none bytes = if count_field bytes == 0 then None else Some (counted_of bytes)

abbrev pub counted_or_fault : ℕ → Option CountedFields → Result Header HeaderFault
counted_or_fault first None = Err CountZero
counted_or_fault first (Some h) = Ok (if first == DATA_START then Data h else Maint h)

abbrev pub by_start : List ℕ → Result Header HeaderFault
by_start bytes =
    if slice_index bytes 0 == CONTROL_START
    then short_or_fault bytes (kind_of (slice_index bytes 1))
    else counted_or_fault (slice_index bytes 0) (counted_or_none bytes)

-- the header that eight bytes encode, or the first fault
unfoldable pub parsed : List ℕ → Result Header HeaderFault
parsed bytes =
    if is_start (slice_index bytes 0)
    then (if is_check_right bytes then by_start bytes else Err Check)
    else Err NotAStart
