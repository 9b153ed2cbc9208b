-- Frames and their bytes on the line.
use Rattle.std.specs.Prelude.{◌≡◌, ℕ, ◌+◌, ◌/◌, ◌%◌, List, [], ◌∷◌, ◌++◌, length, if◌then◌else◌}
use Rattle.ddcmp_num.specs.Check.{check_of, check_pair}
use Rattle.ddcmp_frame.specs.declared.header.Flags.{Flags}
use Rattle.ddcmp_frame.specs.declared.header.Header.{Header}
use Rattle.ddcmp_frame.specs.declared.header.Header.TheVariants.{Data, Maint, Control}
use Rattle.ddcmp_frame.specs.declared.codes.TheConstants.{CONTROL_START, DATA_START, MAINT_START}
use Rattle.ddcmp_frame.specs.Fields.{CountedFields}
use Rattle.ddcmp_frame.specs.Spelling.{type_code}

-- the flags above the six low bits of the third byte
abbrev pub flag_bits : Flags → ℕ
flag_bits flags = (if flags.q then 64 else 0) + (if flags.s then 128 else 0)

abbrev pub counted_bytes : ℕ → CountedFields → List ℕ
counted_bytes first h =
    first ∷ h.count % 256 ∷ (h.count / 256 + flag_bits h.flags) ∷ h.resp ∷ h.num ∷ h.addr ∷ []

-- the six bytes of a header
unfoldable pub six_bytes : Header → List ℕ
six_bytes (Data h) = counted_bytes DATA_START h
six_bytes (Maint h) = counted_bytes MAINT_START h
six_bytes (Control h) =
    CONTROL_START ∷ type_code h.kind ∷ (h.sub + flag_bits h.flags) ∷ h.resp ∷ h.num ∷ h.addr ∷ []

-- the six bytes of a header and their CRC
abbrev pub eight_bytes : Header → List ℕ
eight_bytes h = six_bytes h ++ check_pair (check_of (six_bytes h))

-- the bytes after a header: if it has COUNT, the data and a CRC of the data alone
abbrev pub after_header : Header → List ℕ → List ℕ
after_header (Data h) data_bytes = data_bytes ++ check_pair (check_of data_bytes)
after_header (Maint h) data_bytes = data_bytes ++ check_pair (check_of data_bytes)
after_header (Control h) data_bytes = []

-- a frame as it is written to the line
unfoldable pub wire : Header → List ℕ → List ℕ
wire h data_bytes = eight_bytes h ++ after_header h data_bytes

-- a header and data that make a frame: COUNT is the length of the data, and a control header has
-- none
abbrev pub IsFrame : Header → List ℕ → Type 0
IsFrame (Data h) data_bytes = h.count ≡ length data_bytes
IsFrame (Maint h) data_bytes = h.count ≡ length data_bytes
IsFrame (Control h) data_bytes = data_bytes ≡ []
