-- Frames and their bytes on the line, and sizes of stations.
use Rattle.std.specs.Prelude.{◌≡◌, ℕ, List, [], ◌∷◌, map, Bool, false, Ok}
use Rattle.ddcmp_frame.specs.declared.header.Flags.{Flags}
use Rattle.ddcmp_frame.specs.declared.header.ControlType.{ControlType}
use Rattle.ddcmp_frame.specs.declared.header.Header.{Header}
use Rattle.ddcmp_frame.specs.declared.header.Header.TheVariants as header
use Rattle.ddcmp_frame.specs.Spelling.{parsed}
use Rattle.ddcmp_frame.specs.Wire.{eight_bytes}
use Rattle.ddcmp_frame.specs.Reading.{items}
use Rattle.ddcmp_core.specs.Table.{Frame, Good}
use Rattle.ddcmp_proto.specs.Bytes.{frame_on_line, received_of}
use Rattle.ddcmp_proto.specs.declared.config.Config.{Config}

-- the text `123456789`, whose CRC is published for each kind of CRC
abbrev pub nine_digits : List ℕ
nine_digits = 0x31 ∷ 0x32 ∷ 0x33 ∷ 0x34 ∷ 0x35 ∷ 0x36 ∷ 0x37 ∷ 0x38 ∷ 0x39 ∷ []

-- the text `abc`
abbrev pub abc : List ℕ
abc = 0x61 ∷ 0x62 ∷ 0x63 ∷ []

-- sizes for one message at a time, of at most 5 bytes
abbrev pub small : Config
small = record { window = 1; max = 5; inbox = 1; syn = 0; restart = false }

abbrev pub flags : Bool → Bool → Flags
flags q s = record { q = q; s = s }

-- a control header, by its TYPE, SUBTYPE, flags Q and S, RESP, NUM and ADDR
abbrev pub control : ControlType → ℕ → Bool → Bool → ℕ → ℕ → ℕ → Header
control kind sub q s resp num addr =
    header.Control (record {
      kind = kind;
      sub = sub;
      flags = flags q s;
      resp = resp;
      num = num;
      addr = addr;
    })

-- a data header, by its COUNT, flags Q and S, RESP, NUM and ADDR
abbrev pub data_of : ℕ → Bool → Bool → ℕ → ℕ → ℕ → Header
data_of count q s resp num addr =
    header.Data (record {
      count = count;
      flags = flags q s;
      resp = resp;
      num = num;
      addr = addr;
    })

-- a maintenance header, by the same
abbrev pub maintenance_of : ℕ → Bool → Bool → ℕ → ℕ → ℕ → Header
maintenance_of count q s resp num addr =
    header.Maint (record {
      count = count;
      flags = flags q s;
      resp = resp;
      num = num;
      addr = addr;
    })

-- This header is written as these eight bytes, and they are read as this header.
pub record IsHeader (h : Header) (bytes : List ℕ) : Type 0 where
  pub written : eight_bytes h ≡ bytes
  pub read : parsed bytes ≡ Ok h

-- A station without fill writes this frame as these bytes, and a station whose messages have at
-- most 1500 bytes reads them as this frame.
pub record IsOnLine (f : Frame) (bytes : List ℕ) : Type 0 where
  pub written : frame_on_line 0 f ≡ bytes
  pub read : map received_of (items 1500 bytes) ≡ Good f ∷ []
