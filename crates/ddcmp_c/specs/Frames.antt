-- What C's structs of a header and of an item stand for.
use Rattle.std.specs.Prelude.{ℕ, ◌==◌, ◌&&◌, Bool, not, nat_lt, if◌then◌else◌, Option, Some, None}
use Rattle.std.specs.Prelude.{option_map}
use Rattle.ddcmp_frame.specs.declared.header.Flags.{Flags}
use Rattle.ddcmp_frame.specs.declared.header.ControlType.{ControlType}
use Rattle.ddcmp_frame.specs.declared.header.ControlType.TheVariants.{Ack, Nak, Rep, Strt, Stack}
use Rattle.ddcmp_frame.specs.declared.header.Header.{Header}
use Rattle.ddcmp_frame.specs.declared.header.Header.TheVariants.{Data, Maint, Control}
use Rattle.ddcmp_frame.specs.declared.header.HeaderFault.{HeaderFault}
use Rattle.ddcmp_frame.specs.declared.header.HeaderFault.TheVariants.{NotAStart, Check, BadType}
use Rattle.ddcmp_frame.specs.declared.header.HeaderFault.TheVariants.{CountZero}
use Rattle.ddcmp_frame.specs.declared.item.Item.{Item}
use Rattle.ddcmp_frame.specs.declared.item.Item.TheVariants.{Good, HeaderCheck, DataCheck, TooLong}
use Rattle.ddcmp_frame.specs.declared.item.Item.TheVariants.{Format}
use Rattle.ddcmp_frame.specs.Fields.{CountedFields}
pub use Rattle.ddcmp_frame.specs.Reader.{ReaderView}
use Rattle.ddcmp_c.specs.declared.frame_values.CHeader.{CHeader}
use Rattle.ddcmp_c.specs.declared.frame_values.CItem.{CItem}

-- ---- from values to C's structs

abbrev pub given_bit : Bool → ℕ
given_bit b = if b then 1 else 0

abbrev pub no_header : CHeader
no_header = record { count = 0; kind = 0; sub = 0; q = 0; s = 0; resp = 0; num = 0; addr = 0 }

abbrev pub given_counted : ℕ → CountedFields → CHeader
given_counted kind h = record {
  count = h.count;
  kind = kind;
  sub = 0;
  q = given_bit h.flags.q;
  s = given_bit h.flags.s;
  resp = h.resp;
  num = h.num;
  addr = h.addr;
}

abbrev pub given_kind : ControlType → ℕ
given_kind Ack = 3
given_kind Nak = 4
given_kind Rep = 5
given_kind Strt = 6
given_kind Stack = 7

abbrev pub given_header : Header → CHeader
given_header (Data h) = given_counted 1 h
given_header (Maint h) = given_counted 2 h
given_header (Control h) = record {
  count = 0;
  kind = given_kind h.kind;
  sub = h.sub;
  q = given_bit h.flags.q;
  s = given_bit h.flags.s;
  resp = h.resp;
  num = h.num;
  addr = h.addr;
}

-- an item with a header
abbrev pub given_with : ℕ → ℕ → Header → CItem
given_with kind offset h =
    record { offset = offset; header = given_header h; kind = kind; fault = 0; bad_type = 0 }

-- an item without one
abbrev pub given_without : ℕ → ℕ → ℕ → ℕ → CItem
given_without kind offset fault bad_type = record {
  offset = offset;
  header = no_header;
  kind = kind;
  fault = fault;
  bad_type = bad_type;
}

abbrev pub given_fault : ℕ → HeaderFault → CItem
given_fault offset (BadType code) = given_without 5 offset 1 code
given_fault offset CountZero = given_without 5 offset 2 0
given_fault offset NotAStart = given_without 5 offset 3 0
given_fault offset Check = given_without 5 offset 4 0

abbrev pub given_item : Option Item → CItem
given_item None = given_without 0 0 0 0
given_item (Some (Good offset h)) = given_with 1 offset h
given_item (Some (HeaderCheck offset)) = given_without 2 offset 0 0
given_item (Some (DataCheck offset h)) = given_with 3 offset h
given_item (Some (TooLong offset h)) = given_with 4 offset h
given_item (Some (Format offset f)) = given_fault offset f

-- ---- from C's structs to values

abbrev pub taken_flags : CHeader → Flags
taken_flags c = record { q = not (c.q == 0); s = not (c.s == 0) }

abbrev pub taken_counted : (CountedFields → Header) → CHeader → Option Header
taken_counted of c = if nat_lt 0 c.count && nat_lt c.count 16384
    then Some (of (record {
      count = c.count;
      flags = taken_flags c;
      resp = c.resp;
      num = c.num;
      addr = c.addr;
    }))
    else None

abbrev pub taken_short : ControlType → CHeader → Option Header
taken_short kind c = if nat_lt c.sub 64
    then Some (Control (record {
      kind = kind;
      sub = c.sub;
      flags = taken_flags c;
      resp = c.resp;
      num = c.num;
      addr = c.addr;
    }))
    else None

-- the header that a struct stands for, if its kind is one and its numbers are in range
abbrev pub taken_header : CHeader → Option Header
taken_header c =
    if c.kind == 1 then taken_counted Data c
    else if c.kind == 2 then taken_counted Maint c
    else if c.kind == 3 then taken_short Ack c
    else if c.kind == 4 then taken_short Nak c
    else if c.kind == 5 then taken_short Rep c
    else if c.kind == 6 then taken_short Strt c
    else if c.kind == 7 then taken_short Stack c
    else None

abbrev pub taken_fault : CItem → HeaderFault
taken_fault c =
    if c.fault == 1 then BadType c.bad_type
    else if c.fault == 2 then CountZero
    else if c.fault == 3 then NotAStart
    else Check

-- the item that a struct stands for
abbrev pub taken_item : CItem → Option Item
taken_item c =
    if c.kind == 1 then option_map (Good c.offset) (taken_header c.header)
    else if c.kind == 2 then Some (HeaderCheck c.offset)
    else if c.kind == 3 then option_map (DataCheck c.offset) (taken_header c.header)
    else if c.kind == 4 then option_map (TooLong c.offset) (taken_header c.header)
    else if c.kind == 5 then Some (Format c.offset (taken_fault c))
    else None
