-- What contracts see of a reader, and the texts that it stands for.
use Rattle.std.specs.Prelude.{◌≡◌, ℕ, ◌+◌, ◌-◌, ◌<◌, ◌≤◌, ◌↔◌, Bool, List, [], ◌∷◌, ◌++◌, length}
use Rattle.std.specs.Prelude.{take, drop, if◌then◌else◌, Option, Some, None, Result, Ok, Err, IfOk}
use Rattle.ddcmp_num.specs.declared.limits.TheConstants.{MAX_COUNT}
use Rattle.ddcmp_frame.specs.declared.header.Header.{Header}
use Rattle.ddcmp_frame.specs.declared.header.Header.TheVariants.{Data, Maint, Control}
use Rattle.ddcmp_frame.specs.declared.header.HeaderFault.{HeaderFault}
use Rattle.ddcmp_frame.specs.declared.item.Item.{Item}
use Rattle.ddcmp_frame.specs.declared.item.Item.TheVariants.{Good, HeaderCheck, DataCheck, TooLong}
use Rattle.ddcmp_frame.specs.declared.item.Item.TheVariants.{Format}
use Rattle.ddcmp_frame.specs.declared.item.Pushed.{Pushed}
use Rattle.ddcmp_frame.specs.declared.reader.ReaderRefusal.{ReaderRefusal}
use Rattle.ddcmp_frame.specs.declared.reader.ReaderRefusal.TheVariants.{MaxZero, MaxAbove16383}
use Rattle.ddcmp_frame.specs.declared.reader.ReaderRefusal.TheVariants.{Memory}
use Rattle.ddcmp_frame.specs.Fields.{CountedFields}
use Rattle.ddcmp_frame.specs.Spelling.{IsInRange, parsed}
use Rattle.ddcmp_frame.specs.Wire.{wire, IsFrame}
use Rattle.ddcmp_frame.specs.Reading.{ReadItem, Place, items, ending}
use Rattle.ddcmp_frame.specs.Resume.{NoneBegins, AtMostALoss}

-- A reader: the most data that it accepts, the number of bytes so far, whether synchronism is lost,
-- and the bytes of the unfinished frame, or if it was reported as too long how many were received
-- and how many are still to come; last the data that it lends.
pub record ReaderView : Type 0 where
  pub max : ℕ
  pub offset : ℕ
  pub lost : Bool
  pub bytes : List ℕ
  pub skipped : ℕ
  pub left : ℕ
  pub lent : List ℕ

-- the number of bytes from the start byte of the unfinished frame on
abbrev pub open_of : ReaderView → ℕ
open_of v = length v.bytes + v.skipped

-- those of them that it buffers
abbrev pub kept_of : ReaderView → ℕ
kept_of v = length v.bytes

-- the length of a frame with this header
abbrev pub frame_length : Header → ℕ
frame_length (Data h) = h.count + 10
frame_length (Maint h) = h.count + 10
frame_length (Control h) = 8

-- the number of bytes of the item whose first eight bytes are parsed so
abbrev pub candidate_length : Result Header HeaderFault → ℕ
candidate_length (Ok h) = frame_length h
candidate_length (Err f) = 8

-- how many bytes of the frame at the front of a text are still to come
abbrev pub bytes_to_come : List ℕ → ℕ
bytes_to_come t = candidate_length (parsed (take 8 t)) - length t

-- the state that a reader keeps for a place: the bytes, but only their number for a frame that is
-- too long
pub record Summarises (v : ReaderView) (p : Place) : Type 0 where
  pub lost : v.lost ≡ p.lost
  pub bytes : v.bytes ≡ (if p.told then [] else p.rest)
  pub skipped : v.skipped ≡ (if p.told then length p.rest else 0)
  pub left : v.left ≡ (if p.told then bytes_to_come p.rest else 0)

-- A reader stands for a text: its state is that of a reader that was fed the text, the summary of
-- the place where the reading of the text ends.
pub record StandsFor (reader : ReaderView) (text : List ℕ) : Type 0 where
  pub offset : reader.offset ≡ length text
  pub place : Summarises reader (ending reader.max text)

-- the items that a push yields: at most one, with the data that are lent
abbrev pub items_given : Option Item → List ℕ → List ReadItem
items_given None lent = []
items_given (Some item) lent = (item, lent) ∷ []

-- With a good item its data are lent, otherwise none.
abbrev pub LentBeside : Option Item → List ℕ → Type 0
LentBeside (Some (Good o h)) lent = IsFrame h lent
LentBeside (Some (HeaderCheck o)) lent = lent ≡ []
LentBeside (Some (DataCheck o h)) lent = lent ≡ []
LentBeside (Some (TooLong o h)) lent = lent ≡ []
LentBeside (Some (Format o f)) lent = lent ≡ []
LentBeside None lent = lent ≡ []

-- The bytes of a text from the offset of a good item on are that frame as it is written to the
-- line.
abbrev pub EndsWith : Option Item → List ℕ → List ℕ → Type 0
EndsWith (Some (Good o h)) lent text = drop o text ≡ wire h lent
EndsWith (Some (HeaderCheck o)) lent text = Unit {0}
EndsWith (Some (DataCheck o h)) lent text = Unit {0}
EndsWith (Some (TooLong o h)) lent text = Unit {0}
EndsWith (Some (Format o f)) lent text = Unit {0}
EndsWith None lent text = Unit {0}

-- what one byte does to a reader that stands for a text
pub record Grows (old : ReaderView) (b : ℕ) (given : Option Item) (new : ReaderView)
    (text : List ℕ) : Type 0 where
  pub stands : StandsFor new (text ++ b ∷ [])
  pub items : items old.max (text ++ b ∷ []) ≡ items old.max text ++ items_given given new.lent
  pub wire : EndsWith given new.lent (text ++ b ∷ [])

-- A reader of frames with at most `most` bytes of data was made, which stands for the empty text,
-- or it was refused.
pub record MakesReader (most : ℕ) (made : Result ReaderView ReaderRefusal) : Type 0 where
  pub zero : (made ≡ Err MaxZero) ↔ (most ≡ 0)
  pub above : (made ≡ Err MaxAbove16383) ↔ (MAX_COUNT < most)
  pub memory : made ≡ Err Memory → (0 < most) × (most ≤ MAX_COUNT)
  pub stands : IfOk made (λ reader. StandsFor reader [])
  pub max : IfOk made (λ reader. reader.max ≡ most)
  pub lent : IfOk made (λ reader. reader.lent ≡ [])

-- a reader is fed one byte
pub record Pushes (old : ReaderView) (byte : ℕ) (given : Option Item) (new : ReaderView)
    : Type 0 where
  pub counted : new.offset ≡ old.offset + 1
  pub max : new.max ≡ old.max
  -- The reader stands for the bytes so far, and has yielded their items.
  pub stands : (text : List ℕ) → StandsFor old text → StandsFor new (text ++ byte ∷ [])
  pub item : (text : List ℕ) → StandsFor old text
      → items old.max (text ++ byte ∷ []) ≡ items old.max text ++ items_given given new.lent
  -- A frame after discarded bytes is found, and these yield at most one item.
  pub resynchronises : (text discarded message : List ℕ) (h : Header) → StandsFor old text
      → text ++ byte ∷ [] ≡ discarded ++ wire h message → IsInRange h → IsFrame h message
      → length message ≤ old.max → NoneBegins discarded (wire h message)
      → (given ≡ Some (Good (length discarded) h)) × (new.lent ≡ message)
      × AtMostALoss (items old.max text)
  -- With a good item its data are lent, which with the header are the last bytes.
  pub lent : LentBeside given new.lent
  pub within : length new.lent ≤ old.max
  pub wire : (text : List ℕ) → StandsFor old text → EndsWith given new.lent (text ++ byte ∷ [])

-- a reader is fed a piece, and uses the bytes up to and with the first that yields an item
pub record PushesAll (old : ReaderView) (piece : List ℕ) (pushed : Pushed) (new : ReaderView)
    : Type 0 where
  pub counted : new.offset ≡ old.offset + pushed.used
  pub max : new.max ≡ old.max
  -- The reader stands for the bytes so far, and has yielded their items.
  pub stands : (text : List ℕ) → StandsFor old text
      → StandsFor new (text ++ take pushed.used piece)
  pub item : (text : List ℕ) → StandsFor old text
      → items old.max (text ++ take pushed.used piece)
      ≡ items old.max text ++ items_given pushed.item new.lent
  -- No byte before the last one used yielded an item.
  pub first : (text : List ℕ) (n : ℕ) → StandsFor old text → n < pushed.used
      → items old.max (text ++ take n piece) ≡ items old.max text
  pub used : pushed.used ≤ length piece
  pub whole : pushed.item ≡ None → pushed.used ≡ length piece
  pub some : 0 < length piece → 0 < pushed.used
  -- With a good item its data are lent, which with the header are the last bytes.
  pub lent : LentBeside pushed.item new.lent
  pub within : length new.lent ≤ old.max
  pub wire : (text : List ℕ) → StandsFor old text
      → EndsWith pushed.item new.lent (text ++ take pushed.used piece)

-- a piece begins with a data frame that a reader of at most max bytes of data accepts
pub record BeginsWith (max : ℕ) (piece : List ℕ) (h : CountedFields) (message rest : List ℕ)
    : Type 0 where
  pub is : piece ≡ wire (Data h) message ++ rest
  pub frame : IsFrame (Data h) message
  pub range : IsInRange (Data h)
  pub taken : h.count ≤ max

-- a reader uses the data frame at the front of a piece, as above, but its data stay there
abbrev pub PushesFrame : ReaderView → List ℕ → CountedFields → ReaderView → Type 0
PushesFrame old piece h new =
    PushesAll old piece
    (record { used = h.count + 10; item = Some (Good old.offset (Data h)) })
    (record new { lent = take h.count (drop 8 piece) })
