-- The state of a scan of a line, and what its steps do.
use Rattle.std.specs.Prelude.{◌≡◌, ℕ, ◌+◌, ◌<◌, ◌≤◌, ◌^◌, Bool, true, false, List, [], ◌∷◌, ◌++◌}
use Rattle.std.specs.Prelude.{length, take, drop, slice_index, Option, Some, None, Ok, Err, vec_len}
use Rattle.std.specs.Prelude.{vec_capacity}
use Rattle.ddcmp_num.specs.declared.limits.TheConstants.{MAX_COUNT}
use Rattle.ddcmp_frame.specs.declared.header.Header.{Header as HeaderValue}
use Rattle.ddcmp_frame.specs.declared.header.Header.TheVariants.{Data}
use Rattle.ddcmp_frame.specs.declared.header.HeaderFault.TheVariants.{Check}
use Rattle.ddcmp_frame.specs.declared.item.Item.{Item}
use Rattle.ddcmp_frame.specs.declared.item.Item.TheVariants.{Good}
use Rattle.ddcmp_frame.specs.declared.item.Pushed.{Pushed}
use Rattle.ddcmp_frame.specs.declared.scan.Phase.{Phase}
use Rattle.ddcmp_frame.specs.declared.scan.Phase.TheVariants.{Seeking, Header, Frame, TooLong}
use Rattle.ddcmp_frame.specs.declared.scan.Candidate.{Candidate}
use Rattle.ddcmp_frame.specs.declared.scan.Candidate.TheVariants.{Fails, Gives, Begins, Announces}
use Rattle.ddcmp_frame.specs.declared.scan.Scan.{Scan}
use Rattle.ddcmp_frame.specs.Fields.{CountedFields}
use Rattle.ddcmp_frame.specs.Spelling.{IsBytes, is_start, parsed}
use Rattle.ddcmp_frame.specs.Reading.{place_after, count_of, by_verdict, is_data_right, items}
use Rattle.ddcmp_frame.specs.Reader.{ReaderView, StandsFor, LentBeside, EndsWith, items_given}
use Rattle.ddcmp_frame.specs.Step.{place_untold}

-- ---- the bytes held

-- the buffered bytes of the unfinished frame
abbrev pub bytes_in : Phase → List ℕ → List ℕ
bytes_in Seeking buffer = []
bytes_in Header buffer = buffer
bytes_in (Frame h n) buffer = buffer
bytes_in (TooLong skipped left) buffer = []

abbrev pub skipped_in : Phase → ℕ
skipped_in Seeking = 0
skipped_in Header = 0
skipped_in (Frame h n) = 0
skipped_in (TooLong skipped left) = skipped

abbrev pub left_in : Phase → ℕ
left_in Seeking = 0
left_in Header = 0
left_in (Frame h n) = 0
left_in (TooLong skipped left) = left

-- what contracts see of a scan
abbrev pub view_of : Scan → ReaderView
view_of s = record {
  max = s.max;
  offset = s.offset;
  lost = s.lost;
  bytes = bytes_in s.phase s.buffer.items;
  skipped = skipped_in s.phase;
  left = left_in s.phase;
  lent = take s.lent (drop 8 s.buffer.items);
}

-- fewer than eight bytes of a header
pub record HasHeader (bytes : List ℕ) : Type 0 where
  pub some : 0 < length bytes
  pub few : length bytes < 8
  pub start : is_start (slice_index bytes 0) ≡ true

-- a header with this COUNT, and some of the bytes after it
pub record HasFrame (max : ℕ) (h : HeaderValue) (count : ℕ) (bytes : List ℕ) : Type 0 where
  pub full : 8 ≤ length bytes
  pub short : length bytes < count + 10
  pub start : is_start (slice_index bytes 0) ≡ true
  pub is : parsed (take 8 bytes) ≡ Ok h
  pub counted : count_of h ≡ Some count
  pub taken : count ≤ max

-- what holds for the bytes in the buffer
abbrev pub FitsPhase : ℕ → Phase → List ℕ → Type 0
FitsPhase max Seeking bytes = Unit {0}
FitsPhase max Header bytes = HasHeader bytes
FitsPhase max (Frame h n) bytes = HasFrame max h n bytes
FitsPhase max (TooLong skipped left) bytes = (0 < left) × (skipped + left ≤ MAX_COUNT + 10)

-- The buffer was reserved for the longest frame that is accepted.
pub record IsSoundScan (s : Scan) : Type 0 where
  pub some : 0 < s.max
  pub most : s.max ≤ MAX_COUNT
  pub reserved : s.max + 10 ≤ vec_capacity s.buffer
  pub held : vec_len s.buffer ≤ s.max + 10
  pub before : length (bytes_in s.phase s.buffer.items) ≤ s.offset
  pub fits : FitsPhase s.max s.phase s.buffer.items
  pub lent : 0 < s.lent → 8 + s.lent ≤ vec_len s.buffer
  pub lent_within : s.lent ≤ s.max

-- The scan lends nothing, and the piece isn't empty.
pub record IsReady (s : Scan) (piece : List ℕ) : Type 0 where
  pub sound : IsSoundScan s
  pub lent : s.lent ≡ 0
  pub some : 0 < length piece
  pub fits : s.offset + length piece < 2 ^ 64

-- ---- the meaning of eight bytes

-- the item consists of just the eight bytes
pub record GivesItem (max at : ℕ) (bytes : List ℕ) (item : Item) : Type 0 where
  pub row : (lost : Bool) → by_verdict max (place_untold at lost bytes) (parsed bytes)
      ≡ Some ((item, []) ∷ [], place_after 8 false (place_untold at lost bytes))
  pub lent : LentBeside (Some item) []
  pub wire : (text : List ℕ) → drop at text ≡ bytes → EndsWith (Some item) [] text

abbrev pub IsCandidate : ℕ → ℕ → List ℕ → Candidate → Type 0
IsCandidate max at bytes Fails = parsed bytes ≡ Err Check
IsCandidate max at bytes (Gives item) = GivesItem max at bytes item
IsCandidate max at bytes (Begins h n) =
    (parsed bytes ≡ Ok h) × (count_of h ≡ Some n) × (n ≤ max)
IsCandidate max at bytes (Announces h n) =
    (parsed bytes ≡ Ok h) × (count_of h ≡ Some n) × (max < n) × (n ≤ MAX_COUNT)

-- ---- what a piece does

-- What bytes do to a reader that stands for a text: only the last of them may yield an item.
pub record GrowsBy (old : ReaderView) (piece : List ℕ) (given : Option Item) (new : ReaderView)
    (text : List ℕ) : Type 0 where
  pub stands : StandsFor new (text ++ piece)
  pub first : (n : ℕ) → n < length piece
      → items old.max (text ++ take n piece) ≡ items old.max text
  pub items : items old.max (text ++ piece) ≡ items old.max text ++ items_given given new.lent
  pub wire : EndsWith given new.lent (text ++ piece)

-- what a step does, which uses some bytes of a piece
pub record TakesPiece (old : ReaderView) (piece : List ℕ) (used : ℕ) (given : Option Item)
    (new : ReaderView) : Type 0 where
  pub within : used ≤ length piece
  pub some : 0 < used
  pub counted : new.offset ≡ old.offset + used
  pub max : new.max ≡ old.max
  pub lent : LentBeside given new.lent
  pub lent_within : length new.lent ≤ old.max
  pub grows : (text : List ℕ) → StandsFor old text → GrowsBy old (take used piece) given new text

-- the same for a scan
abbrev pub Takes : Scan → List ℕ → Pushed → Scan → Type 0
Takes old piece pushed new =
    TakesPiece (view_of old) piece pushed.used pushed.item (view_of new)

-- a whole data frame with both CRCs right
pub record IsDataFrame (max : ℕ) (h : CountedFields) (text : List ℕ) : Type 0 where
  pub bytes : IsBytes text
  pub size : length text ≡ h.count + 10
  pub start : is_start (slice_index text 0) ≡ true
  pub is : parsed (take 8 text) ≡ Ok (Data h)
  pub taken : h.count ≤ max
  pub right : is_data_right h.count text ≡ true

-- a step that reads such a frame from the front of a piece, where its data stay
abbrev pub TakesFrame : Scan → List ℕ → CountedFields → Scan → Type 0
TakesFrame old piece h new =
    TakesPiece (view_of old) piece (h.count + 10) (Some (Good old.offset (Data h)))
    (record (view_of new) { lent = take h.count (drop 8 piece) })

-- what all steps over a piece do, up to an item
pub record TakesAll (old : ReaderView) (piece : List ℕ) (used : ℕ) (given : Option Item)
    (new : ReaderView) : Type 0 where
  pub within : used ≤ length piece
  pub whole : given ≡ None → used ≡ length piece
  pub some : 0 < length piece → 0 < used
  pub counted : new.offset ≡ old.offset + used
  pub max : new.max ≡ old.max
  pub lent : LentBeside given new.lent
  pub lent_within : length new.lent ≤ old.max
  pub grows : (text : List ℕ) → StandsFor old text → GrowsBy old (take used piece) given new text
