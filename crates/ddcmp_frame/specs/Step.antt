-- The rows of the table as a reader applies them at the front of the bytes that it holds.
use Rattle.std.specs.Prelude.{◌≡◌, ℕ, ◌+◌, ◌<◌, ◌≤◌, Bool, true, false, List, [], ◌∷◌, length, take}
use Rattle.std.specs.Prelude.{slice_index, if◌then◌else◌, Option, Some, None, Ok, Err}
use Rattle.ddcmp_num.specs.declared.limits.TheConstants.{MAX_COUNT}
use Rattle.ddcmp_frame.specs.declared.header.HeaderFault.TheVariants.{Check}
use Rattle.ddcmp_frame.specs.declared.item.Item.{Item}
use Rattle.ddcmp_frame.specs.declared.item.Item.TheVariants.{Good, HeaderCheck, DataCheck, TooLong}
use Rattle.ddcmp_frame.specs.declared.item.Item.TheVariants.{Format}
use Rattle.ddcmp_frame.specs.declared.plain.Step.{Step}
use Rattle.ddcmp_frame.specs.declared.plain.Step.TheVariants.{Unfinished, Skips, Fails, Announces}
use Rattle.ddcmp_frame.specs.declared.plain.Step.TheVariants.{Gives}
use Rattle.ddcmp_frame.specs.Spelling.{is_start, parsed}
use Rattle.ddcmp_frame.specs.Wire.{wire, IsFrame}
use Rattle.ddcmp_frame.specs.Reading.{ReadItem, Place, place_after, count_of, data_after_header}
use Rattle.ddcmp_frame.specs.Reader.{frame_length, candidate_length}

-- a place where nothing was reported
abbrev pub place_untold : ℕ → Bool → List ℕ → Place
place_untold at lost rest = record { offset = at; lost = lost; told = false; rest = rest }

-- the number of bytes of an item
abbrev pub item_length : Item → ℕ
item_length (Good o h) = frame_length h
item_length (DataCheck o h) = frame_length h
item_length (TooLong o h) = 8
item_length (HeaderCheck o) = 8
item_length (Format o f) = 8

-- the offset of an item
abbrev pub item_offset : Item → ℕ
item_offset (Good o h) = o
item_offset (DataCheck o h) = o
item_offset (TooLong o h) = o
item_offset (HeaderCheck o) = o
item_offset (Format o f) = o

-- the row of a step
abbrev pub row_of_step : Step → Place → Option (List ReadItem × Place)
row_of_step Unfinished p = None
row_of_step Skips p = Some ([], place_after 1 p.lost p)
row_of_step Fails p =
    Some ((if p.lost then [] else (HeaderCheck p.offset, []) ∷ []), place_after 1 true p)
row_of_step (Announces h n) p = Some ((TooLong p.offset h, []) ∷ [], record p { told = true })
row_of_step (Gives item n) p =
    Some ((item, data_after_header n p.rest) ∷ [], place_after (item_length item) false p)

-- the data beside an item, as a part of the bytes
abbrev pub Lends : Item → ℕ → List ℕ → Type 0
Lends (Good o h) n bytes =
    IsFrame h (data_after_header n bytes)
    × (take (frame_length h) bytes ≡ wire h (data_after_header n bytes))
Lends (DataCheck o h) n bytes = n ≡ 0
Lends (TooLong o h) n bytes = n ≡ 0
Lends (HeaderCheck o) n bytes = n ≡ 0
Lends (Format o f) n bytes = n ≡ 0

-- what a step means for the bytes
abbrev pub Found : ℕ → ℕ → List ℕ → Step → Type 0
Found max at bytes Unfinished = length bytes < max + 10
Found max at bytes Skips = is_start (slice_index bytes 0) ≡ false
Found max at bytes Fails = (8 ≤ length bytes) × (parsed (take 8 bytes) ≡ Err Check)
Found max at bytes (Announces h n) =
    (8 ≤ length bytes) × (parsed (take 8 bytes) ≡ Ok h) × (count_of h ≡ Some n) × (max < n)
    × (n ≤ MAX_COUNT)
Found max at bytes (Gives item n) =
    (8 + n ≤ item_length item) × (item_length item ≤ length bytes)
    × (item_length item ≡ candidate_length (parsed (take 8 bytes))) × Lends item n bytes
    × (item_offset item ≡ at) × (n ≤ max)
