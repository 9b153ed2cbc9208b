-- The place of the frames that arrived among those that were sent.
use Rattle.std.specs.Prelude.{◌≡◌, ℕ, ◌+◌, ◌⊎◌, Bool, true, false, ◌&&◌, ◌==◌, List, [], ◌∷◌, drop}
use Rattle.std.specs.Prelude.{if◌then◌else◌, Option, Some, None, option_map, option_and_then}
use Rattle.ddcmp_frame.specs.Fields.{ShortFields, CountedFields}
use Rattle.ddcmp_frame.specs.Spelling.{type_code}
use Rattle.ddcmp_frame.specs.declared.item.Item.{Item}
use Rattle.ddcmp_frame.specs.declared.item.Item.TheVariants as item
use Rattle.ddcmp_frame.specs.declared.header.Flags.{Flags}
use Rattle.ddcmp_frame.specs.declared.header.Header.{Header}
use Rattle.ddcmp_frame.specs.declared.header.Header.TheVariants as header

-- a whole frame: its header and its data
abbrev pub WholeFrame : Type 0
WholeFrame = Header × List ℕ

-- ---- frames are equal if all fields and the data are

abbrev pub same_flag : Bool → Bool → Bool
same_flag true flag = flag
same_flag false true = false
same_flag false false = true

abbrev pub same_flags : Flags → Flags → Bool
same_flags f g = same_flag f.q g.q && same_flag f.s g.s

abbrev pub same_short : ShortFields → ShortFields → Bool
same_short g h =
    type_code g.kind == type_code h.kind && (g.sub == h.sub && (same_flags g.flags h.flags
    && (g.resp == h.resp && (g.num == h.num && g.addr == h.addr))))

abbrev pub same_counted : CountedFields → CountedFields → Bool
same_counted g h =
    g.count == h.count && (same_flags g.flags h.flags
    && (g.resp == h.resp && (g.num == h.num && g.addr == h.addr)))

abbrev pub same_header : Header → Header → Bool
same_header (header.Data g) (header.Data h) = same_counted g h
same_header (header.Maint g) (header.Maint h) = same_counted g h
same_header (header.Control g) (header.Control h) = same_short g h
same_header _ _ = false

abbrev pub same_bytes : List ℕ → List ℕ → Bool
same_bytes [] [] = true
same_bytes (x ∷ xs) (y ∷ ys) = x == y && same_bytes xs ys
same_bytes _ _ = false

abbrev pub same_frame : WholeFrame → WholeFrame → Bool
same_frame f g = same_header f.0 g.0 && same_bytes f.1 g.1

-- ---- the place

-- the first index of a frame
unfoldable pub first_index : WholeFrame → List WholeFrame → Option ℕ
first_index f [] = None
first_index f (g ∷ rest) =
    if same_frame f g then Some 0 else option_map (λ i. i + 1) (first_index f rest)

-- one past the first index of a frame among those sent, from a place on
abbrev pub place_after : WholeFrame → List WholeFrame → ℕ → Option ℕ
place_after f sent place = option_map (λ i. place + i + 1) (first_index f (drop place sent))

-- the same for frames that arrived one after another; none, if one of them wasn't sent there
unfoldable pub place_from : Option ℕ → List WholeFrame → List WholeFrame → Option ℕ
place_from place [] sent = place
place_from place (f ∷ rest) sent =
    place_from (option_and_then (place_after f sent) place) rest sent

-- The place of the frames that arrived among those that were sent: each is searched after the one
-- before it. There is a place if the former are a subsequence of the latter.
abbrev pub place_of : List WholeFrame → List WholeFrame → Option ℕ
place_of arrived sent = place_from (Some 0) arrived sent

-- the place after the item that a byte completed
abbrev pub place_next : Option Item → List ℕ → List WholeFrame → Option ℕ → Option ℕ
place_next None lent sent place = place
place_next (Some (item.Good o h)) lent sent place =
    option_and_then (place_after (h, lent) sent) place
place_next (Some (item.HeaderCheck o)) lent sent place = place
place_next (Some (item.DataCheck o h)) lent sent place = place
place_next (Some (item.TooLong o h)) lent sent place = place
place_next (Some (item.Format o f)) lent sent place = place

-- the frames are among the others in their order, not necessarily adjacent
abbrev pub IsSubsequence : List WholeFrame → List WholeFrame → Type 0
IsSubsequence [] sent = Unit {0}
IsSubsequence (f ∷ fs) [] = ⊥
IsSubsequence (f ∷ fs) (g ∷ sent) =
    ((f ≡ g) × IsSubsequence fs sent) ⊎ IsSubsequence (f ∷ fs) sent
