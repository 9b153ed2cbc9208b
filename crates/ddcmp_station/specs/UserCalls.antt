-- The calls that a driven station makes of its user.
use Rattle.std.specs.Prelude.{◌≡◌, ℕ, Bool, ◌&&◌, if◌then◌else◌, nat_lt, List, [], ◌∷◌, ◌++◌}
use Rattle.std.specs.Prelude.{length, map}
use Rattle.ddcmp_frame.specs.Reader.{StandsFor}
use Rattle.ddcmp_proto.specs.Bytes.{after_piece, notices_of_piece}
use Rattle.ddcmp_proto.specs.Station.{StationView}
use Rattle.ddcmp_core.specs.declared.notice.Notice.{Notice}
use Rattle.ddcmp_core.specs.Table.{is_running}
use Rattle.ddcmp_core.specs.Core.{CoreView}

-- The user was asked for a message, with a slice of this many bytes, and offered this one; it was
-- passed a notice; or it was passed a message.
pub data UserCall : Type 0 where
  Asked : (room : ℕ) → List ℕ → UserCall
  Told : Notice → UserCall
  Handed : List ℕ → UserCall

-- These calls, one after another, led a user from one state to another.
unfoldable pub Calls : {U : Type 0} → (U → UserCall → U → Type 0) → U → U → List UserCall → Type 0
Calls becomes old new [] = old ≡ new
Calls {U} becomes old new (call ∷ calls) =
    (mid : U) × becomes old call mid × Calls becomes mid new calls

-- a user is asked for a message if the station runs and its window has room
abbrev pub is_user_asked : CoreView → Bool
is_user_asked k = is_running k.station.state && nat_lt (length k.station.out) k.limits.window

abbrev pub calls_of_offer : CoreView → List ℕ → List UserCall
calls_of_offer k offered = if is_user_asked k then Asked k.limits.longest offered ∷ [] else []

abbrev pub calls_of_notices : List Notice → List UserCall
calls_of_notices notices = map Told notices

-- all received messages
abbrev pub calls_of_mail : CoreView → List UserCall
calls_of_mail k = map Handed k.station.inbox

-- the user was passed the notices of a piece of the line, in their order
abbrev pub TellsNotices : {U : Type 0} → (U → UserCall → U → Type 0) → StationView → List ℕ
    → U → U → Type 0
TellsNotices becomes old piece before after =
    (notices : List Notice) × Calls becomes before after (calls_of_notices notices)
    × ((text : List ℕ) → StandsFor old.line text → notices_of_piece text piece old.core ≡ notices)

-- the user was passed the notices of a piece, and then all received messages
abbrev pub TellsPiece : {U : Type 0} → (U → UserCall → U → Type 0) → StationView → List ℕ
    → U → U → Type 0
TellsPiece becomes old came before after =
    (sights : List UserCall) × Calls becomes before after sights
    × ((text : List ℕ) → StandsFor old.line text
    → calls_of_notices (notices_of_piece text came old.core)
    ++ calls_of_mail (after_piece text came old.core) ≡ sights)
