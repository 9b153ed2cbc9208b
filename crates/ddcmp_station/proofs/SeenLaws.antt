-- What a user saw, call by call.
use Rattle.std.proofs.Common.{◌≡◌, ℕ, ◌+◌, ◌≤◌, List, [], ◌∷◌, ◌++◌, length, take, drop, map, sym}
use Rattle.std.proofs.Common.{◌∙◌, ap, subst, append_assoc, Option, Some}
use Rattle.std.specs.Prelude.{option_map, option_to_list}
use Rattle.std.proofs.lemmas.List.{take_at, take_all, map-append}
use Rattle.ddcmp_frame.specs.Reader.{StandsFor}
use Rattle.ddcmp_core.specs.declared.notice.Notice.{Notice}
use Rattle.ddcmp_proto.specs.Bytes.{after_piece, notices_of_piece}
use Rattle.ddcmp_proto.specs.Station.{StationView}
use Rattle.ddcmp_window.specs.Store.{first_message, with_front}
use Rattle.ddcmp_station.specs.UserCalls.{UserCall, Calls, Handed, Told, calls_of_notices}
use Rattle.ddcmp_station.specs.UserCalls.{calls_of_mail, TellsNotices, TellsPiece}
use Rattle.ddcmp_proto.proofs.FeedLaws.{notices_of_piece-append}
use Rattle.ddcmp_station.proofs.DriveLaws.{Calls-then, Calls-one, FedTo, take_then}

abbrev pub HandedSo : {U : Type 0} → (U → UserCall → U → Type 0) → U → U → List (List ℕ)
    → List UserCall → Type 0
HandedSo becomes old new inbox all =
    (done : List UserCall) × Calls becomes old new done × (done ++ map Handed inbox ≡ all)

-- one message more is delivered
pub hands-one : {U : Type 0} (becomes : U → UserCall → U → Type 0) (old mid new : U)
    (inbox : List (List ℕ)) (all : List UserCall) (n : ℕ) (before out : List ℕ)
    → HandedSo becomes old mid inbox all → option_map length (first_message inbox) ≡ Some n
    → out ≡ with_front (first_message inbox) before
    → becomes mid (Handed (take n out)) new → HandedSo becomes old new (drop 1 inbox) all
hands-one becomes old mid new [] all n before out h e w l = absurd (cc e)
hands-one becomes old mid new (m ∷ rest) all n before out h e w l =
    let size : length m ≡ n = cc e in
    let is : take n out ≡ m = ap (take n) w ∙ take_at m (drop (length m) before) n size in (
      h.0 ++ Handed m
          ∷ [],
      Calls-then becomes old mid new h.0 (Handed m ∷ []) h.1
          (Calls-one becomes mid new (Handed m) (subst (λ x. becomes mid (Handed x) new) is l)),
      append_assoc h.0 (Handed m ∷ []) (map Handed rest) ∙ h.2,
    )

-- one part more of a piece is taken, and its notice, where it gave one, was reported
pub tells-more : {U : Type 0} (becomes : U → UserCall → U → Type 0) (old mid : StationView)
    (piece : List ℕ) (at used : ℕ) (u v w : U) (r : Option Notice) → FedTo old (take at piece) mid
    → ((text : List ℕ) → StandsFor mid.line text
    → notices_of_piece text (take used (drop at piece)) mid.core ≡ option_to_list r)
    → TellsNotices becomes old (take at piece) u v
    → Calls becomes v w (calls_of_notices (option_to_list r))
    → TellsNotices becomes old (take (at + used) piece) u w
tells-more becomes old mid piece at used u v w r fed-so told h l = (
  h.0 ++ option_to_list r,
  subst (Calls becomes u w) (sym (map-append Told h.0 (option_to_list r)))
      (Calls-then becomes u v w _ _ h.1 l),
  λ text s.
      ap (λ p. notices_of_piece text p old.core) (sym (take_then piece at used))
      ∙ notices_of_piece-append text (take at piece) (take used (drop at piece)) old.core
      ∙ ap
      (λ xs. xs
      ++ notices_of_piece (text ++ take at piece) (take used (drop at piece))
      (after_piece text (take at piece) old.core)) (h.2 text s)
      ∙ ap (λ k. h.0 ++ notices_of_piece (text ++ take at piece) (take used (drop at piece)) k)
      (sym (fed-so.state text s))
      ∙ ap (λ xs. h.0 ++ xs) (told (text ++ take at piece) (fed-so.stands text s)),
)

pub tells-whole : {U : Type 0} (becomes : U → UserCall → U → Type 0) (old : StationView)
    (piece : List ℕ) (at : ℕ) (u v : U) → length piece ≤ at
    → TellsNotices becomes old (take at piece) u v → TellsNotices becomes old piece u v
tells-whole becomes old piece at u v all h =
    subst (λ p. TellsNotices becomes old p u v) (take_all at piece all) h

-- what a read brought was taken, and then all mail delivered
pub receives-all : {U : Type 0} (becomes : U → UserCall → U → Type 0) (old mid : StationView)
    (came : List ℕ) (u v w : U) → TellsNotices becomes old came u v
    → Calls becomes v w (calls_of_mail mid.core)
    → ((text : List ℕ) → StandsFor old.line text → mid.core ≡ after_piece text came old.core)
    → TellsPiece becomes old came u w
receives-all becomes old mid came u v w told handed state = (
  calls_of_notices told.0 ++ calls_of_mail mid.core,
  Calls-then becomes u v w _ _ told.1 handed,
  λ text s.
      ap (λ xs. calls_of_notices xs ++ calls_of_mail (after_piece text came old.core))
      (told.2 text s)
      ∙ ap (λ k. calls_of_notices told.0 ++ calls_of_mail k) (sym (state text s)),
)
