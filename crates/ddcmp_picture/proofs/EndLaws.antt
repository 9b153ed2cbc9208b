-- All frames of an end leave its line, one after another.
use Rattle.std.proofs.Common.{suc, ◌≡◌, ◌<◌, ◌≤◌, ◌+◌, ℕ, List, [], ◌∷◌, ◌++◌, refl, sym, ◌∙◌, ap}
use Rattle.std.proofs.Common.{subst, drop}
use Rattle.std.proofs.Common.{length, map, append_assoc, Option, Some, None, arith}
use Rattle.std.proofs.lemmas.List.{append-nil}
use Rattle.ddcmp_io.specs.Device.{Logs}
use Rattle.ddcmp_io.specs.declared.carrier.End.{End}
use Rattle.ddcmp_io.specs.declared.carrier.End.TheVariants.{A, B}
use Rattle.ddcmp_picture.proofs.NoteLaws.{logs_none, logs_then}
use Rattle.ddcmp_picture.specs.Marks.{ends_by}
use Rattle.ddcmp_picture.specs.Trips.{Trips, trips_of, with_trips, first_trip}
use Rattle.ddcmp_picture.specs.declared.mark.TripEnd.{TripEnd}
use Rattle.ddcmp_picture.specs.declared.mark.Mark.{Mark}
use Rattle.ddcmp_picture.specs.declared.mark.Trip.{Trip}

-- the marks of some frames of an end were put, and the others are left
pub record HasEnded (end : End) (trip_end : TripEnd) (start now : Option (List Mark))
    (old new : Trips) (n : ℕ) : Type 0 where
  pub before : List Mark
  pub logs : Logs start now before
  pub marks : before ++ map (ends_by trip_end) (trips_of end new)
      ≡ map (ends_by trip_end) (trips_of end old)
  pub trips : new ≡ with_trips end (trips_of end new) old
  pub count : length (trips_of end new) + n ≡ length (trips_of end old)

trips-at : (end : End) (xs : List Trip) (v : Trips) → trips_of end (with_trips end xs v) ≡ xs
trips-at A xs v = refl
trips-at B xs v = refl

with-with : (end : End) (xs ys : List Trip) (v : Trips)
    → with_trips end xs (with_trips end ys v) ≡ with_trips end xs v
with-with A xs ys v = refl
with-with B xs ys v = refl

is_some : Option Trip → Type 0
is_some (Some t) = Unit {0}
is_some None = ⊥

value_or : Trip → Option Trip → Trip
value_or d (Some t) = t
value_or d None = d

first-is : (xs : List Trip) (t : Trip) → first_trip xs ≡ Some t → t ∷ drop 1 xs ≡ xs
unfolding is_some value_or
first-is [] t e = absurd (subst is_some (sym e) tt)
first-is (x ∷ xs) t e = ap (λ o. value_or t o ∷ xs) (sym e)

none-is : (xs : List Trip) → first_trip xs ≡ None → length xs ≡ 0
unfolding is_some
none-is [] e = refl
none-is (x ∷ xs) e = absurd (subst is_some e tt)

one-less : (t : Trip) (rest xs : List Trip) (n m : ℕ) → t ∷ rest ≡ xs → length xs + n ≡ m
    → length rest + (n + 1) ≡ m
one-less t rest xs n m e h =
    let k : suc (length rest) ≡ length xs = ap length e in omega arith

with-same : (end : End) (v : Trips) → v ≡ with_trips end (trips_of end v) v
with-same A v = refl
with-same B v = refl

-- none was put
pub ends_start : (end : End) (trip_end : TripEnd) (start : Option (List Mark)) (old : Trips)
    → HasEnded end trip_end start start old old 0
ends_start end trip_end start old = record {
  before = [];
  logs = logs_none start;
  marks = refl;
  trips = with-same end old;
  count = omega arith;
}

-- and one more
pub ends_one : (end : End) (trip_end : TripEnd) (start now after : Option (List Mark))
    (old mid new : Trips) (n : ℕ) (t : Trip) → HasEnded end trip_end start now old mid n
    → new ≡ with_trips end (drop 1 (trips_of end mid)) mid
    → first_trip (trips_of end mid) ≡ Some t → Logs now after (ends_by trip_end t ∷ [])
    → HasEnded end trip_end start after old new (n + 1)
ends_one end trip_end start now after old mid new n t h new-is first log =
    let rest : List Trip = drop 1 (trips_of end mid) in
    let xs : t ∷ rest ≡ trips_of end mid = first-is (trips_of end mid) t first in
    let at : trips_of end new ≡ rest = ap (trips_of end) new-is ∙ trips-at end rest mid in
    record {
      before = h.before ++ ends_by trip_end t ∷ [];
      logs = logs_then start now after h.before (ends_by trip_end t ∷ []) h.logs log;
      marks =
          ap (λ v. (h.before ++ ends_by trip_end t ∷ []) ++ map (ends_by trip_end) v) at
          ∙ append_assoc h.before (ends_by trip_end t ∷ []) (map (ends_by trip_end) rest)
          ∙ ap (λ v. h.before ++ map (ends_by trip_end) v) xs
          ∙ h.marks;
      trips =
          new-is ∙ ap (with_trips end rest) h.trips ∙ with-with end rest (trips_of end mid) old
          ∙ ap (λ v. with_trips end v old) (sym at);
      count = subst (λ v. length v + (n + 1) ≡ length (trips_of end old)) (sym at)
          (one-less t rest (trips_of end mid) n (length (trips_of end old)) xs h.count);
    }

-- there is one more while the count says so
pub ends_none : (end : End) (trip_end : TripEnd) (start now : Option (List Mark)) (old mid : Trips)
    (n : ℕ)
    → HasEnded end trip_end start now old mid n → n < length (trips_of end old)
    → first_trip (trips_of end mid) ≡ None → ⊥
ends_none end trip_end start now old mid n h less none =
    let k : length (trips_of end mid) ≡ 0 = none-is (trips_of end mid) none in
    let c : length (trips_of end mid) + n ≡ length (trips_of end old) = h.count in omega arith

not_suc : (n : ℕ) → suc n ≡ 0 → ⊥
not_suc n e = omega arith

empty : (xs : List Trip) → length xs ≡ 0 → xs ≡ []
empty [] e = refl
empty (x ∷ xs) e = absurd (not_suc (length xs) e)

short : {a n m : ℕ} → a + n ≡ m → m ≤ n → a ≡ 0
short e k = omega arith

-- in the end all were put, and none is left
pub ends_all : (end : End) (trip_end : TripEnd) (start now : Option (List Mark)) (old mid : Trips)
    (n : ℕ)
    → HasEnded end trip_end start now old mid n → length (trips_of end old) ≤ n
    → Logs start now (map (ends_by trip_end) (trips_of end old)) × (mid ≡ with_trips end [] old)
ends_all end trip_end start now old mid n h most =
    let none : trips_of end mid ≡ [] = empty (trips_of end mid) (short h.count most) in (
      subst (Logs start now)
          (sym (append-nil h.before)
          ∙ ap (λ v. h.before ++ map (ends_by trip_end) v) (sym none) ∙ h.marks)
          h.logs,
      h.trips ∙ ap (λ v. with_trips end v old) none,
    )
