-- Frames in flight.
use Rattle.std.specs.Prelude.{ℕ, false, not, ◌||◌, ◌==◌, if◌then◌else◌, List, [], ◌∷◌}
use Rattle.std.specs.Prelude.{codes, decimal, Option, Some, None}
use Rattle.ddcmp_io.specs.declared.carrier.End.{End}
use Rattle.ddcmp_io.specs.declared.carrier.End.TheVariants.{A, B}
use Rattle.ddcmp_picture.specs.declared.mark.TripEnd.{TripEnd}
use Rattle.ddcmp_picture.specs.declared.mark.TripEnd.TheVariants.{Arrived, Cut, Lost, InFlight}
use Rattle.ddcmp_picture.specs.declared.mark.Trip.{Trip}
use Rattle.ddcmp_picture.specs.declared.short_text.ShortText.{ShortText}
use Rattle.ddcmp_picture.specs.ShortTexts.{with_text}

-- A byte was changed by exclusive or. A frame that was damaged before stays damaged.
abbrev pub damaged_by : ℕ → Trip → Trip
damaged_by by t = record {
  from = t.from;
  row = t.row;
  label = t.label;
  is_whole = t.is_whole;
  is_damaged = t.is_damaged || not (by == 0);
}

-- Some bytes have arrived; the rest leaves in this row.
abbrev pub rest_of : ℕ → Trip → Trip
rest_of row t = record {
  from = t.from;
  row = row;
  label = if t.is_whole then with_text t.label (codes ", rest") else t.label;
  is_whole = false;
  is_damaged = t.is_damaged;
}

-- ---- the label at the end of a trip

abbrev pub part_label : TripEnd → ShortText → ShortText
part_label Arrived label = label
part_label (Cut part of) label =
    with_text (with_text (with_text (with_text label (codes ", ")) (decimal part)) (codes " of "))
    (decimal of)
part_label Lost label = label
part_label InFlight label = label

abbrev pub end_label : TripEnd → Trip → ShortText
end_label trip_end t =
    part_label trip_end (if t.is_damaged then with_text t.label (codes ", damaged") else t.label)

-- ---- the trips of both ends

pub record Trips : Type 0 where
  pub a : List Trip
  pub b : List Trip

abbrev pub no_trips : Trips
no_trips = record { a = []; b = [] }

abbrev pub trips_of : End → Trips → List Trip
trips_of A trips = trips.a
trips_of B trips = trips.b

abbrev pub with_trips : End → List Trip → Trips → Trips
with_trips A some trips = record { a = some; b = trips.b }
with_trips B some trips = record { a = trips.a; b = some }

abbrev pub first_trip : List Trip → Option Trip
first_trip [] = None
first_trip (trip ∷ rest) = Some trip

abbrev pub with_first : (Trip → Trip) → List Trip → List Trip
with_first change [] = []
with_first change (trip ∷ rest) = change trip ∷ rest
