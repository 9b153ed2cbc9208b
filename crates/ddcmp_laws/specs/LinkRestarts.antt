-- Links that restart any number of times: each time their histories begin again.
use Rattle.std.specs.Prelude.{◌≡◌, ℕ, true, List, [], ◌∷◌, ◌++◌, map, None}
use Rattle.ddcmp_frame.specs.Reader.{ReaderView}
use Rattle.ddcmp_proto.specs.Config.{first_refusal}
use Rattle.ddcmp_proto.specs.declared.config.Config.{Config}
use Rattle.ddcmp_proto.specs.StationCalls.{StationCall, Starts as StartsStation}
use Rattle.ddcmp_proto.specs.StationCalls.{Halts as HaltsStation, ClearsLine}
use Rattle.ddcmp_station.specs.Linking.{LinkView, anew}
use Rattle.ddcmp_io.specs.declared.carrier.End.{End}
use Rattle.ddcmp_io.specs.declared.carrier.End.TheVariants.{A, B}
use Rattle.ddcmp_pair.specs.Run.{new_pair, is_clean}
use Rattle.ddcmp_laws.specs.Links.{LinkCall, BeginsAnew, station_calls, HasDone, LinkHistory}
use Rattle.ddcmp_laws.specs.Links.{LinkStep, after_step, Links, link_at, new_links}
use Rattle.ddcmp_laws.specs.StationRuns.{station_call, run_station_calls}

-- What each call does by its contract; `restart` may be called on any line.
abbrev pub Does : LinkCall → List ℕ → LinkView → LinkView → Type 0
Does BeginsAnew text old new = new ≡ anew new.station.line old
Does call text old new = HasDone call text old new

-- the calls of the station that a call makes, of which `restart` makes three
abbrev pub all_calls : LinkCall → LinkView → List StationCall
all_calls BeginsAnew d = HaltsStation ∷ ClearsLine ∷ StartsStation ∷ []
all_calls call d = map station_call (station_calls call d)

-- a history that begins with this link
abbrev pub begun_with : LinkView → LinkHistory
begun_with d = record {
  link = d;
  used = [];
  gone = [];
  accepted = [];
  taken = [];
  acknowledged = 0;
}

abbrev pub history_by : LinkCall → LinkStep → LinkHistory → LinkHistory
history_by BeginsAnew step h = begun_with step.link
history_by call step h = after_step step h

abbrev pub history_at : End → LinkStep → Links → Links
history_at A step p = record { a = history_by step.call step p.a; b = p.b }
history_at B step p = record { a = p.a; b = history_by step.call step p.b }

-- Each step is a call of one of two links.
abbrev pub AreCallsOfLinks : List (End × LinkStep) → Links → Type 0
AreCallsOfLinks [] p = Unit {0}
AreCallsOfLinks (step ∷ rest) p =
    Does step.1.call (link_at step.0 p).used (link_at step.0 p).link step.1.link
    × AreCallsOfLinks rest (history_at step.0 step.1 p)

abbrev pub at_end : End → List StationCall → List (End × StationCall)
at_end end calls = map (λ call. (end, call)) calls

unfoldable pub calls_of_links : List (End × LinkStep) → Links → List (End × StationCall)
calls_of_links [] p = []
calls_of_links (step ∷ rest) p =
    at_end step.0 (all_calls step.1.call (link_at step.0 p).link)
    ++ calls_of_links rest (history_at step.0 step.1 p)

unfoldable pub after_links : List (End × LinkStep) → Links → Links
after_links [] p = p
after_links (step ∷ rest) p = after_links rest (history_at step.0 step.1 p)

-- A promise about two links' histories is kept by links that restart, for two new links of any
-- sizes in range, whatever the calls, the moments and the chunks of bytes, if the line is honest
-- and the run clean since the lines were cleared.
abbrev pub IsKeptAnew : (Links → Type 0) → Type 0
IsKeptAnew Promise = (first second : Config) (milliseconds other_milliseconds : ℕ)
    (line other_line : ReaderView) (steps : List (End × LinkStep))
    → first_refusal first ≡ None → first_refusal second ≡ None
    → AreCallsOfLinks steps
    (new_links first milliseconds line second other_milliseconds other_line)
    → (run_station_calls (calls_of_links steps
    (new_links first milliseconds line second other_milliseconds other_line))
    (new_pair first second)).honest ≡ true
    → is_clean (run_station_calls (calls_of_links steps
    (new_links first milliseconds line second other_milliseconds other_line))
    (new_pair first second)) ≡ true
    → Promise (after_links steps
    (new_links first milliseconds line second other_milliseconds other_line))
