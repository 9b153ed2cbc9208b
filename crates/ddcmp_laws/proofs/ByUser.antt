-- No call changes when a station acknowledges messages.
use Rattle.std.proofs.Common.{◌≡◌, ◌∙◌, refl, Bool, true, false, cond, List, [], ◌∷◌, length}
use Rattle.std.specs.Prelude.{◌==◌}
use Rattle.ddcmp_core.specs.Table.{after_accept, after_enter_maintenance, is_halted, may_send_maintenance}
use Rattle.ddcmp_core.specs.Table.{may_start}
use Rattle.ddcmp_proto.specs.StationCalls.{StationCall, Asks, ClearsLine, EntersMaintenance, Expires}
use Rattle.ddcmp_proto.specs.StationCalls.{Feeds, Halts, Polls, Sends, SendsMaintenance, Starts}
use Rattle.ddcmp_proto.specs.StationCalls.{Takes, TakesArm}
use Rattle.ddcmp_io.specs.declared.carrier.End.{End}
use Rattle.ddcmp_io.specs.declared.carrier.End.TheVariants.{A, B}
use Rattle.ddcmp_pair.specs.declared.event.Event.TheVariants as event
use Rattle.ddcmp_pair.specs.Run.{EndState, PairState, at, cleared}
use Rattle.ddcmp_pair.proofs.Modes.{mode-here}
use Rattle.ddcmp_laws.specs.PairCalls.{Call, Arm, Arrive, Ask, Expire, Halt, Poll, Send, Start, Take}
use Rattle.ddcmp_laws.specs.PairCalls.{after_call, after_call_here, run_calls}
use Rattle.ddcmp_laws.specs.StationRuns.{after_station_call, after_station_call_here}
use Rattle.ddcmp_laws.specs.StationRuns.{run_station_calls}

abbrev by_user : EndState → Bool
by_user x = x.core.station.by_user

same_by : (c : Call) (x : EndState) → by_user (after_call_here c x) ≡ by_user x
same_by Start x = mode-here (event.Start A) x
same_by Halt x = refl
same_by (Send message) x = mode-here (event.Send A message) x
same_by Poll x = mode-here (event.Poll A) x
same_by (Arrive bytes) x = mode-here (event.Arrive A bytes) x
same_by Expire x = mode-here (event.Expire A) x
same_by Take x = refl
same_by Arm x = refl
same_by Ask x = refl

same_by_all : (c : StationCall) (x : EndState) → by_user (after_station_call_here c x) ≡ by_user x
same_by_all Starts x = same_by Start x
same_by_all Halts x = same_by Halt x
same_by_all (Sends message) x = same_by (Send message) x
same_by_all Polls x = same_by Poll x
same_by_all (Feeds used) x = same_by (Arrive used) x
same_by_all Expires x = same_by Expire x
same_by_all Takes x = same_by Take x
same_by_all TakesArm x = refl
same_by_all Asks x = refl
same_by_all ClearsLine x = by (is_halted x.core.station.state)
  where
    by : (b : Bool)
        → by_user
        (cond b (record (cleared x) { starts = cond (length x.core.station.inbox == 0) 0 2 }) x)
        ≡ by_user x
    by true = refl
    by false = refl
same_by_all EntersMaintenance x = by (may_start x.core.station)
  where
    by : (b : Bool)
        → (cond b (after_enter_maintenance x.core.station) x.core.station).by_user ≡ by_user x
    by true = refl
    by false = refl
same_by_all (SendsMaintenance message) x =
    by (may_send_maintenance x.core.limits x.core.station message)
  where
    by : (b : Bool)
        → (cond b (after_accept x.core.station message) x.core.station).by_user ≡ by_user x
    by true = refl
    by false = refl

pub by_user_after : (end : End) (calls : List (End × Call)) (p : PairState)
    → by_user (at end (run_calls calls p)) ≡ by_user (at end p)
unfolding run_calls
by_user_after end [] p = refl
by_user_after A ((A, c) ∷ rest) p = by_user_after A rest (after_call A c p) ∙ same_by c p.a
by_user_after A ((B, c) ∷ rest) p = by_user_after A rest (after_call B c p)
by_user_after B ((A, c) ∷ rest) p = by_user_after B rest (after_call A c p)
by_user_after B ((B, c) ∷ rest) p = by_user_after B rest (after_call B c p) ∙ same_by c p.b

pub by_user_after_all : (end : End) (calls : List (End × StationCall)) (p : PairState)
    → by_user (at end (run_station_calls calls p)) ≡ by_user (at end p)
unfolding run_station_calls
by_user_after_all end [] p = refl
by_user_after_all A ((A, c) ∷ rest) p =
    by_user_after_all A rest (after_station_call A c p) ∙ same_by_all c p.a
by_user_after_all A ((B, c) ∷ rest) p = by_user_after_all A rest (after_station_call B c p)
by_user_after_all B ((A, c) ∷ rest) p = by_user_after_all B rest (after_station_call A c p)
by_user_after_all B ((B, c) ∷ rest) p =
    by_user_after_all B rest (after_station_call B c p) ∙ same_by_all c p.b
