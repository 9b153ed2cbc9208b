-- Two ends, and the frames in flight between them, are two links.
use Rattle.std.specs.Prelude.{◌≡◌, ℕ, suc, ◌+◌, ◌%◌, ◌<◌, ◌≤◌, List, [], ◌∷◌, ◌++◌, length, drop}
use Rattle.std.specs.Prelude.{Some, slice_get, if◌then◌else◌}
use Rattle.std.proofs.Common.{sym, subst, arith}
use Rattle.ddcmp_frame.specs.declared.nak.Nak.{Nak as Reason}
use Rattle.ddcmp_core.specs.declared.state.State.{State}
use Rattle.ddcmp_core.specs.declared.state.State.TheVariants.{Halted, IStart, AStart, Running}
use Rattle.ddcmp_core.specs.declared.state.State.TheVariants.{Maintenance}
use Rattle.ddcmp_core.specs.Table.{Limits, StationState, Frame, Data, Acked, Naked, Rep, Strt}
use Rattle.ddcmp_core.specs.Table.{Stack}
use Rattle.ddcmp_pair.specs.Link.{IsReached, link_of}
use Rattle.ddcmp_pair.specs.Run.{EndState}
use Rattle.ddcmp_pair.proofs.Links.{Rising, rising-high}

-- What the relation sees of an end.
pub record Face : Type 0 where
  pub limits : Limits
  pub station : StationState
  pub given : List (List ℕ)
  pub taken : List (List ℕ)
  pub acknowledged : ℕ
  pub starts : ℕ

abbrev pub face : EndState → Face
face x = record {
  limits = x.core.limits;
  station = x.core.station;
  given = x.given;
  taken = x.taken;
  acknowledged = x.acknowledged;
  starts = x.starts;
}

abbrev pub up : Face → List (List ℕ)
up x = x.taken ++ x.station.inbox

-- how many messages may be reported acknowledged to the other end
abbrev pub confirmed : Face → ℕ
confirmed x = if x.station.by_user then length x.taken else length (up x)

-- the inbox, and the room for it
pub record Mail (x : Face) : Type 0 where
  pub room : x.limits.room ≤ 255
  pub inbox : length x.station.inbox ≤ 255

-- ---- frames in flight

-- Frames in flight from an end to which messages were given, with the positions that its data
-- stand for and the counts of messages delivered there that its RESPs stand for.
pub data Wire (given : List (List ℕ)) : List Frame → List ℕ → List ℕ → Type 0 where
  no_wire : Wire given [] [] []
  wire_data : {resp num k q : ℕ} {message : List ℕ} {fs : List Frame} {ks qs : List ℕ}
      → resp ≡ q % 256 → num ≡ suc k % 256
      → slice_get given k ≡ Some message → Wire given fs ks qs
      → Wire given (Data resp num message ∷ fs) (suc k ∷ ks) (q ∷ qs)
  wire_ack : {resp q : ℕ} {fs : List Frame} {ks qs : List ℕ} → resp ≡ q % 256 → Wire given fs ks qs
      → Wire given (Acked resp ∷ fs) ks (q ∷ qs)
  wire_nak : {why : Reason} {resp q : ℕ} {fs : List Frame} {ks qs : List ℕ} → resp ≡ q % 256
      → Wire given fs ks qs
      → Wire given (Naked why resp ∷ fs) ks (q ∷ qs)
  wire_rep : {num : ℕ} {fs : List Frame} {ks qs : List ℕ} → Wire given fs ks qs
      → Wire given (Rep num ∷ fs) ks qs
  wire_strt : {fs : List Frame} {ks qs : List ℕ} → Wire given fs ks qs
      → Wire given (Strt ∷ fs) ks qs
  wire_stack : {fs : List Frame} {ks qs : List ℕ} → Wire given fs ks qs
      → Wire given (Stack ∷ fs) ks qs

-- ---- an end's numbers

-- An end's numbers are bytes of numbers that have no bound: how many messages were acknowledged to
-- it, the highest position sent, the next one to send, and how many messages are delivered here.
pub record Numbers (a n t r : ℕ) (out : List (List ℕ)) (w : ℕ) (given : List (List ℕ))
    (acked sent next up : ℕ) : Type 0 where
  pub a_is : a ≡ acked % 256
  pub n_is : n ≡ sent % 256
  pub t_is : t ≡ next % 256
  pub r_is : r ≡ up % 256
  pub out_is : out ≡ drop acked given
  pub t_low : acked < next
  pub t_high : next ≤ sent + 1
  pub window : length given ≤ acked + w
  pub small : w ≤ 255
  pub acked_given : acked ≤ sent
  pub sent_given : sent ≤ length given

-- the same for a station
abbrev pub Counts : StationState → ℕ → List (List ℕ) → ℕ → ℕ → ℕ → ℕ → Type 0
Counts s w given acked sent next up = Numbers s.a s.n s.t s.r s.out w given acked sent next up

-- Before an end runs it has accepted nothing, and it never is in Maintenance.
abbrev pub StateFits : State → List (List ℕ) → Type 0
StateFits Halted given = Unit {0}
StateFits IStart given = given ≡ []
StateFits AStart given = given ≡ []
StateFits Running given = Unit {0}
StateFits Maintenance given = ⊥

-- an end that hasn't been started, whose numbers may be anything, and one that has
pub data Stands (x : Face) (sent next : ℕ) : Type 0 where
  not_begun : x.starts ≡ 0 → x.station.state ≡ Halted → x.given ≡ [] → up x ≡ []
      → Stands x sent next
  begun : 0 < x.starts
      → Counts x.station x.limits.window x.given x.acknowledged sent next (length (up x))
      → StateFits x.station.state x.given
      → Stands x sent next

-- ---- both

-- The frames fs are in flight from x to y, and fs' from y to x. The positions ks have come to x
-- from y, and the counts qs, and aren't used yet.
pub record Pending (x y : Face) (fs fs' : List Frame) (ks qs : List ℕ) : Type 0 where
  pub sent : ℕ
  pub next : ℕ
  pub forward : List ℕ
  pub back : List ℕ
  pub sent' : ℕ
  pub next' : ℕ
  pub forward' : List ℕ
  pub back' : List ℕ
  pub small : x.limits.window ≤ 255
  pub small' : y.limits.window ≤ 255
  pub reached : IsReached x.limits.window
      (link_of x.given x.acknowledged sent (up y) forward (qs ++ back))
  pub reached' : IsReached y.limits.window
      (link_of y.given y.acknowledged sent' (up x) (ks ++ forward') back')
  pub stands : Stands x sent next
  pub stands' : Stands y sent' next'
  pub wire : Wire x.given fs forward back'
  pub wire' : Wire y.given fs' forward' back
  pub mail : Mail x
  pub mail' : Mail y
  pub rising : Rising x.acknowledged (confirmed y) (qs ++ back)
  pub rising' : Rising y.acknowledged (confirmed x) back'

-- nothing has come that isn't used
abbrev pub Fits : Face → Face → List Frame → List Frame → Type 0
Fits x y fs fs' = Pending x y fs fs' [] []

-- another station, and messages taken, with the same delivered
pub pending_station : (x y : Face) (fs fs' : List Frame) (ks qs : List ℕ) (s : StationState)
    (taken : List (List ℕ)) → taken ++ s.inbox ≡ up x
    → length s.inbox ≤ length x.station.inbox
    → confirmed x ≤ confirmed (record x { station = s; taken = taken })
    → ((n t : ℕ) → Stands x n t → Stands (record x { station = s; taken = taken }) n t)
    → Pending x y fs fs' ks qs
    → Pending (record x { station = s; taken = taken }) y fs fs' ks qs
pending_station x y fs fs' ks qs s taken e i g f h = record {
  sent = h.sent;
  next = h.next;
  forward = h.forward;
  back = h.back;
  sent' = h.sent';
  next' = h.next';
  forward' = h.forward';
  back' = h.back';
  small = h.small;
  small' = h.small';
  reached = h.reached;
  reached' =
      subst
      (λ u. IsReached y.limits.window
      (link_of y.given y.acknowledged h.sent' u (ks ++ h.forward') h.back')) (sym e) h.reached';
  stands = f h.sent h.next h.stands;
  stands' = h.stands';
  wire = h.wire;
  wire' = h.wire';
  mail = record { room = h.mail.room; inbox = (let m = h.mail.inbox in omega (arith, m, i)) };
  mail' = h.mail';
  rising = h.rising;
  rising' = rising-high y.acknowledged (confirmed x) _ h.back' g h.rising';
}

pub fits_turned : (x y : Face) (fs fs' : List Frame) → Fits x y fs fs' → Fits y x fs' fs
fits_turned x y fs fs' h = record {
  sent = h.sent';
  next = h.next';
  forward = h.forward';
  back = h.back';
  sent' = h.sent;
  next' = h.next;
  forward' = h.forward;
  back' = h.back;
  small = h.small';
  small' = h.small;
  reached = h.reached';
  reached' = h.reached;
  stands = h.stands';
  stands' = h.stands;
  wire = h.wire';
  wire' = h.wire;
  mail = h.mail';
  mail' = h.mail;
  rising = h.rising';
  rising' = h.rising;
}
