-- What a station does, as its numbers without bound show it: it sends, its timer expires, its user
-- takes and gives.
use Rattle.std.proofs.Common.{◌≡◌, ◌≢◌, ◌⊎◌, inl, inr, ℕ, ◌+◌, ◌-◌, ◌%◌, ◌<◌, Bool, true, false}
use Rattle.std.proofs.Common.{cond, List, [], ◌∷◌, ◌++◌, length, refl, sym, ap, ◌∙◌, subst, arith}
use Rattle.std.proofs.Common.{length-append, length-drop}
use Rattle.std.specs.Prelude.{◌==◌, option_to_list}
use Rattle.std.proofs.lemmas.List.{drop-append-le}
use Rattle.ddcmp_core.specs.Sequence.{distance}
use Rattle.ddcmp_core.specs.Numbers.{next_number}
use Rattle.ddcmp_core.specs.Store.{first_message}
use Rattle.ddcmp_core.specs.declared.state.State.{State}
use Rattle.ddcmp_core.specs.declared.state.State.TheVariants.{Halted, IStart, AStart, Running}
use Rattle.ddcmp_core.specs.declared.state.State.TheVariants.{Maintenance}
use Rattle.ddcmp_core.specs.declared.state.Timer.{Timer}
use Rattle.ddcmp_core.specs.declared.state.Timer.TheVariants.{Off, Fresh, On}
use Rattle.ddcmp_core.specs.Core.{IsTimed}
use Rattle.ddcmp_core.specs.Table.{StationState, Frame, Data, Acked, Naked, Rep, Next, Idle, Sends}
use Rattle.ddcmp_core.specs.Table.{after_data, is_starting, after_next, after_accept, after_take}
use Rattle.ddcmp_core.specs.Table.{after_expire_in, after_expire_with, after_expire}
use Rattle.ddcmp_core.specs.Table.{message_at_next, resp_of}
use Rattle.ddcmp_core.specs.NextFrame.{SentFor, sends_strt, sends_stack, sends_nak, sends_rep}
use Rattle.ddcmp_core.specs.NextFrame.{sends_data, sends_ack, sends_maint, halted_idles}
use Rattle.ddcmp_core.specs.NextFrame.{starting_idles, running_idles, maintenance_idles}
use Rattle.ddcmp_pair.proofs.Relation.{Face, Counts}
use Rattle.ddcmp_pair.proofs.Numbering.{out_length}
use Rattle.ddcmp_pair.proofs.Sendings.{counts_sent}
use Rattle.ddcmp_pair.proofs.Calls.{take-up}
use Rattle.ddcmp_pair.proofs.Views.{View}
use Rattle.ddcmp_pair.proofs.Sees.{sees_sent}
use Rattle.ddcmp_laws.proofs.Early.{early-resp, early-take}
use Rattle.ddcmp_laws.proofs.Flights.{Flight, data_flies, ack_flies, nak_flies, rep_flies}
use Rattle.ddcmp_laws.proofs.Flights.{strt_flies, stack_flies, frame}
use Rattle.ddcmp_laws.proofs.Traffic.{Polls, p_strt, p_stack, p_nak, p_rep, p_data, p_ack}
use Rattle.ddcmp_laws.proofs.Traffic.{Expires, x_asks, x_told, x_repeats, x_back}
use Rattle.ddcmp_laws.proofs.Starting.{Idles, i_starts, i_runs}
use Rattle.ddcmp_laws.proofs.Hearing.{sight, CountsAt, Counted}

abbrev pub with : StationState → Face → Face
with s x = record x { station = s }

-- ---- it sends

pub record SendsAs (x : Face) (f : Frame) (x' : Face) : Type 0 where
  pub flight : Flight
  pub polls : Polls (sight x) (sight x') flight
  pub frame_is : frame flight ≡ f
  pub counted : Counted x'

abbrev pub ActsAs : Face → Next → Type 0
ActsAs x Idle = Idles (sight x)
ActsAs x (Sends f u) = SendsAs x f (with u x)

module _ (x : Face) (awake : x.station.state ≢ Halted) (trains : x.station.state ≢ Maintenance)
    (c : Counted x) where
  abbrev v : View
  v = sight x

  left : length x.station.out ≡ length x.given - x.acknowledged
  left = out_length x.station x.limits.window x.given x.acknowledged v.sent v.next v.up c

  resp : x.station.by_user ≡ false → resp_of x.station ≡ v.up % 256
  resp early = early-resp x.station early ∙ c.r_is

  pub acts-as : x.station.by_user ≡ false → (z : Next) → SentFor x.station z → ActsAs x z
  acts-as early _ (sends_strt e d) =
      record { flight = strt_flies; polls = p_strt e d; frame_is = refl; counted = c }
  acts-as early _ (sends_stack e d) =
      record { flight = stack_flies; polls = p_stack e d; frame_is = refl; counted = c }
  acts-as early _ (sends_nak why e r) =
      record {
        flight = nak_flies why v.up;
        polls = p_nak why e r;
        frame_is = ap (λ q. Naked why q) (sym (resp early));
        counted = c;
      }
  acts-as early _ (sends_rep e r f) =
      record {
        flight = rep_flies v.sent;
        polls = p_rep e r f;
        frame_is = ap (λ q. Rep q) (sym c.n_is);
        counted = c;
      }
  acts-as early _ (sends_data e r f place) =
      let seen =
      sees_sent x.station x.limits.window x.given x.acknowledged v.sent v.next v.up x.taken
      place c in
      let m = message_at_next x.station in
      record {
        flight = data_flies v.up v.next m;
        polls =
            subst (λ (u : View). Polls v u (data_flies v.up v.next m)) (sym seen)
            (p_data m e r f (let n = left in omega (arith, place, n)));
        frame_is = (λ i. Data (sym (resp early) i) (sym c.t_is i) m);
        counted =
            subst
            (CountsAt
            (with
            (after_next (Sends (Data (resp_of x.station) x.station.t m)
            (after_data x.station)) x.station)
            x)) (sym seen)
            (counts_sent x.station x.limits.window x.given x.acknowledged v.sent v.next v.up place
            c);
      }
  acts-as early _ (sends_ack e r f place) =
      record {
        flight = ack_flies v.up;
        polls =
            p_ack e r f (let n = left in omega (arith, place, n));
        frame_is =
            ap (λ q. Acked q) (sym (resp early));
        counted = c;
      }
  acts-as early _ (sends_maint m ms e r) = absurd (trains e)
  acts-as early _ (halted_idles e) = absurd (awake e)
  acts-as early _ (starting_idles e d) = i_starts e d
  acts-as early _ (running_idles e r f place) = i_runs e r f (let n = left in omega
      (arith, place, n))
  acts-as early _ (maintenance_idles e o) = absurd (trains e)

  pub idles-as : (z : Next) → SentFor x.station z → z ≡ Idle → Idles v
  idles-as _ (sends_strt e d) q = absurd (cc q)
  idles-as _ (sends_stack e d) q = absurd (cc q)
  idles-as _ (sends_nak why e r) q = absurd (cc q)
  idles-as _ (sends_rep e r f) q = absurd (cc q)
  idles-as _ (sends_data e r f place) q = absurd (cc q)
  idles-as _ (sends_ack e r f place) q = absurd (cc q)
  idles-as _ (sends_maint m ms e r) q = absurd (cc q)
  idles-as _ (halted_idles e) q = absurd (awake e)
  idles-as _ (starting_idles e d) q = i_starts e d
  idles-as _ (running_idles e r f place) q =
      i_runs e r f (let n = left in omega (arith, place, n))
  idles-as _ (maintenance_idles e o) q = absurd (trains e)

-- ---- its timer expires

pub record ExpiresAs (x x' : Face) : Type 0 where
  pub expires : Expires (sight x) (sight x')
  pub counted : Counted x'

all-told : (a n acked : ℕ) → a < 256 → a ≡ n → acked ≡ acked + distance a n
all-told a n acked h e = omega (arith, h, e)

back-again : (a t acked : ℕ) → a < 256 → t ≡ next_number a
    → acked + 1 + (t + 511 - a) % 256 ≡ acked + 1
back-again a t acked h e = omega (arith, h, e)

module _ (x : Face) (awake : x.station.state ≢ Halted) (trains : x.station.state ≢ Maintenance)
    (c : Counted x) (t : IsTimed x.station) where
  abbrev u : View
  u = sight x

  abbrev s : StationState
  s = x.station

  a-byte : s.a < 256
  a-byte = let a = c.a_is in omega (arith, a)

  was-due : s.due ≡ true → is_starting s.state ≡ true → ExpiresAs x x
  was-due d e =
      record {
        expires = subst (λ (z : View). Expires u z) (λ i. record u { due = sym d i })
            (x_asks e);
        counted = c;
      }

  waited : s.state ≡ Running → (s.a ≡ s.n) ⊎ ((s.rep ≡ true) ⊎ (s.t ≡ next_number s.a))
      → ExpiresAs x x
  waited e (inl a) =
      record { expires = x_told e (all-told s.a s.n x.acknowledged a-byte a); counted = c }
  waited e (inr (inl r)) =
      record {
        expires = subst (λ (z : View). Expires u z) (λ i. record u { rep = sym r i })
            (x_repeats e);
        counted = c;
      }
  waited e (inr (inr b)) =
      record { expires = x_back e (back-again s.a s.t x.acknowledged a-byte b); counted = c }

  off-by : (p : State) → s.state ≡ p → s.timer ≡ Off → ExpiresAs x x
  off-by Halted e o = absurd (awake e)
  off-by Maintenance e o = absurd (trains e)
  off-by IStart e o = was-due (t.asks (ap is_starting e) o) (ap is_starting e)
  off-by AStart e o = was-due (t.asks (ap is_starting e) o) (ap is_starting e)
  off-by Running e o = waited e (t.waits e o)

  asks-again : (b : Bool) → (s.a == s.n) ≡ b → s.state ≡ Running
      → ExpiresAs x (with (record s { rep = cond b s.rep true; timer = Off }) x)
  asks-again true g e =
      record {
        expires = x_told e (all-told s.a s.n x.acknowledged a-byte (grind (arith)));
        counted = c;
      }
  asks-again false g e = record { expires = x_repeats e; counted = c }

  on-by : (p : State) → s.state ≡ p → ExpiresAs x (with (after_expire_in p s) x)
  on-by Halted e = absurd (awake e)
  on-by Maintenance e = absurd (trains e)
  on-by IStart e = record { expires = x_asks (ap is_starting e); counted = c }
  on-by AStart e = record { expires = x_asks (ap is_starting e); counted = c }
  on-by Running e = asks-again (s.a == s.n) refl e

  timer-by : (z : Timer) → s.timer ≡ z → ExpiresAs x (with (after_expire_with z s) x)
  timer-by Off o = off-by s.state refl o
  timer-by Fresh o = on-by s.state refl
  timer-by On o = on-by s.state refl

  pub expires-as : ExpiresAs x (with (after_expire x.station) x)
  expires-as = timer-by s.timer refl

-- ---- its user takes a message, and gives one

abbrev pub taking : Face → Face
taking x =
    record x {
      station = after_take x.station;
      taken = x.taken ++ option_to_list (first_message x.station.inbox);
    }

pub takes-as : (x : Face) → x.station.by_user ≡ false → sight (taking x) ≡ sight x
takes-as x early = λ i.
    record (sight x) {
      reply = (early-take x.station early i).reply;
      up = length (take-up x.taken x.station.inbox i);
    }

pub takes-counted : (x : Face) → x.station.by_user ≡ false → Counted x → Counted (taking x)
takes-counted x early c =
    subst (λ (v : View). Counts x.station x.limits.window x.given v.acked v.sent v.next v.up)
    (sym (takes-as x early)) c

abbrev pub giving : List ℕ → Face → Face
giving m x = record x { station = after_accept x.station m; given = x.given ++ m ∷ [] }

pub gives-as : (x : Face) (m : List ℕ)
    → sight (giving m x) ≡ record (sight x) { given = (sight x).given + 1 }
gives-as x m = ap (λ n. record (sight x) { given = n }) (length-append x.given (m ∷ []))

pub gives-counted : (x : Face) (m : List ℕ) → length x.station.out < x.limits.window → Counted x
    → Counted (giving m x)
gives-counted x m room c =
    let o : length x.station.out ≡ length x.given - x.acknowledged =
    ap length c.out_is ∙ length-drop x.acknowledged x.given in
    let l = length-append x.given (m ∷ []) in
    record {
      a_is = c.a_is;
      n_is = c.n_is;
      t_is = c.t_is;
      r_is = c.r_is;
      out_is =
          ap (λ l. l ++ m ∷ []) c.out_is
          ∙ sym
          (drop-append-le x.acknowledged x.given (m ∷ [])
          (let p = c.acked_given in let q = c.sent_given in omega (arith, p, q)));
      t_low = c.t_low;
      t_high = c.t_high;
      window = (let p = c.acked_given in let q = c.sent_given in omega (arith, l, o, room, p, q));
      small = c.small;
      acked_given = c.acked_given;
      sent_given = (let q = c.sent_given in omega (arith, l, q));
    }
