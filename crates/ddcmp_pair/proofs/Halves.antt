-- Half an exchange of a settle: a frame crosses, both ends stay as a settle finds them, and their
-- numbers see that frame.
use Rattle.std.proofs.Common.{◌≡◌, ◌⊎◌, ℕ, ◌+◌, ◌-◌, ◌%◌, ◌<◌, ◌≤◌, Bool, true, false, List, []}
use Rattle.std.proofs.Common.{◌∷◌, ◌++◌, length, refl, sym, ap, ◌∙◌, subst, arith, append-nil}
use Rattle.std.proofs.Common.{cond}
use Rattle.std.specs.Prelude.{◌&&◌, ◌==◌, nat_lt, nat_le, is_some, option_map, option_to_list}
use Rattle.ddcmp_frame.specs.declared.nak.Nak.{Nak as Reason}
use Rattle.ddcmp_frame.specs.Reading.{good_frames}
use Rattle.ddcmp_core.specs.Sequence.{distance}
use Rattle.ddcmp_core.specs.declared.state.State.{State}
use Rattle.ddcmp_core.specs.declared.state.State.TheVariants.{Halted, IStart, AStart, Running}
use Rattle.ddcmp_core.specs.declared.state.State.TheVariants.{Maintenance}
use Rattle.ddcmp_core.specs.declared.state.Owed.{Owed}
use Rattle.ddcmp_core.specs.declared.state.Owed.TheVariants.{Ack}
use Rattle.ddcmp_core.specs.declared.state.Timer.TheVariants.{Off}
use Rattle.ddcmp_core.specs.Numbers.{next_number, is_within}
use Rattle.ddcmp_core.specs.Table.{Limits, StationState, Frame, Data, Acked, Naked, Rep, Strt}
use Rattle.ddcmp_core.specs.Table.{resp_of, owed_after_take, acknowledges_by_take}
use Rattle.ddcmp_core.specs.Choosing.{after_take_all}
use Rattle.ddcmp_core.specs.Table.{Received, Maint, incoming, after_ack, after_offer, on_data}
use Rattle.ddcmp_core.specs.Table.{after_startup, after_restart, after_halt, may_restart}
use Rattle.ddcmp_core.specs.Table.{is_running}
use Rattle.ddcmp_core.specs.Table.{Stack, Good, Next, Idle, Sends, next, next_frame, after_next}
use Rattle.ddcmp_core.specs.Table.{before_next, message_at_next, on, on_by, notice_of, notice_by}
use Rattle.ddcmp_core.specs.Table.{acknowledged_by, is_starting}
use Rattle.ddcmp_core.specs.NextFrame.{SentFor, sends_strt, sends_stack, sends_nak, sends_rep}
use Rattle.ddcmp_core.specs.NextFrame.{sends_data, sends_ack, sends_maint, halted_idles}
use Rattle.ddcmp_core.specs.NextFrame.{starting_idles, running_idles, maintenance_idles}
use Rattle.ddcmp_core.proofs.Sent.{sending}
use Rattle.ddcmp_core.specs.Core.{IsSound, IsTimed, IsReceivable}
use Rattle.ddcmp_core.proofs.Sound.{sound_on, sound_next}
use Rattle.ddcmp_core.proofs.TimedLaws.{timed_on, timed_next}
use Rattle.ddcmp_core.proofs.StartLaws.{next_state, sent_in_state}
use Rattle.ddcmp_proto.specs.Bytes.{frame_on_line}
use Rattle.ddcmp_io.specs.declared.carrier.End.TheVariants.{B}
use Rattle.ddcmp_pair.specs.declared.event.Event.TheVariants.{Arrive}
use Rattle.ddcmp_pair.specs.Place.{place_of, WholeFrame}
use Rattle.ddcmp_pair.specs.Run.{EndState, PairState, handed_up, after_poll_here, is_honest_here}
use Rattle.ddcmp_pair.specs.Run.{line_bytes, whole_frame}
use Rattle.ddcmp_pair.proofs.WholeArrivals.{hears, arrives-as, still-closed, honest-arrival}
use Rattle.ddcmp_pair.proofs.WholeArrivals.{no-restart, stays-awake}
use Rattle.ddcmp_pair.proofs.Crossings.{emptied, emptied-none, turned, crossed_by, half}
use Rattle.ddcmp_core.proofs.Taken.{sound_taken_all, timed_taken_all}
use Rattle.ddcmp_pair.proofs.Relation.{Counts}
use Rattle.ddcmp_pair.proofs.Numbering.{sent_is, next_is, out_length}
use Rattle.ddcmp_pair.proofs.Views.{View, Ordered, Crossing, c_strt, c_stack, c_nak, c_rep, c_data}
use Rattle.ddcmp_pair.proofs.Views.{c_ack, c_waits, c_rests}
use Rattle.ddcmp_pair.proofs.Sees.{looks, same_test, sees_sent, sees_strt, sees_stack, sees_nak}
use Rattle.ddcmp_pair.proofs.Sees.{sees_rep, sees_data, sees_ack, looks_taken, looks-alike}
use Rattle.ddcmp_pair.proofs.Steady.{Shows, IsKept, Steady, steady-turned, steady-shows, half-kept}
use Rattle.ddcmp_pair.proofs.Steady.{inbox-sent, starts-same}

-- ---- one end

-- a frame that is sent is in the range of what an end of the same lengths receives
abbrev InRange : Limits → Next → Type 0
InRange l Idle = Unit {0}
InRange l (Sends f u) = IsReceivable l (Good f)

resp-byte : (s : StationState) → s.r < 256 → resp_of s < 256
resp-byte s h = by s.by_user
  where
    by : (b : Bool) → cond b (distance (length s.inbox) s.r) s.r < 256
    by true = omega arith
    by false = h

-- where all is taken, RESP is R
resp-rest : (s : StationState) → s.inbox ≡ [] → s.r < 256 → resp_of s ≡ s.r
resp-rest s e h = by s.by_user
  where
    by : (b : Bool) → cond b (distance (length s.inbox) s.r) s.r ≡ s.r
    by true = omega (arith, ap length e, h)
    by false = refl

in-range : (l m : Limits) (s : StationState) → l.longest ≡ m.longest → IsSound l s → (z : Next)
    → SentFor s z → InRange m z
in-range l m s same h _ (sends_strt e d) = tt
in-range l m s same h _ (sends_stack e d) = tt
in-range l m s same h _ (sends_nak why e r) = resp-byte s h.r_byte
in-range l m s same h _ (sends_rep e r f) = tt
in-range l m s same h _ (sends_data e r f place) =
    let g = h.out_stored.lengths (before_next s) place in
    (resp-byte s h.r_byte, h.in_window.t_byte, g.0, omega (arith, g.1, same))
in-range l m s same h _ (sends_ack e r f place) = resp-byte s h.r_byte
in-range l m s same h _ (sends_maint message rest e o) =
    let g = h.out_stored.lengths 0 (omega (arith, ap length o)) in
    let g' = rw o at g in
    (g'.0, omega (arith, g'.1, same))
in-range l m s same h _ (halted_idles e) = tt
in-range l m s same h _ (starting_idles e d) = tt
in-range l m s same h _ (running_idles e r f place) = tt
in-range l m s same h _ (maintenance_idles e o) = tt

receivable-sent : (l m : Limits) (s : StationState) (f : Frame) (u : StationState)
    → l.longest ≡ m.longest → IsSound l s → next s ≡ Sends f u → IsReceivable m (Good f)
receivable-sent l m s f u same h e =
    subst (InRange m) e (in-range l m s same h (next s) (sending s))

-- all mail is taken
abbrev pub view : EndState → View
view x = looks x.core.station x.acknowledged x.taken x.given

pub view-emptied : (x : EndState) → x.core.station.inbox ≡ [] → view (emptied x) ≡ view x
view-emptied x e = ap view (emptied-none x e)

-- a frame that is no message leaves the inbox as it was
module _ (l : Limits) (s : StationState) where
  kept-strt : (p : State) → (on_by p l s (Good Strt)).inbox ≡ s.inbox
  kept-strt Halted = refl
  kept-strt IStart = refl
  kept-strt AStart = refl
  kept-strt Running = by (may_restart l s)
    where
      by : (b : Bool) → (cond b (after_restart s) (after_halt s)).inbox ≡ s.inbox
      by true = refl
      by false = refl
  kept-strt Maintenance = refl

  kept-stack : (p : State) → (on_by p l s (Good Stack)).inbox ≡ s.inbox
  kept-stack Halted = refl
  kept-stack IStart = refl
  kept-stack AStart = refl
  kept-stack Running = refl
  kept-stack Maintenance = refl

  kept-rep : (p : State) (num : ℕ) → (on_by p l s (Good (Rep num))).inbox ≡ s.inbox
  kept-rep Halted num = refl
  kept-rep IStart num = refl
  kept-rep AStart num = refl
  kept-rep Running num = refl
  kept-rep Maintenance num = refl

  kept-ack : (p : State) (resp : ℕ) → (on_by p l s (Good (Acked resp))).inbox ≡ s.inbox
  kept-ack Halted resp = refl
  kept-ack IStart resp = refl
  kept-ack AStart resp = by (resp == 0)
    where
      by : (b : Bool) → (cond b (after_startup s) s).inbox ≡ s.inbox
      by true = refl
      by false = refl
  kept-ack Running resp = refl
  kept-ack Maintenance resp = refl

  kept-nak : (p : State) (why : Reason) (resp : ℕ)
      → (on_by p l s (Good (Naked why resp))).inbox ≡ s.inbox
  kept-nak Halted why resp = refl
  kept-nak IStart why resp = refl
  kept-nak AStart why resp = refl
  kept-nak Running why resp = by (is_within s.a resp s.n)
    where
      u : StationState
      u = record (after_ack s resp) {
        t = next_number (after_ack s resp).a;
        rep = false;
        timer = Off;
      }

      by : (b : Bool) → (cond b u s).inbox ≡ s.inbox
      by true = refl
      by false = refl
  kept-nak Maintenance why resp = refl

-- the numbers of an end that takes all
view-taken : (y : EndState)
    → view (emptied y) ≡ looks_taken y.core.station y.acknowledged y.taken y.given
view-taken y = λ i.
    record (looks_taken y.core.station y.acknowledged y.taken y.given) {
      up = length (append-nil (y.taken ++ y.core.station.inbox) i);
    }

first-of : (b d : Bool) → (b && d) ≡ true → b ≡ true
first-of true d e = refl
first-of false d e = absurd (cc)

second-of : (b d : Bool) → (b && d) ≡ true → d ≡ true
second-of true d e = e
second-of false d e = absurd (cc)

both-true : (b d : Bool) → b ≡ true → d ≡ true → (b && d) ≡ true
both-true b d e f = λ i. e i && f i

pub steady-ordered : (Holds : PairState → Type 0) → IsKept Holds → (W : ℕ) (p : PairState)
    → Steady Holds W p → Ordered W (view p.a) (view p.b)
steady-ordered Holds k W p h =
    let x = p.a in
    let g = steady-shows Holds k W p h in
    let c = g.numbers in
    let n =
    sent_is x.core.station x.core.limits.window x.given x.acknowledged g.sent g.next
    (length (handed_up x)) c in
    let t =
    next_is x.core.station x.core.limits.window x.given x.acknowledged g.sent g.next
    (length (handed_up x)) c in
    record {
      low = g.low;
      high = omega (arith, g.high, n);
      sent_given = omega (arith, c.sent_given, n);
      window = omega (arith, c.window, h.a.window);
      next_low = omega (arith, c.t_low, t);
      next_high = omega (arith, c.t_high, t, n);
      fresh = λ e. ap length (g.fresh e);
      young = λ e. ap length (g.young e);
      awake = h.a.awake;
      no_maintenance = g.no_maintenance;
      apart = g.apart;
    }

module _ (Holds : PairState → Type 0) (k : IsKept Holds) (W : ℕ) (p : PairState)
    (h : Steady Holds W p) where
  abbrev x : EndState
  x = p.a

  abbrev y : EndState
  y = p.b

  abbrev s : StationState
  s = p.a.core.station

  abbrev t : StationState
  t = p.b.core.station

  here : Shows p.a p.b
  here = steady-shows Holds k W p h

  there : Shows p.b p.a
  there = steady-shows Holds k W (turned p) (steady-turned Holds W p h)

  -- what a running end hears is no STRT
  no-strt : (f : Frame) (u : StationState) → next s ≡ Sends f u → t.state ≡ Running → f ≡ Strt → ⊥
  no-strt f u e r z = there.apart r (sent_in_state s Strt u (e ∙ ap (λ g. Sends g u) z))

  -- ---- half an exchange keeps what a settle needs

  module _ (f : Frame) (u : StationState) (e : next s ≡ Sends f u) where
    abbrev bytes : List ℕ
    bytes = frame_on_line x.syn f

    abbrev after : PairState
    after = record {
      a = emptied (hears f bytes y);
      b = after_poll_here x;
      honest = is_honest_here (Arrive B bytes) y (after_poll_here x).sent && p.honest;
    }

    half-sends : half p ≡ after
    half-sends =
        ap (λ z. turned (crossed_by (option_map (frame_on_line x.syn) (next_frame z)) p)) e
        ∙ ap (λ z. record after { a = emptied z })
        (arrives-as x.core.limits s u f x.syn h.a.sound e y h.same h.b.closed)

    sent-is : (after_poll_here x).sent ≡ x.sent ++ whole_frame f ∷ []
    sent-is = ap (λ z. x.sent ++ option_to_list (option_map whole_frame (next_frame z))) e

    honest-is : is_honest_here (Arrive B bytes) y (after_poll_here x).sent ≡ true
    honest-is =
        ap
        (λ (l : List WholeFrame). is_some
        (place_of (good_frames y.core.limits.longest (y.arrived ++ bytes)) l)) sent-is
        ∙ honest-arrival x.core.limits s u f x.syn h.a.sound e y h.same h.b.closed x.sent
        here.placed

    starts-are : (hears f bytes y).starts ≡ y.starts
    starts-are =
        starts-same y.starts _ (no-restart y.core.limits t f (no-strt f u e))
        (second-of (nat_le x.starts 1) (nat_le y.starts 1) h.clean)

    comes-in-range : IsReceivable y.core.limits (Good f)
    comes-in-range = receivable-sent x.core.limits y.core.limits s f u h.same h.a.sound e

    sound-hearing : IsSound y.core.limits (after_take_all (on y.core.limits t (Good f)))
    sound-hearing =
        sound_taken_all y.core.limits (on y.core.limits t (Good f))
        (sound_on y.core.limits t (Good f) comes-in-range h.b.sound)

    steady-after : Steady Holds W after
    steady-after = record {
      kept =
          subst (λ (q : PairState). Holds q ⊎ Holds (turned q)) half-sends
          (half-kept Holds k p h.kept);
      honest = both-true _ _ honest-is h.honest;
      clean =
          both-true _ _
          (ap (λ n. nat_le n 1) starts-are
          ∙ second-of (nat_le x.starts 1) (nat_le y.starts 1) h.clean)
          (first-of (nat_le x.starts 1) (nat_le y.starts 1) h.clean);
      a = record {
        sound = sound-hearing;
        timed =
            timed_taken_all (on y.core.limits t (Good f))
            (timed_on y.core.limits t (Good f) h.b.timed);
        awake = stays-awake y.core.limits t f (no-strt f u e) h.b.awake;
        empty = refl;
        window = h.b.window;
        closed = still-closed x.core.limits s u f x.syn h.a.sound e y h.same h.b.closed;
      };
      b = record {
        sound = sound_next x.core.limits s h.a.sound;
        timed = timed_next s h.a.timed;
        awake = λ z. h.a.awake (sym (next_state s) ∙ z);
        empty = inbox-sent s (next s) (sending s) ∙ h.a.empty;
        window = h.a.window;
        closed = h.a.closed;
      };
      same = sym h.same;
      larger = (let l = h.larger in omega (arith, l));
    }

  half-idles : next s ≡ Idle → half p ≡ turned p
  half-idles e = ap (λ z. turned (crossed_by (option_map (frame_on_line x.syn) (next_frame z)) p)) e

  pub steady-half : Steady Holds W (half p)
  steady-half = by (next s) refl
    where
      by : (z : Next) → next s ≡ z → Steady Holds W (half p)
      by Idle e =
          subst (λ (q : PairState). Steady Holds W q) (sym (half-idles e))
          (steady-turned Holds W p h)
      by (Sends f u) e =
          subst (λ (q : PairState). Steady Holds W q) (sym (half-sends f u e)) (steady-after f u e)

  -- ---- each frame, as the numbers see it

  abbrev v : View
  v = view p.a

  o : Ordered W (view p.a) (view p.b)
  o = steady-ordered Holds k W p h

  o' : Ordered W (view p.b) (view p.a)
  o' = steady-ordered Holds k W (turned p) (steady-turned Holds W p h)

  abbrev up : ℕ
  up = length (handed_up p.a)

  c : Counts p.a.core.station p.a.core.limits.window p.a.given p.a.acknowledged here.sent here.next
      (length (handed_up p.a))
  c = here.numbers

  c' : Counts p.b.core.station p.b.core.limits.window p.b.given p.b.acknowledged there.sent
      there.next (length (handed_up p.b))
  c' = there.numbers

  sent : p.a.acknowledged + distance p.a.core.station.a p.a.core.station.n ≡ here.sent
  sent =
      sent_is p.a.core.station p.a.core.limits.window p.a.given p.a.acknowledged here.sent here.next
      (length (handed_up p.a)) c

  coming : p.a.acknowledged + 1 + before_next p.a.core.station ≡ here.next
  coming =
      next_is p.a.core.station p.a.core.limits.window p.a.given p.a.acknowledged here.sent here.next
      (length (handed_up p.a)) c

  left : length p.a.core.station.out ≡ length p.a.given - p.a.acknowledged
  left =
      out_length p.a.core.station p.a.core.limits.window p.a.given p.a.acknowledged here.sent
      here.next (length (handed_up p.a)) c

  -- all that is up here may be reported there
  told : length (handed_up p.a) ≤ there.sent
  told = there.high

  none-up : p.b.core.station.state ≡ AStart → length (handed_up p.a) ≡ 0
  none-up e = let g = o'.fresh (ap is_starting e) in omega (arith, o'.high, o'.sent_given, g)

  room : 0 < p.b.core.limits.room
  room = let g = h.b.sound.inbox_stored.limit_min in omega (arith, g)

  heard-view : Frame → View
  heard-view f =
      looks_taken (on y.core.limits t (Good f))
      (y.acknowledged + acknowledged_by (notice_of y.core.limits t (Good f))) y.taken y.given

  abbrev sees-view : Frame → View
  sees-view f =
      looks_taken (on_by t.state y.core.limits t (Good f))
      (y.acknowledged + acknowledged_by (notice_by t.state y.core.limits t (Good f)))
      y.taken y.given

  heard-sees : (f : Frame) → heard-view f ≡ sees-view f
  unfolding on notice_of heard-view
  heard-sees f = refl

  abbrev kept-view : Frame → View
  kept-view f =
      looks (on_by t.state y.core.limits t (Good f))
      (y.acknowledged + acknowledged_by (notice_by t.state y.core.limits t (Good f)))
      y.taken y.given

  -- a frame that is no message
  heard-kept : (f : Frame) → (on_by t.state y.core.limits t (Good f)).inbox ≡ t.inbox
      → heard-view f ≡ kept-view f
  heard-kept f e =
      heard-sees f
      ∙ looks-alike (on_by t.state y.core.limits t (Good f))
      (y.acknowledged + acknowledged_by (notice_by t.state y.core.limits t (Good f)))
      y.taken y.given (e ∙ h.b.empty)

  after-view : Next → View
  after-view Idle = view y
  after-view (Sends f u) = heard-view f

  to : (b : Bool) (m n m' n' : View) → m' ≡ m → n' ≡ n → Crossing (view p.a) (view p.b) b m n
      → Crossing (view p.a) (view p.b) b m' n'
  to b m n m' n' e f g =
      subst (λ (z : View × View). Crossing (view p.a) (view p.b) b z.0 z.1)
      (λ i. (sym e i, sym f i)) g

  rest : resp_of s ≡ s.r
  rest = resp-rest s h.a.empty h.a.sound.r_byte

  all-sent : length p.a.core.station.out ≤ before_next p.a.core.station
      → length p.a.given < p.a.acknowledged + 1 + before_next p.a.core.station
  all-sent r = omega (arith, r, left)

  crossing-by : (z : Next) → SentFor s z
      → Crossing (view p.a) (view p.b) (is_some (option_map (frame_on_line x.syn) (next_frame z)))
      (looks (after_next z s) x.acknowledged x.taken x.given) (after-view z)
  unfolding after-view
  crossing-by _ (sends_strt e d) =
      to true _ _ _ _ refl
      (heard-kept Strt (kept-strt y.core.limits t t.state)
      ∙ sees_strt y.core.limits t y.core.limits.window y.given y.acknowledged there.sent
      there.next (length (handed_up y)) c' y.taken t.state (λ q. there.apart q e)) (c_strt e d)
  crossing-by _ (sends_stack e d) =
      to true _ _ _ _ refl
      (heard-kept Stack (kept-stack y.core.limits t t.state)
      ∙ sees_stack y.core.limits t y.core.limits.window y.given y.acknowledged there.sent
      there.next (length (handed_up y)) c' y.taken t.state) (c_stack e d)
  crossing-by _ (sends_nak why e r) =
      to true _ _ _ _ refl
      (heard-kept (Naked why (resp_of s)) (kept-nak y.core.limits t t.state why (resp_of s))
      ∙ ap (λ q. kept-view (Naked why q)) (rest ∙ c.r_is)
      ∙ sees_nak y.core.limits t y.core.limits.window y.given y.acknowledged there.sent
      there.next (length (handed_up y)) c' y.taken t.state why up o'.low told)
      (c_nak why e r)
  crossing-by _ (sends_rep e r f) =
      to true _ _ _ _ refl
      (heard-kept (Rep s.n) (kept-rep y.core.limits t t.state s.n)
      ∙ sees_rep y.core.limits t y.core.limits.window y.given y.acknowledged there.sent
      there.next (length (handed_up y)) c' y.taken t.state s.n v.sent
      (same_test s.n t.r v.sent (length (handed_up y)) (c.n_is ∙ ap (λ m. m % 256) (sym sent))
      c'.r_is (omega (arith, o.low, o.sent_given, c.window, c.small)) (omega (arith, o.high))))
      (c_rep e r f)
  crossing-by _ (sends_data e r f place) =
      let all : p.a.acknowledged + 1 + before_next p.a.core.station ≤ length p.a.given =
      omega (arith, place, left) in
      to true _ _ _ _
      (sees_sent s x.core.limits.window x.given x.acknowledged here.sent here.next
      (length (handed_up x)) x.taken place c)
      (heard-sees (Data (resp_of s) s.t (message_at_next s))
      ∙ ap (λ q. sees-view (Data q s.t (message_at_next s))) (rest ∙ c.r_is)
      ∙ sees_data y.core.limits t y.core.limits.window y.given y.acknowledged there.sent there.next
      (length (handed_up y)) c' y.taken t.state up s.t v.next (message_at_next s) refl
      none-up h.b.empty room refl (c.t_is ∙ ap (λ m. m % 256) (sym coming))
      (omega (arith, all, c.window, c.small, o.low))
      (omega (arith, o.high, o.sent_given, c.window, c.small)) o'.low told)
      (c_data e r f all)
  crossing-by _ (sends_ack e r f place) =
      to true _ _ _ _ refl
      (heard-kept (Acked (resp_of s)) (kept-ack y.core.limits t t.state (resp_of s))
      ∙ ap (λ q. kept-view (Acked q)) (rest ∙ c.r_is)
      ∙ sees_ack y.core.limits t y.core.limits.window y.given y.acknowledged there.sent
      there.next (length (handed_up y)) c' y.taken t.state up none-up o'.low told)
      (c_ack e r f (all-sent place))
  crossing-by _ (sends_maint m ms e r) = absurd (o.no_maintenance e)
  crossing-by _ (halted_idles e) = absurd (o.awake e)
  crossing-by _ (starting_idles e d) = c_waits e d
  crossing-by _ (running_idles e r f place) = c_rests e r f (all-sent place)
  crossing-by _ (maintenance_idles e r) = absurd (o.no_maintenance e)

  -- what is seen of both ends after half an exchange
  record HalfSeen (z : Next) : Type 0 where
    wrote : line_bytes p.a ≡ option_map (frame_on_line x.syn) (next_frame z)
    sender : view (half p).b ≡ looks (after_next z s) x.acknowledged x.taken x.given
    hearer : view (half p).a ≡ after-view z

  half-seen : (z : Next) → next s ≡ z → HalfSeen z
  unfolding after-view heard-view
  half-seen Idle e = record {
    wrote = ap (λ z. option_map (frame_on_line x.syn) (next_frame z)) e;
    sender = ap (λ (q : PairState). view q.b) (half-idles e);
    hearer = ap (λ (q : PairState). view q.a) (half-idles e);
  }
  half-seen (Sends f u) e = record {
    wrote = ap (λ z. option_map (frame_on_line x.syn) (next_frame z)) e;
    sender =
        ap (λ (q : PairState). view q.b) (half-sends f u e)
        ∙ ap (λ z. looks (after_next z s) x.acknowledged x.taken x.given) e;
    hearer =
        ap (λ (q : PairState). view q.a) (half-sends f u e)
        ∙ view-taken (hears f (frame_on_line x.syn f) y);
  }

  pub steady-crossing : Crossing (view p.a) (view p.b) (is_some (line_bytes p.a)) (view (half p).b)
      (view (half p).a)
  steady-crossing =
      let g = half-seen (next s) refl in
      subst (λ (z : View × View). Crossing (view p.a) (view p.b) (is_some (line_bytes p.a)) z.0 z.1)
      (λ i. (sym g.sender i, sym g.hearer i)) (crossing-by (next s) (sending s))
