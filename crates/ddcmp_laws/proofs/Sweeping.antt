-- Sweeps over a line that loses nothing: two in which no frame is sent leave it at rest.
use Rattle.std.proofs.Common.{◌≡◌, ◌≤◌, ℕ, zero, suc, ◌+◌, ◌*◌, Bool, true, false, cond, List, []}
use Rattle.std.proofs.Common.{◌∷◌, ◌++◌, length, drop, refl, sym, ap, ◌∙◌, subst, arith, append-nil}
use Rattle.std.proofs.Common.{length-append, Option, Some, None}
use Rattle.std.specs.Prelude.{◌||◌, option_map}
use Rattle.ddcmp_core.specs.Store.{first_message}
use Rattle.ddcmp_core.specs.declared.state.State.{State}
use Rattle.ddcmp_core.specs.declared.state.State.TheVariants.{Halted, IStart, AStart, Running}
use Rattle.ddcmp_core.specs.declared.state.State.TheVariants.{Maintenance}
use Rattle.ddcmp_core.specs.declared.state.Timer.TheVariants.{Fresh}
use Rattle.ddcmp_core.specs.declared.state.Owed.{Owed}
use Rattle.ddcmp_core.specs.declared.state.Owed.TheVariants.{Quiet, Ack, Nak}
use Rattle.ddcmp_core.specs.Table.{StationState, Data, Acked, Naked, Rep, Strt, Stack, Next, Idle}
use Rattle.ddcmp_core.specs.Table.{Sends, resp_of}
use Rattle.ddcmp_core.specs.Table.{next, next_by, next_running, next_maintenance, next_frame}
use Rattle.ddcmp_core.specs.Table.{after_next, has_message, message_at_next, after_data}
use Rattle.ddcmp_core.specs.Core.{CoreView}
use Rattle.ddcmp_proto.specs.Bytes.{after_items, frame_on_line}
use Rattle.ddcmp_proto.proofs.FeedLaws.{items_added-none}
use Rattle.ddcmp_io.specs.declared.carrier.End.{End}
use Rattle.ddcmp_io.specs.declared.carrier.End.TheVariants.{A, B}
use Rattle.ddcmp_pair.specs.declared.event.Event.{Event}
use Rattle.ddcmp_pair.specs.declared.event.Event.TheVariants as event
use Rattle.ddcmp_pair.specs.Run.{EndState, PairState, line_bytes, wrote, took, after_poll_here}
use Rattle.ddcmp_pair.specs.Run.{after_arrival_here, after_take_here, after_event, reply_to}
use Rattle.ddcmp_laws.specs.LossFree.{Line, bytes_or_none, after_on_line, LosesNothing}
use Rattle.ddcmp_laws.specs.LossFree.{IsLossFree, run_on_line, IsEarly}
use Rattle.ddcmp_laws.proofs.Early.{early-resp, early-take, early-event}
use Rattle.ddcmp_laws.specs.Price.{price, frames_of, added_by, added}
use Rattle.ddcmp_laws.specs.Delivers.{IsAtRest}
use Rattle.ddcmp_laws.specs.Sweeps.{OnlyCarries, bytes_to, bytes_brought, is_poll, is_asked}
use Rattle.ddcmp_laws.specs.Sweeps.{IsSweep, sweep_of, AreSweeps, in_a_row}
use Rattle.ddcmp_laws.proofs.Settling.{Settles, steps, pair_is, drop_front, run_keeps}
use Rattle.ddcmp_laws.proofs.InStep.{line-append}

-- ---- what an end sends next doesn't depend on its inbox

frame-taken : (s : StationState) (i : List (List ℕ)) → s.by_user ≡ false
    → next_frame (next (record s { inbox = i })) ≡ next_frame (next s)
unfolding next
frame-taken s i early = by s.state
  where
    u : StationState
    u = record s { inbox = i }

    same : resp_of u ≡ resp_of s
    same = early-resp u early ∙ sym (early-resp s early)

    starts : (b : Bool)
        → next_frame (cond b (Sends Strt (record u { due = false; timer = Fresh })) Idle)
        ≡ next_frame (cond b (Sends Strt (record s { due = false; timer = Fresh })) Idle)
    starts true = refl
    starts false = refl

    answers : (b : Bool)
        → next_frame (cond b (Sends Stack (record u { due = false; timer = Fresh })) Idle)
        ≡ next_frame (cond b (Sends Stack (record s { due = false; timer = Fresh })) Idle)
    answers true = refl
    answers false = refl

    runs : (b c d : Bool)
        → next_frame (cond b (Sends (Rep s.n) (record u { rep = false; timer = Fresh }))
        (cond c (Sends (Data (resp_of u) s.t (message_at_next s)) (after_data u))
        (cond d (Sends (Acked (resp_of u)) (record u { reply = Quiet })) Idle)))
        ≡ next_frame (cond b (Sends (Rep s.n) (record s { rep = false; timer = Fresh }))
        (cond c (Sends (Data (resp_of s) s.t (message_at_next s)) (after_data s))
        (cond d (Sends (Acked (resp_of s)) (record s { reply = Quiet })) Idle)))
    runs true c d = refl
    runs false true d = ap (λ q. Some (Data q s.t (message_at_next s))) same
    runs false false true = ap (λ q. Some (Acked q)) same
    runs false false false = refl

    running : (r : Owed) → next_frame (next_running r u) ≡ next_frame (next_running r s)
    running Quiet = runs s.rep (has_message s) false
    running Ack = runs s.rep (has_message s) true
    running (Nak why) = ap (λ q. Some (Naked why q)) same

    maintains : (out : List (List ℕ))
        → next_frame (next_maintenance out u) ≡ next_frame (next_maintenance out s)
    maintains [] = refl
    maintains (m ∷ rest) = refl

    by : (p : State) → next_frame (next_by p u) ≡ next_frame (next_by p s)
    by Halted = refl
    by IStart = starts s.due
    by AStart = answers s.due
    by Running = running s.reply
    by Maintenance = maintains s.out

bytes-taken : (x : EndState) → x.core.station.by_user ≡ false
    → line_bytes (after_take_here x) ≡ line_bytes x
bytes-taken x early =
    ap (λ f. option_map (frame_on_line x.syn) f)
    (ap (λ (s : StationState). next_frame (next s)) (early-take x.core.station early)
    ∙ frame-taken x.core.station (drop 1 x.core.station.inbox) early)

-- ---- a poll that gives no frame, and an arrival of nothing

none-written : (o : Option (List ℕ)) → frames_of (wrote o) ≡ 0 → o ≡ None
none-written None e = refl
none-written (Some bytes) e = absurd (omega (arith, e))

none-taken : (o : Option (List ℕ)) → frames_of (took o) ≡ 0
none-taken None = refl
none-taken (Some m) = refl

idle-next : (x : EndState) → line_bytes x ≡ None → next x.core.station ≡ Idle
idle-next x e = by (next x.core.station) refl
  where
    by : (z : Next) → next x.core.station ≡ z → z ≡ Idle
    by Idle q = refl
    by (Sends f u) q =
        absurd
        (let y = sym (ap (λ n. option_map (frame_on_line x.syn) (next_frame n)) q) ∙ e in cc y)

bytes-polled : (x : EndState) → line_bytes x ≡ None → line_bytes (after_poll_here x) ≡ line_bytes x
bytes-polled x e =
    ap
    (λ z. option_map (frame_on_line x.syn) (next_frame (next (after_next z x.core.station))))
    (idle-next x e)

nothing-in-front : (bytes rest way : List ℕ) → bytes ++ rest ≡ way → way ≡ [] → bytes ≡ []
nothing-in-front [] rest way e f = refl
nothing-in-front (b ∷ bytes) rest way e f = absurd (let g = e ∙ f in cc g)

same-core : (bytes : List ℕ) (x : EndState) → bytes ≡ []
    → (after_arrival_here bytes x).core ≡ x.core
unfolding after_items
same-core bytes x e =
    ap (λ (b : List ℕ). (after_arrival_here b x).core) e
    ∙ ap (λ g. after_items g x.core) (items_added-none x.core.limits.longest x.arrived)

bytes-arrived : (bytes : List ℕ) (x : EndState) → bytes ≡ []
    → line_bytes (after_arrival_here bytes x) ≡ line_bytes x
bytes-arrived bytes x e =
    ap
    (λ (k : CoreView). option_map (frame_on_line x.syn) (next_frame (next k.station)))
    (same-core bytes x e)

left-nothing : (bytes way : List ℕ) → bytes ≡ [] → way ≡ [] → drop (length bytes) way ≡ []
left-nothing bytes way e f = ap (λ (b : List ℕ). drop (length b) way) e ∙ f

-- ---- stations go on to acknowledge messages when they are received

early-on : (e : Event) (l : Line) → IsEarly l.pair → IsEarly (after_on_line e l).pair
early-on e l h =
    subst (λ (p : PairState). IsEarly p) (sym (pair_is e l)) (early-event e l.pair h)

pub early-along : (events : List Event) (l : Line) → IsEarly l.pair
    → IsEarly (run_on_line events l).pair
unfolding run_on_line
early-along [] l h = h
early-along (e ∷ rest) l h = early-along rest (after_on_line e l) (early-on e l h)

-- ---- an event by which no frame is sent, with nothing in flight

record Still (l m : Line) : Type 0 where
  none_to_a : m.to_a ≡ []
  none_to_b : m.to_b ≡ []
  same_a : line_bytes m.pair.a ≡ line_bytes l.pair.a
  same_b : line_bytes m.pair.b ≡ line_bytes l.pair.b

more-written : (way : List ℕ) (o : Option (List ℕ)) → o ≡ None → way ++ bytes_or_none o ≡ way
more-written way o e = ap (λ z. way ++ bytes_or_none z) e ∙ append-nil way

still : (e : Event) (rest : List Event) (l : Line) → OnlyCarries (e ∷ rest) → LosesNothing e l
    → frames_of (reply_to e l.pair) ≡ 0 → l.to_a ≡ [] → l.to_b ≡ [] → IsEarly l.pair
    → Still l (after_on_line e l)
unfolding after_event reply_to
still (event.Poll A) rest l c n z a b h =
    let o = none-written (line_bytes l.pair.a) z in
    record {
      none_to_a = a;
      none_to_b = more-written l.to_b (line_bytes l.pair.a) o ∙ b;
      same_a = bytes-polled l.pair.a o;
      same_b = refl;
    }
still (event.Poll B) rest l c n z a b h =
    let o = none-written (line_bytes l.pair.b) z in
    record {
      none_to_a = more-written l.to_a (line_bytes l.pair.b) o ∙ a;
      none_to_b = b;
      same_a = refl;
      same_b = bytes-polled l.pair.b o;
    }
still (event.Arrive A bytes) rest l c n z a b h =
    let e = nothing-in-front bytes n.0 l.to_a n.1 a in
    record {
      none_to_a = left-nothing bytes l.to_a e a;
      none_to_b = b;
      same_a = bytes-arrived bytes l.pair.a e;
      same_b = refl;
    }
still (event.Arrive B bytes) rest l c n z a b h =
    let e = nothing-in-front bytes n.0 l.to_b n.1 b in
    record {
      none_to_a = a;
      none_to_b = left-nothing bytes l.to_b e b;
      same_a = refl;
      same_b = bytes-arrived bytes l.pair.b e;
    }
still (event.Take A) rest l c n z a b h =
    record { none_to_a = a; none_to_b = b; same_a = bytes-taken l.pair.a h.a; same_b = refl }
still (event.Take B) rest l c n z a b h =
    record { none_to_a = a; none_to_b = b; same_a = refl; same_b = bytes-taken l.pair.b h.b }
still (event.Start e) rest l c n z a b h = absurd c
still (event.Halt e) rest l c n z a b h = absurd c
still (event.Send e m) rest l c n z a b h = absurd c
still (event.Expire e) rest l c n z a b h = absurd c
still event.Clear rest l c n z a b h = absurd c

pub carries-on : (e : Event) (rest : List Event) → OnlyCarries (e ∷ rest) → OnlyCarries rest
carries-on (event.Poll e) rest c = c
carries-on (event.Arrive e bytes) rest c = c
carries-on (event.Take e) rest c = c
carries-on (event.Start e) rest c = absurd c
carries-on (event.Halt e) rest c = absurd c
carries-on (event.Send e m) rest c = absurd c
carries-on (event.Expire e) rest c = absurd c
carries-on event.Clear rest c = absurd c

-- ---- frames and what is added, along a line

unfoldable frames_on : List Event → Line → ℕ
frames_on [] l = 0
frames_on (e ∷ rest) l = frames_of (reply_to e l.pair) + frames_on rest (after_on_line e l)

unfoldable pub added_on : ℕ → List Event → Line → ℕ
added_on w [] l = 0
added_on w (e ∷ rest) l = added_by w e l.pair + added_on w rest (after_on_line e l)

pub added-is : (w : ℕ) (events : List Event) (l : Line)
    → added_on w events l ≡ added w events l.pair
unfolding added_on added
added-is w [] l = refl
added-is w (e ∷ rest) l =
    ap (λ n. added_by w e l.pair + n)
    (added-is w rest (after_on_line e l) ∙ ap (λ (p : PairState). added w rest p) (pair_is e l))

pub added-append : (w : ℕ) (first second : List Event) (l : Line)
    → added_on w (first ++ second) l
    ≡ added_on w first l + added_on w second (run_on_line first l)
unfolding added_on run_on_line
added-append w [] second l = omega arith
added-append w (e ∷ first) second l =
    let h = added-append w first second (after_on_line e l) in omega (arith, h)

falls : (w : ℕ) (events : List Event) (l : Line) → IsLossFree events l → Settles w l
    → frames_on events l + price w (run_on_line events l) ≤ price w l + added_on w events l
unfolding frames_on added_on run_on_line
falls w [] l n h = omega arith
falls w (e ∷ rest) l n h =
    let s = steps w e l n.0 h in
    let f = s.falls in
    let m = falls w rest (after_on_line e l) n.1 s.kept in
    omega (arith, f, m)

-- ---- a sweep by which no frame is sent brings all that was in flight

shorter : (bytes rest way : List ℕ) → bytes ++ rest ≡ way
    → length (drop (length bytes) way) + length bytes ≡ length way
shorter bytes rest way e =
    let l = ap length (ap (drop (length bytes)) (sym e) ∙ drop_front bytes rest) in
    let n = length-append bytes rest in
    let m = ap length e in
    omega (arith, l, n, m)

record Shrinks (e : Event) (l m : Line) : Type 0 where
  to_a : length m.to_a + bytes_to A e ≡ length l.to_a
  to_b : length m.to_b + bytes_to B e ≡ length l.to_b

shrinks-by : (e : Event) (rest : List Event) (l : Line) → OnlyCarries (e ∷ rest)
    → LosesNothing e l → frames_of (reply_to e l.pair) ≡ 0 → Shrinks e l (after_on_line e l)
unfolding reply_to
shrinks-by (event.Poll A) rest l c n z =
    let o = none-written (line_bytes l.pair.a) z in
    let e = ap length (more-written l.to_b (line_bytes l.pair.a) o) in
    record { to_a = omega arith; to_b = omega (arith, e) }
shrinks-by (event.Poll B) rest l c n z =
    let o = none-written (line_bytes l.pair.b) z in
    let e = ap length (more-written l.to_a (line_bytes l.pair.b) o) in
    record { to_a = omega (arith, e); to_b = omega arith }
shrinks-by (event.Arrive A bytes) rest l c n z =
    record { to_a = shorter bytes n.0 l.to_a n.1; to_b = omega arith }
shrinks-by (event.Arrive B bytes) rest l c n z =
    record { to_a = omega arith; to_b = shorter bytes n.0 l.to_b n.1 }
shrinks-by (event.Take A) rest l c n z = record { to_a = omega arith; to_b = omega arith }
shrinks-by (event.Take B) rest l c n z = record { to_a = omega arith; to_b = omega arith }
shrinks-by (event.Start e) rest l c n z = absurd c
shrinks-by (event.Halt e) rest l c n z = absurd c
shrinks-by (event.Send e m) rest l c n z = absurd c
shrinks-by (event.Expire e) rest l c n z = absurd c
shrinks-by event.Clear rest l c n z = absurd c

record Shrunk (events : List Event) (l : Line) : Type 0 where
  to_a : length (run_on_line events l).to_a + bytes_brought A events ≡ length l.to_a
  to_b : length (run_on_line events l).to_b + bytes_brought B events ≡ length l.to_b

shrinks : (events : List Event) (l : Line) → OnlyCarries events → IsLossFree events l
    → frames_on events l ≡ 0 → Shrunk events l
unfolding run_on_line bytes_brought frames_on
shrinks [] l c n z = record { to_a = omega arith; to_b = omega arith }
shrinks (e ∷ rest) l c n z =
    let first : frames_of (reply_to e l.pair) ≡ 0 = omega (arith, z) in
    let s = shrinks-by e rest l c n.0 first in
    let r = shrinks rest (after_on_line e l) (carries-on e rest c) n.1 (omega (arith, z)) in
    let a = s.to_a in
    let b = s.to_b in
    let a' = r.to_a in
    let b' = r.to_b in
    record { to_a = omega (arith, a, a'); to_b = omega (arith, b, b') }

no-bytes : (way : List ℕ) → length way ≡ 0 → way ≡ []
no-bytes [] e = refl
no-bytes (b ∷ way) e = absurd (omega (arith, e))

-- ---- a second one finds both ends idle

idle-asked : (e : Event) (rest : List Event) (l : Line) → OnlyCarries (e ∷ rest)
    → frames_of (reply_to e l.pair) ≡ 0
    → (is_poll A e ≡ true → line_bytes l.pair.a ≡ None)
    × (is_poll B e ≡ true → line_bytes l.pair.b ≡ None)
unfolding reply_to
idle-asked (event.Poll A) rest l c z =
    ((λ p. none-written (line_bytes l.pair.a) z), λ p. absurd (cc p))
idle-asked (event.Poll B) rest l c z =
    ((λ p. absurd (cc p)), λ p. none-written (line_bytes l.pair.b) z)
idle-asked (event.Arrive e bytes) rest l c z = ((λ p. absurd (by e p)), λ p. absurd (by' e p))
  where
    by : (e : End) → is_poll A (event.Arrive e bytes) ≡ true → ⊥
    by A p = cc p
    by B p = cc p

    by' : (e : End) → is_poll B (event.Arrive e bytes) ≡ true → ⊥
    by' A p = cc p
    by' B p = cc p
idle-asked (event.Take e) rest l c z = ((λ p. absurd (by e p)), λ p. absurd (by' e p))
  where
    by : (e : End) → is_poll A (event.Take e) ≡ true → ⊥
    by A p = cc p
    by B p = cc p

    by' : (e : End) → is_poll B (event.Take e) ≡ true → ⊥
    by' A p = cc p
    by' B p = cc p
idle-asked (event.Start e) rest l c z = absurd c
idle-asked (event.Halt e) rest l c z = absurd c
idle-asked (event.Send e m) rest l c z = absurd c
idle-asked (event.Expire e) rest l c z = absurd c
idle-asked event.Clear rest l c z = absurd c

known : (b c : Bool) (o m : Option (List ℕ)) → (b ≡ true → o ≡ None) → (c ≡ true → o ≡ None)
    → m ≡ o → (b || c) ≡ true → m ≡ None
known true c o m f g e p = e ∙ f refl
known false c o m f g e p = e ∙ g p

later : (a b c : Bool) → (a || (b || c)) ≡ ((b || a) || c)
later true true c = refl
later true false c = refl
later false true c = refl
later false false c = refl

no-more : (c : Bool) → (c || false) ≡ true → c ≡ true
no-more true e = refl
no-more false e = e

idle-now : (c d : Bool) (events : List Event) (l : Line) → OnlyCarries events
    → IsLossFree events l → frames_on events l ≡ 0 → l.to_a ≡ [] → l.to_b ≡ [] → IsEarly l.pair
    → (c ≡ true → line_bytes l.pair.a ≡ None) → (d ≡ true → line_bytes l.pair.b ≡ None)
    → (c || is_asked A events) ≡ true → (d || is_asked B events) ≡ true
    → IsAtRest (run_on_line events l)
unfolding run_on_line is_asked frames_on
idle-now c d [] l o n z a b h f g p q = record {
  none_to_a = a;
  none_to_b = b;
  idle_a = f (no-more c p);
  idle_b = g (no-more d q);
}
idle-now c d (e ∷ rest) l o n z a b h f g p q =
    let first : frames_of (reply_to e l.pair) ≡ 0 = omega (arith, z) in
    let s = still e rest l o n.0 first a b h in
    let i = idle-asked e rest l o first in
    idle-now (is_poll A e || c) (is_poll B e || d) rest (after_on_line e l)
    (carries-on e rest o) n.1
    (omega (arith, z)) s.none_to_a s.none_to_b (early-on e l h)
    (known (is_poll A e) c (line_bytes l.pair.a) _ i.0 f s.same_a)
    (known (is_poll B e) d (line_bytes l.pair.b) _ i.1 g s.same_b)
    (sym (later c (is_poll A e) (is_asked A rest)) ∙ p)
    (sym (later d (is_poll B e) (is_asked B rest)) ∙ q)

-- ---- at rest nothing is sent, and rest stays

no-frame : (e : Event) (rest : List Event) (l : Line) → OnlyCarries (e ∷ rest) → IsAtRest l
    → frames_of (reply_to e l.pair) ≡ 0
unfolding reply_to
no-frame (event.Poll A) rest l c r = ap (λ o. frames_of (wrote o)) r.idle_a
no-frame (event.Poll B) rest l c r = ap (λ o. frames_of (wrote o)) r.idle_b
no-frame (event.Arrive A bytes) rest l c r = refl
no-frame (event.Arrive B bytes) rest l c r = refl
no-frame (event.Take A) rest l c r = none-taken (first_message l.pair.a.core.station.inbox)
no-frame (event.Take B) rest l c r = none-taken (first_message l.pair.b.core.station.inbox)
no-frame (event.Start e) rest l c r = absurd c
no-frame (event.Halt e) rest l c r = absurd c
no-frame (event.Send e m) rest l c r = absurd c
no-frame (event.Expire e) rest l c r = absurd c
no-frame event.Clear rest l c r = absurd c

pub rest-stays : (events : List Event) (l : Line) → OnlyCarries events → IsLossFree events l
    → IsEarly l.pair → IsAtRest l → IsAtRest (run_on_line events l)
unfolding run_on_line
rest-stays [] l c n h r = r
rest-stays (e ∷ rest) l c n h r =
    let s = still e rest l c n.0 (no-frame e rest l c r) r.none_to_a r.none_to_b h in
    rest-stays rest (after_on_line e l) (carries-on e rest c) n.1 (early-on e l h)
    (record {
      none_to_a = s.none_to_a;
      none_to_b = s.none_to_b;
      idle_a = s.same_a ∙ r.idle_a;
      idle_b = s.same_b ∙ r.idle_b;
    })

pub loss-parts : (first second : List Event) (l : Line) → IsLossFree (first ++ second) l
    → IsLossFree first l × IsLossFree second (run_on_line first l)
unfolding run_on_line
loss-parts [] second l n = (tt, n)
loss-parts (e ∷ first) second l n =
    let p = loss-parts first second (after_on_line e l) n.1 in ((n.0, p.0), p.1)

pub sweeps-stay : (sweeps : List (List Event)) (l : Line) → IsEarly l.pair → IsAtRest l
    → IsLossFree (in_a_row sweeps) l → AreSweeps sweeps l
    → IsAtRest (run_on_line (in_a_row sweeps) l)
unfolding run_on_line in_a_row
sweeps-stay [] l h r n s = r
sweeps-stay (sweep ∷ rest) l h r n s =
    let p = loss-parts sweep (in_a_row rest) l n in
    subst (λ (m : Line). IsAtRest m) (sym (line-append sweep (in_a_row rest) l))
    (sweeps-stay rest (run_on_line sweep l) (early-along sweep l h)
    (rest-stays sweep l s.0.carries p.0 h r) p.1 s.1)

-- ---- sweeps enough

-- where this is known, nothing is in flight
abbrev Emptied : Bool → Line → Type 0
Emptied c l = c ≡ true → (l.to_a ≡ []) × (l.to_b ≡ [])

pub come-to-rest : (w : ℕ) (c : Bool) (sweeps : List (List Event)) (l : Line)
    → IsLossFree (in_a_row sweeps) l → AreSweeps sweeps l → Settles w l → Emptied c l
    → 2 * (price w l + added_on w (in_a_row sweeps) l) + 2 ≤ length sweeps + cond c 1 0
    → IsAtRest (run_on_line (in_a_row sweeps) l)
unfolding in_a_row added_on
come-to-rest w true [] l f s h e n = absurd (omega (arith, n))
come-to-rest w false [] l f s h e n = absurd (omega (arith, n))
come-to-rest w c (sweep ∷ rest) l f s h e n =
    subst (λ (m : Line). IsAtRest m) (sym (line-append sweep (in_a_row rest) l))
    (by (frames_on sweep l) c refl e fewer
    (λ d. come-to-rest w d rest (run_on_line sweep l) free.1 s.1))
  where
    m : Line
    m = run_on_line sweep l

    free : IsLossFree sweep l × IsLossFree (in_a_row rest) m
    free = loss-parts sweep (in_a_row rest) l f

    fewer : 2 * ((price w l + added_on w sweep l) + added_on w (in_a_row rest) m) + 2
        ≤ length rest + 1 + cond c 1 0
    fewer = let a = added-append w sweep (in_a_row rest) l in omega (arith, a, n)

    keeps : Settles w m
    keeps = run_keeps w sweep l free.0 h

    empty : frames_on sweep l ≡ 0 → (m.to_a ≡ []) × (m.to_b ≡ [])
    empty z =
        let k = shrinks sweep l s.0.carries free.0 z in
        let a = k.to_a in
        let b = k.to_b in
        let p = s.0.all_to_a in
        let q = s.0.all_to_b in
        (no-bytes m.to_a (omega (arith, a, p)), no-bytes m.to_b (omega (arith, b, q)))

    by : (k : ℕ) (c : Bool) → frames_on sweep l ≡ k → Emptied c l
        → 2 * ((price w l + added_on w sweep l) + added_on w (in_a_row rest) m) + 2
        ≤ length rest + 1 + cond c 1 0
        → ((d : Bool) → Settles w m → Emptied d m
        → 2 * (price w m + added_on w (in_a_row rest) m) + 2 ≤ length rest + cond d 1 0
        → IsAtRest (run_on_line (in_a_row rest) m))
        → IsAtRest (run_on_line (in_a_row rest) m)
    by zero true z e n more =
        let o = e refl in
        sweeps-stay rest m (record { a = keeps.a.early; b = keeps.b.early })
        (idle-now false false sweep l s.0.carries free.0 z o.0 o.1
        (record { a = h.a.early; b = h.b.early }) (λ p. absurd (cc p))
        (λ p. absurd (cc p)) s.0.asked_a s.0.asked_b) free.1 s.1
    by zero false z e n more =
        let f = falls w sweep l free.0 h in more true keeps (λ p. empty z) (omega (arith, f, z, n))
    by (suc k) true z e n more =
        let f = falls w sweep l free.0 h in
        more false keeps (λ p. absurd (cc p)) (omega (arith, f, z, n))
    by (suc k) false z e n more =
        let f = falls w sweep l free.0 h in
        more false keeps (λ p. absurd (cc p)) (omega (arith, f, z, n))

-- ---- each line has a sweep

pub shortest : (l : Line) → IsSweep (sweep_of l) l
unfolding bytes_brought is_asked
shortest l = record {
  carries = tt;
  all_to_a = omega arith;
  all_to_b = omega arith;
  asked_a = refl;
  asked_b = refl;
}

pub loses-nothing : (l : Line) → IsLossFree (sweep_of l) l
loses-nothing l = (([], append-nil l.to_a), (([], append-nil l.to_b), (tt, (tt, tt))))
