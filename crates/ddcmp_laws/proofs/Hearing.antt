-- What a station does, as its numbers without bound show it: a frame comes.
use Rattle.std.proofs.Common.{◌≡◌, ◌⊎◌, inl, inr, ℕ, ◌+◌, ◌%◌, ◌<◌, ◌≤◌, max, Bool, true, false}
use Rattle.std.proofs.Common.{cond, List, [], ◌∷◌, ◌++◌, length, Some, None, refl, sym, ap, ◌∙◌}
use Rattle.std.proofs.Common.{subst, arith, length-append}
use Rattle.std.specs.Prelude.{◌==◌, nat_lt}
use Rattle.ddcmp_frame.specs.declared.nak.Nak.{Nak as Reason}
use Rattle.ddcmp_frame.specs.declared.nak.Nak.TheVariants as reason
use Rattle.ddcmp_core.specs.Sequence.{distance}
use Rattle.ddcmp_core.specs.Numbers.{next_number, is_within}
use Rattle.ddcmp_core.specs.declared.state.State.{State}
use Rattle.ddcmp_core.specs.declared.state.State.TheVariants.{Halted, IStart, AStart, Running}
use Rattle.ddcmp_core.specs.declared.state.State.TheVariants.{Maintenance}
use Rattle.ddcmp_core.specs.declared.state.Owed.TheVariants.{Ack, Nak}
use Rattle.ddcmp_core.specs.declared.state.Timer.TheVariants.{Off}
use Rattle.ddcmp_core.specs.declared.notice.Notice.TheVariants as notice
use Rattle.ddcmp_core.specs.Table.{Limits, StationState, Good, is_starting, after_ack}
use Rattle.ddcmp_core.specs.Table.{after_startup, after_offer, on_data, on_nak, takes_data}
use Rattle.ddcmp_core.specs.Table.{acknowledged_by, notice_of, on}
use Rattle.ddcmp_core.proofs.ToldLaws.{number_told_data}
use Rattle.ddcmp_pair.proofs.Relation.{Face, Counts}
use Rattle.ddcmp_pair.proofs.Numbers.{newly-is, counts-after-ack}
use Rattle.ddcmp_pair.proofs.Views.{View, tells, back, ran}
use Rattle.ddcmp_pair.proofs.Sees.{looks, same_test, sees_tells, sees_strt, sees_stack, sees_rep}
use Rattle.ddcmp_pair.proofs.Sees.{sees_nak, sees_ack}
use Rattle.ddcmp_pair.proofs.Receptions.{hearing_by, hearing}
use Rattle.ddcmp_laws.proofs.Flights.{Flight, data_flies, ack_flies, nak_flies, rep_flies}
use Rattle.ddcmp_laws.proofs.Flights.{strt_flies, stack_flies, frame, told, is_start}
use Rattle.ddcmp_laws.proofs.Flights.{is_strt_flight, Each, each-first, rises-first, rises-ends}
use Rattle.ddcmp_laws.proofs.Flights.{near-ends, near-first}
use Rattle.ddcmp_laws.proofs.Traffic.{Told, t_runs, t_starts, Heard, h_strt, h_stack}
use Rattle.ddcmp_laws.proofs.Traffic.{h_stack_again, h_ack, h_nak, h_rep_all, h_rep, h_up}
use Rattle.ddcmp_laws.proofs.Traffic.{h_full, h_other, h_passes, Bounds, Base}

abbrev pub sight : Face → View
sight x = looks x.station x.acknowledged x.taken x.given

-- the numbers of a station are bytes of those without bound
abbrev pub CountsAt : Face → View → Type 0
CountsAt x v = Counts x.station x.limits.window x.given v.acked v.sent v.next v.up

abbrev pub Counted : Face → Type 0
Counted x = CountsAt x (sight x)

pub bounds-of : (x : Face) → Counted x → Bounds x.limits.window (sight x)
bounds-of x c =
    record { sent_given = c.sent_given; window = c.window; low = c.t_low; high = c.t_high }

pub record HeardAs (x : Face) (f : Flight) (x' : Face) : Type 0 where
  pub heard : Heard (sight x) f (sight x')
  pub counted : Counted x'

heard-by : (x : Face) (f : Flight) (x' : Face) (v : View) → sight x' ≡ v → Heard (sight x) f v
    → CountsAt x' v → HeardAs x f x'
heard-by x f x' v e h c =
    record { heard = subst (Heard (sight x) f) (sym e) h; counted = subst (CountsAt x') (sym e) c }

-- ---- a message is offered

offer-taken : (l : Limits) (s : StationState) (num : ℕ) (m : List ℕ)
    → s.by_user ≡ false → (num == next_number s.r) ≡ true
    → nat_lt (length s.inbox) l.room ≡ true
    → after_offer l s num m ≡ record s { r = num; inbox = s.inbox ++ m ∷ []; reply = Ack }
offer-taken l s num m early e d = rw (early, e, d) refl

offer-full : (l : Limits) (s : StationState) (num : ℕ) (m : List ℕ)
    → (num == next_number s.r) ≡ true → nat_lt (length s.inbox) l.room ≡ false
    → after_offer l s num m ≡ record s { reply = Nak reason.NoBuffer }
offer-full l s num m e d = rw (e, d) refl

offer-other : (l : Limits) (s : StationState) (num : ℕ) (m : List ℕ)
    → (num == next_number s.r) ≡ false → after_offer l s num m ≡ s
offer-other l s num m e = rw e refl

-- a station with which a message is offered, as its numbers show it
record Offered (l : Limits) (w : ℕ) (given taken : List (List ℕ)) (s : StationState) (q k : ℕ)
    (m : List ℕ) (v : View) (f : Flight) (u : View) : Type 0 where
  view : View
  looks_so : looks (after_offer l s (k % 256) m) q taken given ≡ view
  heard : Heard v f view
  counts : Counts (after_offer l s (k % 256) m) w given q view.sent view.next view.up

offered : (l : Limits) (w : ℕ) (given taken : List (List ℕ)) (s : StationState) (q k : ℕ)
    (m : List ℕ) (v u : View) → s.by_user ≡ false → looks s q taken given ≡ u → u.up ≡ v.up
    → Told v q u
    → Counts s w given q u.sent u.next u.up → k ≤ v.up + 256 → v.up ≤ k + 254
    → Offered l w given taken s q k m v (data_flies q k m) u
offered l w given taken s q k m v u early e p t c hi lo =
    by (k % 256 == next_number s.r) refl (nat_lt (length s.inbox) l.room) refl
  where
    up : length (taken ++ s.inbox) ≡ u.up
    up = ap (λ (z : View). z.up) e

    next : next_number s.r ≡ (v.up + 1) % 256
    next = omega (arith, c.r_is, p)

    same : (k % 256 == next_number s.r) ≡ (k == v.up + 1)
    same =
        same_test (k % 256) (next_number s.r) k (v.up + 1) refl next (omega (arith, hi))
        (omega (arith, lo))

    by : (b : Bool) → (k % 256 == next_number s.r) ≡ b → (d : Bool)
        → nat_lt (length s.inbox) l.room ≡ d
        → Offered l w given taken s q k m v (data_flies q k m) u
    by true g true d =
        let z : (k == v.up + 1) ≡ true = sym same ∙ g in
        let n : k ≡ v.up + 1 = grind (arith) in
        let o = offer-taken l s (k % 256) m early g d in
        let a = length-append taken (s.inbox ++ m ∷ []) in
        let a' = length-append taken s.inbox in
        let a'' = length-append s.inbox (m ∷ []) in
        let more : length (taken ++ (s.inbox ++ m ∷ [])) ≡ k =
        omega (arith, a, a', a'', up, p, n) in
        record {
          view = record u { up = k; reply = Ack };
          looks_so =
              ap (λ (z : StationState). looks z q taken given) o
              ∙ ap (λ j. record (looks s q taken given) { up = j; reply = Ack }) more
              ∙ ap (λ (z : View). record z { up = k; reply = Ack }) e;
          heard = h_up q k m u t n;
          counts =
              subst (λ (z : StationState). Counts z w given q u.sent u.next k) (sym o) (record {
                a_is = c.a_is;
                n_is = c.n_is;
                t_is = c.t_is;
                r_is = refl;
                out_is = c.out_is;
                t_low = c.t_low;
                t_high = c.t_high;
                window = c.window;
                small = c.small;
                acked_given = c.acked_given;
                sent_given = c.sent_given;
              });
        }
    by true g false d =
        let o = offer-full l s (k % 256) m g d in
        record {
          view = record u { reply = Nak reason.NoBuffer };
          looks_so =
              ap (λ (z : StationState). looks z q taken given) o
              ∙ ap (λ (z : View). record z { reply = Nak reason.NoBuffer }) e;
          heard = h_full q k m u t;
          counts = subst (λ (z : StationState). Counts z w given q u.sent u.next u.up) (sym o) c;
        }
    by false g d z =
        let o = offer-other l s (k % 256) m g in
        let y : (k == v.up + 1) ≡ false = sym same ∙ g in
        record {
          view = u;
          looks_so = ap (λ (z : StationState). looks z q taken given) o ∙ e;
          heard = h_other q k m u t (grind (arith, y));
          counts = subst (λ (z : StationState). Counts z w given q u.sent u.next u.up) (sym o) c;
        }

number-none : (b : Bool)
    → acknowledged_by (Some (cond b notice.RunningAndHandedUp notice.Running)) ≡ 0
number-none true = refl
number-none false = refl

-- ---- each frame in each state

module _ (x y : Face) (fl : List Flight) (f : Flight) (gl : List Flight)
    (b : Base x.limits.window (sight x) (sight y) fl (f ∷ gl))
    (b' : Base y.limits.window (sight y) (sight x) (f ∷ gl) fl) (c : Counted x) (c' : Counted y)
  where
    abbrev v : View
    v = sight x

    abbrev w : View
    w = sight y

    low : v.acked ≤ told f v.acked
    low = (rises-first v.acked w.up f gl b.rising).0

    high : told f v.acked ≤ v.sent
    high =
        let r = (rises-first v.acked w.up f gl b.rising).1 in
        let n = near-ends x.limits.window v.sent w.up fl b.near in omega (arith, r, n)

    -- an end that starts has nothing to be acknowledged
    told-zero : is_starting x.station.state ≡ true → (told f v.acked ≡ 0) × (v.acked ≡ 0)
    told-zero s =
        let g = b.fresh s in let l = low in let h = high in let n = b.bounds.sent_given in
        (omega (arith, g, h, n), omega (arith, g, l, h, n))

    -- a frame that only a running end sends
    sender-runs : is_start f ≡ false → y.station.state ≡ Running
    sender-runs e = by b'.grown
      where
        by : (y.station.state ≡ Running) ⊎ Each is_start true (f ∷ gl) → y.station.state ≡ Running
        by (inl r) = r
        by (inr u) = absurd (let z = (each-first is_start true f gl u).0 in cc (z, e))

    never-first : {X : Type 0} → x.station.state ≡ IStart → is_start f ≡ false → X
    never-first e s = absurd (b'.apart (sender-runs s) e)

    -- what w sent is near what is up here
    peer-near : w.sent ≤ v.up + 255
    peer-near =
        let r = rises-ends w.acked v.up fl b'.rising in
        omega (arith, r, c'.sent_given, c'.window, c'.small)

-- the numbers stay
pub hears-strt : (p : State) (x y : Face) (fl gl : List Flight)
    → Base x.limits.window (sight x) (sight y) fl (strt_flies ∷ gl)
    → Base y.limits.window (sight y) (sight x) (strt_flies ∷ gl) fl → Counted x
    → x.station.state ≡ p → HeardAs x strt_flies (hearing_by p x (Good (frame strt_flies)))
hears-strt Halted x y fl gl b b' c e = absurd (b.awake e)
hears-strt Maintenance x y fl gl b b' c e = absurd (b.no_maintenance e)
hears-strt Running x y fl gl b b' c e =
    absurd (let z = (each-first is_strt_flight false strt_flies gl (b'.hush e)).0 in cc z)
hears-strt IStart x y fl gl b b' c e =
    let v = sight x in
    heard-by x strt_flies (hearing_by IStart x (Good (frame strt_flies)))
    (record v { state = AStart; due = true })
    (sees_strt x.limits x.station x.limits.window x.given x.acknowledged v.sent v.next v.up c
    x.taken IStart (λ z. absurd (cc z))) (h_strt (ap is_starting e)) c
hears-strt AStart x y fl gl b b' c e =
    let v = sight x in
    heard-by x strt_flies (hearing_by AStart x (Good (frame strt_flies)))
    (record v { state = AStart; due = true })
    (sees_strt x.limits x.station x.limits.window x.given x.acknowledged v.sent v.next v.up c
    x.taken AStart (λ z. absurd (cc z)) ∙ (λ i. record v { state = e i; due = true }))
    (h_strt (ap is_starting e)) c

pub hears-stack : (p : State) (x y : Face) (fl gl : List Flight)
    → Base x.limits.window (sight x) (sight y) fl (stack_flies ∷ gl) → Counted x
    → x.station.state ≡ p → HeardAs x stack_flies (hearing_by p x (Good (frame stack_flies)))
hears-stack Halted x y fl gl b c e = absurd (b.awake e)
hears-stack Maintenance x y fl gl b c e = absurd (b.no_maintenance e)
hears-stack Running x y fl gl b c e =
    let v = sight x in
    heard-by x stack_flies (hearing_by Running x (Good (frame stack_flies)))
    (record v { reply = Ack })
    (sees_stack x.limits x.station x.limits.window x.given x.acknowledged v.sent v.next v.up c
    x.taken Running) (h_stack_again e) c
hears-stack IStart x y fl gl b c e =
    let v = sight x in
    heard-by x stack_flies (hearing_by IStart x (Good (frame stack_flies)))
    (record (ran v) { reply = Ack })
    (sees_stack x.limits x.station x.limits.window x.given x.acknowledged v.sent v.next v.up c
    x.taken IStart) (h_stack (ap is_starting e)) c
hears-stack AStart x y fl gl b c e =
    let v = sight x in
    heard-by x stack_flies (hearing_by AStart x (Good (frame stack_flies)))
    (record (ran v) { reply = Ack })
    (sees_stack x.limits x.station x.limits.window x.given x.acknowledged v.sent v.next v.up c
    x.taken AStart) (h_stack (ap is_starting e)) c

-- an end that starts runs then, or doesn't
startup-counts : (x : Face) (t : Bool) → Counted x
    → Counts (cond t (after_startup x.station) x.station) x.limits.window x.given x.acknowledged
    (sight x).sent (sight x).next (sight x).up
startup-counts x true c = c
startup-counts x false c = c

pub hears-ack : (p : State) (x y : Face) (fl gl : List Flight) (q : ℕ)
    → Base x.limits.window (sight x) (sight y) fl (ack_flies q ∷ gl)
    → Base y.limits.window (sight y) (sight x) (ack_flies q ∷ gl) fl → Counted x → Counted y
    → x.station.state ≡ p → HeardAs x (ack_flies q) (hearing_by p x (Good (frame (ack_flies q))))
hears-ack Halted x y fl gl q b b' c c' e = absurd (b.awake e)
hears-ack Maintenance x y fl gl q b b' c c' e = absurd (b.no_maintenance e)
hears-ack IStart x y fl gl q b b' c c' e = never-first x y fl (ack_flies q) gl b b' c c' e refl
hears-ack AStart x y fl gl q b b' c c' e =
    let v = sight x in
    let z = told-zero x y fl (ack_flies q) gl b b' c c' (ap is_starting e) in
    heard-by x (ack_flies q) (hearing_by AStart x (Good (frame (ack_flies q)))) (ran v)
    (sees_ack x.limits x.station x.limits.window x.given x.acknowledged v.sent v.next v.up c x.taken
    AStart q (λ r. z.0) (low x y fl (ack_flies q) gl b b' c c')
    (high x y fl (ack_flies q) gl b b' c c'))
    (h_ack q (ran v) (t_starts e (z.0 ∙ sym z.1))) (startup-counts x (q % 256 == 0) c)
hears-ack Running x y fl gl q b b' c c' e =
    let v = sight x in
    let lo = low x y fl (ack_flies q) gl b b' c c' in
    let hi = high x y fl (ack_flies q) gl b b' c c' in
    heard-by x (ack_flies q) (hearing_by Running x (Good (frame (ack_flies q)))) (tells v q)
    (sees_ack x.limits x.station x.limits.window x.given x.acknowledged v.sent v.next v.up c x.taken
    Running q (λ r. absurd (cc r)) lo hi)
    (h_ack q (tells v q) (t_runs e))
    (counts-after-ack x.station x.limits.window x.given v.acked v.sent v.next v.up q c lo hi)

-- all that is kept is retransmitted
counts-back : (s : StationState) (w : ℕ) (given : List (List ℕ)) (acked sent next up q : ℕ)
    → acked ≤ q → q ≤ sent → Counts s w given acked sent next up
    → Counts (on_nak s (q % 256)) w given q sent (q + 1) up
counts-back s w given acked sent next up q lo hi c = by (is_within s.a (q % 256) s.n) refl
  where
    within : is_within s.a (q % 256) s.n ≡ true
    within =
        let h : distance s.a (q % 256) ≤ distance s.a s.n =
        omega (arith, c.a_is, c.n_is, c.small, lo, hi, c.sent_given, c.window) in grind (arith, h)

    by : (t : Bool) → is_within s.a (q % 256) s.n ≡ t
        → Counts
        (cond t
        (record (after_ack s (q % 256))
        { t = next_number (after_ack s (q % 256)).a; rep = false; timer = Off }) s) w given q sent
        (q + 1) up
    by false t = absurd (let z = within in cc (z, t))
    by true t =
        let d = counts-after-ack s w given acked sent next up q c lo hi in
        record {
          a_is = d.a_is;
          n_is = d.n_is;
          t_is = (let a = d.a_is in omega (arith, a));
          r_is = d.r_is;
          out_is = d.out_is;
          t_low = omega arith;
          t_high = omega (arith, hi);
          window = d.window;
          small = d.small;
          acked_given = d.acked_given;
          sent_given = d.sent_given;
        }

pub hears-nak : (p : State) (x y : Face) (fl gl : List Flight) (why : Reason) (q : ℕ)
    → Base x.limits.window (sight x) (sight y) fl (nak_flies why q ∷ gl)
    → Base y.limits.window (sight y) (sight x) (nak_flies why q ∷ gl) fl → Counted x → Counted y
    → x.station.state ≡ p
    → HeardAs x (nak_flies why q) (hearing_by p x (Good (frame (nak_flies why q))))
hears-nak Halted x y fl gl why q b b' c c' e = absurd (b.awake e)
hears-nak Maintenance x y fl gl why q b b' c c' e = absurd (b.no_maintenance e)
hears-nak IStart x y fl gl why q b b' c c' e =
    never-first x y fl (nak_flies why q) gl b b' c c' e refl
hears-nak AStart x y fl gl why q b b' c c' e =
    let v = sight x in
    let z = told-zero x y fl (nak_flies why q) gl b b' c c' (ap is_starting e) in
    heard-by x (nak_flies why q) (hearing_by AStart x (Good (frame (nak_flies why q)))) v
    (sees_nak x.limits x.station x.limits.window x.given x.acknowledged v.sent v.next v.up c x.taken
    AStart why q (low x y fl (nak_flies why q) gl b b' c c')
    (high x y fl (nak_flies why q) gl b b' c c'))
    (h_passes (nak_flies why q) (ap is_starting e) refl (z.0 ∙ sym z.1)) c
hears-nak Running x y fl gl why q b b' c c' e =
    let v = sight x in
    let lo = low x y fl (nak_flies why q) gl b b' c c' in
    let hi = high x y fl (nak_flies why q) gl b b' c c' in
    heard-by x (nak_flies why q) (hearing_by Running x (Good (frame (nak_flies why q))))
    (back (tells v q))
    (sees_nak x.limits x.station x.limits.window x.given x.acknowledged v.sent v.next v.up c x.taken
    Running why q lo hi)
    (h_nak why q e)
    (counts-back x.station x.limits.window x.given v.acked v.sent v.next v.up q lo hi c)

rep-heard : (v : View) (n : ℕ) → v.state ≡ Running
    → Heard v (rep_flies n) (record v { reply = cond (n == v.up) Ack (Nak reason.ReplyToRep) })
rep-heard v n e = by (n == v.up) refl
  where
    by : (t : Bool) → (n == v.up) ≡ t
        → Heard v (rep_flies n) (record v { reply = cond t Ack (Nak reason.ReplyToRep) })
    by true t = h_rep_all n e (grind (arith))
    by false t = h_rep n e

pub hears-rep : (p : State) (x y : Face) (fl gl : List Flight) (n : ℕ)
    → Base x.limits.window (sight x) (sight y) fl (rep_flies n ∷ gl)
    → Base y.limits.window (sight y) (sight x) (rep_flies n ∷ gl) fl → Counted x → Counted y
    → x.station.state ≡ p → HeardAs x (rep_flies n) (hearing_by p x (Good (frame (rep_flies n))))
hears-rep Halted x y fl gl n b b' c c' e = absurd (b.awake e)
hears-rep Maintenance x y fl gl n b b' c c' e = absurd (b.no_maintenance e)
hears-rep IStart x y fl gl n b b' c c' e = never-first x y fl (rep_flies n) gl b b' c c' e refl
hears-rep AStart x y fl gl n b b' c c' e =
    let v = sight x in
    let near = (near-first y.limits.window (sight y).sent v.up (rep_flies n) gl b'.near).0 in
    let far = peer-near x y fl (rep_flies n) gl b b' c c' in
    heard-by x (rep_flies n) (hearing_by AStart x (Good (frame (rep_flies n)))) v
    (sees_rep x.limits x.station x.limits.window x.given x.acknowledged v.sent v.next v.up c x.taken
    AStart (n % 256) n
    (same_test (n % 256) x.station.r n v.up refl c.r_is (omega (arith, near.1, far))
    (omega (arith, near.0))))
    (h_passes (rep_flies n) (ap is_starting e) refl refl) c
hears-rep Running x y fl gl n b b' c c' e =
    let v = sight x in
    let near = (near-first y.limits.window (sight y).sent v.up (rep_flies n) gl b'.near).0 in
    let far = peer-near x y fl (rep_flies n) gl b b' c c' in
    heard-by x (rep_flies n) (hearing_by Running x (Good (frame (rep_flies n))))
    (record v { reply = cond (n == v.up) Ack (Nak reason.ReplyToRep) })
    (sees_rep x.limits x.station x.limits.window x.given x.acknowledged v.sent v.next v.up c x.taken
    Running (n % 256) n
    (same_test (n % 256) x.station.r n v.up refl c.r_is (omega (arith, near.1, far))
    (omega (arith, near.0))))
    (rep-heard v n e) c

-- ---- a message comes

-- to tell what is acknowledged already changes nothing
tells-same : (u : View) (q : ℕ) → q ≡ u.acked → u.acked < u.next → tells u q ≡ u
tells-same u q e l =
    let n : max u.next (q + 1) ≡ u.next = omega (arith, e, l) in
    let r : cond (q == u.acked) u.rep false ≡ u.rep = by (q == u.acked) refl in
    λ i. record u { acked = e i; next = n i; rep = r i }
  where
    by : (t : Bool) → (q == u.acked) ≡ t → cond t u.rep false ≡ u.rep
    by true t = refl
    by false t = absurd (grind (arith, e))

data-as : (x : Face) (s : StationState) (q k : ℕ) (m : List ℕ) (u : View) (n : ℕ) → n ≡ q
    → s.by_user ≡ false
    → looks (after_ack s (q % 256)) q x.taken x.given ≡ u → u.up ≡ (sight x).up → Told (sight x) q u
    → Counts (after_ack s (q % 256)) x.limits.window x.given q u.sent u.next u.up
    → k ≤ (sight x).up + 256 → (sight x).up ≤ k + 254
    → HeardAs x (data_flies q k m)
    (record x { station = on_data x.limits s (q % 256) (k % 256) m; acknowledged = n })
data-as x s q k m u n z early e p t c hi lo =
    let o =
    offered x.limits x.limits.window x.given x.taken (after_ack s (q % 256)) q k m (sight x)
    u early e p t c hi lo in
    subst
    (λ j. HeardAs x (data_flies q k m)
    (record x { station = on_data x.limits s (q % 256) (k % 256) m; acknowledged = j })) (sym z)
    (heard-by' o)
  where
    heard-by' : Offered x.limits x.limits.window x.given x.taken (after_ack s (q % 256)) q k m
        (sight x) (data_flies q k m) u
        → HeardAs x (data_flies q k m)
        (record x { station = on_data x.limits s (q % 256) (k % 256) m; acknowledged = q })
    heard-by' o = record {
      heard = subst (Heard (sight x) (data_flies q k m)) (sym o.looks_so) o.heard;
      counted =
          subst
          (λ (z : View). Counts (on_data x.limits s (q % 256) (k % 256) m)
          x.limits.window x.given q z.sent z.next z.up) (sym o.looks_so) o.counts;
    }

pub hears-data : (p : State) (x y : Face) (fl gl : List Flight) (q k : ℕ) (m : List ℕ)
    → Base x.limits.window (sight x) (sight y) fl (data_flies q k m ∷ gl)
    → Base y.limits.window (sight y) (sight x) (data_flies q k m ∷ gl) fl → Counted x → Counted y
    → x.station.state ≡ p → x.station.by_user ≡ false
    → HeardAs x (data_flies q k m) (hearing_by p x (Good (frame (data_flies q k m))))
hears-data Halted x y fl gl q k m b b' c c' e early = absurd (b.awake e)
hears-data Maintenance x y fl gl q k m b b' c c' e early = absurd (b.no_maintenance e)
hears-data IStart x y fl gl q k m b b' c c' e early =
    never-first x y fl (data_flies q k m) gl b b' c c' e refl
hears-data Running x y fl gl q k m b b' c c' e early =
    let v = sight x in
    let lo = low x y fl (data_flies q k m) gl b b' c c' in
    let hi = high x y fl (data_flies q k m) gl b b' c c' in
    let near = (near-first y.limits.window (sight y).sent v.up (data_flies q k m) gl b'.near).0 in
    let far = peer-near x y fl (data_flies q k m) gl b b' c c' in
    let told = number_told_data x.limits x.station (q % 256) (k % 256) in
    let new = newly-is x.station x.limits.window x.given v.acked v.sent v.next v.up q c lo hi in
    data-as x x.station q k m (tells v q) _ (omega (arith, told, new, lo)) early
    (sees_tells x.station x.limits.window x.given v.acked v.sent v.next v.up c x.taken q lo hi)
    refl (t_runs e)
    (counts-after-ack x.station x.limits.window x.given v.acked v.sent v.next v.up q c lo hi)
    (omega (arith, near.1, far)) (omega (arith, near.0, c'.small))
hears-data AStart x y fl gl q k m b b' c c' e early =
    let v = sight x in
    let lo = low x y fl (data_flies q k m) gl b b' c c' in
    let hi = high x y fl (data_flies q k m) gl b b' c c' in
    let z = told-zero x y fl (data_flies q k m) gl b b' c c' (ap is_starting e) in
    let zero : (q % 256 == 0) ≡ true = ap (λ j. j % 256 == 0) z.0 in
    let none = number-none (takes_data x.limits x.station (k % 256)) in
    let near = (near-first y.limits.window (sight y).sent v.up (data_flies q k m) gl b'.near).0 in
    let far = peer-near x y fl (data_flies q k m) gl b b' c c' in
    let s = after_startup x.station in
    let low' = c.t_low in
    let same = tells-same (ran v) q (z.0 ∙ sym z.1) low' in
    subst (λ t. HeardAs x (data_flies q k m) (record x {
      station = cond t (on_data x.limits s (q % 256) (k % 256) m) x.station;
      acknowledged =
          x.acknowledged
          + acknowledged_by
          (cond t
          (Some
          (cond (takes_data x.limits x.station (k % 256)) notice.RunningAndHandedUp notice.Running))
          None);
    })) (sym zero)
    (data-as x s q k m (ran v)
    (x.acknowledged
    + acknowledged_by
    (Some
    (cond (takes_data x.limits x.station (k % 256)) notice.RunningAndHandedUp notice.Running)))
    (omega (arith, none, z.0, z.1)) early
    (sees_tells s x.limits.window x.given v.acked v.sent v.next v.up c x.taken q lo hi ∙ same) refl
    (t_starts e (z.0 ∙ sym z.1))
    (subst
    (λ (u : View). Counts (after_ack s (q % 256)) x.limits.window x.given q u.sent u.next u.up)
    same (counts-after-ack s x.limits.window x.given v.acked v.sent v.next v.up q c lo hi))
    (omega (arith, near.1, far)) (omega (arith, near.0, c'.small)))

-- ---- any frame

hears-by : (p : State) (x y : Face) (fl : List Flight) (f : Flight) (gl : List Flight)
    → Base x.limits.window (sight x) (sight y) fl (f ∷ gl)
    → Base y.limits.window (sight y) (sight x) (f ∷ gl) fl → Counted x → Counted y
    → x.station.state ≡ p → x.station.by_user ≡ false
    → HeardAs x f (hearing_by p x (Good (frame f)))
hears-by p x y fl (data_flies q k m) gl b b' c c' e early =
    hears-data p x y fl gl q k m b b' c c' e early
hears-by p x y fl (ack_flies q) gl b b' c c' e early = hears-ack p x y fl gl q b b' c c' e
hears-by p x y fl (nak_flies why q) gl b b' c c' e early =
    hears-nak p x y fl gl why q b b' c c' e
hears-by p x y fl (rep_flies n) gl b b' c c' e early = hears-rep p x y fl gl n b b' c c' e
hears-by p x y fl strt_flies gl b b' c c' e early = hears-strt p x y fl gl b b' c e
hears-by p x y fl stack_flies gl b b' c c' e early = hears-stack p x y fl gl b c e

pub hears-as : (x y : Face) (fl : List Flight) (f : Flight) (gl : List Flight)
    → Base x.limits.window (sight x) (sight y) fl (f ∷ gl)
    → Base y.limits.window (sight y) (sight x) (f ∷ gl) fl → Counted x → Counted y
    → x.station.by_user ≡ false → HeardAs x f (hearing x (Good (frame f)))
unfolding on notice_of
hears-as x y fl f gl b b' c c' early =
    hears-by x.station.state x y fl f gl b b' c c' refl early
