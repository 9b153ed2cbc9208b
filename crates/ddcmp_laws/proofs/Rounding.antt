-- Two rounds in any order, and after them all is delivered.
use Rattle.std.proofs.Common.{◌≡◌, ◌≢◌, ◌⊎◌, inl, inr, ℕ, ◌+◌, ◌<◌, ◌≤◌, Bool, true, false, List}
use Rattle.std.proofs.Common.{[], ◌∷◌, length, None, refl, sym, ap, ◌∙◌, subst, arith, append-nil}
use Rattle.std.proofs.Common.{length-append}
use Rattle.std.specs.Prelude.{◌||◌, nat_lt, option_map}
use Rattle.ddcmp_core.specs.declared.state.State.TheVariants.{Halted, Running}
use Rattle.ddcmp_core.specs.declared.state.Owed.TheVariants.{Quiet}
use Rattle.ddcmp_core.specs.Table.{Next, Idle, Sends, next, next_frame}
use Rattle.ddcmp_core.proofs.Sent.{sending}
use Rattle.ddcmp_proto.specs.Bytes.{items_added, frame_on_line}
use Rattle.ddcmp_proto.proofs.FeedLaws.{items_added-none}
use Rattle.ddcmp_io.specs.declared.carrier.End.TheVariants.{A, B}
use Rattle.ddcmp_pair.specs.declared.event.Event.{Event}
use Rattle.ddcmp_pair.specs.declared.event.Event.TheVariants as event
use Rattle.ddcmp_pair.specs.Pairs.{IsRun}
use Rattle.ddcmp_pair.specs.Prefix.{IsPrefixOf}
use Rattle.ddcmp_pair.specs.Recovery.{larger_window, IsDelivered, IsDone}
use Rattle.ddcmp_pair.specs.Run.{EndState, PairState, handed_up, line_bytes, after_event, new_pair}
use Rattle.ddcmp_pair.proofs.Alone.{BothAlone, alone-run, alone-begun}
use Rattle.ddcmp_pair.proofs.Numbering.{sent_is, next_is}
use Rattle.ddcmp_pair.proofs.Ordered.{run-event}
use Rattle.ddcmp_pair.proofs.Ready.{kept}
use Rattle.ddcmp_pair.proofs.Relation.{face, Counts}
use Rattle.ddcmp_pair.proofs.Steady.{Shows}
use Rattle.ddcmp_pair.proofs.Views.{View}
use Rattle.ddcmp_laws.specs.LossFree.{Line, after_on_line, LosesNothing, IsLossFree}
use Rattle.ddcmp_laws.specs.LossFree.{run_on_line, IsWhole}
use Rattle.ddcmp_laws.specs.Rests.{GoesOn, IsUnderWay}
use Rattle.ddcmp_laws.specs.Delivers.{IsAtRest, is_expiry, runs_out, IsRoundInAnyOrder, AreTold}
use Rattle.ddcmp_laws.proofs.Settling.{Settles, steps, pair_is, begins, whole_again}
use Rattle.ddcmp_laws.proofs.Resting.{goes_on, all_under}
use Rattle.ddcmp_laws.proofs.Flights.{Flight, Rises, Near, Each, StrtsFirst, Uncounted}
use Rattle.ddcmp_laws.proofs.Flights.{rises-ends, near-ends}
use Rattle.ddcmp_laws.proofs.Traffic.{Base, not-starting}
use Rattle.ddcmp_laws.proofs.Learning.{Learns, l_sleeps, learnt}
use Rattle.ddcmp_laws.proofs.Starting.{Idles, i_starts, i_runs, woken}
use Rattle.ddcmp_laws.proofs.Repeating.{repeated, begins as repeats-begins}
use Rattle.ddcmp_laws.proofs.Hearing.{sight, Counted, bounds-of}
use Rattle.ddcmp_laws.proofs.Acting.{idles-as}
use Rattle.ddcmp_laws.proofs.Staying.{Stays, First, first-stays, Second, second-stays}
use Rattle.ddcmp_laws.proofs.Delivering.{Carried, Both, Flies, flies-turned, flies-polls}
use Rattle.ddcmp_laws.proofs.Delivering.{flies-arrives, flies-expires, flies-takes, flies-sends}

-- ---- an event, and a list of events

pub run-alone : (p : PairState) → IsRun p → BothAlone p
run-alone p r =
    subst (λ (q : PairState). BothAlone q) r.leads
    (alone-run r.events (new_pair r.first r.second) (alone-begun r.first r.second))

module _ (Knows : Bool → Bool → View → View → List Flight → List Flight → Type 0)
    (stays : Stays Knows) where
  abbrev LineFlies : Bool → Bool → Line → Type 0
  LineFlies p q l = Flies Knows stays p q l.pair.a l.pair.b l.to_a l.to_b

  from-b : (p q : Bool) (x y : EndState) (here there : List ℕ)
      → Flies Knows stays q p y x there here → Flies Knows stays p q x y here there
  from-b p q x y here there h = flies-turned Knows stays q p y x there here h

  flies-event : (n : ℕ) (p q : Bool) (e : Event) (rest : List Event) (l : Line) → GoesOn (e ∷ rest)
      → LosesNothing e l → IsRun l.pair → Settles n l → LineFlies p q l
      → LineFlies (is_expiry A e || p) (is_expiry B e || q) (after_on_line e l)
  unfolding after_event
  flies-event n p q (event.Poll A) rest l g f r s h =
      flies-polls Knows stays n p q l.pair.a l.pair.b l.to_a l.to_b s.same s.a s.b h
  flies-event n p q (event.Poll B) rest l g f r s h =
      from-b p q _ _ _ _
      (flies-polls Knows stays n q p l.pair.b l.pair.a l.to_b l.to_a (sym s.same) s.b s.a
      (flies-turned Knows stays p q _ _ _ _ h))
  flies-event n p q (event.Arrive A bytes) rest l g f r s h =
      flies-arrives Knows stays p q l.pair.a l.pair.b bytes f.0 l.to_a l.to_b f.1 s.a.early h
  flies-event n p q (event.Arrive B bytes) rest l g f r s h =
      from-b p q _ _ _ _
      (flies-arrives Knows stays q p l.pair.b l.pair.a bytes f.0 l.to_b l.to_a f.1 s.b.early
      (flies-turned Knows stays p q _ _ _ _ h))
  flies-event n p q (event.Expire A) rest l g f r s h =
      flies-expires Knows stays p q l.pair.a l.pair.b l.to_a l.to_b (run-alone l.pair r).a.timed h
  flies-event n p q (event.Expire B) rest l g f r s h =
      from-b p true _ _ _ _
      (flies-expires Knows stays q p l.pair.b l.pair.a l.to_b l.to_a (run-alone l.pair r).b.timed
      (flies-turned Knows stays p q _ _ _ _ h))
  flies-event n p q (event.Take A) rest l g f r s h =
      flies-takes Knows stays p q l.pair.a l.pair.b l.to_a l.to_b s.a.early h
  flies-event n p q (event.Take B) rest l g f r s h =
      from-b p q _ _ _ _
      (flies-takes Knows stays q p l.pair.b l.pair.a l.to_b l.to_a s.b.early
      (flies-turned Knows stays p q _ _ _ _ h))
  flies-event n p q (event.Send A m) rest l g f r s h =
      flies-sends Knows stays p q l.pair.a l.pair.b m l.to_a l.to_b h
  flies-event n p q (event.Send B m) rest l g f r s h =
      from-b p q _ _ _ _
      (flies-sends Knows stays q p l.pair.b l.pair.a m l.to_b l.to_a
      (flies-turned Knows stays p q _ _ _ _ h))
  flies-event n p q (event.Start e) rest l g f r s h = absurd g
  flies-event n p q (event.Halt e) rest l g f r s h = absurd g
  flies-event n p q event.Clear rest l g f r s h = absurd f

  later : (a b c : Bool) → (a || (b || c)) ≡ ((b || a) || c)
  later true true c = refl
  later true false c = refl
  later false true c = refl
  later false false c = refl

  all-fly : (n : ℕ) (p q : Bool) (events : List Event) (l : Line) → GoesOn events
      → IsLossFree events l → IsRun l.pair → Settles n l → LineFlies p q l
      → LineFlies (runs_out A events || p) (runs_out B events || q) (run_on_line events l)
  unfolding run_on_line runs_out
  all-fly n p q [] l g f r s h = h
  all-fly n p q (e ∷ rest) l g f r s h =
      let m = flies-event n p q e rest l g f.0 r s h in
      let z =
      all-fly n (is_expiry A e || p) (is_expiry B e || q) rest (after_on_line e l)
      (goes_on e rest g) f.1 (run-event e l.pair (after_on_line e l).pair (pair_is e l) r)
      (steps n e l f.0 s).kept m in
      subst (λ (b : Bool × Bool). LineFlies b.0 b.1 (run_on_line rest (after_on_line e l)))
      (λ
      i. (
        later (runs_out A rest) (is_expiry A e) p i,
        later (runs_out B rest) (is_expiry B e) q i,
      )) z

  -- ---- a round ends

  pub record Ends (l : Line) : Type 0 where
    pub both : Both (face l.pair.a) (face l.pair.b) [] []
    pub knows : Knows true true (sight (face l.pair.a)) (sight (face l.pair.b)) [] []

  carried-none : (max : ℕ) (text way : List ℕ) (fs : List Flight) → way ≡ []
      → Carried (items_added max text way) fs → fs ≡ []
  unfolding Carried
  carried-none max text way fs e c =
      by fs (subst (λ g. Carried g fs) (ap (items_added max text) e ∙ items_added-none max text) c)
    where
      by : (fs : List Flight) → Carried [] fs → fs ≡ []
      by [] c = refl
      by (f ∷ fs) c = absurd c

  one-true : (b c : Bool) → b ≡ true → (b || c) ≡ true
  one-true b c e = ap (λ d. d || c) e

  pub round-ends : (events : List Event) (l : Line) → IsRun l.pair → IsWhole l
      → LineFlies false false l → IsRoundInAnyOrder events l → Ends (run_on_line events l)
  round-ends events l r w h o =
      let z =
      all-fly (larger_window l.pair) false false events l o.goes_on o.loss_free r (begins l w)
      h in
      let m = run_on_line events l in
      let y : LineFlies true true m =
      subst (λ (b : Bool × Bool). LineFlies b.0 b.1 m)
      (λ
      i. (
        one-true (runs_out A events) false o.expires_a i,
        one-true (runs_out B events) false o.expires_b i,
      )) z in
      let e =
      carried-none m.pair.b.core.limits.longest m.pair.b.arrived m.to_b y.fl o.rests.none_to_b
      y.to_there in
      let e' =
      carried-none m.pair.a.core.limits.longest m.pair.a.arrived m.to_a y.gl o.rests.none_to_a
      y.to_here in
      let both =
      subst (λ (s : List Flight × List Flight). Both (face m.pair.a) (face m.pair.b) s.0 s.1)
      (λ i. (e i, e' i)) y.both in
      let knows =
      subst
      (λ (s : List Flight × List Flight). Knows true true (sight (face m.pair.a))
      (sight (face m.pair.b)) s.0 s.1) (λ i. (e i, e' i)) y.knows in
      record { both = both; knows = knows }

  -- ---- a round begins

  nothing-carried : (max : ℕ) (text way : List ℕ) → way ≡ [] → Carried (items_added max text way) []
  unfolding Carried
  nothing-carried max text way e =
      subst (λ g. Carried g []) (sym (ap (items_added max text) e ∙ items_added-none max text)) tt

  pub at-rest : (l : Line) → IsAtRest l → Both (face l.pair.a) (face l.pair.b) [] []
      → Knows false false (sight (face l.pair.a)) (sight (face l.pair.b)) [] []
      → LineFlies false false l
  at-rest l o b i = record {
    fl = [];
    gl = [];
    both = b;
    knows = i;
    to_there = nothing-carried l.pair.b.core.limits.longest l.pair.b.arrived l.to_b o.none_to_b;
    to_here = nothing-carried l.pair.a.core.limits.longest l.pair.a.arrived l.to_a o.none_to_a;
  }

-- ---- what is known at rest

idle-is : (x : EndState) → line_bytes x ≡ None → next x.core.station ≡ Idle
idle-is x e = by (next x.core.station) refl
  where
    by : (z : Next) → next x.core.station ≡ z → z ≡ Idle
    by Idle q = refl
    by (Sends f u) q =
        absurd
        (let y = sym (ap (λ n. option_map (frame_on_line x.syn) (next_frame n)) q) ∙ e in cc y)

pub idles : (x y : EndState) (fl gl : List Flight) → Both (face x) (face y) fl gl
    → line_bytes x ≡ None
    → Idles (sight (face x))
idles x y fl gl b e =
    idles-as (face x) b.base.awake b.base.no_maintenance b.counted (next x.core.station)
    (sending x.core.station) (idle-is x e)

pub counted-of : (x y : EndState) → Shows x y → Counted (face x)
counted-of x y h =
    let n =
    sent_is x.core.station x.core.limits.window x.given x.acknowledged h.sent h.next
    (length (handed_up x)) h.numbers in
    let t =
    next_is x.core.station x.core.limits.window x.given x.acknowledged h.sent h.next
    (length (handed_up x)) h.numbers in
    subst
    (λ (k : ℕ × ℕ). Counts x.core.station x.core.limits.window x.given x.acknowledged k.0 k.1
    (length (handed_up x))) (λ i. (sym n i, sym t i)) h.numbers

pub base-of : (x y : EndState) → Shows x y → x.core.station.state ≢ Halted
    → Base x.core.limits.window (sight (face x)) (sight (face y)) [] []
unfolding Rises Near Each StrtsFirst
base-of x y h w =
    let c = counted-of x y h in
    let n =
    sent_is x.core.station x.core.limits.window x.given x.acknowledged h.sent h.next
    (length (handed_up x)) h.numbers in
    record {
      bounds = bounds-of (face x) c;
      rising = h.low;
      near = (let u = h.high in omega (arith, u, n));
      fresh = λ e. ap length (h.fresh e);
      young = λ e. ap length (h.young e);
      awake = w;
      no_maintenance = h.no_maintenance;
      apart = h.apart;
      grown = inr tt;
      first = λ e. tt;
      ordered = tt;
      hush = λ e. tt;
    }

both-of : (l : Line) → IsRun l.pair → IsUnderWay l → Both (face l.pair.a) (face l.pair.b) [] []
both-of l r u =
    let a = kept.from_a l.pair r u.honest u.clean (record { a = u.awake_a; b = u.awake_b }) in
    let b = kept.from_b l.pair r u.honest u.clean (record { a = u.awake_a; b = u.awake_b }) in
    record {
      base = base-of l.pair.a l.pair.b a u.awake_a;
      base_there = base-of l.pair.b l.pair.a b u.awake_b;
      counted = counted-of l.pair.a l.pair.b a;
      counted_there = counted-of l.pair.b l.pair.a b;
    }

pub back-to : (x y : EndState) → Both (face x) (face y) [] [] → Both (face y) (face x) [] []
back-to x y h =
    record {
      base = h.base_there;
      base_there = h.base;
      counted = h.counted_there;
      counted_there = h.counted;
    }

-- an end at rest may sleep
far-or-told : (acked sent next given : ℕ) → sent ≤ given → given < next → acked ≤ sent
    → (acked + 1 < next) ⊎ (acked ≡ sent)
far-or-told acked sent next given g h l = by (nat_lt (acked + 1) next) refl
  where
    by : (c : Bool) → nat_lt (acked + 1) next ≡ c → (acked + 1 < next) ⊎ (acked ≡ sent)
    by true e = inl (grind (arith, e))
    by false e = let z : next ≤ acked + 1 = grind (arith, e) in inr (omega (arith, z, g, h, l))

acked-sent : (W : ℕ) (v w : View) → Base W v w [] [] → v.acked ≤ v.sent
acked-sent W v w b =
    let r = rises-ends v.acked w.up [] b.rising in let n = near-ends W v.sent w.up [] b.near in
    omega (arith, r, n)

sleeps : (W : ℕ) (v w : View) → Base W v w [] [] → Idles v → Learns false v w [] []
unfolding Uncounted
sleeps W v w b (i_starts s d) =
    let g = b.fresh s in
    let c = b.bounds in
    let a = acked-sent W v w b in
    l_sleeps refl tt (inr (omega (arith, g, c.sent_given, a)))
sleeps W v w b (i_runs p r f room) =
    l_sleeps refl tt
    (far-or-told v.acked v.sent v.next v.given b.bounds.sent_given room (acked-sent W v w b))

first-at-rest : (x y : EndState) → Both (face x) (face y) [] [] → line_bytes x ≡ None
    → line_bytes y ≡ None → First false false (sight (face x)) (sight (face y)) [] []
first-at-rest x y b e e' = record {
  learns =
      sleeps x.core.limits.window (sight (face x)) (sight (face y)) b.base (idles x y [] [] b e);
  learns_there =
      sleeps y.core.limits.window (sight (face y)) (sight (face x)) b.base_there
      (idles y x [] [] (back-to x y b) e');
  wakes = λ z. absurd (cc z);
  wakes_there = λ z. absurd (cc z);
}

-- ---- after the first round

-- both run, each knows what is up at the other, and none owes an answer
record Known (v w : View) : Type 0 where
  runs : v.state ≡ Running
  runs_there : w.state ≡ Running
  told : v.acked ≡ w.up
  told_there : w.acked ≡ v.up
  quiet : v.reply ≡ Quiet
  quiet_there : w.reply ≡ Quiet

rests-so : (v : View) → Idles v → v.state ≡ Running → (v.reply ≡ Quiet) × (v.rep ≡ false)
rests-so v (i_starts s d) p = not-starting v.state p s
rests-so v (i_runs p' r f room) p = (r, f)

known : (v w : View) → First true true v w [] [] → Idles v → Idles w → Known v w
known v w h i j =
    let p = woken v w (h.wakes refl) i j in
    let q = woken w v (h.wakes_there refl) j i in
    let r = rests-so v i p in
    let s = rests-so w j q in
    record {
      runs = p;
      runs_there = q;
      told = learnt v w h.learns r.1 s.0;
      told_there = learnt w v h.learns_there s.1 r.0;
      quiet = r.0;
      quiet_there = s.0;
    }

known-at : (x y : EndState) → Both (face x) (face y) [] []
    → First true true (sight (face x)) (sight (face y)) [] [] → line_bytes x ≡ None
    → line_bytes y ≡ None → Known (sight (face x)) (sight (face y))
known-at x y b h e e' =
    known (sight (face x)) (sight (face y)) h (idles x y [] [] b e)
    (idles y x [] [] (back-to x y b) e')

first-ends : (once : List Event) (l : Line) → IsRun l.pair → IsWhole l → IsUnderWay l → IsAtRest l
    → IsRoundInAnyOrder once l → Ends First first-stays (run_on_line once l)
first-ends once l r w u o h =
    let b = both-of l r u in
    round-ends First first-stays once l r w
    (at-rest First first-stays l o b (first-at-rest l.pair.a l.pair.b b o.idle_a o.idle_b)) h

pub told : (once : List Event) (l : Line) → IsRun l.pair → IsWhole l → IsUnderWay l → IsAtRest l
    → IsRoundInAnyOrder once l → AreTold (run_on_line once l).pair
told once l r w u o h =
    let m = run_on_line once l in
    let z = first-ends once l r w u o h in
    let k = known-at m.pair.a m.pair.b z.both z.knows h.rests.idle_a h.rests.idle_b in
    record {
      from_a = record { runs = k.runs; acknowledged = k.told };
      from_b = record { runs = k.runs_there; acknowledged = k.told_there };
    }

-- ---- after the second round

second-at-rest : (m : Line) → Both (face m.pair.a) (face m.pair.b) [] [] → IsAtRest m
    → Known (sight (face m.pair.a)) (sight (face m.pair.b))
    → Second false false (sight (face m.pair.a)) (sight (face m.pair.b)) [] []
second-at-rest m b o k =
    let v = sight (face m.pair.a) in
    let w = sight (face m.pair.b) in
    record {
      first = first-at-rest m.pair.a m.pair.b b o.idle_a o.idle_b;
      repeats = repeats-begins m.pair.a.core.limits.window v w b.base k.runs k.runs_there k.told;
      repeats_there =
          repeats-begins m.pair.b.core.limits.window w v b.base_there k.runs_there k.runs
          k.told_there;
    }

prefix-whole : (xs ys : List (List ℕ)) → IsPrefixOf xs ys → length xs ≡ length ys → ys ≡ xs
prefix-whole xs ys (([]), e) n = sym e ∙ append-nil xs
prefix-whole xs ys ((z ∷ zs), e) n =
    absurd (omega (arith, n, ap length e, length-append xs (z ∷ zs)))

pub delivered-to : (x y : EndState) → Shows x y → x.core.station.state ≡ Running
    → x.acknowledged ≡ length (handed_up y) → length (handed_up y) ≡ length x.given
    → IsDelivered x y
delivered-to x y s p a u =
    record {
      runs = p;
      handed_up = prefix-whole (handed_up y) x.given s.prefix u;
      acknowledged = a ∙ u;
    }

pub delivered : (once twice : List Event) (l : Line) → IsRun l.pair → IsWhole l → IsUnderWay l
    → IsAtRest l → IsRoundInAnyOrder once l → IsRoundInAnyOrder twice (run_on_line once l)
    → IsDone (run_on_line twice (run_on_line once l)).pair
delivered once twice l r w u o h g =
    let m = run_on_line once l in
    let n = run_on_line twice m in
    let gone = all_under (larger_window l.pair) once l h.goes_on h.loss_free r (begins l w) u in
    let whole = whole_again once l w h.loss_free in
    let gone' =
    all_under (larger_window m.pair) twice m g.goes_on g.loss_free gone.is_run (begins m whole)
    gone.under_way in
    let z = first-ends once l r w u o h in
    let k = known-at m.pair.a m.pair.b z.both z.knows h.rests.idle_a h.rests.idle_b in
    let y =
    round-ends Second second-stays twice m gone.is_run whole
    (at-rest Second second-stays m h.rests z.both (second-at-rest m z.both h.rests k)) g in
    let j = known-at n.pair.a n.pair.b y.both y.knows.first g.rests.idle_a g.rests.idle_b in
    let v = sight (face n.pair.a) in
    let x = sight (face n.pair.b) in
    let i = idles n.pair.a n.pair.b [] [] y.both g.rests.idle_a in
    let i' = idles n.pair.b n.pair.a [] [] (back-to n.pair.a n.pair.b y.both) g.rests.idle_b in
    let c = gone'.under_way in
    let s =
    kept.from_a n.pair gone'.is_run c.honest c.clean (record { a = c.awake_a; b = c.awake_b })
    in
    let s' =
    kept.from_b n.pair gone'.is_run c.honest c.clean (record { a = c.awake_a; b = c.awake_b })
    in
    record {
      from_a =
          delivered-to n.pair.a n.pair.b s j.runs j.told
          (repeated n.pair.a.core.limits.window v x y.both.base y.knows.repeats i j.quiet_there);
      from_b =
          delivered-to n.pair.b n.pair.a s' j.runs_there j.told_there
          (repeated n.pair.b.core.limits.window x v y.both.base_there y.knows.repeats_there i'
          j.quiet);
    }
