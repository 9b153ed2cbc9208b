-- Two sessions that are connected again, in a clean run over an honest line.
use Rattle.std.proofs.Common.{◌≡◌, ◌∙◌, ◌⊎◌, inl, inr, ℕ, ◌≤◌, Bool, true, false, cond}
use Rattle.std.proofs.Common.{List, [], ◌∷◌, ◌++◌, length, take, drop, map, refl, sym, ap, subst}
use Rattle.std.proofs.Common.{append_assoc, append-nil, None, arith}
use Rattle.std.specs.Prelude.{◌==◌}
use Rattle.ddcmp_core.specs.Counting.{count_plus}
use Rattle.ddcmp_core.specs.Core.{CoreView}
use Rattle.ddcmp_core.specs.Table.{after_halt, may_start}
use Rattle.ddcmp_proto.specs.Config.{first_refusal}
use Rattle.ddcmp_proto.specs.StationCalls.{StationCall}
use Rattle.ddcmp_station.specs.Linking.{LinkView, anew, delivered}
use Rattle.ddcmp_io.specs.declared.carrier.End.{End}
use Rattle.ddcmp_io.specs.declared.carrier.End.TheVariants.{A, B}
use Rattle.ddcmp_pair.specs.Run.{EndState, PairState, at as end_at, is_clean, notices_at}
use Rattle.ddcmp_pair.specs.Run.{restarts_in}
use Rattle.ddcmp_session.specs.Calls.{SessionCall, InputRead, InputEnded, Connected, LineEnded}
use Rattle.ddcmp_session.specs.Calls.{Received, Filled, LineTook, TimedOut, TimePassed, Delivered}
use Rattle.ddcmp_session.specs.Calls.{OutputTook, Closed, SessionStep}
use Rattle.ddcmp_session.specs.Connections.{Connection, Does, after_step}
use Rattle.ddcmp_session.specs.Session.{SessionView, after_connected}
use Rattle.ddcmp_laws.specs.PairCalls.{Call, Start, Halt, Send, Poll, Arrive, Expire, Take, Arm, Ask}
use Rattle.ddcmp_laws.specs.PairCalls.{after_call_here, after_calls_here}
use Rattle.ddcmp_laws.specs.Links.{LinkCall, Starts, BeginsAnew, Halts, Wakes, Offers, FillsOne}
use Rattle.ddcmp_laws.specs.Links.{IsSent, Feeds, Takes, IsSameEnd, LinkHistory, LinkReaches}
use Rattle.ddcmp_laws.specs.Links.{LinkStep, Links, received, station_calls}
use Rattle.ddcmp_laws.specs.LinkRestarts.{AreCallsOfLinks, after_links, all_calls, at_end}
use Rattle.ddcmp_laws.specs.LinkRestarts.{calls_of_links, history_by}
use Rattle.ddcmp_laws.specs.StationRuns.{after_station_call, run_station_calls}
use Rattle.ddcmp_laws.specs.StationRuns.{station_call}
use Rattle.ddcmp_laws.specs.Sessions.{link_steps_of, mail_in}
use Rattle.ddcmp_laws.specs.Pipe.{Made, links_made, pair_made, steps_at_end, undelivered}
use Rattle.ddcmp_laws.specs.Connections.{AreCalls, Connections, after_step_at, after_steps}
use Rattle.ddcmp_laws.specs.Connections.{delivered_since, first_connection, first_connections, link_steps}
use Rattle.ddcmp_laws.specs.Connections.{PipesAllAnew, PipesAnew, PipesClosedAnew, WritesAnew}
use Rattle.ddcmp_laws.specs.Written.{PipesWrittenAnew, unacknowledged}
use Rattle.ddcmp_laws.specs.Connections.{read_since}
use Rattle.ddcmp_laws.proofs.Anew.{AreCalm, AreDone, FollowsOn, IsCalm, IsSince}
use Rattle.ddcmp_laws.proofs.Anew.{Keeps, Rest, Stays, after_done, begins_anew, both}
use Rattle.ddcmp_laws.proofs.Anew.{calm_of, goes_on, keeps_steps, none_yet, since}
use Rattle.ddcmp_laws.proofs.Anew.{since_first, stays_first, writes_anew}
use Rattle.ddcmp_laws.proofs.LastCalls.{leads-a, leads-b, pair-after}
use Rattle.ddcmp_laws.proofs.LinkRestarts.{after_all_here, all-here, anew-acknowledged-to-a}
use Rattle.ddcmp_laws.proofs.LinkRestarts.{anew-acknowledged-to-b, anew-all-to-a, anew-all-to-b}
use Rattle.ddcmp_laws.proofs.LinkRestarts.{anew-taken-from-a, anew-taken-from-b, anew-to-a}
use Rattle.ddcmp_laws.proofs.LinkRestarts.{anew-to-b, starts_anew, step-same}
use Rattle.ddcmp_laws.proofs.StationRuns.{Kept}
use Rattle.ddcmp_laws.proofs.Inboxes.{anew-inbox}
use Rattle.ddcmp_pair.proofs.Ordered.{clean-means}
use Rattle.std.proofs.Math.Seq.{drop-append_seam}
use Rattle.ddcmp_laws.proofs.Losing.{closed-none, new-counts}
use Rattle.ddcmp_laws.proofs.LosingAnew.{counts-anew-a, counts-anew-b}
use Rattle.ddcmp_laws.proofs.Late.{are_written, late_anew_a, late_anew_b}
use Rattle.ddcmp_laws.proofs.Outcomes.{chosen_late, last_true, made_kept, made_start}
use Rattle.ddcmp_laws.proofs.Queues.{all_of, inbox_of, take-none, taken_of}
use Rattle.ddcmp_laws.proofs.TakenWritten.{late_first}
use Rattle.ddcmp_laws.proofs.TwoLinks.{AreSame, AreTaken, NoneOut}

-- ---- an end whose line was cleared while it had a message counts as started twice

abbrev Twice : EndState → Type 0
Twice x = 2 ≤ x.starts

twice-more : (n k : ℕ) → 2 ≤ n → 2 ≤ count_plus n k
twice-more n k t = grind (arith, t)

twice-call : (c : Call) (x : EndState) → Twice x → Twice (after_call_here c x)
twice-call Start x t = by (may_start x.core.station)
  where
    by : (b : Bool) → 2 ≤ cond b (count_plus x.starts 1) x.starts
    by true = twice-more x.starts 1 t
    by false = t
twice-call Halt x t = t
twice-call (Send message) x t = t
twice-call Poll x t = t
twice-call (Arrive bytes) x t = twice-more x.starts (restarts_in (notices_at bytes x)) t
twice-call Expire x t = t
twice-call Take x t = t
twice-call Arm x t = t
twice-call Ask x t = t

twice-calls : (cs : List Call) (x : EndState) → Twice x → Twice (after_calls_here cs x)
unfolding after_calls_here
twice-calls [] x t = t
twice-calls (c ∷ rest) x t = twice-calls rest (after_call_here c x) (twice-call c x t)

twice-all : (cs : List Call) (x : EndState) → Twice x
    → Twice (after_all_here (map station_call cs) x)
twice-all cs x t = subst (λ y. Twice y) (sym (all-here cs x)) (twice-calls cs x t)

twice-link : (call : LinkCall) → IsCalm call → (d : LinkView) (x : EndState) → Twice x
    → Twice (after_all_here (all_calls call d) x)
twice-link BeginsAnew i d x t = absurd i
twice-link Starts i d x t = twice-all (station_calls Starts d) x t
twice-link Halts i d x t = twice-all (station_calls Halts d) x t
twice-link (Wakes now) i d x t = twice-all (station_calls (Wakes now) d) x t
twice-link (Offers message) i d x t = twice-all (station_calls (Offers message) d) x t
twice-link FillsOne i d x t = twice-all (station_calls FillsOne d) x t
twice-link (IsSent n) i d x t = twice-all (station_calls (IsSent n) d) x t
twice-link (Feeds used) i d x t = twice-all (station_calls (Feeds used) d) x t
twice-link Takes i d x t = twice-all (station_calls Takes d) x t

-- ---- calls at one end

abbrev other : End → End
other A = B
other B = A

record Here (e : End) (calls : List StationCall) (p q : PairState) : Type 0 where
  own : end_at e q ≡ after_all_here calls (end_at e p)
  rest : end_at (other e) q ≡ end_at (other e) p

runs-here : (e : End) (calls : List StationCall) (p : PairState)
    → Here e calls p (run_station_calls (at_end e calls) p)
unfolding run_station_calls after_all_here
runs-here e [] p = record { own = refl; rest = refl }
runs-here A (c ∷ rest) p =
    let r = runs-here A rest (after_station_call A c p) in record { own = r.own; rest = r.rest }
runs-here B (c ∷ rest) p =
    let r = runs-here B rest (after_station_call B c p) in record { own = r.own; rest = r.rest }

-- what calls of a link do to a pair
record Goes (e : End) (xs : List LinkStep) (l : LinkHistory) (p q : PairState) : Type 0 where
  same : IsSameEnd (end_at e q) (after_done xs l)
  rest : end_at (other e) q ≡ end_at (other e) p

goes : (e : End) (xs : List LinkStep) (l : LinkHistory) (p : PairState) → AreDone xs l
    → IsSameEnd (end_at e p) l → Goes e xs l p (pair-after e xs l p)
unfolding pair-after after_done
goes e [] l p done s = record { same = s; rest = refl }
goes e (x ∷ xs) l p done s =
    let q = run_station_calls (at_end e (all_calls x.call l.link)) p in
    let here = runs-here e (all_calls x.call l.link) p in
    let r =
    goes e xs (history_by x.call x l) q done.1
    (subst (λ y. IsSameEnd y (history_by x.call x l)) (sym here.own)
    (step-same x.call x.link l (end_at e p) done.0 s)) in
    record { same = r.same; rest = r.rest ∙ here.rest }

twice-after : (e : End) (xs : List LinkStep) (l : LinkHistory) (p : PairState) → AreCalm xs
    → Twice (end_at e p) → Twice (end_at e (pair-after e xs l p))
unfolding pair-after
twice-after e [] l p i t = t
twice-after e (x ∷ xs) l p i t =
    let q = run_station_calls (at_end e (all_calls x.call l.link)) p in
    let here = runs-here e (all_calls x.call l.link) p in
    twice-after e xs (history_by x.call x l) q i.1
    (subst (λ y. Twice y) (sym here.own)
    (twice-link x.call i.0 l.link (end_at e p) t))

-- ---- what wasn't taken before a session was connected

record Tidy (c : Connection) (k : Rest) (x : EndState) : Type 0 where
  waited : List (List ℕ)
  is : IsSince c k waited
  clean : (waited ≡ []) ⊎ Twice x

-- one of two sessions makes a call
record Tidied (e : End) (made : Made) (one : SessionStep) (c : Connection) (k : Rest)
    (p : PairState) : Type 0 where
  done : AreDone (link_steps_of one.call c.history.session one.session.link) (since made c k)
  rest : Rest
  after : after_done (link_steps_of one.call c.history.session one.session.link) (since made c k)
      ≡ since made (after_step one c) rest
  stays : Stays made (after_step one c)
  tidy : Tidy (after_step one c) rest
      (end_at e (pair-after e (link_steps_of one.call c.history.session one.session.link)
      (since made c k) p))

-- one that doesn't connect it
calmly : (e : End) (made : Made) (one : SessionStep) (c : Connection) (k : Rest) (p : PairState)
    → FollowsOn made (link_steps_of one.call c.history.session one.session.link) c k
    (after_step one c)
    → AreCalm (link_steps_of one.call c.history.session one.session.link)
    → Tidy c k (end_at e p) → Tidied e made one c k p
calmly e made one c k p f calm t = record {
  done = f.done;
  rest = f.rest;
  after = f.after;
  stays = f.stays;
  tidy = record {
    waited = t.waited;
    is = f.since_then t.waited t.is;
    clean = by t.clean;
  };
}
  where
    by : (t.waited ≡ []) ⊎ Twice (end_at e p)
        → (t.waited ≡ [])
        ⊎ Twice
        (end_at e
        (pair-after e (link_steps_of one.call c.history.session one.session.link) (since made c k)
        p))
    by (inl none) = inl none
    by (inr twice) =
        inr
        (twice-after e (link_steps_of one.call c.history.session one.session.link)
        (since made c k) p calm twice)

-- one that does
anew-twice : (b c : Bool) → b ≡ false → 2 ≤ cond c (count_plus (cond b 0 2) 1) (cond b 0 2)
anew-twice true c e = absurd (cc e)
anew-twice false true e = omega arith
anew-twice false false e = omega arith

waits-or-twice : (u : ℕ) (inbox : List (List ℕ)) (x : EndState) → x.core.station.inbox ≡ inbox
    → (take u inbox ≡ []) ⊎ (2 ≤ starts_anew x x.core.station.inbox)
waits-or-twice u [] x e = inl (take-none u)
waits-or-twice u (m ∷ rest) x e =
    inr
    (subst (λ ib. 2 ≤ starts_anew x ib) (sym e)
    (anew-twice (length (m ∷ rest) == 0)
    (may_start (record (after_halt x.core.station) { inbox = m ∷ rest })) some))
  where
    some : (length (m ∷ rest) == 0) ≡ false
    some = grind (arith)

connectedly : (e : End) (made : Made) (new : SessionView) (c : Connection) (k : Rest)
    (p : PairState) → new ≡ after_connected new.link.station.line c.history.session
    → Stays made c → IsSameEnd (end_at e p) (since made c k)
    → Tidied e made (record { call = Connected; session = new }) c k p
unfolding pair-after after_all_here
connectedly e made new c k p is stays same =
    let b = begins_anew made new c k is stays in
    let queued = b.stays.holds.queued in
    let link : new.link ≡ anew new.link.station.line c.history.session.link = b.done.0 in
    let inbox : (end_at e p).core.station.inbox ≡ inbox_of new =
    ap (λ (v : CoreView). v.station.inbox) same.core
    ∙ sym (ap (λ (d : LinkView). d.station.core.station.inbox) link
    ∙ anew-inbox new.link.station.line c.history.session.link) in
    let here = runs-here e (all_calls BeginsAnew c.history.session.link) p in
    record {
      done = b.done;
      rest = none_yet;
      after = b.after;
      stays = b.stays;
      tidy = record {
        waited = take new.unwritten (inbox_of new);
        is = record {
          before = taken_of new (c.history.shown ++ []);
          taken = sym (append-nil (taken_of new (c.history.shown ++ [])));
          begun = queued.is;
        };
        clean =
            subst (λ (y : EndState). (take new.unwritten (inbox_of new) ≡ []) ⊎ Twice y)
            (sym here.own)
            (waits-or-twice new.unwritten (inbox_of new) (end_at e p) inbox);
      };
    }

tidied : (e : End) (made : Made) (one : SessionStep) (c : Connection) (k : Rest) (p : PairState)
    → Does one.call c.history.used c.history.session one.session → Stays made c
    → IsSameEnd (end_at e p) (since made c k) → Tidy c k (end_at e p) → Tidied e made one c k p
tidied e made one c k p does stays same t = by one.call one.session does
  where
    by : (call : SessionCall) (new : SessionView)
        → Does call c.history.used c.history.session new
        → Tidied e made (record { call = call; session = new }) c k p
    by Connected new d = connectedly e made new c k p d stays same
    by (InputRead used) new d =
        calmly e made (record { call = InputRead used; session = new }) c k p
        (goes_on made (record { call = InputRead used; session = new }) c k d stays
        (calm_of (InputRead used) tt c.history.session new.link))
        (calm_of (InputRead used) tt c.history.session new.link) t
    by InputEnded new d =
        calmly e made (record { call = InputEnded; session = new }) c k p
        (goes_on made (record { call = InputEnded; session = new }) c k d stays
        (calm_of InputEnded tt c.history.session new.link))
        (calm_of InputEnded tt c.history.session new.link) t
    by (LineEnded how r) new d =
        calmly e made (record { call = LineEnded how r; session = new }) c k p
        (goes_on made (record { call = LineEnded how r; session = new }) c k d stays
        (calm_of (LineEnded how r) tt c.history.session new.link))
        (calm_of (LineEnded how r) tt c.history.session new.link) t
    by (Received used) new d =
        calmly e made (record { call = Received used; session = new }) c k p
        (goes_on made (record { call = Received used; session = new }) c k d stays
        (calm_of (Received used) tt c.history.session new.link))
        (calm_of (Received used) tt c.history.session new.link) t
    by (Filled n) new d =
        calmly e made (record { call = Filled n; session = new }) c k p
        (goes_on made (record { call = Filled n; session = new }) c k d stays
        (calm_of (Filled n) tt c.history.session new.link))
        (calm_of (Filled n) tt c.history.session new.link) t
    by (LineTook n) new d =
        calmly e made (record { call = LineTook n; session = new }) c k p
        (goes_on made (record { call = LineTook n; session = new }) c k d stays
        (calm_of (LineTook n) tt c.history.session new.link))
        (calm_of (LineTook n) tt c.history.session new.link) t
    by (TimedOut now) new d =
        calmly e made (record { call = TimedOut now; session = new }) c k p
        (goes_on made (record { call = TimedOut now; session = new }) c k d stays
        (calm_of (TimedOut now) tt c.history.session new.link))
        (calm_of (TimedOut now) tt c.history.session new.link) t
    by TimePassed new d =
        calmly e made (record { call = TimePassed; session = new }) c k p
        (goes_on made (record { call = TimePassed; session = new }) c k d stays
        (calm_of TimePassed tt c.history.session new.link))
        (calm_of TimePassed tt c.history.session new.link) t
    by (Delivered true) new d =
        calmly e made (record { call = Delivered true; session = new }) c k p
        (goes_on made (record { call = Delivered true; session = new }) c k d stays
        (calm_of (Delivered true) tt c.history.session new.link))
        (calm_of (Delivered true) tt c.history.session new.link) t
    by (Delivered false) new d =
        calmly e made (record { call = Delivered false; session = new }) c k p
        (goes_on made (record { call = Delivered false; session = new }) c k d stays
        (calm_of (Delivered false) tt c.history.session new.link))
        (calm_of (Delivered false) tt c.history.session new.link) t
    by (OutputTook n) new d =
        calmly e made (record { call = OutputTook n; session = new }) c k p
        (goes_on made (record { call = OutputTook n; session = new }) c k d stays
        (calm_of (OutputTook n) tt c.history.session new.link))
        (calm_of (OutputTook n) tt c.history.session new.link) t
    by (Closed left over r) new d =
        calmly e made (record { call = Closed left over r; session = new }) c k p
        (goes_on made (record { call = Closed left over r; session = new }) c k d stays
        (calm_of (Closed left over r) tt c.history.session new.link))
        (calm_of (Closed left over r) tt c.history.session new.link) t

-- ---- all calls

links-then-a : (xs : List LinkStep) (rest : List (End × LinkStep)) (q : Links)
    → after_links (steps_at_end A xs ++ rest) q
    ≡ after_links rest (record { a = after_done xs q.a; b = q.b })
unfolding after_done after_links
links-then-a [] rest q = refl
links-then-a (x ∷ xs) rest q =
    links-then-a xs rest (record { a = history_by x.call x q.a; b = q.b })

links-then-b : (xs : List LinkStep) (rest : List (End × LinkStep)) (q : Links)
    → after_links (steps_at_end B xs ++ rest) q
    ≡ after_links rest (record { a = q.a; b = after_done xs q.b })
unfolding after_done after_links
links-then-b [] rest q = refl
links-then-b (x ∷ xs) rest q =
    links-then-b xs rest (record { a = q.a; b = history_by x.call x q.b })

record TidyRun (first second : Made) (q : PairState) (l : Links) (c : Connections) : Type 0 where
  m : Rest
  n : Rest
  ends : l ≡ both first second c m n
  a : Tidy c.a m q.a
  b : Tidy c.b n q.b

tidy-run : (first second : Made) (steps : List (End × SessionStep)) (c : Connections)
    (p : PairState) (j k : Rest) → AreCalls steps c → Stays first c.a → Stays second c.b
    → AreSame p (both first second c j k) → Tidy c.a j p.a → Tidy c.b k p.b
    → TidyRun first second
    (run_station_calls (calls_of_links (link_steps steps c) (both first second c j k)) p)
    (after_links (link_steps steps c) (both first second c j k)) (after_steps steps c)
unfolding link_steps after_links after_steps run_station_calls calls_of_links
tidy-run first second [] c p j k does sa sb same ta tb =
    record { m = j; n = k; ends = refl; a = ta; b = tb }
tidy-run first second ((A, one) ∷ rest) c p j k does sa sb same ta tb =
    let xs = link_steps_of one.call c.a.history.session one.session.link in
    let next = after_step_at A one c in
    let ys = link_steps rest next in
    let l = since first c.a j in
    let q = pair-after A xs l p in
    let t = tidied A first one c.a j p does.0 sa same.a ta in
    let g = goes A xs l p t.done same.a in
    let r =
    tidy-run first second rest next q t.rest k does.1 t.stays sb
    (record {
      a = subst (IsSameEnd q.a) t.after g.same;
      b = subst (λ y. IsSameEnd y (since second c.b k)) (sym g.rest) same.b;
    }) t.tidy (subst (λ y. Tidy c.b k y) (sym g.rest) tb) in
    let pairs =
    leads-a xs ys (both first second c j k) p
    ∙ ap (λ z. run_station_calls (calls_of_links ys (record { a = z; b = since second c.b k })) q)
    t.after in
    let ends =
    links-then-a xs ys (both first second c j k)
    ∙ ap (λ z. after_links ys (record { a = z; b = since second c.b k })) t.after in
    subst (λ z. TidyRun first second z
    (after_links (steps_at_end A xs ++ ys) (both first second c j k)) (after_steps rest next))
    (sym pairs)
    (subst (λ z. TidyRun first second
    (run_station_calls (calls_of_links ys (both first second next t.rest k)) q) z
    (after_steps rest next)) (sym ends) r)
tidy-run first second ((B, one) ∷ rest) c p j k does sa sb same ta tb =
    let xs = link_steps_of one.call c.b.history.session one.session.link in
    let next = after_step_at B one c in
    let ys = link_steps rest next in
    let l = since second c.b k in
    let q = pair-after B xs l p in
    let t = tidied B second one c.b k p does.0 sb same.b tb in
    let g = goes B xs l p t.done same.b in
    let r =
    tidy-run first second rest next q j t.rest does.1 sa t.stays
    (record {
      a = subst (λ y. IsSameEnd y (since first c.a j)) (sym g.rest) same.a;
      b = subst (IsSameEnd q.b) t.after g.same;
    }) (subst (λ y. Tidy c.a j y) (sym g.rest) ta) t.tidy in
    let pairs =
    leads-b xs ys (both first second c j k) p
    ∙ ap (λ z. run_station_calls (calls_of_links ys (record { a = since first c.a j; b = z })) q)
    t.after in
    let ends =
    links-then-b xs ys (both first second c j k)
    ∙ ap (λ z. after_links ys (record { a = since first c.a j; b = z })) t.after in
    subst (λ z. TidyRun first second z
    (after_links (steps_at_end B xs ++ ys) (both first second c j k)) (after_steps rest next))
    (sym pairs)
    (subst (λ z. TidyRun first second
    (run_station_calls (calls_of_links ys (both first second next j t.rest)) q) z
    (after_steps rest next)) (sym ends) r)

-- ---- from two new sessions

tidy-first : (made : Made) (x : EndState) → Tidy (first_connection made) none_yet x
unfolding mail_in
tidy-first made x = record {
  waited = [];
  is = record { before = []; taken = refl; begun = refl };
  clean = inl refl;
}

cancel : (a b c : List (List ℕ)) → a ++ b ≡ a ++ c → b ≡ c
cancel a b c e =
    sym (drop-append_seam a b) ∙ ap (drop (length a)) e ∙ drop-append_seam a c

-- in a clean run all that was taken came over this line
none_before : (c : Connection) (k : Rest) (x : EndState) → (t : Tidy c k x) → x.starts ≤ 1
    → mail_in c.shown_before ≡ t.is.before
none_before c k x t once = by t.clean
  where
    by : (t.waited ≡ []) ⊎ Twice x → mail_in c.shown_before ≡ t.is.before
    by (inr twice) = absurd (omega (arith, twice, once))
    by (inl none) =
        t.is.begun ∙ ap (λ w. t.is.before ++ w) none ∙ append-nil t.is.before

taken_since : (c : Connection) (k : Rest) (x : EndState) → Tidy c k x → x.starts ≤ 1
    → taken_of c.history.session c.history.shown ≡ mail_in c.shown_before ++ k.taken
taken_since c k x t once =
    t.is.taken ∙ ap (λ ms. ms ++ k.taken) (sym (none_before c k x t once))

whole : (made : Made) (c : Connection) (k : Rest) (x : EndState) → Stays made c → Tidy c k x
    → x.starts ≤ 1
    → delivered_since c ++ undelivered c.history ≡ k.taken ++ inbox_of c.history.session
whole made c k x stays t once =
    let s = c.history.session in
    let before = mail_in c.shown_before in
    cancel before (delivered_since c ++ undelivered c.history) (k.taken ++ inbox_of s)
    (sym (append_assoc before (delivered_since c) (undelivered c.history))
    ∙ ap (λ z. z ++ undelivered c.history) (sym stays.delivered)
    ∙ all_of s c.history.shown stays.holds.queued
    ∙ ap (λ z. z ++ inbox_of s) (taken_since c k x t once)
    ∙ append_assoc before k.taken (inbox_of s))

-- If nothing is left to be acknowledged, the other has received all.
abbrev pub AcknowledgedAnew : Made → Connection → Connection → Type 0
AcknowledgedAnew made giver taker =
    giver.history.session.link.station.core.station.out ≡ []
    → delivered_since taker ++ undelivered taker.history ≡ read_since made giver

module _ (first second : Made) (steps : List (End × SessionStep))
    (f : first_refusal first.options.config ≡ None) (g : first_refusal second.options.config ≡ None)
    (does : AreCalls steps (first_connections first second))
    (honest : (run_station_calls
    (calls_of_links (link_steps steps (first_connections first second)) (links_made first second))
    (pair_made first second)).honest ≡ true)
    (clean : is_clean
    (run_station_calls
    (calls_of_links (link_steps steps (first_connections first second)) (links_made first second))
    (pair_made first second)) ≡ true) where
  abbrev begun : Connections
  begun = first_connections first second

  abbrev ended : Connections
  ended = after_steps steps begun

  abbrev calls : List (End × LinkStep)
  calls = link_steps steps begun

  abbrev start : PairState
  start = pair_made first second

  made_links : links_made first second ≡ both first second begun none_yet none_yet
  made_links = λ i. record { a = since_first first i; b = since_first second i }

  same : AreSame start (links_made first second)
  same = (made_start first second f g).is.same

  keeps : Keeps first second steps begun none_yet none_yet
  keeps =
      keeps_steps first second steps begun none_yet none_yet does (stays_first first)
      (stays_first second)

  are : AreCallsOfLinks calls (links_made first second)
  are = subst (AreCallsOfLinks calls) (sym made_links) keeps.0

  ran : TidyRun first second (run_station_calls (calls_of_links calls (links_made first second)) start)
      (after_links calls (links_made first second)) ended
  ran =
      subst
      (λ (q : Links). TidyRun first second (run_station_calls (calls_of_links calls q) start)
      (after_links calls q) ended) (sym made_links)
      (tidy-run first second steps begun start none_yet none_yet does (stays_first first)
      (stays_first second) (subst (AreSame start) made_links same) (tidy-first first start.a)
      (tidy-first second start.b))

  once : ((run_station_calls (calls_of_links calls (links_made first second)) start).a.starts ≤ 1)
      × ((run_station_calls (calls_of_links calls (links_made first second)) start).b.starts ≤ 1)
  once = clean-means _ _ clean

  -- what stays of each
  pub stays_a : Stays first ended.a
  stays_a = keeps.2

  pub stays_b : Stays second ended.b
  stays_b = keeps.3

  whole_a : delivered_since ended.a ++ undelivered ended.a.history
      ≡ ran.m.taken ++ inbox_of ended.a.history.session
  whole_a = whole first ended.a ran.m _ stays_a ran.a once.0

  whole_b : delivered_since ended.b ++ undelivered ended.b.history
      ≡ ran.n.taken ++ inbox_of ended.b.history.session
  whole_b = whole second ended.b ran.n _ stays_b ran.b once.1

  kept : Kept start
  kept = made_kept first second f g

  pub pipes_anew_b : PipesAnew first ended.a ended.b
  pipes_anew_b =
      let r = subst (λ (q : Links). LinkReaches q.a q.b) ran.ends
      (anew-to-b start (links_made first second) same kept calls are honest clean) in (
        undelivered ended.b.history ++ r.order.0,
        sym (append_assoc (delivered_since ended.b) (undelivered ended.b.history) r.order.0)
            ∙ ap (λ z. z ++ r.order.0) whole_b
            ∙ r.order.1,
      )

  pub pipes_anew_a : PipesAnew second ended.b ended.a
  pipes_anew_a =
      let r = subst (λ (q : Links). LinkReaches q.b q.a) ran.ends
      (anew-to-a start (links_made first second) same kept calls are honest clean) in (
        undelivered ended.a.history ++ r.order.0,
        sym (append_assoc (delivered_since ended.a) (undelivered ended.a.history) r.order.0)
            ∙ ap (λ z. z ++ r.order.0) whole_a
            ∙ r.order.1,
      )

  pub pipes_all_anew_b : PipesAllAnew first ended.a ended.b
  pipes_all_anew_b over =
      let s = ended.a.history.session in
      whole_b
      ∙ subst (λ (q : Links). delivered q.a.link ≡ true → received q.b ≡ q.a.accepted) ran.ends
      (anew-all-to-b start (links_made first second) same kept calls are honest clean)
      (last_true s.is_read (delivered s.link) over)

  pub pipes_all_anew_a : PipesAllAnew second ended.b ended.a
  pipes_all_anew_a over =
      let s = ended.b.history.session in
      whole_a
      ∙ subst (λ (q : Links). delivered q.b.link ≡ true → received q.a ≡ q.b.accepted) ran.ends
      (anew-all-to-a start (links_made first second) same kept calls are honest clean)
      (last_true s.is_read (delivered s.link) over)

  pub acknowledged_anew_b : AcknowledgedAnew first ended.a ended.b
  acknowledged_anew_b none =
      whole_b
      ∙ subst (λ (q : Links). NoneOut q.a → received q.b ≡ q.a.accepted) ran.ends
      (anew-acknowledged-to-b start (links_made first second) same kept calls are honest clean)
      (ap length none)

  pub acknowledged_anew_a : AcknowledgedAnew second ended.b ended.a
  acknowledged_anew_a none =
      whole_a
      ∙ subst (λ (q : Links). NoneOut q.b → received q.a ≡ q.b.accepted) ran.ends
      (anew-acknowledged-to-a start (links_made first second) same kept calls are honest clean)
      (ap length none)

  pub closed_anew_b : PipesClosedAnew first ended.a ended.b
  closed_anew_b left over r closed is none =
      let s = ended.a.history.session in
      let nothing = closed-none left over r s closed is none
      (counts-anew-a steps begun does (new-counts first)) in
      (acknowledged_anew_b nothing.0, nothing.1, nothing.2)

  pub closed_anew_a : PipesClosedAnew second ended.b ended.a
  closed_anew_a left over r closed is none =
      let s = ended.b.history.session in
      let nothing = closed-none left over r s closed is none
      (counts-anew-b steps begun does (new-counts second)) in
      (acknowledged_anew_a nothing.0, nothing.1, nothing.2)

  pub written_anew_b : PipesWrittenAnew first second ended.a ended.b
  written_anew_b early =
      let t = subst (λ (q : Links). AreTaken q.a q.b) ran.ends
      (anew-taken-from-b start (links_made first second) same kept calls are honest clean
      (chosen_late second early)) in
      are_written second.options.form ended.b.history (mail_in ended.b.shown_before) ran.n.taken
      (read_since first ended.a) (length (unacknowledged ended.a.history)) t.order t.few
      (taken_since ended.b ran.n _ ran.b once.1)
      (late_anew_b second steps begun does (stays_first second)
      (late_first second.options second.kind second.line second.plain early)).taken

  pub written_anew_a : PipesWrittenAnew second first ended.b ended.a
  written_anew_a early =
      let t = subst (λ (q : Links). AreTaken q.b q.a) ran.ends
      (anew-taken-from-a start (links_made first second) same kept calls are honest clean
      (chosen_late first early)) in
      are_written first.options.form ended.a.history (mail_in ended.a.shown_before) ran.m.taken
      (read_since second ended.b) (length (unacknowledged ended.b.history)) t.order t.few
      (taken_since ended.a ran.m _ ran.a once.0)
      (late_anew_a first steps begun does (stays_first first)
      (late_first first.options first.kind first.line first.plain early)).taken

  pub writes_anew_a : WritesAnew first ended.a
  writes_anew_a = writes_anew first ended.a keeps.2

  pub writes_anew_b : WritesAnew second ended.b
  writes_anew_b = writes_anew second ended.b keeps.3
