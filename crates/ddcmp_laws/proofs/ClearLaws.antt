-- A clear line wastes nothing.
use Rattle.std.proofs.Common.{◌≡◌, ◌≢◌, ◌⊎◌, inl, inr, ℕ, ◌<◌, ◌≤◌, Bool, true, false, cond, List}
use Rattle.std.proofs.Common.{[], ◌∷◌, ◌++◌, map, length, drop, refl, sym, ap, ◌∙◌, subst, arith}
use Rattle.std.proofs.Common.{append_assoc, append-nil, Option, Some, None}
use Rattle.std.specs.Prelude.{nat_le, is_some, is_none, ◌&&◌, ◌==◌, if◌then◌else◌, option_map}
use Rattle.std.specs.Prelude.{option_to_list}
use Rattle.std.proofs.lemmas.List.{append_cancel_left, drop_all, drop-append-le, map-append}
use Rattle.std.proofs.lemmas.List.Sums.{sum_by-cons}
use Rattle.ddcmp_frame.specs.declared.header.ControlType.{ControlType}
use Rattle.ddcmp_frame.specs.declared.header.ControlType.TheVariants as control
use Rattle.ddcmp_frame.specs.declared.header.Header.{Header}
use Rattle.ddcmp_frame.specs.declared.header.Header.TheVariants as header
use Rattle.ddcmp_frame.specs.Fields.{ShortFields}
use Rattle.ddcmp_frame.specs.declared.item.Item.TheVariants as item
use Rattle.ddcmp_frame.specs.Reading.{ReadItem, items, good_frames_in, good_frames}
use Rattle.ddcmp_frame.proofs.ReadingLaws.{items-nothing}
use Rattle.ddcmp_core.specs.declared.state.State.{State}
use Rattle.ddcmp_core.specs.declared.state.State.TheVariants.{Halted, IStart, AStart, Running}
use Rattle.ddcmp_core.specs.declared.state.State.TheVariants.{Maintenance}
use Rattle.ddcmp_core.specs.declared.station_core.StartRefusal.{StartRefusal}
use Rattle.ddcmp_core.specs.declared.station_core.StartRefusal.TheVariants.{NotHalted, Untaken}
use Rattle.ddcmp_core.specs.Table.{StationState, Limits, Frame, Data, Acked, Naked, Rep, Strt}
use Rattle.ddcmp_core.specs.Table.{Stack, Maint, Good, is_halted, before_next, may_start}
use Rattle.ddcmp_core.specs.Table.{after_start, may_send, after_accept, on, Next, Idle, Sends, next}
use Rattle.ddcmp_core.specs.Table.{next_frame, after_next, acknowledges_by_take}
use Rattle.ddcmp_core.specs.Frames.{frame_of, frame_of_control}
use Rattle.ddcmp_core.specs.Counting.{count_plus}
use Rattle.ddcmp_core.specs.Core.{CoreView, IsSound, IsReceivable}
use Rattle.ddcmp_core.proofs.Sent.{sending}
use Rattle.ddcmp_core.proofs.Sound.{sound_on}
use Rattle.ddcmp_core.proofs.StartLaws.{read_sent}
use Rattle.ddcmp_proto.specs.Bytes.{after_item, after_items, items_added}
use Rattle.ddcmp_proto.specs.Config.{first_refusal}
use Rattle.ddcmp_proto.specs.declared.config.Config.{Config}
use Rattle.ddcmp_proto.proofs.FeedLaws.{items_added-all, after_piece-limits}
use Rattle.ddcmp_io.specs.declared.carrier.End.{End}
use Rattle.ddcmp_io.specs.declared.carrier.End.TheVariants.{A, B}
use Rattle.ddcmp_pair.specs.declared.event.Event.{Event}
use Rattle.ddcmp_pair.specs.declared.event.Event.TheVariants as event
use Rattle.ddcmp_pair.specs.Pairs.{IsRun}
use Rattle.ddcmp_pair.specs.Link.{link_of}
use Rattle.ddcmp_pair.specs.Place.{WholeFrame, place_of}
use Rattle.ddcmp_pair.specs.Run.{EndState, PairState, with_station, restarts_in, notices_at}
use Rattle.ddcmp_pair.specs.Run.{frames_polled, whole_frame, after_start_here, after_send_here}
use Rattle.ddcmp_pair.specs.Run.{after_poll_here, after_arrival_here, after_expire_here}
use Rattle.ddcmp_pair.specs.Run.{after_take_here, after_event_here, clear_refusal, cleared}
use Rattle.ddcmp_pair.specs.Run.{after_clear_by, end_of, after_event_at, after_event, run, new_end}
use Rattle.ddcmp_pair.specs.Run.{new_pair}
use Rattle.ddcmp_pair.proofs.Places.{good_frames_in-append}
use Rattle.ddcmp_pair.proofs.Modulo.{back-between}
use Rattle.ddcmp_pair.proofs.Relation.{Face, face, up, Wire, no_wire, wire_data, StateFits, Stands}
use Rattle.ddcmp_pair.proofs.Relation.{not_begun, begun, Fits, Pending}
use Rattle.ddcmp_pair.proofs.Comings.{comes}
use Rattle.ddcmp_pair.proofs.Sendings.{awake}
use Rattle.ddcmp_pair.proofs.Receptions.{hearing, fits_frame}
use Rattle.ddcmp_pair.proofs.Startups.{starting-comes, starting-hears, no-strt-comes}
use Rattle.ddcmp_pair.proofs.Arrivals.{seen, on_the_way, Related}
use Rattle.ddcmp_pair.proofs.Linked.{Linked, linked-turned, linked-arrival, none-anew, same-starts}
use Rattle.ddcmp_pair.proofs.Ordered.{run-holds, run-new, run-event}
use Rattle.ddcmp_laws.specs.Counted.{is_nak, is_nak_type, frames_of}
use Rattle.ddcmp_laws.specs.Faithful.{written, IsFaithful}
use Rattle.ddcmp_laws.specs.Prefix.{Begins}
use Rattle.ddcmp_laws.specs.Positions.{messages_in}
use Rattle.ddcmp_laws.specs.Clear.{IsMessage, FindRoom, FindsRoom, StaysClear, messages_sent}
use Rattle.ddcmp_laws.specs.Clear.{WastesNothing}
use Rattle.ddcmp_laws.proofs.FaithfulLaws.{AllWritable, IsWell, IsStraight, straight_event}
use Rattle.ddcmp_laws.proofs.FaithfulLaws.{well_new}
use Rattle.ddcmp_laws.proofs.ClearSteps.{Follows, NoData, no_data_more, IsPlain, Goes, goes_nowhere}
use Rattle.ddcmp_laws.proofs.ClearSteps.{quiet-taken}
use Rattle.ddcmp_laws.proofs.ClearSteps.{goes_on, MayCome, hears, NoNaks, polls, expires}
use Rattle.ddcmp_laws.proofs.ClearReads.{AllGood, good_back, AllShort, short_more, has_read, placed}
use Rattle.ddcmp_laws.proofs.ClearReads.{way_from, heard, items_heard}

-- ---- frames come to x from y

record Clears (x y : Face) (fs fs' : List Frame) : Type 0 where
  related : Related x y fs fs'
  sound : IsSound x.limits x.station
  fresh : x.station.state ≡ Halted → x.starts ≡ 0
  plain : IsPlain x.station
  follows : Follows x.station.r fs' y.station.n

abbrev is_naked : Frame → Bool
is_naked (Naked why resp) = true
is_naked _ = false

abbrev AllComing : Limits → List Frame → Type 0
AllComing l [] = Unit {0}
AllComing l (f ∷ fs) = (IsReceivable l (Good f) × (is_naked f ≡ false)) × AllComing l fs

coming_front : (l : Limits) (fs gs : List Frame) → AllComing l (fs ++ gs) → AllComing l fs
coming_front l [] gs h = tt
coming_front l (f ∷ fs) gs h = (h.0, coming_front l fs gs h.1)

coming_back : (l : Limits) (fs gs : List Frame) → AllComing l (fs ++ gs) → AllComing l gs
coming_back l [] gs h = h
coming_back l (f ∷ fs) gs h = coming_back l fs gs h.1

no_data_back : (fs gs : List Frame) → NoData (fs ++ gs) → NoData gs
no_data_back [] gs h = h
no_data_back (f ∷ fs) gs h = no_data_back fs gs h.1

naked_control : (k : ControlType) (h : ShortFields) → is_nak_type k ≡ false
    → is_naked (frame_of_control k h) ≡ false
naked_control control.Ack h e = refl
naked_control control.Nak h e = absurd (cc e)
naked_control control.Rep h e = refl
naked_control control.Strt h e = refl
naked_control control.Stack h e = refl

naked_seen : (h : Header) (m : List ℕ) → is_nak h ≡ false → is_naked (frame_of h m) ≡ false
naked_seen (header.Data h) m e = refl
naked_seen (header.Maint h) m e = refl
naked_seen (header.Control h) m e = naked_control h.kind h e

all_coming : (l : Limits) (fs : List WholeFrame) → AllWritable fs → AllShort l.longest fs
    → NoNaks fs
    → AllComing l (map seen fs)
all_coming l [] w s n = tt
all_coming l (f ∷ fs) w s n =
    ((w.0.receivable l s.0, naked_seen f.0 f.1 n.0), all_coming l fs w.1 s.1 n.1)

never_maintenance : (x : Face) (n t : ℕ) → Stands x n t → x.station.state ≢ Maintenance
never_maintenance x n t (not_begun z h g u) e = let y = sym h ∙ e in cc
never_maintenance x n t (begun z c f) e = let y = subst (λ p. StateFits p x.given) e f in y

-- nothing was given where a station answers a startup, so nothing is acknowledged to it
resp_zero : (x y : Face) (fs rest : List Frame) (resp num : ℕ) (message : List ℕ)
    → x.station.state ≡ AStart
    → Fits x y fs (Data resp num message ∷ rest) → resp ≡ 0
resp_zero x y fs rest resp num message e h =
    let c = comes x y fs [] (Data resp num message) rest h in by c.first c.pending
  where
    by : {ks qs : List ℕ} → Wire y.given (Data resp num message ∷ []) ks qs
        → Pending x y fs rest ks qs → resp ≡ 0
    by (wire_data {q = q} r n a no_wire) p =
        let b = awake x p.sent p.next (λ z. let w = sym e ∙ z in cc) p.stands in
        let k =
        back-between x.limits.window q p.back
        (link_of x.given x.acknowledged p.sent (up y) p.forward (q ∷ p.back)) p.reached refl in
        let g : x.given ≡ [] = subst (λ s. StateFits s x.given) e b.state in
        let none : length x.given ≡ 0 = ap length g in
        let most = b.counts.sent_given in
        omega (arith, r, k.1, most, none)

-- who sends data runs
sender_runs : (s : StationState) (resp num : ℕ) (message : List ℕ) (fs : List Frame)
    → (s.state ≢ Running → NoData (Data resp num message ∷ fs)) → s.state ≡ Running
sender_runs s resp num message fs early = by s.state refl
  where
    no : (s.state ≢ Running) → ⊥
    no w = let z = (early w).0 in cc

    by : (p : State) → s.state ≡ p → s.state ≡ Running
    by Running e = e
    by Halted e = absurd (no (λ r. let z = sym e ∙ r in cc))
    by IStart e = absurd (no (λ r. let z = sym e ∙ r in cc))
    by AStart e = absurd (no (λ r. let z = sym e ∙ r in cc))
    by Maintenance e = absurd (no (λ r. let z = sym e ∙ r in cc))

may_come : (x y : Face) (fs : List Frame) (f : Frame) (rest : List Frame) → Clears x y fs (f ∷ rest)
    → IsReceivable x.limits (Good f) → is_naked f ≡ false
    → (y.station.state ≢ Running → NoData (f ∷ rest))
    → (IsMessage (Good f) → length x.station.inbox < x.limits.room)
    → MayCome x.limits x.station f
may_come x y fs (Data resp num message) rest c v n early room =
    (by x.station.state refl, room tt, v.0)
  where
    by : (p : State) → x.station.state ≡ p
        → (x.station.state ≡ Running) ⊎ ((x.station.state ≡ AStart) × (resp ≡ 0))
    by Halted e =
        absurd
        (let t = c.related.there.runs (sender_runs y.station resp num message rest early) in
        let z = c.fresh e in omega (arith, t.0, z))
    by IStart e =
        absurd ((c.related.there.runs (sender_runs y.station resp num message rest early)).1 e)
    by AStart e = inr (e, resp_zero x y fs rest resp num message e c.related.fits)
    by Running e = inl e
    by Maintenance e =
        absurd (never_maintenance x c.related.fits.sent c.related.fits.next c.related.fits.stands e)
may_come x y fs (Acked resp) rest c v n early room = v
may_come x y fs (Naked why resp) rest c v n early room = absurd (cc n)
may_come x y fs (Rep num) rest c v n early room = tt
may_come x y fs Strt rest c v n early room =
    λ e. let z = no-strt-comes y x [] Strt rest c.related.here e in cc
may_come x y fs Stack rest c v n early room = tt
may_come x y fs (Maint message) rest c v n early room = tt

one_heard : (x y : Face) (fs : List Frame) (f : Frame) (rest : List Frame)
    → Clears x y fs (f ∷ rest)
    → IsReceivable x.limits (Good f) → is_naked f ≡ false
    → (y.station.state ≢ Running → NoData (f ∷ rest))
    → (IsMessage (Good f) → length x.station.inbox < x.limits.room)
    → Clears (hearing x (Good f)) y fs rest × Goes x.station (on x.limits x.station (Good f))
one_heard x y fs f rest c v n early room =
    let r = c.related in
    let m = may_come x y fs f rest c v n early room in
    let h =
    hears x.limits x.station f rest y.station.n
    (never_maintenance x r.fits.sent r.fits.next r.fits.stands)
    c.sound.in_window c.plain m c.follows in (
      record {
        related = record {
          fits = fits_frame x y fs [] f rest (no-strt-comes y x [] f rest r.here) r.fits;
          there = starting-hears x y fs (Good f) r.there;
          here = starting-comes y x [] f rest r.here;
        };
        sound = sound_on x.limits x.station (Good f) v c.sound;
        fresh = λ e. c.fresh (ap (λ (s : StationState). s.state) (sym (h.goes.halts e)) ∙ e);
        plain = h.goes.plain;
        follows = h.follows;
      },
      h.goes,
    )

-- each message among frames finds room
abbrev HeardWithRoom : List Frame → Face → Type 0
HeardWithRoom [] x = Unit {0}
HeardWithRoom (f ∷ mid) x =
    (IsMessage (Good f) → length x.station.inbox < x.limits.room)
    × HeardWithRoom mid (hearing x (Good f))

items_with_room : (given : List ReadItem) (k : CoreView) (x : Face) → AllGood given
    → k.limits ≡ x.limits → k.station ≡ x.station → FindRoom given k
    → HeardWithRoom (map seen (good_frames_in given)) x
unfolding good_frames_in
items_with_room [] k x g l s r = tt
items_with_room ((item.Good o h, lent) ∷ rest) k x g l s r = (
  λ m. let room = r.0 m in
      let limit = ap (λ (z : Limits). z.room) l in
      let mail = ap (λ (z : StationState). length z.inbox) s in
      omega (arith, room, limit, mail),
  items_with_room rest (after_item (item.Good o h, lent) k) (hearing x (Good (frame_of h lent))) g.1
      l (λ i. on (l i) (s i) (Good (frame_of h lent))) r.1,
)
items_with_room ((item.HeaderCheck o, lent) ∷ rest) k x g l s r = absurd (let z = g.0 in cc)
items_with_room ((item.DataCheck o h, lent) ∷ rest) k x g l s r = absurd (let z = g.0 in cc)
items_with_room ((item.TooLong o h, lent) ∷ rest) k x g l s r = absurd (let z = g.0 in cc)
items_with_room ((item.Format o f, lent) ∷ rest) k x g l s r = absurd (let z = g.0 in cc)

all_heard : (mid rest : List Frame) (x y : Face) (fs : List Frame) → Clears x y fs (mid ++ rest)
    → AllComing x.limits mid → (y.station.state ≢ Running → NoData (mid ++ rest))
    → HeardWithRoom mid x
    → Clears (heard mid x) y fs rest × Goes x.station (heard mid x).station
unfolding heard
all_heard [] rest x y fs c v early room = (c, goes_nowhere x.station c.plain)
all_heard (f ∷ mid) rest x y fs c v early room =
    let s = one_heard x y fs f (mid ++ rest) c v.0.0 v.0.1 early room.0 in
    let r = all_heard mid rest (hearing x (Good f)) y fs s.0 v.1 (λ e. (early e).1) room.1 in (
      r.0,
      goes_on x.station (on x.limits x.station (Good f))
          (heard mid (hearing x (Good f))).station s.1 r.1,
    )

-- ---- an end, and the frames in flight

record IsUnused (s : StationState) (starts : ℕ) : Type 0 where
  starts_is : starts ≡ 0
  r_is : s.r ≡ 0
  n_is : s.n ≡ 0
  out_is : s.out ≡ []

record IsTidy (most : ℕ) (x : EndState) : Type 0 where
  short : AllShort most x.sent
  fresh : x.core.station.state ≡ Halted → IsUnused x.core.station x.starts
  once : x.starts ≤ 1
  plain : IsPlain x.core.station
  no_naks : NoNaks x.sent
  order : messages_sent x ++ drop (before_next x.core.station) x.core.station.out ≡ x.given

-- from x to y
record Way (most : ℕ) (x y : EndState) : Type 0 where
  rest : List WholeFrame
  rest_is : good_frames most y.arrived ++ rest ≡ x.sent
  follows : Follows y.core.station.r (map seen rest) x.core.station.n
  early : x.core.station.state ≢ Running → NoData (map seen rest)

record Tidy (most : ℕ) (x y : EndState) : Type 0 where
  longest_x : x.core.limits.longest ≡ most
  longest_y : y.core.limits.longest ≡ most
  here : IsTidy most x
  there : IsTidy most y
  forth : Way most x y
  back : Way most y x

tidy_turned : (most : ℕ) (x y : EndState) → Tidy most x y → Tidy most y x
tidy_turned most x y t =
    record {
      longest_x = t.longest_y;
      longest_y = t.longest_x;
      here = t.there;
      there = t.here;
      forth = t.back;
      back = t.forth;
    }

-- ---- bytes arrive

tidy_arrive : (most : ℕ) (bytes : List ℕ) (x y : EndState) → Tidy most x y → Linked x y → IsWell x
    → IsWell y
    → Begins (x.arrived ++ bytes) (written y)
    → FindRoom (items_added x.core.limits.longest x.arrived bytes) x.core
    → Tidy most (after_arrival_here bytes x) y
tidy_arrive most bytes x y t l hx hy b room =
    let k = has_read most y.syn y.sent (x.arrived ++ bytes) hy.sent t.there.short b in
    let its = items_added most x.arrived bytes in
    let all = items_added-all most x.arrived bytes in
    let good : AllGood its = good_back (items most x.arrived) its (subst AllGood all k.good) in
    let came = good_frames most x.arrived in
    let mid = good_frames_in its in
    let came' : good_frames most (x.arrived ++ bytes) ≡ came ++ mid =
    ap good_frames_in all ∙ good_frames_in-append (items most x.arrived) its in
    let both : came ++ (mid ++ k.rest) ≡ came ++ t.back.rest =
    sym (append_assoc came mid k.rest) ∙ ap (λ (z : List WholeFrame). z ++ k.rest) (sym came')
    ∙ k.rest_is
    ∙ sym t.back.rest_is in
    let split : mid ++ k.rest ≡ t.back.rest =
    append_cancel_left came (mid ++ k.rest) t.back.rest both in
    let seen_split : map seen t.back.rest ≡ map seen mid ++ map seen k.rest =
    ap (map seen) (sym split) ∙ map-append seen mid k.rest in
    let way : on_the_way l.here y.sent ≡ map seen t.back.rest =
    way_from came t.back.rest y.sent l.here t.back.rest_is
    (ap (λ m. place_of (good_frames m x.arrived) y.sent) (sym t.longest_x) ∙ l.here_is) in
    let c : Clears (face x) (face y) (on_the_way l.there x.sent) (map seen mid ++ map seen k.rest) =
    record {
      related =
          subst (λ fs. Related (face x) (face y) (on_the_way l.there x.sent) fs) (way ∙ seen_split)
          l.related;
      sound = hx.sound;
      fresh = λ e. (t.here.fresh e).starts_is;
      plain = t.here.plain;
      follows =
          subst (λ fs. Follows x.core.station.r fs y.core.station.n) seen_split t.back.follows;
    } in
    let whole : map seen y.sent ≡ map seen came ++ (map seen mid ++ map seen k.rest) =
    ap (map seen) (sym t.back.rest_is) ∙ map-append seen came t.back.rest
    ∙ ap (λ (z : List Frame). map seen came ++ z) seen_split in
    let coming : AllComing x.core.limits (map seen mid) =
    coming_front x.core.limits (map seen mid) (map seen k.rest)
    (coming_back x.core.limits (map seen came) _
    (subst (AllComing x.core.limits) whole
    (all_coming x.core.limits y.sent hy.sent
    (subst (λ m. AllShort m y.sent) (sym t.longest_x) t.there.short) t.there.no_naks))) in
    let early : y.core.station.state ≢ Running → NoData (map seen mid ++ map seen k.rest) =
    λ e. subst NoData seen_split (t.back.early e) in
    let is : (after_arrival_here bytes x).core.station ≡ (heard (map seen mid) (face x)).station =
    ap (λ m. (after_items (items_added m x.arrived bytes) x.core).station) t.longest_x
    ∙ items_heard its x.core (face x) good refl refl in
    let limits : (after_arrival_here bytes x).core.limits ≡ x.core.limits =
    after_piece-limits x.arrived bytes x.core in
    let found : FindRoom its x.core =
    subst (λ m. FindRoom (items_added m x.arrived bytes) x.core) t.longest_x room in
    let r =
    all_heard (map seen mid) (map seen k.rest) (face x) (face y) (on_the_way l.there x.sent)
    c coming early (items_with_room its x.core (face x) good refl refl found) in
    let g : Goes x.core.station (after_arrival_here bytes x).core.station =
    subst (Goes x.core.station) (sym is) r.1 in
    let quiet = (linked-arrival bytes x y t.here.once
    (ap (λ m. is_some (place_of (good_frames m (x.arrived ++ bytes)) y.sent)) t.longest_x
    ∙ placed (good_frames most (x.arrived ++ bytes)) k.rest y.sent k.rest_is) l).quiet in
    let starts : (after_arrival_here bytes x).starts ≡ x.starts =
    same-starts x.starts (restarts_in (notices_at bytes x)) t.here.once
    (none-anew (notices_at bytes x) quiet) in
    record {
      longest_x = ap (λ (z : Limits). z.longest) limits ∙ t.longest_x;
      longest_y = t.longest_y;
      here = record {
        short = t.here.short;
        fresh = λ e.
            let same = g.halts e in
            let u = t.here.fresh (ap (λ (s : StationState). s.state) (sym same) ∙ e) in
            record {
              starts_is = starts ∙ u.starts_is;
              r_is = ap (λ (s : StationState). s.r) same ∙ u.r_is;
              n_is = ap (λ (s : StationState). s.n) same ∙ u.n_is;
              out_is = ap (λ (s : StationState). s.out) same ∙ u.out_is;
            };
        once = (let w = t.here.once in omega (arith, starts, w));
        plain = g.plain;
        no_naks = t.here.no_naks;
        order = ap (λ (z : List (List ℕ)). messages_sent x ++ z) g.unsent ∙ t.here.order;
      };
      there = t.there;
      forth = record {
        rest = t.forth.rest;
        rest_is = t.forth.rest_is;
        follows =
            subst (λ n. Follows y.core.station.r (map seen t.forth.rest) n) (sym g.n)
            t.forth.follows;
        early = λ e. t.forth.early (λ q. e (g.runs q));
      };
      back = record {
        rest = k.rest;
        rest_is = k.rest_is;
        follows =
            subst (λ (s : StationState). Follows s.r (map seen k.rest) y.core.station.n) (sym is)
            r.0.follows;
        early = λ e. no_data_back (map seen mid) (map seen k.rest) (early e);
      };
    }

-- ---- the user's calls and the timer

halted_starts : (s : StationState) → may_start s ≡ true → s.state ≡ Halted
halted_starts s = by s.state
  where
    by : (p : State)
        → is_none
        (if is_halted p then (if length s.inbox == 0 then None else Some Untaken)
        else Some NotHalted) ≡ true
        → p ≡ Halted
    by Halted e = refl
    by IStart e = absurd (cc e)
    by AStart e = absurd (cc e)
    by Running e = absurd (cc e)
    by Maintenance e = absurd (cc e)

abbrev start_by : Bool → EndState → EndState
start_by b x =
    record (with_station (cond b (after_start x.core.station) x.core.station) x)
    { starts = cond b (count_plus x.starts 1) x.starts }

tidy_start : (most : ℕ) (x y : EndState) → Tidy most x y → Tidy most (after_start_here x) y
tidy_start most x y t = by (may_start x.core.station) refl
  where
    by : (b : Bool) → may_start x.core.station ≡ b → Tidy most (start_by b x) y
    by false e = t
    by true e =
        let h = halted_starts x.core.station e in
        let u = t.here.fresh h in
        record {
          longest_x = t.longest_x;
          longest_y = t.longest_y;
          here = record {
            short = t.here.short;
            fresh = λ z. absurd (cc z);
            once = (let z = u.starts_is in omega (arith, z));
            plain = record { quiet = refl; ahead = refl };
            no_naks = t.here.no_naks;
            order =
                ap (λ (z : List (List ℕ)). messages_sent x ++ z)
                (sym
                (ap (drop (before_next x.core.station)) u.out_is
                ∙ drop_all (before_next x.core.station) [] (omega arith)))
                ∙ t.here.order;
          };
          there = t.there;
          forth = record {
            rest = t.forth.rest;
            rest_is = t.forth.rest_is;
            follows =
                subst (λ n. Follows y.core.station.r (map seen t.forth.rest) n)
                u.n_is t.forth.follows;
            early = λ z. t.forth.early (λ q. let w = sym h ∙ q in cc);
          };
          back = record {
            rest = t.back.rest;
            rest_is = t.back.rest_is;
            follows =
                subst (λ r. Follows r (map seen t.back.rest) y.core.station.n)
                u.r_is t.back.follows;
            early = t.back.early;
          };
        }

abbrev send_by : Bool → List ℕ → EndState → EndState
send_by b message x =
    record (with_station (cond b (after_accept x.core.station message) x.core.station) x)
    { given = cond b (x.given ++ message ∷ []) x.given }

sends_running : (l : Limits) (s : StationState) (message : List ℕ) → may_send l s message ≡ true
    → s.state ≢ Halted
sends_running l s message e h = absurd (grind (arith, e, h))

tidy_send : (most : ℕ) (message : List ℕ) (x y : EndState) → IsWell x → Tidy most x y
    → Tidy most (after_send_here message x) y
tidy_send most message x y w t = by (may_send x.core.limits x.core.station message) refl
  where
    by : (b : Bool) → may_send x.core.limits x.core.station message ≡ b
        → Tidy most (send_by b message x) y
    by false e = t
    by true e =
        let s = x.core.station in
        let p = before_next s in
        let kept : p ≤ length s.out =
        (let a = w.sound.in_window.next_sent in let b = w.sound.in_window.sent_kept in
        omega (arith, a, b)) in
        record {
          longest_x = t.longest_x;
          longest_y = t.longest_y;
          here = record {
            short = t.here.short;
            fresh = λ z. absurd (sends_running x.core.limits s message e z);
            once = t.here.once;
            plain = record { quiet = t.here.plain.quiet; ahead = t.here.plain.ahead };
            no_naks = t.here.no_naks;
            order =
                ap (λ (z : List (List ℕ)). messages_sent x ++ z)
                (drop-append-le p s.out (message ∷ []) kept)
                ∙ sym (append_assoc (messages_sent x) (drop p s.out) (message ∷ []))
                ∙ ap (λ (z : List (List ℕ)). z ++ message ∷ []) t.here.order;
          };
          there = t.there;
          forth =
              record {
                rest = t.forth.rest;
                rest_is = t.forth.rest_is;
                follows = t.forth.follows;
                early = t.forth.early;
              };
          back =
              record {
                rest = t.back.rest;
                rest_is = t.back.rest_is;
                follows = t.back.follows;
                early = t.back.early;
              };
        }

abbrev expire_by : StationState → EndState → EndState
expire_by u x =
    record x
    { core = record x.core { station = u; counters = (after_expire_here x).core.counters } }

tidy_expire : (most : ℕ) (x y : EndState) → Tidy most x y → Tidy most (after_expire_here x) y
tidy_expire most x y t =
    let e = expires x.core.station in
    subst (λ (u : StationState). Tidy most (expire_by u x) y) (sym e.after)
    (record {
      longest_x = t.longest_x;
      longest_y = t.longest_y;
      here = record {
        short = t.here.short;
        fresh =
            λ z. (let u = t.here.fresh z in
            record { starts_is = u.starts_is; r_is = u.r_is; n_is = u.n_is; out_is = u.out_is });
        once = t.here.once;
        plain = record { quiet = t.here.plain.quiet; ahead = t.here.plain.ahead };
        no_naks = t.here.no_naks;
        order = t.here.order;
      };
      there = t.there;
      forth =
          record {
            rest = t.forth.rest;
            rest_is = t.forth.rest_is;
            follows = t.forth.follows;
            early = t.forth.early;
          };
      back =
          record {
            rest = t.back.rest;
            rest_is = t.back.rest_is;
            follows = t.back.follows;
            early = t.back.early;
          };
    })

tidy_take : (most : ℕ) (x y : EndState) → Tidy most x y → Tidy most (after_take_here x) y
tidy_take most x y t = record {
  longest_x = t.longest_x;
  longest_y = t.longest_y;
  here = record {
    short = t.here.short;
    fresh =
        λ z. (let u = t.here.fresh z in
        record { starts_is = u.starts_is; r_is = u.r_is; n_is = u.n_is; out_is = u.out_is });
    once = t.here.once;
    plain = record {
      quiet =
          quiet-taken (acknowledges_by_take x.core.station) x.core.station.reply
          t.here.plain.quiet;
      ahead = t.here.plain.ahead;
    };
    no_naks = t.here.no_naks;
    order = t.here.order;
  };
  there = t.there;
  forth =
      record {
        rest = t.forth.rest;
        rest_is = t.forth.rest_is;
        follows = t.forth.follows;
        early = t.forth.early;
      };
  back =
      record {
        rest = t.back.rest;
        rest_is = t.back.rest_is;
        follows = t.back.follows;
        early = t.back.early;
      };
}

-- ---- a frame is sent

no_naks_more : (fs gs : List WholeFrame) → NoNaks fs → NoNaks gs → NoNaks (fs ++ gs)
no_naks_more [] gs h g = g
no_naks_more (f ∷ fs) gs h g = (h.0, no_naks_more fs gs h.1 g)

messages_more : (fs gs : List Frame) → messages_in (fs ++ gs) ≡ messages_in fs ++ messages_in gs
messages_more [] gs = refl
messages_more (Data resp num message ∷ fs) gs =
    ap (λ (z : List (List ℕ)). message ∷ z) (messages_more fs gs)
messages_more (Acked resp ∷ fs) gs = messages_more fs gs
messages_more (Naked why resp ∷ fs) gs = messages_more fs gs
messages_more (Rep num ∷ fs) gs = messages_more fs gs
messages_more (Strt ∷ fs) gs = messages_more fs gs
messages_more (Stack ∷ fs) gs = messages_more fs gs
messages_more (Maint message ∷ fs) gs = messages_more fs gs

short_polled : (l : Limits) (s : StationState) (t : Next) → next s ≡ t → IsSound l s
    → AllShort l.longest (option_to_list (option_map whole_frame (next_frame t)))
short_polled l s Idle e h = tt
short_polled l s (Sends f u) e h = ((read_sent l s f u h e).3, tt)

tidy_poll : (most : ℕ) (x y : EndState) → Linked x y → IsWell x → Tidy most x y
    → Tidy most (after_poll_here x) y
tidy_poll most x y l w t =
    let s = x.core.station in
    let f = l.related.fits in
    let new = frames_polled x in
    let count = w.sound.out_stored.count in
    let limit = w.sound.out_stored.limit_max in
    let p =
    polls s (next s) (sending s) (never_maintenance (face x) f.sent f.next f.stands)
    w.sound.in_window (omega (arith, count, limit)) t.here.plain in
    record {
      longest_x = t.longest_x;
      longest_y = t.longest_y;
      here = record {
        short =
            short_more most x.sent new t.here.short
            (subst (λ m. AllShort m new) t.longest_x
            (short_polled x.core.limits s (next s) refl w.sound));
        fresh = λ z.
            let same = p.halted z in
            let u = t.here.fresh (ap (λ (s : StationState). s.state) (sym same) ∙ z) in
            record {
              starts_is = u.starts_is;
              r_is = ap (λ (s : StationState). s.r) same ∙ u.r_is;
              n_is = ap (λ (s : StationState). s.n) same ∙ u.n_is;
              out_is = ap (λ (s : StationState). s.out) same ∙ u.out_is;
            };
        once = t.here.once;
        plain = p.plain;
        no_naks = no_naks_more x.sent new t.here.no_naks p.no_naks;
        order =
            ap
            (λ (z : List (List ℕ)). z
            ++ drop (before_next (after_next (next s) s)) (after_next (next s) s).out)
            (ap messages_in (map-append seen x.sent new)
            ∙ messages_more (map seen x.sent) (map seen new))
            ∙ append_assoc (messages_sent x) (messages_in (map seen new)) _
            ∙ ap (λ (z : List (List ℕ)). messages_sent x ++ z) p.unsent ∙ t.here.order;
      };
      there = t.there;
      forth = record {
        rest = t.forth.rest ++ new;
        rest_is =
            sym (append_assoc (good_frames most y.arrived) t.forth.rest new)
            ∙ ap (λ (z : List WholeFrame). z ++ new) t.forth.rest_is;
        follows =
            subst (λ fs. Follows y.core.station.r fs (after_next (next s) s).n)
            (sym (map-append seen t.forth.rest new))
            (p.follows y.core.station.r (map seen t.forth.rest) t.forth.follows);
        early = λ z.
            let e : s.state ≢ Running = λ q. z (p.state ∙ q) in
            subst NoData (sym (map-append seen t.forth.rest new))
            (no_data_more (map seen t.forth.rest) (map seen new) (t.forth.early e) (p.early e));
      };
      back = record {
        rest = t.back.rest;
        rest_is = t.back.rest_is;
        follows =
            subst (λ r. Follows r (map seen t.back.rest) y.core.station.n) (sym p.r) t.back.follows;
        early = t.back.early;
      };
    }

-- ---- the line is cleared

is_halted_at : (p : State) → is_halted p ≡ true → p ≡ Halted
is_halted_at Halted e = refl
is_halted_at IStart e = absurd (cc)
is_halted_at AStart e = absurd (cc)
is_halted_at Running e = absurd (cc)
is_halted_at Maintenance e = absurd (cc)

both_halted : (a b c : Bool)
    → (if a && b then (if c then None else Some Untaken) else Some NotHalted) ≡ None
    → (a ≡ true) × (b ≡ true)
both_halted true true c e = (refl, refl)
both_halted true false c e = absurd (cc e)
both_halted false b c e = absurd (cc e)

tidy_cleared : (most : ℕ) (x : EndState) → x.core.station.state ≡ Halted → IsTidy most x
    → IsTidy most (cleared x)
tidy_cleared most x h t =
    let u = t.fresh h in
    record {
      short = tt;
      fresh = λ z. record { starts_is = refl; r_is = u.r_is; n_is = u.n_is; out_is = u.out_is };
      once = omega arith;
      plain = t.plain;
      no_naks = tt;
      order =
          ap (drop (before_next x.core.station)) u.out_is
          ∙ drop_all (before_next x.core.station) [] (omega arith);
    }

nothing_read : (most : ℕ) → good_frames most [] ++ [] ≡ []
unfolding good_frames_in
nothing_read most = append-nil (good_frames most []) ∙ ap good_frames_in (items-nothing most)

way_cleared : (most : ℕ) (x y : EndState) → y.core.station.r ≡ 0 → x.core.station.n ≡ 0
    → Way most (cleared x) (cleared y)
way_cleared most x y r n =
    record { rest = []; rest_is = nothing_read most; follows = r ∙ sym n; early = λ e. tt }

tidy_clear : (most : ℕ) (o : Option StartRefusal) (p : PairState) → clear_refusal p ≡ o
    → Tidy most p.a p.b
    → Tidy most (after_clear_by o p).a (after_clear_by o p).b
tidy_clear most (Some refusal) p e t = t
tidy_clear most None p e t =
    let h = both_halted (is_halted p.a.core.station.state) (is_halted p.b.core.station.state) _ e in
    let a = is_halted_at p.a.core.station.state h.0 in
    let b = is_halted_at p.b.core.station.state h.1 in
    let u = t.here.fresh a in
    let v = t.there.fresh b in
    record {
      longest_x = t.longest_x;
      longest_y = t.longest_y;
      here = tidy_cleared most p.a a t.here;
      there = tidy_cleared most p.b b t.there;
      forth = way_cleared most p.a p.b v.r_is u.n_is;
      back = way_cleared most p.b p.a u.r_is v.n_is;
    }

-- ---- each event

abbrev NoHalt : Event → Type 0
NoHalt (event.Halt e) = ⊥
NoHalt e = Unit {0}

-- what an event brings to an end finds room
abbrev RoomHere : Event → EndState → Type 0
RoomHere (event.Arrive e bytes) x =
    FindRoom (items_added x.core.limits.longest x.arrived bytes) x.core
RoomHere e x = Unit {0}

abbrev RoomAt : Option End → Event → PairState → Type 0
RoomAt (Some A) e p = RoomHere e p.a
RoomAt (Some B) e p = RoomHere e p.b
RoomAt None e p = Unit {0}

room_at : (e : Event) (p : PairState) → FindsRoom e p → RoomAt (end_of e) e p
room_at (event.Start A) p r = tt
room_at (event.Start B) p r = tt
room_at (event.Halt A) p r = tt
room_at (event.Halt B) p r = tt
room_at (event.Send A message) p r = tt
room_at (event.Send B message) p r = tt
room_at (event.Poll A) p r = tt
room_at (event.Poll B) p r = tt
room_at (event.Arrive A bytes) p r = r
room_at (event.Arrive B bytes) p r = r
room_at (event.Expire A) p r = tt
room_at (event.Expire B) p r = tt
room_at (event.Take A) p r = tt
room_at (event.Take B) p r = tt
room_at event.Clear p r = tt

tidy_here : (most : ℕ) (e : Event) (x y : EndState) → NoHalt e → Linked x y → IsWell x → IsWell y
    → Begins (after_event_here e x).arrived (written y)
    → RoomHere e x
    → Tidy most x y
    → Tidy most (after_event_here e x) y
tidy_here most (event.Start e) x y n l hx hy b room t = tidy_start most x y t
tidy_here most (event.Halt e) x y n l hx hy b room t = absurd n
tidy_here most (event.Send e message) x y n l hx hy b room t = tidy_send most message x y hx t
tidy_here most (event.Poll e) x y n l hx hy b room t = tidy_poll most x y l hx t
tidy_here most (event.Arrive e bytes) x y n l hx hy b room t =
    tidy_arrive most bytes x y t l hx hy b room
tidy_here most (event.Expire e) x y n l hx hy b room t = tidy_expire most x y t
tidy_here most (event.Take e) x y n l hx hy b room t = tidy_take most x y t
tidy_here most event.Clear x y n l hx hy b room t = t

record Neat (most : ℕ) (p : PairState) : Type 0 where
  leads : IsRun p
  straight : IsStraight p
  tidy : Tidy most p.a p.b

clean_is : (m n : ℕ) → m ≤ 1 → n ≤ 1 → (nat_le m 1 && nat_le n 1) ≡ true
clean_is m n h g = grind (arith)

neat_linked : (most : ℕ) (p : PairState) → Neat most p → Linked p.a p.b
neat_linked most p n =
    (run-holds p n.leads).linked n.straight.honest
    (clean_is p.a.starts p.b.starts n.tidy.here.once n.tidy.there.once)

tidy_at : (most : ℕ) (o : Option End) (e : Event) (p : PairState) → NoHalt e → RoomAt o e p
    → IsFaithful (after_event_at o e p)
    → Neat most p → Tidy most (after_event_at o e p).a (after_event_at o e p).b
tidy_at most (Some A) e p h r c n =
    tidy_here most e p.a p.b h (neat_linked most p n)
    n.straight.a n.straight.b c.to_a r n.tidy
tidy_at most (Some B) e p h r c n =
    tidy_turned most _ p.a
    (tidy_here most e p.b p.a h (linked-turned p.a p.b (neat_linked most p n))
    n.straight.b n.straight.a c.to_b r (tidy_turned most p.a p.b n.tidy))
tidy_at most None e p h r c n = tidy_clear most (clear_refusal p) p refl n.tidy

tidy_event : (most : ℕ) (e : Event) (p : PairState) → NoHalt e → FindsRoom e p
    → IsFaithful (after_event e p)
    → Neat most p
    → Tidy most (after_event e p).a (after_event e p).b
unfolding after_event
tidy_event most e p h r c n = tidy_at most (end_of e) e p h (room_at e p r) c n

neat_event : (most : ℕ) (e : Event) (p : PairState) → NoHalt e → FindsRoom e p
    → IsFaithful (after_event e p)
    → Neat most p
    → Neat most (after_event e p)
neat_event most e p h r c n = record {
  leads = run-event e p (after_event e p) refl n.leads;
  straight = straight_event e p c n.straight;
  tidy = tidy_event most e p h r c n;
}

first_clear : (e : Event) (rest : List Event) (p : PairState) → StaysClear (e ∷ rest) p
    → NoHalt e
    × (FindsRoom e p × IsFaithful (after_event e p) × StaysClear rest (after_event e p))
first_clear (event.Start e) rest p s = (tt, s)
first_clear (event.Halt e) rest p s = absurd s
first_clear (event.Send e message) rest p s = (tt, s)
first_clear (event.Poll e) rest p s = (tt, s)
first_clear (event.Arrive e bytes) rest p s = (tt, s)
first_clear (event.Expire e) rest p s = (tt, s)
first_clear (event.Take e) rest p s = (tt, s)
first_clear event.Clear rest p s = (tt, s)

neat_run : (most : ℕ) (events : List Event) (p : PairState) → StaysClear events p → Neat most p
    → Neat most (run events p)
unfolding run
neat_run most [] p s n = n
neat_run most (e ∷ rest) p s n =
    let f = first_clear e rest p s in
    let g = f.1 in
    neat_run most rest (after_event e p) g.2 (neat_event most e p f.0 g.0 g.1 n)

tidy_new : (most : ℕ) (config : Config) → IsTidy most (new_end config)
tidy_new most config = record {
  short = tt;
  fresh = λ e. record { starts_is = refl; r_is = refl; n_is = refl; out_is = refl };
  once = omega arith;
  plain = record { quiet = refl; ahead = refl };
  no_naks = tt;
  order = refl;
}

way_new : (most : ℕ) (first second : Config) → Way most (new_end first) (new_end second)
way_new most first second =
    record { rest = []; rest_is = nothing_read most; follows = refl; early = λ e. tt }

neat_new : (first second : Config) → first_refusal first ≡ None → first_refusal second ≡ None
    → first.max ≡ second.max
    → Neat first.max (new_pair first second)
neat_new first second f g same = record {
  leads = run-new first second f g (new_pair first second) refl;
  straight = record { a = well_new first f; b = well_new second g; honest = refl };
  tidy = record {
    longest_x = refl;
    longest_y = sym same;
    here = tidy_new first.max first;
    there = tidy_new first.max second;
    forth = way_new first.max first second;
    back = way_new first.max second first;
  };
}

-- ---- what follows of it

abbrev one_if : Bool → ℕ
one_if b = cond b 1 0

none_among : (sent : List WholeFrame) → NoNaks sent → frames_of is_nak sent ≡ 0
none_among [] n = refl
none_among (f ∷ sent) n =
    let one = ap one_if n.0 in
    let more = none_among sent n.1 in
    let sum = sum_by-cons (λ (g : WholeFrame). cond (is_nak g.0) 1 0) f sent in
    omega (arith, one, more, sum)

wastes_nothing : (most : ℕ) (x : EndState) → IsTidy most x → WastesNothing x
wastes_nothing most x t =
    record {
      no_nak = none_among x.sent t.no_naks;
      once = (drop (before_next x.core.station) x.core.station.out, t.order);
    }

pub clear_wastes_nothing : (first second : Config) (events : List Event)
    → first_refusal first ≡ None
    → first_refusal second ≡ None → first.max ≡ second.max
    → StaysClear events (new_pair first second)
    → WastesNothing (run events (new_pair first second)).a
    × WastesNothing (run events (new_pair first second)).b
clear_wastes_nothing first second events f g same s =
    let n = neat_run first.max events (new_pair first second) s (neat_new first second f g same) in
    (wastes_nothing first.max _ n.tidy.here, wastes_nothing first.max _ n.tidy.there)
