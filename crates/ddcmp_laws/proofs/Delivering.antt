-- Two ends on a line that loses nothing, with the frames in flight as their numbers show them.
use Rattle.std.proofs.Common.{◌≡◌, ℕ, ◌+◌, ◌<◌, ◌≤◌, Bool, true, false, cond, List, [], ◌∷◌, ◌++◌}
use Rattle.std.proofs.Common.{length, drop, Option, Some, None, refl, sym, ap, ◌∙◌, subst, arith}
use Rattle.std.proofs.Common.{append-nil}
use Rattle.std.specs.Prelude.{option_map, option_to_list}
use Rattle.std.proofs.lemmas.List.Sums.{sum_by-append}
use Rattle.ddcmp_frame.specs.declared.item.Item.TheVariants as item
use Rattle.ddcmp_frame.specs.Reading.{ReadItem, open_at_end}
use Rattle.ddcmp_frame.proofs.FrameLaws.{whole-items}
use Rattle.ddcmp_core.specs.declared.notice.Notice.{Notice}
use Rattle.ddcmp_core.specs.Frames.{header_of, message_of}
use Rattle.ddcmp_core.specs.Counting.{counters_after_next}
use Rattle.ddcmp_core.specs.Core.{CoreView, IsSound, IsTimed}
use Rattle.ddcmp_core.specs.declared.state.State.{State}
use Rattle.ddcmp_core.specs.declared.state.State.TheVariants.{Halted, IStart, AStart, Running}
use Rattle.ddcmp_core.specs.declared.state.State.TheVariants.{Maintenance}
use Rattle.ddcmp_core.specs.Table.{Limits, StationState, Frame, Good, Next, Idle, Sends, next}
use Rattle.ddcmp_core.specs.Table.{next_frame, after_next, may_send, after_accept, is_running}
use Rattle.ddcmp_core.specs.Table.{notice_of, acknowledged_by}
use Rattle.ddcmp_core.proofs.ModeLaws.{mode_on}
use Rattle.ddcmp_core.proofs.Sent.{sending}
use Rattle.ddcmp_core.proofs.StartLaws.{read_sent}
use Rattle.ddcmp_proto.specs.Bytes.{received_of, after_item, after_items, notices_of_item}
use Rattle.ddcmp_proto.specs.Bytes.{notices_of_items, items_added, frame_on_line}
use Rattle.ddcmp_proto.proofs.FeedLaws.{items_added-is, items_added-append, after_piece-limits}
use Rattle.ddcmp_pair.specs.Run.{EndState, acknowledged_in, line_bytes, whole_frame}
use Rattle.ddcmp_pair.specs.Run.{after_send_here, after_poll_here, after_arrival_here}
use Rattle.ddcmp_pair.specs.Run.{after_expire_here, after_take_here}
use Rattle.ddcmp_pair.proofs.Relation.{Face, face}
use Rattle.ddcmp_pair.proofs.Receptions.{hearing}
use Rattle.ddcmp_pair.proofs.Arrivals.{faced}
use Rattle.ddcmp_pair.proofs.Views.{View}
use Rattle.ddcmp_laws.specs.LossFree.{bytes_or_none}
use Rattle.ddcmp_laws.proofs.Settling.{Fine, drop_front}
use Rattle.ddcmp_laws.proofs.Flights.{Flight, frame}
use Rattle.ddcmp_laws.proofs.Traffic.{Base, Bounds, polls-here, polls-there, hears-here}
use Rattle.ddcmp_laws.proofs.Traffic.{hears-there, gives-here, same-there}
use Rattle.ddcmp_laws.proofs.Hearing.{sight, Counted, HeardAs, hears-as, bounds-of}
use Rattle.ddcmp_laws.proofs.Acting.{with, ActsAs, acts-as, expires-as, takes-as, takes-counted}
use Rattle.ddcmp_laws.proofs.Acting.{giving, gives-as, gives-counted}
use Rattle.ddcmp_laws.proofs.Staying.{Stays, expires-here, expires-there}

-- these items are these frames
unfoldable pub Carried : List ReadItem → List Flight → Type 0
Carried [] [] = Unit {0}
Carried [] (f ∷ fs) = ⊥
Carried (g ∷ gs) [] = ⊥
Carried (g ∷ gs) (f ∷ fs) = (received_of g ≡ Good (frame f)) × Carried gs fs

carried-behind : (gs : List ReadItem) (fs : List Flight) (g : ReadItem) (f : Flight)
    → received_of g ≡ Good (frame f) → Carried gs fs → Carried (gs ++ g ∷ []) (fs ++ f ∷ [])
unfolding Carried
carried-behind [] [] g f e c = (e, tt)
carried-behind [] (h ∷ fs) g f e c = absurd c
carried-behind (k ∷ gs) [] g f e c = absurd c
carried-behind (k ∷ gs) (h ∷ fs) g f e c = (c.0, carried-behind gs fs g f e c.1)

told-one : (o : Option Notice) → acknowledged_in (option_to_list o) ≡ acknowledged_by o
told-one None = refl
told-one (Some n) = omega arith

is-running : (p : State) → is_running p ≡ true → p ≡ Running
is-running Running e = refl
is-running Halted e = absurd (cc e)
is-running IStart e = absurd (cc e)
is-running AStart e = absurd (cc e)
is-running Maintenance e = absurd (cc e)

-- ---- both ends

pub record Both (x y : Face) (fl gl : List Flight) : Type 0 where
  pub base : Base x.limits.window (sight x) (sight y) fl gl
  pub base_there : Base y.limits.window (sight y) (sight x) gl fl
  pub counted : Counted x
  pub counted_there : Counted y

both-turned : (x y : Face) (fl gl : List Flight) → Both x y fl gl → Both y x gl fl
both-turned x y fl gl h =
    record {
      base = h.base_there;
      base_there = h.base;
      counted = h.counted_there;
      counted_there = h.counted;
    }

module _ (Knows : Bool → Bool → View → View → List Flight → List Flight → Type 0)
    (stays : Stays Knows) where
  -- here are the bytes in flight to x, there those to y
  pub record Flies (p q : Bool) (x y : EndState) (here there : List ℕ) : Type 0 where
    pub fl : List Flight
    pub gl : List Flight
    pub both : Both (face x) (face y) fl gl
    pub knows : Knows p q (sight (face x)) (sight (face y)) fl gl
    pub to_there : Carried (items_added y.core.limits.longest y.arrived there) fl
    pub to_here : Carried (items_added x.core.limits.longest x.arrived here) gl

  pub flies-turned : (p q : Bool) (x y : EndState) (here there : List ℕ) → Flies p q x y here there
      → Flies q p y x there here
  flies-turned p q x y here there h = record {
    fl = h.gl;
    gl = h.fl;
    both = both-turned (face x) (face y) h.fl h.gl h.both;
    knows = stays.turned p q (sight (face x)) (sight (face y)) h.fl h.gl h.knows;
    to_there = h.to_here;
    to_here = h.to_there;
  }

  -- ---- x sends

  polled : EndState → Next → EndState
  polled x z = record x {
    core =
        record x.core {
          station = after_next z x.core.station;
          counters = counters_after_next x.core.station z x.core.counters;
        };
    sent = x.sent ++ option_to_list (option_map whole_frame (next_frame z));
  }

  one-more : (l : Limits) (s u : StationState) (f : Frame) (syn : ℕ) → IsSound l s
      → next s ≡ Sends f u → (y : EndState) → l.longest ≡ y.core.limits.longest → (way : List ℕ)
      → open_at_end y.core.limits.longest (y.arrived ++ way) ≡ 0
      → (fs : List Flight) (g : Flight) → frame g ≡ f
      → Carried (items_added y.core.limits.longest y.arrived way) fs
      → Carried (items_added y.core.limits.longest y.arrived (way ++ frame_on_line syn f))
      (fs ++ g ∷ [])
  one-more l s u f syn h e y same way closed fs g is c =
      let r = read_sent l s f u h e in
      let m = y.core.limits in
      let text = y.arrived ++ way in
      let bytes = frame_on_line syn f in
      let i : ReadItem = (item.Good (length text + syn) (header_of f), message_of f) in
      let fits : length (message_of f) ≤ m.longest = omega (arith, r.3, same) in
      let more = whole-items m.longest text (message_of f) syn (header_of f) closed r.2 r.1 fits in
      let added =
      items_added-append m.longest y.arrived way bytes
      ∙ ap (λ z. items_added m.longest y.arrived way ++ z)
      (items_added-is m.longest text bytes (i ∷ []) more) in
      subst (λ z. Carried z (fs ++ g ∷ [])) (sym added)
      (carried-behind (items_added m.longest y.arrived way) fs i g (ap Good (r.0 ∙ sym is)) c)

  pub flies-polls : (n : ℕ) (p q : Bool) (x y : EndState) (here there : List ℕ)
      → x.core.limits.longest ≡ y.core.limits.longest → Fine n x here → Fine n y there
      → Flies p q x y here there
      → Flies p q (after_poll_here x) y here (there ++ bytes_or_none (line_bytes x))
  unfolding polled
  flies-polls n p q x y here there same fx fy h =
      by (next x.core.station) refl
      (acts-as (face x) h.both.base.awake h.both.base.no_maintenance h.both.counted fx.early
      (next x.core.station) (sending x.core.station))
    where
      by : (z : Next) → next x.core.station ≡ z → ActsAs (face x) z
          → Flies p q (polled x z) y here
          (there ++ bytes_or_none (option_map (frame_on_line x.syn) (next_frame z)))
      by Idle e a = record {
        fl = h.fl;
        gl = h.gl;
        both = h.both;
        knows = h.knows;
        to_there =
            subst (λ w. Carried (items_added y.core.limits.longest y.arrived w) h.fl)
            (sym (append-nil there)) h.to_there;
        to_here = h.to_here;
      }
      by (Sends f u) e a =
          let b = h.both in
          let v = sight (face x) in
          let w = sight (face y) in
          let v' = sight (with u (face x)) in
          let W = x.core.limits.window in
          let V = y.core.limits.window in
          record {
            fl = h.fl ++ a.flight ∷ [];
            gl = h.gl;
            both =
                record {
                  base =
                      polls-here W V v w h.fl h.gl b.base b.base_there v' a.flight a.polls
                      (bounds-of (with u (face x)) a.counted);
                  base_there =
                      polls-there W V v w h.fl h.gl b.base b.base_there v' a.flight a.polls;
                  counted = a.counted;
                  counted_there = b.counted_there;
                };
            knows =
                stays.polls W V p q v w h.fl h.gl b.base b.base_there v' a.flight a.polls h.knows;
            to_there =
                one-more x.core.limits x.core.station u f x.syn fx.sound e y same there
                fy.whole.closed h.fl a.flight a.frame_is h.to_there;
            to_here = h.to_here;
          }

  -- ---- items come to x

  record Come (p q : Bool) (given rest : List ReadItem) (k : CoreView) (x : Face) (told : ℕ)
      (y : Face) (fl : List Flight) : Type 0 where
    gl : List Flight
    both : Both (faced (after_items given k) x (told + acknowledged_in (notices_of_items given k)))
        y fl gl
    knows : Knows p q
        (sight (faced (after_items given k) x (told + acknowledged_in (notices_of_items given k))))
        (sight y) fl gl
    carried : Carried rest gl

  come-none : (p q : Bool) (rest : List ReadItem) (k : CoreView) (x : Face) (told : ℕ) (y : Face)
      (fl gl : List Flight) → Both (faced k x told) y fl gl
      → Knows p q (sight (faced k x told)) (sight y) fl gl → Carried rest gl
      → Come p q [] rest k x told y fl
  unfolding after_items notices_of_items
  come-none p q rest k x told y fl gl b i c =
      let e : told ≡ told + 0 = omega arith in
      record {
        gl = gl;
        both = subst (λ n. Both (faced k x n) y fl gl) e b;
        knows = subst (λ n. Knows p q (sight (faced k x n)) (sight y) fl gl) e i;
        carried = c;
      }

  come-more : (p q : Bool) (g : ReadItem) (given rest : List ReadItem) (k : CoreView) (x : Face)
      (told : ℕ) (y : Face) (fl : List Flight)
      → Come p q given rest (after_item g k) x
      (told + acknowledged_by (notice_of k.limits k.station (received_of g))) y fl
      → Come p q (g ∷ given) rest k x told y fl
  unfolding after_items notices_of_items
  come-more p q g given rest k x told y fl c =
      let sum =
      sum_by-append (λ n. acknowledged_by (Some n)) (notices_of_item g k)
      (notices_of_items given (after_item g k)) in
      let one = told-one (notice_of k.limits k.station (received_of g)) in
      let e : told + acknowledged_by (notice_of k.limits k.station (received_of g))
      + acknowledged_in (notices_of_items given (after_item g k))
      ≡ told + acknowledged_in (notices_of_items (g ∷ given) k) = omega (arith, sum, one) in
      record {
        gl = c.gl;
        both =
            subst (λ n. Both (faced (after_items given (after_item g k)) x n) y fl c.gl) e c.both;
        knows =
            subst
            (λ n. Knows p q (sight (faced (after_items given (after_item g k)) x n)) (sight y)
            fl c.gl) e c.knows;
        carried = c.carried;
      }

  both-heard : (x y : Face) (fl : List Flight) (f : Flight) (gl : List Flight) (s : StationState)
      (n : ℕ) → Both x y fl (f ∷ gl) → HeardAs x f (record x { station = s; acknowledged = n })
      → Both (record x { station = s; acknowledged = n }) y fl gl
  both-heard x y fl f gl s n b h =
      let x' : Face = record x { station = s; acknowledged = n } in
      record {
        base =
            hears-here x.limits.window y.limits.window (sight x) (sight y)
            fl f gl b.base b.base_there (sight x') h.heard (bounds-of x' h.counted);
        base_there =
            hears-there x.limits.window y.limits.window (sight x) (sight y)
            fl f gl b.base b.base_there (sight x') h.heard;
        counted = h.counted;
        counted_there = b.counted_there;
      }

  comes : (p q : Bool) (given rest : List ReadItem) (k : CoreView) (x : Face) (told : ℕ) (y : Face)
      (fl gl : List Flight) → k.station.by_user ≡ false → Carried (given ++ rest) gl
      → Both (faced k x told) y fl gl → Knows p q (sight (faced k x told)) (sight y) fl gl → Come p q given rest k x told y fl
  unfolding Carried
  comes p q [] rest k x told y fl gl early c b i = come-none p q rest k x told y fl gl b i c
  comes p q (g ∷ given) rest k x told y fl [] early c b i = absurd c
  comes p q (g ∷ given) rest k x told y fl (f ∷ gl) early c b i =
      let x0 = faced k x told in
      let h : HeardAs x0 f (hearing x0 (received_of g)) =
      subst (λ r. HeardAs x0 f (hearing x0 r)) (sym c.0)
      (hears-as x0 y fl f gl b.base b.base_there b.counted b.counted_there early) in
      let told' = told + acknowledged_by (notice_of k.limits k.station (received_of g)) in
      let n = both-heard x0 y fl f gl (after_item g k).station told' b h in
      come-more p q g given rest k x told y fl
      (comes p q given rest (after_item g k) x told' y fl gl
      (mode_on k.limits k.station (received_of g) ∙ early) c.1 n
      (stays.hears k.limits.window y.limits.window p q (sight x0) (sight y)
      fl f gl b.base b.base_there (sight (faced (after_item g k) x told'))
      n.base n.base_there h.heard i))

  pub flies-arrives : (p q : Bool) (x y : EndState) (bytes rest here there : List ℕ)
      → bytes ++ rest ≡ here → x.core.station.by_user ≡ false → Flies p q x y here there
      → Flies p q (after_arrival_here bytes x) y (drop (length bytes) here) there
  flies-arrives p q x y bytes rest here there e early h =
      let l = x.core.limits in
      let first = items_added l.longest x.arrived bytes in
      let later = items_added l.longest (x.arrived ++ bytes) rest in
      let split : items_added l.longest x.arrived here ≡ first ++ later =
      ap (λ z. items_added l.longest x.arrived z) (sym e)
      ∙ items_added-append l.longest x.arrived bytes rest in
      let c =
      comes p q first later x.core (face x) x.acknowledged (face y) h.fl h.gl early
      (subst (λ z. Carried z h.gl) split h.to_here) h.both h.knows in
      let same = ap (λ (m : Limits). m.longest) (after_piece-limits x.arrived bytes x.core) in
      let left : drop (length bytes) here ≡ rest =
      ap (drop (length bytes)) (sym e) ∙ drop_front bytes rest in
      record {
        fl = h.fl;
        gl = c.gl;
        both =
            record {
              base = c.both.base;
              base_there = c.both.base_there;
              counted = c.both.counted;
              counted_there = c.both.counted_there;
            };
        knows = c.knows;
        to_there = h.to_there;
        to_here =
            subst (λ (z : ℕ × List ℕ). Carried (items_added z.0 (x.arrived ++ bytes) z.1) c.gl)
            (λ i. (sym same i, sym left i)) c.carried;
      }

  -- ---- the timer of x expires, and its user takes and gives

  pub flies-expires : (p q : Bool) (x y : EndState) (here there : List ℕ) → IsTimed x.core.station
      → Flies p q x y here there → Flies true q (after_expire_here x) y here there
  flies-expires p q x y here there t h =
      let b = h.both in
      let a = expires-as (face x) b.base.awake b.base.no_maintenance b.counted t in
      let x' = face (after_expire_here x) in
      let W = x.core.limits.window in
      let V = y.core.limits.window in
      record {
        fl = h.fl;
        gl = h.gl;
        both =
            record {
              base =
                  expires-here W V (sight (face x)) (sight (face y)) h.fl h.gl b.base b.base_there
                  (sight x') a.expires;
              base_there =
                  expires-there W V (sight (face x)) (sight (face y)) h.fl h.gl b.base b.base_there
                  (sight x') a.expires;
              counted = a.counted;
              counted_there = b.counted_there;
            };
        knows =
            stays.expires W V p q (sight (face x)) (sight (face y)) h.fl h.gl b.base b.base_there
            (sight x') a.expires h.knows;
        to_there = h.to_there;
        to_here = h.to_here;
      }

  pub flies-takes : (p q : Bool) (x y : EndState) (here there : List ℕ)
      → x.core.station.by_user ≡ false → Flies p q x y here there
      → Flies p q (after_take_here x) y here there
  flies-takes p q x y here there early h =
      let b = h.both in
      let e = takes-as (face x) early in
      record {
        fl = h.fl;
        gl = h.gl;
        both =
            record {
              base =
                  subst (λ (v : View). Base x.core.limits.window v (sight (face y)) h.fl h.gl)
                  (sym e) b.base;
              base_there =
                  subst (λ (v : View). Base y.core.limits.window (sight (face y)) v h.gl h.fl)
                  (sym e) b.base_there;
              counted = takes-counted (face x) early b.counted;
              counted_there = b.counted_there;
            };
        knows = subst (λ (v : View). Knows p q v (sight (face y)) h.fl h.gl) (sym e) h.knows;
        to_there = h.to_there;
        to_here = h.to_here;
      }

  send-means : (l : Limits) (s : StationState) (m : List ℕ) → may_send l s m ≡ true
      → (is_running s.state ≡ true) × (length s.out < l.window)
  send-means l s m e = grind (arith)

  runs : (s : StationState) → is_running s.state ≡ true → s.state ≡ Running
  runs s e = is-running s.state e

  pub flies-sends : (p q : Bool) (x y : EndState) (m here there : List ℕ) → Flies p q x y here there
      → Flies p q (after_send_here m x) y here there
  flies-sends p q x y m here there h = by (may_send x.core.limits x.core.station m) refl
    where
      by : (c : Bool) → may_send x.core.limits x.core.station m ≡ c
          → Flies p q
          (record x {
            core = record x.core
                { station = cond c (after_accept x.core.station m) x.core.station };
            given =
                cond c (x.given ++ m ∷ []) x.given;
          }) y here there
      by false e = h
      by true e =
          let b = h.both in
          let s = send-means x.core.limits x.core.station m e in
          let g = gives-as (face x) m in
          let c = gives-counted (face x) m s.1 b.counted in
          let W = x.core.limits.window in
          let V = y.core.limits.window in
          let v = sight (face x) in
          let w = sight (face y) in
          let n = v.given + 1 in
          let bounds = subst (Bounds W) g (bounds-of (giving m (face x)) c) in
          record {
            fl = h.fl;
            gl = h.gl;
            both =
                record {
                  base =
                      subst (λ (u : View). Base W u w h.fl h.gl) (sym g)
                      (gives-here W V v w h.fl h.gl b.base b.base_there n (runs x.core.station s.0)
                      bounds);
                  base_there =
                      subst (λ (u : View). Base V w u h.gl h.fl) (sym g)
                      (same-there W V v w h.fl h.gl b.base b.base_there (record v { given = n })
                      refl refl);
                  counted = c;
                  counted_there = b.counted_there;
                };
            knows =
                subst (λ (u : View). Knows p q u w h.fl h.gl) (sym g)
                (stays.gives p q v w h.fl h.gl n h.knows);
            to_there = h.to_there;
            to_here = h.to_here;
          }
