-- What happens at one end of an honest and clean line keeps both links.
use Rattle.std.proofs.Common.{◌≡◌, ℕ, suc, ◌<◌, ◌≤◌, Bool, true, false, cond, List, [], ◌∷◌, ◌++◌}
use Rattle.std.proofs.Common.{map, length, drop, refl, sym, ap, ◌∙◌, subst, arith, length-append}
use Rattle.std.proofs.Common.{Option, Some, None}
use Rattle.std.specs.Prelude.{◌==◌, is_none, is_some, option_map, option_to_list}
use Rattle.std.specs.Prelude.{if◌then◌else◌}
use Rattle.std.proofs.lemmas.List.{map-append, drop-append-le}
use Rattle.ddcmp_frame.specs.Reading.{ReadItem, items, good_frames, good_frames_in}
use Rattle.ddcmp_core.specs.declared.notice.Notice.{Notice}
use Rattle.ddcmp_core.specs.declared.notice.Notice.TheVariants as notice
use Rattle.ddcmp_core.specs.declared.state.State.TheVariants.{Halted, IStart, Running}
use Rattle.ddcmp_core.specs.Core.{CoreView}
use Rattle.ddcmp_core.specs.Counting.{count_plus}
use Rattle.ddcmp_core.specs.Table.{Limits, Frame, Next, Idle, Sends, may_start, after_start}
use Rattle.ddcmp_core.specs.Table.{may_send, after_accept, next, next_frame}
use Rattle.ddcmp_core.specs.Choosing.{after_choose}
use Rattle.ddcmp_core.specs.Table.{StationState, is_halted}
use Rattle.ddcmp_core.specs.declared.station_core.StartRefusal.TheVariants.{NotHalted, Untaken}
use Rattle.ddcmp_core.specs.Laws.{tells_restart}
use Rattle.ddcmp_core.proofs.StartLaws.{next_state, expired_state}
use Rattle.ddcmp_proto.specs.Bytes.{items_added, after_items}
use Rattle.ddcmp_proto.proofs.FeedLaws.{items_added-all, after_items-limits}
use Rattle.ddcmp_pair.specs.declared.event.Event.{Event}
use Rattle.ddcmp_pair.specs.declared.event.Event.TheVariants as event
use Rattle.ddcmp_pair.specs.Place.{place_of, place_from}
use Rattle.ddcmp_pair.specs.Run.{EndState, with_station, restarts_in, whole_frame, frames_polled}
use Rattle.ddcmp_pair.specs.Run.{notices_at}
use Rattle.ddcmp_pair.specs.Run.{after_start_here, after_halt_here, after_send_here}
use Rattle.ddcmp_pair.specs.Run.{after_poll_here, after_arrival_here, after_expire_here}
use Rattle.ddcmp_pair.specs.Run.{after_take_here, after_event_here, is_honest_here}
use Rattle.ddcmp_pair.proofs.Places.{place-stays, good_frames_in-append, place_from-append}
use Rattle.ddcmp_pair.proofs.Relation.{Face, face, Stands, not_begun, begun, Fits, fits_turned}
use Rattle.ddcmp_pair.specs.Choices.{after_choice_here}
use Rattle.ddcmp_pair.proofs.Calls.{fits_halt, fits_expire, fits_take, fits_give, fits_start}
use Rattle.ddcmp_pair.proofs.Calls.{fits_choose}
use Rattle.ddcmp_pair.proofs.Sendings.{frames_next, fits_poll}
use Rattle.ddcmp_pair.proofs.Startups.{starting-kept, starting-sends, starting-starts}
use Rattle.ddcmp_pair.proofs.Arrivals.{seen, on_the_way, Related, NoRestart, items-come}

-- ---- both ends, and what is in flight between them

-- The places of what arrived at each end, and what holds of the frames after them.
pub record Linked (x y : EndState) : Type 0 where
  pub there : ℕ
  pub here : ℕ
  pub there_is : place_of (good_frames y.core.limits.longest y.arrived) x.sent ≡ Some there
  pub here_is : place_of (good_frames x.core.limits.longest x.arrived) y.sent ≡ Some here
  pub there_within : there ≤ length x.sent
  pub here_within : here ≤ length y.sent
  pub related : Related (face x) (face y) (on_the_way there x.sent) (on_the_way here y.sent)

related-turned : (x y : Face) (fs fs' : List Frame) → Related x y fs fs' → Related y x fs' fs
related-turned x y fs fs' r =
    record { fits = fits_turned x y fs fs' r.fits; there = r.here; here = r.there }

pub linked-turned : (x y : EndState) → Linked x y → Linked y x
linked-turned x y h = record {
  there = h.here;
  here = h.there;
  there_is = h.here_is;
  here_is = h.there_is;
  there_within = h.here_within;
  here_within = h.there_within;
  related =
      related-turned (face x) (face y) (on_the_way h.there x.sent) (on_the_way h.here y.sent)
      h.related;
}

-- an end that hasn't started is halted
off : (x : Face) (n t : ℕ) → Stands x n t → x.starts ≡ 0 → x.station.state ≡ Halted
off x n t (not_begun s p g u) z = p
off x n t (begun s c p) z = absurd (omega (arith, s, z))

linked-off : (x y : EndState) → Linked x y → x.starts ≡ 0 → x.core.station.state ≡ Halted
linked-off x y h z = off (face x) h.related.fits.sent h.related.fits.next h.related.fits.stands z

-- an end changes, and neither sends nor receives
linked-kept : (x y z : EndState) (h : Linked x y) → z.sent ≡ x.sent → z.arrived ≡ x.arrived
    → z.core.limits.longest ≡ x.core.limits.longest
    → Related (face z) (face y) (on_the_way h.there x.sent) (on_the_way h.here y.sent) → Linked z y
linked-kept x y z h s a l r = record {
  there = h.there;
  here = h.here;
  there_is = ap (place_of (good_frames y.core.limits.longest y.arrived)) s ∙ h.there_is;
  here_is =
      ap (λ (e : ℕ × List ℕ). place_of (good_frames e.0 e.1) y.sent) (λ i. (l i, a i)) ∙ h.here_is;
  there_within = (let n = ap length s in let w = h.there_within in omega (arith, n, w));
  here_within = h.here_within;
  related =
      subst (λ t. Related (face z) (face y) (on_the_way h.there t) (on_the_way h.here y.sent))
      (sym s) r;
}

-- ---- the user's calls and the timer

related-kept : (x y z : Face) (fs fs' : List Frame) → Related x y fs fs' → Fits z y fs fs'
    → z.starts ≡ x.starts
    → (z.station.state ≡ IStart → x.station.state ≡ IStart)
    → (z.station.state ≡ Running → x.station.state ≡ Running) → Related z y fs fs'
related-kept x y z fs fs' r f n p q = record {
  fits = f;
  there = starting-kept x y z y fs n p (λ e. e) r.there;
  here = starting-kept y x y z fs' refl (λ e. e) q r.here;
}

once-more : (n : ℕ) → count_plus n 1 ≤ 1 → n ≡ 0
once-more n h = omega arith

some-more : (n : ℕ) → 0 < count_plus n 1
some-more n = omega arith

linked-start : (x y : EndState) → (after_start_here x).starts ≤ 1 → Linked x y
    → Linked (after_start_here x) y
linked-start x y l h = by (may_start x.core.station) l
  where
    by : (b : Bool) → cond b (count_plus x.starts 1) x.starts ≤ 1 → Linked (record x {
      core = record x.core { station = cond b (after_start x.core.station) x.core.station };
      starts = cond b (count_plus x.starts 1) x.starts;
    }) y
    by false l = h
    by true l =
        let z = once-more x.starts l in
        let s = some-more x.starts in
        let fs = on_the_way h.there x.sent in
        let fs' = on_the_way h.here y.sent in
        linked-kept x y _ h refl refl refl (record {
          fits = fits_start (face x) (face y) fs fs' (count_plus x.starts 1) z s h.related.fits;
          there = starting-starts (face x) (face y) fs (count_plus x.starts 1) z s h.related.there;
          here =
              starting-kept (face y) (face x) (face y) _ fs' refl (λ e. e) (λ r. absurd (cc r))
              h.related.here;
        })

linked-halt : (x y : EndState) → Linked x y → Linked (after_halt_here x) y
linked-halt x y h =
    linked-kept x y (after_halt_here x) h refl refl refl
    (related-kept (face x) (face y) (face (after_halt_here x)) _ _ h.related
    (fits_halt (face x) (face y) _ _ h.related.fits) refl
    (λ e. absurd (cc e)) (λ r. absurd (cc r)))

linked-send : (x y : EndState) (message : List ℕ) → Linked x y
    → Linked (after_send_here message x) y
linked-send x y message h = by (may_send x.core.limits x.core.station message) refl
  where
    by : (b : Bool) → may_send x.core.limits x.core.station message ≡ b → Linked (record x {
      core =
          record x.core { station = cond b (after_accept x.core.station message) x.core.station };
      given = cond b (x.given ++ message ∷ []) x.given;
    }) y
    by false e = h
    by true e =
        linked-kept x y _ h refl refl refl
        (related-kept (face x) (face y) _ _ _ h.related
        (fits_give (face x) (face y) _ _ message e h.related.fits) refl (λ p. p) (λ r. r))

linked-expire : (x y : EndState) → Linked x y → Linked (after_expire_here x) y
linked-expire x y h =
    let s = expired_state x.core.station in
    linked-kept x y (after_expire_here x) h refl refl refl
    (related-kept (face x) (face y) (face (after_expire_here x)) _ _ h.related
    (fits_expire (face x) (face y) _ _ h.related.fits) refl
    (λ p. sym s ∙ p) (λ r. sym s ∙ r))

linked-take : (x y : EndState) → Linked x y → Linked (after_take_here x) y
linked-take x y h =
    linked-kept x y (after_take_here x) h refl refl refl
    (related-kept (face x) (face y) (face (after_take_here x)) _ _ h.related
    (fits_take (face x) (face y) _ _ h.related.fits) refl (λ p. p) (λ r. r))

-- ---- the user chooses when messages are acknowledged

no-mail : (s : StationState) → may_start s ≡ true → s.inbox ≡ []
no-mail s e = by (is_halted s.state) (length s.inbox == 0) refl e
  where
    empty : (inbox : List (List ℕ)) → (length inbox == 0) ≡ true → inbox ≡ []
    empty [] e = refl
    empty (m ∷ inbox) e =
        absurd (let z : length (m ∷ inbox) ≡ 0 = grind (arith) in omega (arith, z))

    by : (b d : Bool) → (length s.inbox == 0) ≡ d
        → is_none (if b then (if d then None else Some Untaken) else Some NotHalted) ≡ true
        → s.inbox ≡ []
    by true true d e = empty s.inbox d
    by true false d e = absurd (cc e)
    by false b d e = absurd (cc e)

pub linked-choose : (by_user : Bool) (x y : EndState) → Linked x y
    → Linked (after_choice_here by_user x) y
linked-choose by_user x y h = by (may_start x.core.station) refl
  where
    by : (b : Bool) → may_start x.core.station ≡ b
        → Linked
        (with_station (cond b (after_choose by_user x.core.station) x.core.station) x) y
    by false e = h
    by true e =
        linked-kept x y _ h refl refl refl
        (related-kept (face x) (face y) _ _ _ h.related
        (fits_choose (face x) (face y) _ _ by_user (no-mail x.core.station e) h.related.fits)
        refl (λ p. p) (λ r. r))

-- ---- a frame is sent

polled-frames : (t : Next)
    → map seen (option_to_list (option_map whole_frame (next_frame t))) ≡ frames_next t
polled-frames Idle = refl
polled-frames (Sends f u) = refl

linked-poll : (x y : EndState) → Linked x y → Linked (after_poll_here x) y
linked-poll x y h =
    let new = frames_polled x in
    let fs = on_the_way h.there x.sent in
    let fs' = on_the_way h.here y.sent in
    let way : on_the_way h.there (x.sent ++ new) ≡ fs ++ frames_next (next x.core.station) =
    ap (map seen) (drop-append-le h.there x.sent new h.there_within)
    ∙ map-append seen (drop h.there x.sent) new
    ∙ ap (λ l. fs ++ l) (polled-frames (next x.core.station)) in
    let s = next_state x.core.station in
    record {
      there = h.there;
      here = h.here;
      there_is =
          place-stays (good_frames y.core.limits.longest y.arrived) x.sent new (Some 0)
          h.there h.there_is;
      here_is = h.here_is;
      there_within =
          (let l = length-append x.sent new in let w = h.there_within in omega (arith, l, w));
      here_within = h.here_within;
      related = subst (λ l. Related (face (after_poll_here x)) (face y) l fs') (sym way) (record {
        fits = fits_poll (face x) (face y) fs fs' h.related.fits;
        there = starting-sends (face x) (face y) fs (λ z. linked-off x y h z) h.related.there;
        here =
            starting-kept (face y) (face x) (face y) (face (after_poll_here x)) fs' refl (λ e. e)
            (λ r. sym s ∙ r) h.related.here;
      });
    }

-- ---- bytes arrive

-- no end restarts where none is reported
pub none-anew : (notices : List Notice) → NoRestart notices → restarts_in notices ≡ 0
none-anew [] q = refl
none-anew (n ∷ notices) q =
    by n (q 0 n (omega arith)) (none-anew notices (λ i d h. q (suc i) d (omega arith)))
  where
    by : (n : Notice) → tells_restart n ≡ false → restarts_in notices ≡ 0
        → restarts_in (n ∷ notices) ≡ 0
    by (notice.Restarted dropped) e z = absurd (cc e)
    by notice.PeerRestarted e z = absurd (cc e)
    by notice.Running e z = z
    by notice.RunningAndHandedUp e z = z
    by (notice.Acknowledged m) e z = z
    by notice.HandedUp e z = z
    by (notice.HandedUpAndAcknowledged m) e z = z
    by notice.PeerStarts e z = z
    by notice.MaintenanceSeen e z = z
    by notice.MaintenanceHandedUp e z = z
    by notice.MaintenanceDropped e z = z

longest-stays : (given : List ReadItem) (k : CoreView)
    → k.limits.longest ≡ (after_items given k).limits.longest
longest-stays given k = ap (λ (l : Limits). l.longest) (sym (after_items-limits given k))

pub record LinkedArrival (bytes : List ℕ) (x y : EndState) : Type 0 where
  pub linked : Linked (after_arrival_here bytes x) y
  pub quiet : NoRestart (notices_at bytes x)

pub same-starts : (n k : ℕ) → n ≤ 1 → k ≡ 0 → count_plus n k ≡ n
same-starts n k l z = omega (arith, l, z)

arrived : (bytes : List ℕ) (x y : EndState) (next : ℕ) → x.starts ≤ 1
    → place_of (good_frames x.core.limits.longest (x.arrived ++ bytes)) y.sent ≡ Some next
    → Linked x y → LinkedArrival bytes x y
arrived bytes x y next once honest h =
    let max = x.core.limits.longest in
    let given = items_added max x.arrived bytes in
    let good : good_frames max (x.arrived ++ bytes)
    ≡ good_frames max x.arrived ++ good_frames_in given =
    ap good_frames_in (items_added-all max x.arrived bytes)
    ∙ good_frames_in-append (items max x.arrived) given in
    let leads : place_from (Some h.here) (good_frames_in given) y.sent ≡ Some next =
    ap (λ p. place_from p (good_frames_in given) y.sent) (sym h.here_is)
    ∙ sym (place_from-append (Some 0) (good_frames max x.arrived) (good_frames_in given) y.sent)
    ∙ ap (λ l. place_of l y.sent) (sym good) ∙ honest in
    let c =
    items-come given x.core (face x) x.acknowledged (face y) (on_the_way h.there x.sent)
    y.sent h.here next h.here_within leads h.related in
    let same : x.starts ≡ count_plus x.starts (restarts_in (notices_at bytes x)) =
    sym (same-starts x.starts _ once (none-anew (notices_at bytes x) c.quiet)) in
    record {
      linked = record {
        there = h.there;
        here = next;
        there_is = h.there_is;
        here_is =
            subst (λ l. place_of (good_frames l (x.arrived ++ bytes)) y.sent ≡ Some next)
            (longest-stays given x.core) honest;
        there_within = h.there_within;
        here_within = c.within;
        related =
            subst
            (λ n. Related (record (face (after_arrival_here bytes x)) { starts = n }) (face y)
            (on_the_way h.there x.sent) (on_the_way next y.sent)) same c.related;
      };
      quiet = c.quiet;
    }

pub linked-arrival : (bytes : List ℕ) (x y : EndState) → x.starts ≤ 1
    → is_some (place_of (good_frames x.core.limits.longest (x.arrived ++ bytes)) y.sent) ≡ true
    → Linked x y → LinkedArrival bytes x y
linked-arrival bytes x y once honest h =
    by (place_of (good_frames x.core.limits.longest (x.arrived ++ bytes)) y.sent) refl honest
  where
    by : (o : Option ℕ)
        → place_of (good_frames x.core.limits.longest (x.arrived ++ bytes)) y.sent ≡ o
        → is_some o ≡ true → LinkedArrival bytes x y
    by None e s = absurd (cc)
    by (Some next) e s = arrived bytes x y next once e h

-- ---- each event

pub starts-grow : (e : Event) (x : EndState) → (after_event_here e x).starts ≤ 1 → x.starts ≤ 1
starts-grow (event.Start e) x l = by (may_start x.core.station) l
  where
    by : (b : Bool) → cond b (count_plus x.starts 1) x.starts ≤ 1 → x.starts ≤ 1
    by true l = omega (arith, l)
    by false l = l
starts-grow (event.Halt e) x l = l
starts-grow (event.Send e message) x l = l
starts-grow (event.Poll e) x l = l
starts-grow (event.Arrive e bytes) x l = omega (arith, l)
starts-grow (event.Expire e) x l = l
starts-grow (event.Take e) x l = l
starts-grow event.Clear x l = l

pub linked-event : (e : Event) (x y : EndState) → (after_event_here e x).starts ≤ 1
    → is_honest_here e x y.sent ≡ true → Linked x y
    → Linked (after_event_here e x) y
linked-event (event.Start e) x y l f h = linked-start x y l h
linked-event (event.Halt e) x y l f h = linked-halt x y h
linked-event (event.Send e message) x y l f h = linked-send x y message h
linked-event (event.Poll e) x y l f h = linked-poll x y h
linked-event (event.Arrive e bytes) x y l f h =
    (linked-arrival bytes x y (starts-grow (event.Arrive e bytes) x l) f h).linked
linked-event (event.Expire e) x y l f h = linked-expire x y h
linked-event (event.Take e) x y l f h = linked-take x y h
linked-event event.Clear x y l f h = h
