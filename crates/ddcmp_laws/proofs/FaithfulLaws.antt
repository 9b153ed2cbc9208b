-- A line that loses and changes nothing is honest.
use Rattle.std.proofs.Common.{◌≡◌, ℕ, ◌+◌, ◌<◌, ◌≤◌, inl, inr, Bool, true, false, cond, List, []}
use Rattle.std.proofs.Common.{◌∷◌, ◌++◌, length, drop, refl, sym, ◌∙◌, ap, subst, arith}
use Rattle.std.proofs.Common.{append_assoc, Option, Some, None}
use Rattle.std.specs.Prelude.{replicate, nat_lt, is_some, ◌&&◌, option_map, option_to_list}
use Rattle.std.proofs.lemmas.List.{append-nil}
use Rattle.ddcmp_frame.specs.declared.item.Item.TheVariants.{Good as GoodItem, TooLong as LongItem}
use Rattle.ddcmp_frame.specs.Spelling.{IsInRange}
use Rattle.ddcmp_frame.specs.Wire.{wire, IsFrame}
use Rattle.ddcmp_frame.specs.Reading.{ReadItem, items, open_at_end, good_frames_in, good_frames}
use Rattle.ddcmp_frame.proofs.FrameLaws.{whole-items, whole-closed}
use Rattle.ddcmp_frame.proofs.ReadingLaws.{items-more, items-nothing, ending-nothing, good-more}
use Rattle.ddcmp_core.specs.declared.station_core.StartRefusal.{StartRefusal}
use Rattle.ddcmp_core.specs.Table.{StationState, Limits, Frame, Data, Acked, Naked, Rep, Strt}
use Rattle.ddcmp_core.specs.Table.{Stack, Maint, Good, Next, Idle, Sends, next, next_frame}
use Rattle.ddcmp_core.specs.Table.{new_station, may_start, after_start, may_send, after_accept}
use Rattle.ddcmp_core.specs.NextFrame.{SentFor, sends_strt, sends_stack, sends_nak, sends_rep}
use Rattle.ddcmp_core.specs.NextFrame.{sends_data, sends_ack, sends_maint, halted_idles}
use Rattle.ddcmp_core.specs.NextFrame.{starting_idles, running_idles, maintenance_idles}
use Rattle.ddcmp_core.specs.Frames.{frame_of, header_of, message_of}
use Rattle.ddcmp_laws.proofs.Early.{resp-byte}
use Rattle.ddcmp_core.specs.Core.{CoreView, IsSound, IsReceivable}
use Rattle.ddcmp_core.specs.Store.{IsStored}
use Rattle.ddcmp_core.proofs.Sent.{sending}
use Rattle.ddcmp_core.proofs.StartLaws.{read_sent}
use Rattle.ddcmp_core.proofs.Sound.{sound_new, sound_on, sound_next, sound_started, sound_halted}
use Rattle.ddcmp_core.proofs.Sound.{sound_accepted, sound_taken, sound_expired}
use Rattle.ddcmp_proto.specs.Bytes.{received_of, after_item, after_items, items_added}
use Rattle.ddcmp_proto.specs.Bytes.{frame_on_line}
use Rattle.ddcmp_proto.specs.Config.{first_refusal, limits_of}
use Rattle.ddcmp_proto.specs.declared.config.Config.{Config}
use Rattle.ddcmp_io.specs.declared.carrier.End.{End}
use Rattle.ddcmp_io.specs.declared.carrier.End.TheVariants.{A, B}
use Rattle.ddcmp_pair.specs.declared.event.Event.{Event}
use Rattle.ddcmp_pair.specs.declared.event.Event.TheVariants as event
use Rattle.ddcmp_pair.specs.declared.event.Reply.TheVariants as reply
use Rattle.ddcmp_pair.specs.Place.{WholeFrame, place_of, IsSubsequence}
use Rattle.ddcmp_pair.specs.Run.{EndState, PairState, at, wrote, reply_to, whole_frame}
use Rattle.ddcmp_pair.specs.Run.{clear_refusal, after_clear_by, after_event, after_event_here, run}
use Rattle.ddcmp_pair.specs.Run.{new_end, new_pair}
use Rattle.ddcmp_pair.proofs.Subsequences.{place-decides}
use Rattle.ddcmp_laws.specs.Faithful.{bytes_of, written, IsFaithful, StaysFaithful}
use Rattle.ddcmp_laws.specs.Prefix.{Begins}
use Rattle.ddcmp_laws.proofs.PassedLaws.{passed_items, passed_closed}

-- ---- frames that a station sends

-- a frame that any station reads that takes messages as long
pub record IsWritable (f : WholeFrame) : Type 0 where
  pub in_range : IsInRange f.0
  pub frame : IsFrame f.0 f.1
  pub receivable : (l : Limits) → length f.1 ≤ l.longest → IsReceivable l (Good (frame_of f.0 f.1))

abbrev pub AllWritable : List WholeFrame → Type 0
AllWritable [] = Unit {0}
AllWritable (f ∷ rest) = IsWritable f × AllWritable rest

writable_more : (sent : List WholeFrame) (f : WholeFrame) → AllWritable sent → IsWritable f
    → AllWritable (sent ++ f ∷ [])
writable_more [] f all w = (w, tt)
writable_more (g ∷ sent) f all w = (all.0, writable_more sent f all.1 w)

abbrev HasBytes : Next → Type 0
HasBytes (Sends (Data resp num message) u) = (resp < 256) × (num < 256)
HasBytes (Sends (Acked resp) u) = resp < 256
HasBytes (Sends (Naked why resp) u) = resp < 256
HasBytes (Sends (Rep num) u) = Unit {0}
HasBytes (Sends Strt u) = Unit {0}
HasBytes (Sends Stack u) = Unit {0}
HasBytes (Sends (Maint message) u) = Unit {0}
HasBytes Idle = Unit {0}

has_bytes : (l : Limits) (s : StationState) (t : Next) → IsSound l s → SentFor s t → HasBytes t
has_bytes l s _ h (sends_strt p d) = tt
has_bytes l s _ h (sends_stack p d) = tt
has_bytes l s _ h (sends_nak why p r) = resp-byte s h.r_byte
has_bytes l s _ h (sends_rep p r f) = tt
has_bytes l s _ h (sends_data p r f place) = (resp-byte s h.r_byte, h.in_window.t_byte)
has_bytes l s _ h (sends_ack p r f place) = resp-byte s h.r_byte
has_bytes l s _ h (sends_maint m ms p o) = tt
has_bytes l s _ h (halted_idles p) = tt
has_bytes l s _ h (starting_idles p d) = tt
has_bytes l s _ h (running_idles p r f place) = tt
has_bytes l s _ h (maintenance_idles p o) = tt

receivable_by : (m : Limits) (f : Frame) (u : StationState) → HasBytes (Sends f u)
    → IsInRange (header_of f) → length (message_of f) ≤ m.longest → IsReceivable m (Good f)
receivable_by m (Data resp num message) u h r k = (h.0, h.1, omega (arith, r.0), k)
receivable_by m (Acked resp) u h r k = h
receivable_by m (Naked why resp) u h r k = h
receivable_by m (Rep num) u h r k = tt
receivable_by m Strt u h r k = tt
receivable_by m Stack u h r k = tt
receivable_by m (Maint message) u h r k = (omega (arith, r.0), k)

writable_sent : (l : Limits) (s u : StationState) (f : Frame) → IsSound l s → next s ≡ Sends f u
    → IsWritable (whole_frame f)
writable_sent l s u f sound e =
    let r = read_sent l s f u sound e in
    record {
      in_range = r.2;
      frame = r.1;
      receivable =
          λ m k. subst (λ x. IsReceivable m (Good x)) (sym r.0)
          (receivable_by m f u (subst HasBytes e (has_bytes l s (next s) sound (sending s))) r.2 k);
    }

-- ---- what they are read as

abbrev pub AllReceivable : Limits → List ReadItem → Type 0
AllReceivable l [] = Unit {0}
AllReceivable l (given ∷ rest) = IsReceivable l (received_of given) × AllReceivable l rest

all_front : (l : Limits) (x y : List ReadItem) → AllReceivable l (x ++ y) → AllReceivable l x
all_front l [] y all = tt
all_front l (g ∷ x) y all = (all.0, all_front l x y all.1)

pub all_behind : (l : Limits) (x y : List ReadItem) → AllReceivable l (x ++ y)
    → AllReceivable l (drop (length x) (x ++ y))
all_behind l [] y all = all
all_behind l (g ∷ x) y all = all_behind l x y all.1

pub one_more : (fs sent : List WholeFrame) (g : WholeFrame) → IsSubsequence fs sent
    → IsSubsequence fs (g ∷ sent)
one_more [] sent g s = tt
one_more (f ∷ fs) sent g s = inr s

pub front_of : (fs gs sent : List WholeFrame) → IsSubsequence (fs ++ gs) sent
    → IsSubsequence fs sent
front_of [] gs sent s = tt
front_of (f ∷ fs) gs [] s = s
front_of (f ∷ fs) gs (g ∷ sent) (inl s) = inl (s.0, front_of fs gs sent s.1)
front_of (f ∷ fs) gs (g ∷ sent) (inr s) = inr (front_of (f ∷ fs) gs sent s)

-- frames after a text add items that are in range, and whose good frames are some of them
record Reads (l : Limits) (text more : List ℕ) (frames : List WholeFrame) : Type 0 where
  added : List ReadItem
  items_are : items l.longest (text ++ more) ≡ items l.longest text ++ added
  receivable : AllReceivable l added
  good : IsSubsequence (good_frames_in added) frames

reads_next : (l : Limits) (fill : ℕ) (text : List ℕ) (f : WholeFrame) (rest : List WholeFrame)
    (given : ReadItem)
    → items l.longest (text ++ (replicate fill 150 ++ wire f.0 f.1))
    ≡ items l.longest text ++ given ∷ []
    → IsReceivable l (received_of given)
    → ((gs : List ReadItem) → IsSubsequence (good_frames_in gs) rest
    → IsSubsequence (good_frames_in (given ∷ gs)) (f ∷ rest))
    → Reads l (text ++ (replicate fill 150 ++ wire f.0 f.1)) (bytes_of fill rest) rest
    → Reads l text (bytes_of fill (f ∷ rest)) (f ∷ rest)
unfolding bytes_of
reads_next l fill text f rest given e c g r =
    let one : List ℕ = replicate fill 150 ++ wire f.0 f.1 in
    record {
      added = given ∷ r.added;
      items_are =
          ap (items l.longest) (sym (append_assoc text one (bytes_of fill rest))) ∙ r.items_are
          ∙ ap (λ (x : List ReadItem). x ++ r.added) e
          ∙ append_assoc (items l.longest text) (given ∷ []) r.added;
      receivable = (c, r.receivable);
      good = g r.added r.good;
    }

reads : (l : Limits) (fill : ℕ) (text : List ℕ) (frames : List WholeFrame)
    → open_at_end l.longest text ≡ 0 → AllWritable frames
    → Reads l text (bytes_of fill frames) frames
unfolding bytes_of good_frames_in
reads l fill text [] none all = record {
  added = [];
  items_are = ap (items l.longest) (append-nil text) ∙ sym (append-nil (items l.longest text));
  receivable = tt;
  good = tt;
}
reads l fill text (f ∷ rest) none all =
    by (nat_lt l.longest (length f.1)) refl (λ t z. reads l fill t rest z all.1)
  where
    by : (b : Bool) → nat_lt l.longest (length f.1) ≡ b
        → ((t : List ℕ) → open_at_end l.longest t ≡ 0 → Reads l t (bytes_of fill rest) rest)
        → Reads l text (bytes_of fill (f ∷ rest)) (f ∷ rest)
    by true e on_from =
        let long : l.longest < length f.1 = grind (arith) in
        reads_next l fill text f rest (LongItem (length text + fill) f.0, [])
        (passed_items l.longest fill text f.1 f.0 none all.0.in_range all.0.frame long) tt
        (λ gs s. one_more (good_frames_in gs) rest f s)
        (on_from (text ++ (replicate fill 150 ++ wire f.0 f.1))
        (passed_closed l.longest fill text f.1 f.0 none all.0.in_range all.0.frame long))
    by false e on_from =
        let short : length f.1 ≤ l.longest = grind (arith) in
        reads_next l fill text f rest (GoodItem (length text + fill) f.0, f.1)
        (whole-items l.longest text f.1 fill f.0 none all.0.in_range all.0.frame short)
        (all.0.receivable l short)
        (λ gs s. inl (refl, s))
        (on_from (text ++ (replicate fill 150 ++ wire f.0 f.1))
        (whole-closed l.longest text f.1 fill f.0 none all.0.in_range all.0.frame short))

all_read : (l : Limits) (fill : ℕ) (frames : List WholeFrame) → AllWritable frames
    → Reads l [] (bytes_of fill frames) frames
all_read l fill frames all =
    reads l fill [] frames (ap (λ p. length p.rest) (ending-nothing l.longest)) all

-- a beginning of what was written
begins_receivable : (l : Limits) (fill : ℕ) (frames : List WholeFrame) (front : List ℕ)
    → AllWritable frames → Begins front (bytes_of fill frames)
    → AllReceivable l (items l.longest front)
begins_receivable l fill frames front all b =
    let r = all_read l fill frames all in
    let whole : items l.longest (bytes_of fill frames) ≡ r.added =
    r.items_are ∙ ap (λ (x : List ReadItem). x ++ r.added) (items-nothing l.longest) in
    let z = items-more l.longest front b.0 in
    all_front l (items l.longest front) _
    (subst (AllReceivable l) (sym whole ∙ ap (items l.longest) (sym b.1) ∙ z) r.receivable)

pub begins_among : (l : Limits) (fill : ℕ) (frames : List WholeFrame) (front : List ℕ)
    → AllWritable frames → Begins front (bytes_of fill frames)
    → IsSubsequence (good_frames l.longest front) frames
begins_among l fill frames front all b =
    let r = all_read l fill frames all in
    let whole : items l.longest (bytes_of fill frames) ≡ r.added =
    r.items_are ∙ ap (λ (x : List ReadItem). x ++ r.added) (items-nothing l.longest) in
    let z = good-more l.longest front b.0 in
    let good =
    subst (λ x. IsSubsequence x frames)
    (ap good_frames_in (sym whole) ∙ ap (good_frames l.longest) (sym b.1) ∙ z) r.good in
    front_of (good_frames l.longest front) _ frames good

begins_placed : (l : Limits) (fill : ℕ) (frames : List WholeFrame) (front : List ℕ)
    → AllWritable frames → Begins front (bytes_of fill frames)
    → is_some (place_of (good_frames l.longest front) frames) ≡ true
begins_placed l fill frames front all b =
    (place-decides (good_frames l.longest front) frames).1
    (begins_among l fill frames front all b)

-- ---- an end

pub record IsWell (x : EndState) : Type 0 where
  pub sound : IsSound x.core.limits x.core.station
  pub sent : AllWritable x.sent

sound_items : (given : List ReadItem) (k : CoreView) → AllReceivable k.limits given
    → IsSound k.limits k.station
    → IsSound (after_items given k).limits (after_items given k).station
unfolding after_items
sound_items [] k all h = h
sound_items (g ∷ rest) k all h =
    sound_items rest (after_item g k) all.1 (sound_on k.limits k.station (received_of g) all.0 h)

started_sound : (l : Limits) (s : StationState) (b : Bool) → may_start s ≡ b → IsSound l s
    → IsSound l (cond b (after_start s) s)
started_sound l s true e h = sound_started l s e h
started_sound l s false e h = h

accepted_sound : (l : Limits) (s : StationState) (message : List ℕ) (b : Bool)
    → may_send l s message ≡ b → IsSound l s → IsSound l (cond b (after_accept s message) s)
accepted_sound l s message true e h = sound_accepted l s message e h
accepted_sound l s message false e h = h

polled_writable : (l : Limits) (s : StationState) (sent : List WholeFrame) (t : Next) → next s ≡ t
    → IsSound l s → AllWritable sent
    → AllWritable (sent ++ option_to_list (option_map whole_frame (next_frame t)))
polled_writable l s sent Idle e h all = subst AllWritable (sym (append-nil sent)) all
polled_writable l s sent (Sends f u) e h all =
    writable_more sent (whole_frame f) all (writable_sent l s u f h e)

abbrev pub ComesWell : Event → EndState → Type 0
ComesWell (event.Arrive e bytes) x =
    AllReceivable x.core.limits (items_added x.core.limits.longest x.arrived bytes)
ComesWell e x = Unit {0}

pub well_event : (e : Event) (x : EndState) → ComesWell e x → IsWell x
    → IsWell (after_event_here e x)
well_event (event.Start e) x c h =
    record {
      sound = started_sound x.core.limits x.core.station (may_start x.core.station)
          refl h.sound;
      sent = h.sent;
    }
well_event (event.Halt e) x c h =
    record { sound = sound_halted x.core.limits x.core.station h.sound; sent = h.sent }
well_event (event.Send e message) x c h =
    record {
      sound = accepted_sound x.core.limits x.core.station message
          (may_send x.core.limits x.core.station message) refl h.sound;
      sent = h.sent;
    }
well_event (event.Poll e) x c h =
    record {
      sound = sound_next x.core.limits x.core.station h.sound;
      sent =
          polled_writable x.core.limits x.core.station x.sent (next x.core.station)
          refl h.sound h.sent;
    }
well_event (event.Arrive e bytes) x c h =
    record {
      sound = sound_items (items_added x.core.limits.longest x.arrived bytes)
          x.core c h.sound;
      sent = h.sent;
    }
well_event (event.Expire e) x c h =
    record { sound = sound_expired x.core.limits x.core.station h.sound; sent = h.sent }
well_event (event.Take e) x c h =
    record { sound = sound_taken x.core.limits x.core.station h.sound; sent = h.sent }
well_event event.Clear x c h = h

-- what arrives, where it is a beginning of what the other end wrote
comes_well : (x y : EndState) (bytes : List ℕ) → AllWritable y.sent
    → Begins (x.arrived ++ bytes) (written y)
    → AllReceivable x.core.limits (items_added x.core.limits.longest x.arrived bytes)
comes_well x y bytes all b =
    let max = x.core.limits.longest in
    let more = items-more max x.arrived bytes in
    let its = begins_receivable x.core.limits y.syn y.sent (x.arrived ++ bytes) all b in
    subst
    (λ (z : List ReadItem). AllReceivable x.core.limits (drop (length (items max x.arrived)) z))
    (sym more)
    (all_behind x.core.limits (items max x.arrived) _
    (subst (AllReceivable x.core.limits) more its))

-- ---- a run

pub record IsStraight (p : PairState) : Type 0 where
  pub a : IsWell p.a
  pub b : IsWell p.b
  pub honest : p.honest ≡ true

both_true : (x y : Bool) → x ≡ true → y ≡ true → (x && y) ≡ true
both_true true y e f = f
both_true false y e f = e

straight_clear : (refusal : Option StartRefusal) (p : PairState) → IsStraight p
    → IsStraight (after_clear_by refusal p)
straight_clear (Some refusal) p h = h
straight_clear None p h =
    record {
      a = record { sound = h.a.sound; sent = tt };
      b = record { sound = h.b.sound; sent = tt };
      honest = refl;
    }

pub straight_event : (e : Event) (p : PairState) → IsFaithful (after_event e p) → IsStraight p
    → IsStraight (after_event e p)
unfolding after_event
straight_event (event.Arrive A bytes) p f h = record {
  a = well_event (event.Arrive A bytes) p.a (comes_well p.a p.b bytes h.b.sent f.to_a) h.a;
  b = h.b;
  honest =
      both_true _ p.honest
      (begins_placed p.a.core.limits p.b.syn p.b.sent (p.a.arrived ++ bytes) h.b.sent f.to_a)
      h.honest;
}
straight_event (event.Arrive B bytes) p f h = record {
  a = h.a;
  b = well_event (event.Arrive B bytes) p.b (comes_well p.b p.a bytes h.a.sent f.to_b) h.b;
  honest =
      both_true _ p.honest
      (begins_placed p.b.core.limits p.a.syn p.a.sent (p.b.arrived ++ bytes) h.a.sent f.to_b)
      h.honest;
}
straight_event (event.Start A) p f h =
    record { a = well_event (event.Start A) p.a tt h.a; b = h.b; honest = h.honest }
straight_event (event.Start B) p f h =
    record { a = h.a; b = well_event (event.Start B) p.b tt h.b; honest = h.honest }
straight_event (event.Halt A) p f h =
    record { a = well_event (event.Halt A) p.a tt h.a; b = h.b; honest = h.honest }
straight_event (event.Halt B) p f h =
    record { a = h.a; b = well_event (event.Halt B) p.b tt h.b; honest = h.honest }
straight_event (event.Send A message) p f h =
    record { a = well_event (event.Send A message) p.a tt h.a; b = h.b; honest = h.honest }
straight_event (event.Send B message) p f h =
    record { a = h.a; b = well_event (event.Send B message) p.b tt h.b; honest = h.honest }
straight_event (event.Poll A) p f h =
    record { a = well_event (event.Poll A) p.a tt h.a; b = h.b; honest = h.honest }
straight_event (event.Poll B) p f h =
    record { a = h.a; b = well_event (event.Poll B) p.b tt h.b; honest = h.honest }
straight_event (event.Expire A) p f h =
    record { a = well_event (event.Expire A) p.a tt h.a; b = h.b; honest = h.honest }
straight_event (event.Expire B) p f h =
    record { a = h.a; b = well_event (event.Expire B) p.b tt h.b; honest = h.honest }
straight_event (event.Take A) p f h =
    record { a = well_event (event.Take A) p.a tt h.a; b = h.b; honest = h.honest }
straight_event (event.Take B) p f h =
    record { a = h.a; b = well_event (event.Take B) p.b tt h.b; honest = h.honest }
straight_event event.Clear p f h = straight_clear (clear_refusal p) p h

pub straight_run : (events : List Event) (p : PairState) → StaysFaithful events p → IsStraight p
    → IsStraight (run events p)
unfolding run
straight_run [] p f h = h
straight_run (e ∷ rest) p f h = straight_run rest (after_event e p) f.1 (straight_event e p f.0 h)

stored_none : (limit longest : ℕ) → 1 ≤ limit → limit ≤ 255 → 1 ≤ longest → longest ≤ 16383
    → IsStored limit longest []
stored_none limit longest a b c d =
    record {
      limit_min = a;
      limit_max = b;
      longest_min = c;
      longest_max = d;
      count = omega arith;
      lengths = λ i h. absurd (omega (arith, h));
    }

pub sound_made : (config : Config) → first_refusal config ≡ None
    → IsSound (limits_of config) new_station
sound_made config e =
    sound_new (limits_of config)
    (stored_none config.window config.max (grind (arith)) (grind (arith)) (grind (arith))
    (grind (arith)))
    (stored_none config.inbox config.max (grind (arith)) (grind (arith)) (grind (arith))
    (grind (arith)))

pub well_new : (config : Config) → first_refusal config ≡ None → IsWell (new_end config)
well_new config e = record { sound = sound_made config e; sent = tt }

pub faithful_is_honest : (first second : Config) (events : List Event) → first_refusal first ≡ None
    → first_refusal second ≡ None → StaysFaithful events (new_pair first second)
    → (run events (new_pair first second)).honest ≡ true
faithful_is_honest first second events f g stays =
    (straight_run events (new_pair first second) stays
    (record { a = well_new first f; b = well_new second g; honest = refl })).honest

-- ---- what is written is what was answered

bytes_more : (fill : ℕ) (frames : List WholeFrame) (f : WholeFrame)
    → bytes_of fill (frames ++ f ∷ [])
    ≡ bytes_of fill frames ++ (replicate fill 150 ++ wire f.0 f.1)
unfolding bytes_of
bytes_more fill [] f = append-nil (replicate fill 150 ++ wire f.0 f.1)
bytes_more fill (g ∷ frames) f =
    ap (λ (x : List ℕ). (replicate fill 150 ++ wire g.0 g.1) ++ x) (bytes_more fill frames f)
    ∙ sym
    (append_assoc (replicate fill 150 ++ wire g.0 g.1) (bytes_of fill frames)
    (replicate fill 150 ++ wire f.0 f.1))

written_more : (fill : ℕ) (sent : List WholeFrame) (polled : Option Frame) (bytes : List ℕ)
    → wrote (option_map (frame_on_line fill) polled) ≡ reply.Wrote bytes
    → bytes_of fill (sent ++ option_to_list (option_map whole_frame polled))
    ≡ bytes_of fill sent ++ bytes
written_more fill sent None bytes e = absurd (cc e)
written_more fill sent (Some f) bytes e =
    let same : frame_on_line fill f ≡ bytes = cc e in
    bytes_more fill sent (whole_frame f) ∙ ap (λ (x : List ℕ). bytes_of fill sent ++ x) same

pub writes_what_it_answers : (end : End) (p : PairState) (bytes : List ℕ)
    → reply_to (event.Poll end) p ≡ reply.Wrote bytes
    → written (at end (after_event (event.Poll end) p)) ≡ written (at end p) ++ bytes
unfolding after_event reply_to
writes_what_it_answers A p bytes e =
    written_more p.a.syn p.a.sent (next_frame (next p.a.core.station)) bytes e
writes_what_it_answers B p bytes e =
    written_more p.b.syn p.b.sent (next_frame (next p.b.core.station)) bytes e
