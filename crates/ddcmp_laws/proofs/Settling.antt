-- Each event on a line that loses nothing: who sends pays, and what comes brings no more than its
-- price.
use Rattle.std.proofs.Common.{◌≡◌, ℕ, ◌+◌, ◌*◌, ◌≤◌, Bool, true, false, cond, List, [], ◌∷◌, ◌++◌}
use Rattle.std.proofs.Common.{length, drop, refl, sym, ap, ◌∙◌, subst, arith, append-nil, Option}
use Rattle.std.proofs.Common.{Some, None}
use Rattle.std.specs.Prelude.{option_map, Result, Ok, Err}
use Rattle.ddcmp_core.specs.Store.{first_message}
use Rattle.ddcmp_core.specs.Seq.{Seq}
use Rattle.ddcmp_core.specs.SendRefusal.{SendRefusal}
use Rattle.ddcmp_core.specs.declared.station_core.StartRefusal.{StartRefusal}
use Rattle.ddcmp_core.specs.Core.{IsSound}
use Rattle.ddcmp_core.specs.Table.{Limits, StationState, Next, Idle, Sends, next, next_frame}
use Rattle.ddcmp_core.specs.Table.{after_next, may_send, after_accept, may_start, after_start}
use Rattle.ddcmp_core.specs.Table.{answer_to_send, answer_to_start}
use Rattle.ddcmp_core.proofs.Sent.{sending}
use Rattle.ddcmp_core.proofs.Sound.{sound_next, sound_expired, sound_taken, sound_halted}
use Rattle.ddcmp_core.proofs.Sound.{sound_accepted, sound_started}
use Rattle.ddcmp_frame.specs.Reading.{ReadItem, Place}
use Rattle.ddcmp_frame.proofs.ReadingLaws.{ending-nothing}
use Rattle.std.proofs.lemmas.List.Sums.{sum_by-cons}
use Rattle.ddcmp_proto.specs.Config.{first_refusal, limits_of}
use Rattle.ddcmp_proto.specs.declared.config.Config.{Config}
use Rattle.ddcmp_laws.proofs.FaithfulLaws.{sound_made}
use Rattle.ddcmp_proto.specs.Bytes.{received_of, items_added, frame_on_line}
use Rattle.ddcmp_proto.proofs.FeedLaws.{after_piece-limits, items_added-none}
use Rattle.ddcmp_io.specs.declared.carrier.End.TheVariants.{A, B}
use Rattle.ddcmp_pair.specs.declared.event.Event.{Event}
use Rattle.ddcmp_pair.specs.declared.event.Event.TheVariants as event
use Rattle.ddcmp_pair.specs.Run.{EndState, PairState, line_bytes, wrote, started, accepted, took}
use Rattle.ddcmp_pair.specs.Run.{after_start_here, after_halt_here, after_send_here}
use Rattle.ddcmp_pair.specs.Run.{after_poll_here, after_arrival_here, after_expire_here}
use Rattle.ddcmp_pair.specs.Run.{after_take_here, after_event, reply_to, new_end, new_pair}
use Rattle.ddcmp_pair.specs.Recovery.{larger_window}
use Rattle.ddcmp_laws.specs.LossFree.{Line, bytes_or_none, after_on_line, LosesNothing}
use Rattle.ddcmp_laws.specs.LossFree.{IsLossFree, run_on_line, empty_line, ComesWhole, IsWhole}
use Rattle.ddcmp_laws.specs.Price.{price_of_received, price_of_items, items_on_way}
use Rattle.ddcmp_laws.specs.Price.{price_of_station, price_of_end, price, frames_of}
use Rattle.ddcmp_laws.specs.Price.{frames_given, refusal_price, added_by, added}
use Rattle.ddcmp_pair.proofs.Modes.{mode-here}
use Rattle.ddcmp_laws.proofs.Early.{early-take}
use Rattle.ddcmp_laws.proofs.Prices.{received_most, station_most, paid, pays, expiry_brings}
use Rattle.ddcmp_laws.proofs.Prices.{send_brings, start_brings, halt_brings}
use Rattle.ddcmp_laws.proofs.Ways.{Receivable, arrives, written}

-- ---- an end, and what is in flight to it

pub record Fine (w : ℕ) (x : EndState) (way : List ℕ) : Type 0 where
  pub window : x.core.limits.window ≤ w
  pub sound : IsSound x.core.limits x.core.station
  pub whole : ComesWhole x way
  pub early : x.core.station.by_user ≡ false

-- ---- an end writes

-- the writer and its way stay as they are but for the frame, which goes on the other's way
record Polled (w : ℕ) (x y : EndState) (here there : List ℕ) : Type 0 where
  fine : Fine w (after_poll_here x) here
  fine' : Fine w y (there ++ bytes_or_none (line_bytes x))
  falls : frames_of (wrote (line_bytes x))
      + (price_of_end w (after_poll_here x) here
      + price_of_end w y (there ++ bytes_or_none (line_bytes x)))
      ≤ (price_of_end w x here + price_of_end w y there)
      + refusal_price w (next_frame (next x.core.station))

polls : (w : ℕ) (x y : EndState) (here there : List ℕ)
    → x.core.limits.longest ≡ y.core.limits.longest → Fine w x here → Fine w y there
    → Polled w x y here there
polls w x y here there same f g = by (next x.core.station) refl
  where
    sender : Fine w (after_poll_here x) here
    sender =
        record {
          window = f.window;
          sound = sound_next x.core.limits x.core.station f.sound;
          whole = record { closed = f.whole.closed; receivable = f.whole.receivable };
          early = mode-here (event.Poll A) x ∙ f.early;
        }

    paid_for : price_of_station w (after_next (next x.core.station) x.core.station)
        + paid w (next x.core.station)
        ≤ price_of_station w x.core.station + refusal_price w (next_frame (next x.core.station))
    paid_for =
        pays w x.core.limits x.core.station f.sound (next x.core.station) (sending x.core.station)

    by : (z : Next) → next x.core.station ≡ z → Polled w x y here there
    by Idle e =
        let none = ap (λ z. option_map (frame_on_line x.syn) (next_frame z)) e in
        let way : there ++ bytes_or_none (line_bytes x) ≡ there =
        ap (λ o. there ++ bytes_or_none o) none ∙ append-nil there in
        let given : frames_of (wrote (line_bytes x)) ≡ 0 = ap (λ o. frames_of (wrote o)) none in
        let p = ap (paid w) e in
        let q = ap (price_of_end w y) way in
        record {
          fine = sender;
          fine' = subst (Fine w y) (sym way) g;
          falls = omega (arith, paid_for, given, p, q);
        }
    by (Sends h u) e =
        let some = ap (λ z. option_map (frame_on_line x.syn) (next_frame z)) e in
        let way : there ++ bytes_or_none (line_bytes x) ≡ there ++ frame_on_line x.syn h =
        ap (λ o. there ++ bytes_or_none o) some in
        let given : frames_of (wrote (line_bytes x)) ≡ 1 = ap (λ o. frames_of (wrote o)) some in
        let p = ap (paid w) e in
        let q = ap (price_of_end w y) way in
        let r = written w x.core.limits x.core.station u h x.syn f.sound e y same there g.whole in
        let t = r.price in
        record {
          fine = sender;
          fine' =
              record {
                window = g.window;
                sound = g.sound;
                whole = subst (ComesWhole y) (sym way) r.whole;
                early = g.early;
              };
          falls = omega (arith, paid_for, given, p, q, t);
        }

-- ---- a piece arrives

record Reached (w : ℕ) (x : EndState) (bytes way : List ℕ) : Type 0 where
  fine : Fine w (after_arrival_here bytes x) (drop (length bytes) way)
  falls : price_of_end w (after_arrival_here bytes x) (drop (length bytes) way)
      ≤ price_of_end w x way

pub drop_front : (bytes rest : List ℕ) → drop (length bytes) (bytes ++ rest) ≡ rest
drop_front [] rest = refl
drop_front (b ∷ bytes) rest = drop_front bytes rest

reaches : (w : ℕ) (x : EndState) (bytes rest way : List ℕ) → bytes ++ rest ≡ way → Fine w x way
    → Reached w x bytes way
reaches w x bytes rest way e f =
    let a = arrives w x bytes rest f.window f.sound (subst (ComesWhole x) (sym e) f.whole) in
    let left : drop (length bytes) way ≡ rest =
    ap (drop (length bytes)) (sym e) ∙ drop_front bytes rest in
    let limits = after_piece-limits x.arrived bytes x.core in
    let narrow = ap (λ (l : Limits). l.window) limits in
    let p = ap (price_of_end w (after_arrival_here bytes x)) left in
    let q = ap (price_of_end w x) e in
    let r = a.price in
    let n = f.window in
    record {
      fine =
          record {
            window = omega (arith, narrow, n);
            sound = a.sound;
            whole = subst (ComesWhole (after_arrival_here bytes x)) (sym left) a.whole;
            early = mode-here (event.Arrive A bytes) x ∙ f.early;
          };
      falls = omega (arith, p, q, r);
    }

-- ---- the timer expires, and the user calls

record Called (w : ℕ) (x y : EndState) (way : List ℕ) (n : ℕ) : Type 0 where
  fine : Fine w y way
  falls : price_of_end w y way ≤ price_of_end w x way + n

expires : (w : ℕ) (x : EndState) (way : List ℕ) → Fine w x way
    → Called w x (after_expire_here x) way (2 * w + 2)
expires w x way f =
    let n = f.window in
    let m = f.sound.out_stored.limit_min in
    let p = expiry_brings w x.core.station (omega (arith, n, m)) in
    record {
      fine =
          record {
            window = f.window;
            sound = sound_expired x.core.limits x.core.station f.sound;
            whole = record { closed = f.whole.closed; receivable = f.whole.receivable };
            early = mode-here (event.Expire A) x ∙ f.early;
          };
      falls = omega (arith, p);
    }

takes : (w : ℕ) (x : EndState) (way : List ℕ) → Fine w x way → Called w x (after_take_here x) way 0
takes w x way f = record {
  fine =
      record {
        window = f.window;
        sound = sound_taken x.core.limits x.core.station f.sound;
        whole = record { closed = f.whole.closed; receivable = f.whole.receivable };
        early = f.early;
      };
  falls =
      let p = ap (λ (s : StationState). price_of_station w s) (early-take x.core.station f.early) in
      omega (arith, p);
}

halts : (w : ℕ) (x : EndState) (way : List ℕ) → Fine w x way → Called w x (after_halt_here x) way 0
halts w x way f =
    let p = halt_brings w x.core.station in
    record {
      fine =
          record {
            window = f.window;
            sound = sound_halted x.core.limits x.core.station f.sound;
            whole = record { closed = f.whole.closed; receivable = f.whole.receivable };
            early = f.early;
          };
      falls = omega (arith, p);
    }

accepted_sound : (l : Limits) (s : StationState) (message : List ℕ) (b : Bool)
    → may_send l s message ≡ b → IsSound l s → IsSound l (cond b (after_accept s message) s)
accepted_sound l s message true e h = sound_accepted l s message e h
accepted_sound l s message false e h = h

sends : (w : ℕ) (x : EndState) (message way : List ℕ) → Fine w x way
    → Called w x (after_send_here message x) way 2
sends w x message way f =
    let p = send_brings w x.core.limits x.core.station message in
    record {
      fine = record {
        window = f.window;
        sound =
            accepted_sound x.core.limits x.core.station message
            (may_send x.core.limits x.core.station message) refl f.sound;
        whole = record { closed = f.whole.closed; receivable = f.whole.receivable };
        early = mode-here (event.Send A message) x ∙ f.early;
      };
      falls = omega (arith, p);
    }

started_sound : (l : Limits) (s : StationState) (b : Bool) → may_start s ≡ b → IsSound l s
    → IsSound l (cond b (after_start s) s)
started_sound l s true e h = sound_started l s e h
started_sound l s false e h = h

starts : (w : ℕ) (x : EndState) (way : List ℕ) → Fine w x way
    → Called w x (after_start_here x) way 3
starts w x way f =
    let p = start_brings w x.core.station in
    record {
      fine = record {
        window = f.window;
        sound = started_sound x.core.limits x.core.station (may_start x.core.station) refl f.sound;
        whole = record { closed = f.whole.closed; receivable = f.whole.receivable };
        early = mode-here (event.Start A) x ∙ f.early;
      };
      falls = omega (arith, p);
    }

-- ---- an event on a line

pub record Settles (w : ℕ) (l : Line) : Type 0 where
  pub a : Fine w l.pair.a l.to_a
  pub b : Fine w l.pair.b l.to_b
  pub same : l.pair.a.core.limits.longest ≡ l.pair.b.core.limits.longest

pub record Stepped (w : ℕ) (e : Event) (l : Line) : Type 0 where
  pub kept : Settles w (after_on_line e l)
  pub falls : frames_of (reply_to e l.pair) + price w (after_on_line e l)
      ≤ price w l + added_by w e l.pair

longest_same : (bytes : List ℕ) (x : EndState)
    → (after_arrival_here bytes x).core.limits.longest ≡ x.core.limits.longest
longest_same bytes x = ap (λ (l : Limits). l.longest) (after_piece-limits x.arrived bytes x.core)

started_none : (r : Result ℕ StartRefusal) → frames_of (started r) ≡ 0
started_none (Ok n) = refl
started_none (Err e) = refl

accepted_none : (r : Result Seq SendRefusal) → frames_of (accepted r) ≡ 0
accepted_none (Ok n) = refl
accepted_none (Err e) = refl

took_none : (o : Option (List ℕ)) → frames_of (took o) ≡ 0
took_none None = refl
took_none (Some m) = refl

pub steps : (w : ℕ) (e : Event) (l : Line) → LosesNothing e l → Settles w l → Stepped w e l
unfolding after_event reply_to
steps w (event.Poll A) l n h =
    let p = polls w l.pair.a l.pair.b l.to_a l.to_b h.same h.a h.b in
    let f = p.falls in
    record { kept = record { a = p.fine; b = p.fine'; same = h.same }; falls = omega (arith, f) }
steps w (event.Poll B) l n h =
    let p = polls w l.pair.b l.pair.a l.to_b l.to_a (sym h.same) h.b h.a in
    let f = p.falls in
    record { kept = record { a = p.fine'; b = p.fine; same = h.same }; falls = omega (arith, f) }
steps w (event.Arrive A bytes) l n h =
    let r = reaches w l.pair.a bytes n.0 l.to_a n.1 h.a in
    let f = r.falls in
    record {
      kept = record { a = r.fine; b = h.b; same = longest_same bytes l.pair.a ∙ h.same };
      falls = omega (arith, f);
    }
steps w (event.Arrive B bytes) l n h =
    let r = reaches w l.pair.b bytes n.0 l.to_b n.1 h.b in
    let f = r.falls in
    record {
      kept
          =
          record { a = h.a; b = r.fine; same = h.same ∙ sym (longest_same bytes l.pair.b) };
      falls =
          omega (arith, f);
    }
steps w (event.Expire A) l n h =
    let c = expires w l.pair.a l.to_a h.a in let f = c.falls in
    record { kept = record { a = c.fine; b = h.b; same = h.same }; falls = omega (arith, f) }
steps w (event.Expire B) l n h =
    let c = expires w l.pair.b l.to_b h.b in let f = c.falls in
    record { kept = record { a = h.a; b = c.fine; same = h.same }; falls = omega (arith, f) }
steps w (event.Take A) l n h =
    let c = takes w l.pair.a l.to_a h.a in let f = c.falls in
    let z = took_none (first_message l.pair.a.core.station.inbox) in
    record { kept = record { a = c.fine; b = h.b; same = h.same }; falls = omega (arith, f, z) }
steps w (event.Take B) l n h =
    let c = takes w l.pair.b l.to_b h.b in let f = c.falls in
    let z = took_none (first_message l.pair.b.core.station.inbox) in
    record { kept = record { a = h.a; b = c.fine; same = h.same }; falls = omega (arith, f, z) }
steps w (event.Send A message) l n h =
    let c = sends w l.pair.a message l.to_a h.a in let f = c.falls in
    let z = accepted_none (answer_to_send l.pair.a.core.limits l.pair.a.core.station message) in
    record { kept = record { a = c.fine; b = h.b; same = h.same }; falls = omega (arith, f, z) }
steps w (event.Send B message) l n h =
    let c = sends w l.pair.b message l.to_b h.b in let f = c.falls in
    let z = accepted_none (answer_to_send l.pair.b.core.limits l.pair.b.core.station message) in
    record { kept = record { a = h.a; b = c.fine; same = h.same }; falls = omega (arith, f, z) }
steps w (event.Start A) l n h =
    let c = starts w l.pair.a l.to_a h.a in let f = c.falls in
    let z = started_none (answer_to_start l.pair.a.core.station) in
    record { kept = record { a = c.fine; b = h.b; same = h.same }; falls = omega (arith, f, z) }
steps w (event.Start B) l n h =
    let c = starts w l.pair.b l.to_b h.b in let f = c.falls in
    let z = started_none (answer_to_start l.pair.b.core.station) in
    record { kept = record { a = h.a; b = c.fine; same = h.same }; falls = omega (arith, f, z) }
steps w (event.Halt A) l n h =
    let c = halts w l.pair.a l.to_a h.a in let f = c.falls in
    record { kept = record { a = c.fine; b = h.b; same = h.same }; falls = omega (arith, f) }
steps w (event.Halt B) l n h =
    let c = halts w l.pair.b l.to_b h.b in let f = c.falls in
    record { kept = record { a = h.a; b = c.fine; same = h.same }; falls = omega (arith, f) }
steps w event.Clear l n h = absurd n

-- ---- a list of events

pub pair_is : (e : Event) (l : Line) → (after_on_line e l).pair ≡ after_event e l.pair
pair_is (event.Poll A) l = refl
pair_is (event.Poll B) l = refl
pair_is (event.Arrive A bytes) l = refl
pair_is (event.Arrive B bytes) l = refl
pair_is (event.Expire e) l = refl
pair_is (event.Take e) l = refl
pair_is (event.Send e message) l = refl
pair_is (event.Start e) l = refl
pair_is (event.Halt e) l = refl
pair_is event.Clear l = refl

pub all_steps : (w : ℕ) (events : List Event) (l : Line) → IsLossFree events l → Settles w l
    → frames_given events l.pair ≤ price w l + added w events l.pair
unfolding frames_given added
all_steps w [] l n h = omega arith
all_steps w (e ∷ rest) l n h =
    let s = steps w e l n.0 h in
    let f = s.falls in
    let m = all_steps w rest (after_on_line e l) n.1 s.kept in
    let m' : frames_given rest (after_event e l.pair)
    ≤ price w (after_on_line e l) + added w rest (after_event e l.pair) =
    subst (λ (p : PairState). frames_given rest p ≤ price w (after_on_line e l) + added w rest p)
    (pair_is e l) m in
    let all : frames_of (reply_to e l.pair) + frames_given rest (after_event e l.pair)
    ≤ price w l + (added_by w e l.pair + added w rest (after_event e l.pair)) =
    omega (arith, f, m') in
    all

pub run_keeps : (w : ℕ) (events : List Event) (l : Line) → IsLossFree events l → Settles w l
    → Settles w (run_on_line events l)
unfolding run_on_line
run_keeps w [] l n h = h
run_keeps w (e ∷ rest) l n h = run_keeps w rest (after_on_line e l) n.1 (steps w e l n.0 h).kept

pub begins : (l : Line) → IsWhole l → Settles (larger_window l.pair) l
begins l h = record {
  a = record { window = omega arith; sound = h.sound_a; whole = h.whole_a; early = h.early.a };
  b = record { window = omega arith; sound = h.sound_b; whole = h.whole_b; early = h.early.b };
  same = h.same;
}

pub settles : (events : List Event) (l : Line) → IsWhole l → IsLossFree events l
    → frames_given events l.pair
    ≤ price (larger_window l.pair) l + added (larger_window l.pair) events l.pair
settles events l h n = all_steps (larger_window l.pair) events l n (begins l h)

pub whole_again : (events : List Event) (l : Line) → IsWhole l → IsLossFree events l
    → IsWhole (run_on_line events l)
whole_again events l h n =
    let s = run_keeps (larger_window l.pair) events l n (begins l h) in
    record {
      sound_a = s.a.sound;
      sound_b = s.b.sound;
      same = s.same;
      whole_a = s.a.whole;
      whole_b = s.b.whole;
      early = record { a = s.a.early; b = s.b.early };
    }

-- ---- the most

items_most : (w : ℕ) (given : List ReadItem) → 1 ≤ w
    → price_of_items w given ≤ (2 * w + 1) * length given
items_most w [] h = omega arith
items_most w (g ∷ given) h =
    let n = sum_by-cons (λ z. price_of_received w (received_of z)) g given in
    let m = received_most w (received_of g) h in
    let r = items_most w given h in
    omega (arith, n, m, r)

pub most : (l : Line) → IsWhole l
    → price (larger_window l.pair) l
    ≤ 12 * larger_window l.pair + 12 + (2 * larger_window l.pair + 1) * items_on_way l
most l h =
    let w = larger_window l.pair in
    let i = h.sound_a.out_stored.limit_min in
    let a = station_most w l.pair.a.core.limits l.pair.a.core.station (omega arith) h.sound_a in
    let b = station_most w l.pair.b.core.limits l.pair.b.core.station (omega arith) h.sound_b in
    let c =
    items_most w (items_added l.pair.a.core.limits.longest l.pair.a.arrived l.to_a)
    (omega (arith, i)) in
    let d =
    items_most w (items_added l.pair.b.core.limits.longest l.pair.b.arrived l.to_b)
    (omega (arith, i)) in
    omega (arith, a, b, c, d)

-- ---- from the beginning

pub nothing_comes : (config : Config) → ComesWhole (new_end config) []
nothing_comes config = record {
  closed = ap (λ (p : Place). length p.rest) (ending-nothing config.max);
  receivable =
      subst (λ (g : List ReadItem). Receivable (limits_of config) g)
      (sym (items_added-none config.max [])) (λ i d below. absurd (omega (arith, below)));
}

pub from_new : (first second : Config) (events : List Event) → first_refusal first ≡ None
    → first_refusal second ≡ None → first.max ≡ second.max
    → IsLossFree events (empty_line (new_pair first second))
    → frames_given events (new_pair first second)
    ≤ added (larger_window (new_pair first second)) events (new_pair first second)
from_new first second events f g same n =
    let l = empty_line (new_pair first second) in
    let w = larger_window l.pair in
    let h : IsWhole l =
    record {
      sound_a = sound_made first f;
      sound_b = sound_made second g;
      same = same;
      whole_a = nothing_comes first;
      whole_b = nothing_comes second;
      early = record { a = refl; b = refl };
    } in
    let s = settles events l h n in
    let a = ap (price_of_items w) (items_added-none first.max []) in
    let b = ap (price_of_items w) (items_added-none second.max []) in
    omega (arith, s, a, b)
