-- One station on a clear line: it owes no NAK, and T is the number after N.
use Rattle.std.proofs.Common.{◌≡◌, ◌≢◌, ◌⊎◌, inl, inr, ℕ, suc, ◌+◌, ◌-◌, ◌%◌, ◌<◌, ◌≤◌, Bool, true}
use Rattle.std.proofs.Common.{false, cond, List, [], ◌∷◌, ◌++◌, map, length, drop, refl, sym, ap}
use Rattle.std.proofs.Common.{◌∙◌, subst, arith, append-nil}
use Rattle.std.specs.Prelude.{◌==◌, nat_lt, option_map, option_to_list}
use Rattle.std.proofs.Math.Seq.{drop-cons}
use Rattle.std.proofs.lemmas.List.{drop-drop}
use Rattle.ddcmp_num.specs.Sequence.{distance}
use Rattle.ddcmp_frame.specs.declared.nak.Nak.TheVariants as reason
use Rattle.ddcmp_window.specs.Numbers.{is_within, next_number}
use Rattle.ddcmp_window.specs.Sender.{IsInWindow}
use Rattle.ddcmp_core.specs.declared.state.State.{State}
use Rattle.ddcmp_core.specs.declared.state.State.TheVariants.{Halted, IStart, AStart, Running}
use Rattle.ddcmp_core.specs.declared.state.State.TheVariants.{Maintenance}
use Rattle.ddcmp_core.specs.declared.state.Owed.{Owed}
use Rattle.ddcmp_core.specs.declared.state.Owed.TheVariants.{Quiet, Ack, Nak}
use Rattle.ddcmp_core.specs.declared.state.Timer.{Timer}
use Rattle.ddcmp_core.specs.declared.state.Timer.TheVariants.{Off, Fresh, On}
use Rattle.ddcmp_core.specs.Table.{resp_of, owed_after_take, owed_after_message}
use Rattle.ddcmp_core.specs.Table.{StationState, Limits, Frame, Data, Acked, Naked, Rep, Strt}
use Rattle.ddcmp_core.specs.Table.{Stack, Maint, Good, outgoing, before_next, newly_acknowledged}
use Rattle.ddcmp_core.specs.Table.{after_ack, after_startup, after_offer, on_data, on_by, on}
use Rattle.ddcmp_core.specs.Table.{message_at_next, Next, next_frame, after_next, after_expire_in}
use Rattle.ddcmp_core.specs.Table.{after_expire_with, after_expire}
use Rattle.ddcmp_core.specs.NextFrame.{is_nak as owes_nak, SentFor, sends_strt, sends_stack}
use Rattle.ddcmp_core.specs.NextFrame.{sends_nak, sends_rep, sends_data, sends_ack, sends_maint}
use Rattle.ddcmp_core.specs.NextFrame.{halted_idles, starting_idles, running_idles}
use Rattle.ddcmp_core.specs.NextFrame.{maintenance_idles}
use Rattle.ddcmp_pair.specs.Place.{WholeFrame}
use Rattle.ddcmp_pair.specs.Run.{whole_frame}
use Rattle.ddcmp_pair.proofs.Arrivals.{seen}
use Rattle.ddcmp_laws.specs.Counted.{is_nak}
use Rattle.ddcmp_laws.specs.Positions.{messages_in}

-- ---- frames in flight

-- Data and REPs have the numbers that they are to have, where r is received when the first of these
-- frames comes, and n when all have come.
abbrev pub Follows : ℕ → List Frame → ℕ → Type 0
Follows r [] n = r ≡ n
Follows r (Data resp num message ∷ fs) n = (num ≡ next_number r) × Follows num fs n
Follows r (Rep num ∷ fs) n = (num ≡ r) × Follows r fs n
Follows r (f ∷ fs) n = Follows r fs n

abbrev pub is_data : Frame → Bool
is_data (Data resp num message) = true
is_data _ = false

abbrev pub NoData : List Frame → Type 0
NoData [] = Unit {0}
NoData (f ∷ fs) = (is_data f ≡ false) × NoData fs

pub no_data_more : (fs gs : List Frame) → NoData fs → NoData gs → NoData (fs ++ gs)
no_data_more [] gs h g = g
no_data_more (f ∷ fs) gs h g = (h.0, no_data_more fs gs h.1 g)

pub follows_data : (r n num : ℕ) (fs : List Frame) (resp : ℕ) (message : List ℕ)
    → num ≡ next_number n
    → Follows r fs n → Follows r (fs ++ Data resp num message ∷ []) num
follows_data r n num [] resp message e h = (e ∙ ap next_number (sym h), refl)
follows_data r n num (Data a b c ∷ fs) resp message e h =
    (h.0, follows_data b n num fs resp message e h.1)
follows_data r n num (Rep a ∷ fs) resp message e h =
    (h.0, follows_data r n num fs resp message e h.1)
follows_data r n num (Acked a ∷ fs) resp message e h = follows_data r n num fs resp message e h
follows_data r n num (Naked why a ∷ fs) resp message e h = follows_data r n num fs resp message e h
follows_data r n num (Strt ∷ fs) resp message e h = follows_data r n num fs resp message e h
follows_data r n num (Stack ∷ fs) resp message e h = follows_data r n num fs resp message e h
follows_data r n num (Maint m ∷ fs) resp message e h = follows_data r n num fs resp message e h

pub follows_rep : (r n : ℕ) (fs : List Frame) → Follows r fs n → Follows r (fs ++ Rep n ∷ []) n
follows_rep r n [] h = (sym h, h)
follows_rep r n (Data a b c ∷ fs) h = (h.0, follows_rep b n fs h.1)
follows_rep r n (Rep a ∷ fs) h = (h.0, follows_rep r n fs h.1)
follows_rep r n (Acked a ∷ fs) h = follows_rep r n fs h
follows_rep r n (Naked why a ∷ fs) h = follows_rep r n fs h
follows_rep r n (Strt ∷ fs) h = follows_rep r n fs h
follows_rep r n (Stack ∷ fs) h = follows_rep r n fs h
follows_rep r n (Maint m ∷ fs) h = follows_rep r n fs h

-- frames that carry no such number
abbrev IsPlainFrame : Frame → Type 0
IsPlainFrame (Data resp num message) = ⊥
IsPlainFrame (Rep num) = ⊥
IsPlainFrame f = Unit {0}

follows_plain_end : (r n : ℕ) (g : Frame) → IsPlainFrame g → r ≡ n → Follows r (g ∷ []) n
follows_plain_end r n (Data a b c) p h = absurd p
follows_plain_end r n (Rep a) p h = absurd p
follows_plain_end r n (Acked a) p h = h
follows_plain_end r n (Naked why a) p h = h
follows_plain_end r n Strt p h = h
follows_plain_end r n Stack p h = h
follows_plain_end r n (Maint m) p h = h

follows_plain : (r n : ℕ) (fs : List Frame) (g : Frame) → IsPlainFrame g → Follows r fs n
    → Follows r (fs ++ g ∷ []) n
follows_plain r n [] g p h = follows_plain_end r n g p h
follows_plain r n (Data a b c ∷ fs) g p h = (h.0, follows_plain b n fs g p h.1)
follows_plain r n (Rep a ∷ fs) g p h = (h.0, follows_plain r n fs g p h.1)
follows_plain r n (Acked a ∷ fs) g p h = follows_plain r n fs g p h
follows_plain r n (Naked why a ∷ fs) g p h = follows_plain r n fs g p h
follows_plain r n (Strt ∷ fs) g p h = follows_plain r n fs g p h
follows_plain r n (Stack ∷ fs) g p h = follows_plain r n fs g p h
follows_plain r n (Maint m ∷ fs) g p h = follows_plain r n fs g p h

-- ---- a station

-- it owes no NAK, and all that it sends next is new
pub record IsPlain (s : StationState) : Type 0 where
  pub quiet : owes_nak s.reply ≡ false
  pub ahead : s.t ≡ next_number s.n

pub quiet-taken : (b : Bool) (r : Owed) → owes_nak r ≡ false
    → owes_nak (cond b (owed_after_take r) r) ≡ false
quiet-taken true Quiet e = e
quiet-taken true Ack e = e
quiet-taken true (Nak why) e = e
quiet-taken false r e = e

-- what something that comes leaves as it was: N, and what isn't sent yet
pub record Goes (s u : StationState) : Type 0 where
  pub n : u.n ≡ s.n
  pub unsent : drop (before_next u) u.out ≡ drop (before_next s) s.out
  pub runs : s.state ≡ Running → u.state ≡ Running
  pub halts : u.state ≡ Halted → u ≡ s
  pub plain : IsPlain u

pub goes_nowhere : (s : StationState) → IsPlain s → Goes s s
goes_nowhere s h = record { n = refl; unsent = refl; runs = λ e. e; halts = λ e. refl; plain = h }

pub goes_on : (s u w : StationState) → Goes s u → Goes u w → Goes s w
goes_on s u w g h = record {
  n = h.n ∙ g.n;
  unsent = h.unsent ∙ g.unsent;
  runs = λ e. h.runs (g.runs e);
  halts = λ e. (let f = h.halts e in f ∙ g.halts (ap (λ (x : StationState). x.state) (sym f) ∙ e));
  plain = h.plain;
}

-- another state, other flags and another timer
goes_to : (s : StationState) (p : State) (due : Bool) (reply : Owed) (timer : Timer)
    → (s.state ≡ Running → p ≡ Running) → (p ≡ Halted → ⊥) → owes_nak reply ≡ false
    → IsPlain s → Goes s (record s { state = p; due = due; reply = reply; timer = timer })
goes_to s p due reply timer runs up quiet h = record {
  n = refl;
  unsent = refl;
  runs = runs;
  halts = λ e. absurd (up e);
  plain = record { quiet = quiet; ahead = h.ahead };
}

-- ---- an acknowledgement

most_newly : (a q n t : ℕ) → a < 256 → q < 256 → n < 256 → t ≡ next_number n → (b : Bool)
    → is_within a q n ≡ b
    → cond b (distance a q) 0 ≤ (t + 511 - a) % 256
most_newly a q n t ha hq hn e true w =
    let d : distance a q ≤ distance a n = grind (arith) in omega (arith, d, e)
most_newly a q n t ha hq hn e false w = omega arith

newly_most : (s : StationState) (q : ℕ) → IsInWindow (outgoing s) → q < 256 → s.t ≡ next_number s.n
    → newly_acknowledged s q ≤ before_next s
newly_most s q w hq e = most_newly s.a q s.n s.t w.a_byte hq w.n_byte e (is_within s.a q s.n) refl

next_stays : (p m q t : ℕ) → m ≤ p → cond (nat_lt p m) (next_number q) t ≡ t
next_stays p m q t h = by (nat_lt p m) refl
  where
    by : (b : Bool) → nat_lt p m ≡ b → cond b (next_number q) t ≡ t
    by true e = absurd (let l : p < m = grind (arith) in omega (arith, l, h))
    by false e = refl

none_or_all : (a q n : ℕ) (b : Bool)
    → (cond b (distance a q) 0 ≡ 0) ⊎ (cond b (distance a q) 0 ≡ distance a q)
none_or_all a q n true = inr refl
none_or_all a q n false = inl refl

before_less : (a q t u m : ℕ) → a < 256 → q < 256 → t < 256 → u ≡ t → m ≤ (t + 511 - a) % 256
    → (m ≡ 0) ⊎ (m ≡ distance a q) → (b : Bool) → (m == 0) ≡ b
    → m + (u + 511 - cond b a q) % 256 ≡ (t + 511 - a) % 256
before_less a q t u m ha hq ht e low d true z = let y : m ≡ 0 = grind (arith) in omega (arith, y, e)
before_less a q t u m ha hq ht e low (inl d) false z = absurd (let y : m ≢ 0 = grind (arith) in y d)
before_less a q t u m ha hq ht e low (inr d) false z = omega (arith, d, e, low)

goes_acknowledged : (s : StationState) (q : ℕ) → s.state ≡ Running → IsInWindow (outgoing s)
    → q < 256 → IsPlain s
    → Goes s (after_ack s q)
goes_acknowledged s q e w hq h =
    let m = newly_acknowledged s q in
    let low = newly_most s q w hq h.ahead in
    let t : (after_ack s q).t ≡ s.t = next_stays (before_next s) m q s.t low in
    let k : m + before_next (after_ack s q) ≡ before_next s =
    before_less s.a q s.t (after_ack s q).t m w.a_byte hq w.t_byte t low
    (none_or_all s.a q s.n (is_within s.a q s.n)) (m == 0) refl in
    record {
      n = refl;
      unsent = drop-drop (before_next (after_ack s q)) m s.out ∙ ap (λ p. drop p s.out) k;
      runs = λ z. z;
      halts = λ z. absurd (let y = sym e ∙ z in cc);
      plain = record { quiet = h.quiet; ahead = t ∙ h.ahead };
    }

-- ---- data

offer_taken : (l : Limits) (s : StationState) (num : ℕ) (message : List ℕ)
    → (num == next_number s.r) ≡ true
    → nat_lt (length s.inbox) l.room ≡ true
    → after_offer l s num message
    ≡ record s {
      r = num;
      inbox = s.inbox ++ message ∷ [];
      reply = owed_after_message s.by_user s.reply;
    }
offer_taken l s num message e d = rw (e, d) refl

message-quiet : (b : Bool) (r : Owed) → owes_nak (owed_after_message b r) ≡ false
message-quiet true Quiet = refl
message-quiet true Ack = refl
message-quiet true (Nak why) = refl
message-quiet false r = refl

record Takes (s u : StationState) (num : ℕ) : Type 0 where
  goes : Goes s u
  received : u.r ≡ num

takes_data : (l : Limits) (s : StationState) (resp num : ℕ) (message : List ℕ) → s.state ≡ Running
    → IsInWindow (outgoing s) → resp < 256 → IsPlain s → num ≡ next_number s.r
    → length s.inbox < l.room
    → Takes s (on_data l s resp num message) num
takes_data l s resp num message e w hq h is room =
    let g = goes_acknowledged s resp e w hq h in
    let same : (num == next_number s.r) ≡ true = grind (arith) in
    let some : nat_lt (length s.inbox) l.room ≡ true = grind (arith) in
    subst (λ (u : StationState). Takes s u num)
    (sym (offer_taken l (after_ack s resp) num message same some))
    (record {
      goes = record {
        n = g.n;
        unsent = g.unsent;
        runs = λ z. z;
        halts = λ z. absurd (let y = sym e ∙ z in cc);
        plain = record {
          quiet = message-quiet s.by_user s.reply;
          ahead = g.plain.ahead;
        };
      };
      received = refl;
    })

-- ---- a frame comes

-- what may come to a station on a clear line
abbrev pub MayCome : Limits → StationState → Frame → Type 0
MayCome l s (Data resp num message) =
    ((s.state ≡ Running) ⊎ ((s.state ≡ AStart) × (resp ≡ 0))) × (length s.inbox < l.room)
    × (resp < 256)
MayCome l s (Acked resp) = resp < 256
MayCome l s (Naked why resp) = ⊥
MayCome l s (Rep num) = Unit {0}
MayCome l s Strt = s.state ≢ Running
MayCome l s Stack = Unit {0}
MayCome l s (Maint message) = Unit {0}

pub record Hears (s u : StationState) (fs : List Frame) (n : ℕ) : Type 0 where
  pub goes : Goes s u
  pub follows : Follows u.r fs n

pub hears : (l : Limits) (s : StationState) (f : Frame) (fs : List Frame) (n : ℕ)
    → s.state ≢ Maintenance
    → IsInWindow (outgoing s) → IsPlain s → MayCome l s f
    → Follows s.r (f ∷ fs) n → Hears s (on l s (Good f)) fs n
unfolding on
hears l s f fs n other w h = by s.state refl f
  where
    still : Follows s.r fs n → Hears s s fs n
    still k = record { goes = goes_nowhere s h; follows = k }

    to : (p : State) (due : Bool) (reply : Owed) (timer : Timer) → (s.state ≡ Running → p ≡ Running)
        → (p ≡ Halted → ⊥) → owes_nak reply ≡ false → Follows s.r fs n
        → Hears s (record s { state = p; due = due; reply = reply; timer = timer }) fs n
    to p due reply timer runs up quiet k =
        record { goes = goes_to s p due reply timer runs up quiet h; follows = k }

    in_halted : (f : Frame) → s.state ≡ Halted → MayCome l s f → Follows s.r (f ∷ fs) n
        → Hears s s fs n
    in_halted (Data resp num message) e (inl m, room, small) c = absurd (let y = sym e ∙ m in cc)
    in_halted (Data resp num message) e (inr m, room, small) c = absurd (let y = sym e ∙ m.0 in cc)
    in_halted (Acked resp) e m c = still c
    in_halted (Naked why resp) e m c = absurd m
    in_halted (Rep num) e m c = still c.1
    in_halted Strt e m c = still c
    in_halted Stack e m c = still c
    in_halted (Maint message) e m c = still c

    in_istart : (f : Frame) → s.state ≡ IStart → MayCome l s f → Follows s.r (f ∷ fs) n
        → Hears s (on_by IStart l s (Good f)) fs n
    in_istart (Data resp num message) e (inl m, room, small) c = absurd (let y = sym e ∙ m in cc)
    in_istart (Data resp num message) e (inr m, room, small) c = absurd (let y = sym e ∙ m.0 in cc)
    in_istart (Acked resp) e m c = still c
    in_istart (Naked why resp) e m c = absurd m
    in_istart (Rep num) e m c = still c.1
    in_istart Strt e m c =
        to AStart true s.reply Off (λ z. absurd (let y = sym e ∙ z in cc)) (λ z. cc) h.quiet c
    in_istart Stack e m c = to Running false Ack Off (λ z. refl) (λ z. cc) refl c
    in_istart (Maint message) e m c = still c

    in_astart : (f : Frame) → s.state ≡ AStart → MayCome l s f → Follows s.r (f ∷ fs) n
        → Hears s (on_by AStart l s (Good f)) fs n
    in_astart (Data resp num message) e (inl m, room, small) c = absurd (let y = sym e ∙ m in cc)
    in_astart (Data resp num message) e (inr m, room, small) c =
        let zero : (resp == 0) ≡ true = (let z = m.1 in grind (arith)) in
        let u = after_startup s in
        let t =
        takes_data l u resp num message refl w small
        (record { quiet = h.quiet; ahead = h.ahead }) c.0 room in
        subst (λ b. Hears s (cond b (on_data l u resp num message) s) fs n) (sym zero)
        (record {
          goes =
              record {
                n = t.goes.n;
                unsent = t.goes.unsent;
                runs = λ z. t.goes.runs refl;
                halts =
                    λ z. absurd (let y = sym (t.goes.runs refl) ∙ z in cc);
                plain = t.goes.plain;
              };
          follows = subst (λ r. Follows r fs n) (sym t.received) c.1;
        })
    in_astart (Acked resp) e m c = ack (resp == 0)
      where
        ack : (b : Bool) → Hears s (cond b (after_startup s) s) fs n
        ack true = to Running false s.reply Off (λ z. refl) (λ z. cc) h.quiet c
        ack false = still c
    in_astart (Naked why resp) e m c = absurd m
    in_astart (Rep num) e m c = still c.1
    in_astart Strt e m c =
        to s.state true s.reply s.timer (λ z. z) (λ z. let y = sym e ∙ z in cc) h.quiet c
    in_astart Stack e m c = to Running false Ack Off (λ z. refl) (λ z. cc) refl c
    in_astart (Maint message) e m c = still c

    in_running : (f : Frame) → s.state ≡ Running → MayCome l s f → Follows s.r (f ∷ fs) n
        → Hears s (on_by Running l s (Good f)) fs n
    in_running (Data resp num message) e m c =
        let t = takes_data l s resp num message e w m.2 h c.0 m.1 in
        record { goes = t.goes; follows = subst (λ r. Follows r fs n) (sym t.received) c.1 }
    in_running (Acked resp) e m c = record { goes = goes_acknowledged s resp e w m h; follows = c }
    in_running (Naked why resp) e m c = absurd m
    in_running (Rep num) e m c =
        let same : (num == s.r) ≡ true = (let z = c.0 in grind (arith)) in
        subst (λ b. Hears s (record s { reply = cond b Ack (Nak reason.ReplyToRep) }) fs n)
        (sym same)
        (to s.state s.due Ack s.timer (λ z. z) (λ z. let y = sym e ∙ z in cc) refl c.1)
    in_running Strt e m c = absurd (m e)
    in_running Stack e m c =
        to s.state s.due Ack s.timer (λ z. z) (λ z. let y = sym e ∙ z in cc) refl c
    in_running (Maint message) e m c = still c

    by : (p : State) → s.state ≡ p → (f : Frame) → MayCome l s f → Follows s.r (f ∷ fs) n
        → Hears s (on_by p l s (Good f)) fs n
    by Halted e f m c = in_halted f e m c
    by IStart e f m c = in_istart f e m c
    by AStart e f m c = in_astart f e m c
    by Running e f m c = in_running f e m c
    by Maintenance e f m c = absurd (other e)

-- ---- a frame is sent

abbrev pub NoNaks : List WholeFrame → Type 0
NoNaks [] = Unit {0}
NoNaks (f ∷ fs) = (is_nak f.0 ≡ false) × NoNaks fs

-- what a turn sends, and the station after it
pub record Polls (s u : StationState) (sent : List WholeFrame) : Type 0 where
  pub plain : IsPlain u
  pub no_naks : NoNaks sent
  pub unsent : messages_in (map seen sent) ++ drop (before_next u) u.out
      ≡ drop (before_next s) s.out
  pub follows : (r : ℕ) (fs : List Frame) → Follows r fs s.n → Follows r (fs ++ map seen sent) u.n
  pub early : s.state ≢ Running → NoData (map seen sent)
  pub state : u.state ≡ s.state
  pub r : u.r ≡ s.r
  pub halted : u.state ≡ Halted → u ≡ s

abbrev frames_after : Next → List WholeFrame
frames_after t = option_to_list (option_map whole_frame (next_frame t))

polls_idle : (s : StationState) → IsPlain s → Polls s s []
polls_idle s h = record {
  plain = h;
  no_naks = tt;
  unsent = refl;
  follows = λ r fs k. subst (λ l. Follows r l s.n) (sym (append-nil fs)) k;
  early = λ e. tt;
  state = refl;
  r = refl;
  halted = λ e. refl;
}

-- a frame without a number of its own
polls_flags : (s : StationState) (f : Frame) (due : Bool) (reply : Owed) (rep : Bool)
    (timer : Timer) (p : State)
    → s.state ≡ p → (p ≡ Halted → ⊥) → IsPlain s → owes_nak reply ≡ false
    → is_nak (whole_frame f).0 ≡ false → messages_in (seen (whole_frame f) ∷ []) ≡ []
    → NoData (seen (whole_frame f) ∷ [])
    → ((r : ℕ) (fs : List Frame) → Follows r fs s.n
    → Follows r (fs ++ seen (whole_frame f) ∷ []) s.n)
    → Polls s (record s { due = due; reply = reply; rep = rep; timer = timer }) (whole_frame f ∷ [])
polls_flags s f due reply rep timer p e up h quiet none messages no_data follows = record {
  plain = record { quiet = quiet; ahead = h.ahead };
  no_naks = (none, tt);
  unsent = ap (λ (l : List (List ℕ)). l ++ drop (before_next s) s.out) messages;
  follows = follows;
  early = λ z. no_data;
  state = refl;
  r = refl;
  halted = λ z. absurd (up (sym e ∙ z));
}

one_later : (a t : ℕ) → a < 256 → t < 256 → (t + 511 - a) % 256 < 255
    → (next_number t + 511 - a) % 256 ≡ suc ((t + 511 - a) % 256)
one_later a t ha ht low = omega arith

pub polls : (s : StationState) (t : Next) → SentFor s t → s.state ≢ Maintenance
    → IsInWindow (outgoing s)
    → length s.out ≤ 255 → IsPlain s → Polls s (after_next t s) (frames_after t)
polls s _ (sends_strt p d) other w few h =
    polls_flags s Strt false s.reply s.rep Fresh IStart p (λ z. cc) h h.quiet refl refl (refl, tt)
    (λ r fs k. follows_plain r s.n fs Strt tt k)
polls s _ (sends_stack p d) other w few h =
    polls_flags s Stack false s.reply s.rep Fresh AStart p (λ z. cc) h h.quiet refl refl (refl, tt)
    (λ r fs k. follows_plain r s.n fs Stack tt k)
polls s _ (sends_nak why p r) other w few h =
    absurd (let q = h.quiet in let z = ap owes_nak r in cc (q, z))
polls s _ (sends_rep p r f) other w few h =
    polls_flags s (Rep s.n) s.due s.reply false Fresh Running p (λ z. cc) h h.quiet refl refl
    (refl, tt) (λ r fs k. follows_rep r s.n fs k)
polls s _ (sends_data p r f room) other w few h =
    let new : (s.t == next_number s.n) ≡ true = (let a = h.ahead in grind (arith)) in
    let b = before_next s in
    let n' : cond (s.t == next_number s.n) s.t s.n ≡ s.t = ap (λ b. cond b s.t s.n) new in
    record {
      plain = record { quiet = refl; ahead = ap next_number (sym n') };
      no_naks = (refl, tt);
      unsent =
          ap (λ k. message_at_next s ∷ drop k s.out)
          (one_later s.a s.t w.a_byte w.t_byte (omega (arith, room, few)))
          ∙ sym (drop-cons s.out b [] room);
      follows =
          λ r fs k. subst (λ n. Follows r (fs ++ Data (resp_of s) s.t
          (message_at_next s) ∷ []) n) (sym n')
          (follows_data r s.n s.t fs (resp_of s) (message_at_next s) h.ahead k);
      early = λ z. absurd (z p);
      state = refl;
      r = refl;
      halted = λ z. absurd (let y = sym p ∙ z in cc);
    }
polls s _ (sends_ack p r f room) other w few h =
    polls_flags s (Acked (resp_of s)) s.due Quiet s.rep s.timer Running p (λ z. cc) h refl refl refl
    (refl, tt) (λ r fs k. follows_plain r s.n fs (Acked (resp_of s)) tt k)
polls s _ (sends_maint m ms p o) other w few h = absurd (other p)
polls s _ (halted_idles p) other w few h = polls_idle s h
polls s _ (starting_idles p d) other w few h = polls_idle s h
polls s _ (running_idles p r f room) other w few h = polls_idle s h
polls s _ (maintenance_idles p o) other w few h = polls_idle s h

-- ---- the timer expires

pub record Expires (s : StationState) : Type 0 where
  pub due : Bool
  pub rep : Bool
  pub timer : Timer
  pub after : after_expire s ≡ record s { due = due; rep = rep; timer = timer }

pub expires : (s : StationState) → Expires s
expires s =
    (let w = whole s.timer in record { due = w.0; rep = w.1.0; timer = w.1.1.0; after = w.1.1.1 })
  where
    by : (p : State)
        → (d : Bool)
        × ((r : Bool)
        × ((t : Timer) × (after_expire_in p s ≡ record s { due = d; rep = r; timer = t })))
    by Halted = (s.due, (s.rep, (Off, refl)))
    by IStart = (true, (s.rep, (Off, refl)))
    by AStart = (true, (s.rep, (Off, refl)))
    by Running = (s.due, (cond (s.a == s.n) s.rep true, (Off, refl)))
    by Maintenance = (s.due, (s.rep, (Off, refl)))

    whole : (t : Timer)
        → (d : Bool)
        × ((r : Bool)
        × ((k : Timer) × (after_expire_with t s ≡ record s { due = d; rep = r; timer = k })))
    whole Off = (s.due, (s.rep, (s.timer, refl)))
    whole Fresh = by s.state
    whole On = by s.state
