-- Two ends take messages once their line has recovered, and hand them over.
use Rattle.std.proofs.Common.{◌≡◌, ℕ, zero, suc, ◌+◌, ◌%◌, ◌≤◌, Bool, true, false, cond, List, []}
use Rattle.std.proofs.Common.{◌∷◌, ◌++◌, length, refl, sym, ap, ◌∙◌, subst, arith, length-drop}
use Rattle.std.proofs.Common.{Option, Some, None}
use Rattle.std.specs.Prelude.{◌==◌, ◌&&◌, not}
use Rattle.ddcmp_frame.specs.Reading.{open_at_end}
use Rattle.ddcmp_window.specs.Sender.{accept_refusal, number_accepted, answer_unless}
use Rattle.ddcmp_window.specs.declared.sender.SendRefusal.{SendRefusal}
use Rattle.ddcmp_window.specs.declared.sender.SendRefusal.TheVariants.{WrongState}
use Rattle.ddcmp_core.specs.declared.state.State.{State}
use Rattle.ddcmp_core.specs.declared.state.State.TheVariants.{Halted, Running}
use Rattle.ddcmp_core.specs.Table.{StationState, Limits, outgoing, is_halted, is_running}
use Rattle.ddcmp_core.specs.Table.{send_refusal, may_send, answer_to_send, after_accept}
use Rattle.ddcmp_core.specs.Core.{IsSound}
use Rattle.ddcmp_core.proofs.Sound.{sound_accepted, sound_started}
use Rattle.ddcmp_proto.specs.Config.{first_refusal}
use Rattle.ddcmp_proto.specs.declared.config.Config.{Config}
use Rattle.ddcmp_io.specs.Ends.{other}
use Rattle.ddcmp_io.specs.declared.carrier.End.{End}
use Rattle.ddcmp_io.specs.declared.carrier.End.TheVariants.{A, B}
use Rattle.ddcmp_pair.specs.declared.event.Event.{Event}
use Rattle.ddcmp_pair.specs.declared.event.Event.TheVariants as event
use Rattle.ddcmp_pair.specs.declared.event.Reply.TheVariants as reply
use Rattle.ddcmp_pair.specs.Pairs.{IsRun}
use Rattle.ddcmp_pair.specs.Recovery.{both_expire, is_ready, rounded, recovering, recovered}
use Rattle.ddcmp_pair.specs.Recovery.{IsDelivered, IsDone}
use Rattle.ddcmp_pair.specs.Run.{EndState, PairState, at, handed_up, with_station, accepted}
use Rattle.ddcmp_pair.specs.Run.{reply_to, after_send_here, after_event, run, new_pair, line_bytes}
use Rattle.ddcmp_pair.specs.Run.{is_clean}
use Rattle.ddcmp_pair.specs.Settle.{exchange, either_writes, exchanges_within, all_mail}
use Rattle.ddcmp_pair.specs.Settle.{most_exchanges, settled}
use Rattle.ddcmp_pair.proofs.Runs.{run-append}
use Rattle.ddcmp_pair.proofs.Settles.{exchanged, quieted, settled-is}
use Rattle.ddcmp_pair.proofs.Crossings.{all-mail, turned, crossed_by, half, exchange-is}
use Rattle.ddcmp_pair.proofs.Limits.{run-limits}
use Rattle.ddcmp_pair.proofs.Recoveries.{rounded-is, recovering-state}
use Rattle.ddcmp_pair.proofs.Rounds.{both-expire-is}
use Rattle.ddcmp_pair.proofs.Steady.{Shows}
use Rattle.ddcmp_pair.proofs.Ordered.{run-of, run-more, run-event}
use Rattle.ddcmp_pair.proofs.Ready.{kept, run-recovers}
use Rattle.ddcmp_laws.specs.Story.{number}
use Rattle.ddcmp_laws.specs.Starts.{both_start}
use Rattle.ddcmp_laws.specs.Recovered.{Accepts, sent_over, HandsOver}
use Rattle.ddcmp_laws.proofs.StartLaws.{ready_after_start}
use Rattle.ddcmp_laws.proofs.FaithfulLaws.{sound_made}

-- ---- a recovery accepts no message

abbrev SameGiven : PairState → PairState → Type 0
SameGiven p q = (q.a.given ≡ p.a.given) × (q.b.given ≡ p.b.given)

given_half : (p : PairState) → ((half p).a.given ≡ p.b.given) × ((half p).b.given ≡ p.a.given)
given_half p = by (line_bytes p.a)
  where
    by : (o : Option (List ℕ))
        → ((turned (crossed_by o p)).a.given ≡ p.b.given)
        × ((turned (crossed_by o p)).b.given ≡ p.a.given)
    by None = (refl, refl)
    by (Some bytes) = (refl, refl)

given_exchange : (p : PairState) → SameGiven p (run (exchange p) p)
given_exchange p =
    let f = given_half p in
    let g = given_half (half p) in
    subst (SameGiven p) (sym (exchange-is p)) (g.0 ∙ f.1, g.1 ∙ f.0)

given_within : (n : ℕ) (p : PairState) → SameGiven p (run (exchanges_within n p).events p)
unfolding run exchanges_within
given_within zero p = (refl, refl)
given_within (suc n) p = by (either_writes p) refl (given_within n (run (exchange p) p))
  where
    by : (b : Bool) → either_writes p ≡ b
        → SameGiven (run (exchange p) p)
        (run (exchanges_within n (run (exchange p) p)).events (run (exchange p) p))
        → SameGiven p (run (exchanges_within (suc n) p).events p)
    by true e later =
        let f = given_exchange p in
        subst (SameGiven p)
        (sym (ap (λ s. run s.events p) (exchanged n p e) ∙ run-append (exchange p) _ p))
        (later.0 ∙ f.0, later.1 ∙ f.1)
    by false e later =
        subst (SameGiven p) (sym (ap (λ s. run s.events p) (quieted n p e))) (given_exchange p)

given_settled : (p : PairState) → SameGiven p (settled p)
given_settled p =
    let mail : SameGiven p (run (all_mail p) p) =
    subst (SameGiven p) (sym (all-mail p)) (refl, refl) in
    let rest = given_within (most_exchanges p) (run (all_mail p) p) in
    subst (SameGiven p) (settled-is p _ refl) (rest.0 ∙ mail.0, rest.1 ∙ mail.1)

given_rounded : (p : PairState) → SameGiven p (rounded p)
given_rounded p =
    let expired : SameGiven p (run both_expire p) =
    subst (SameGiven p) (sym (both-expire-is p)) (refl, refl) in
    let rest = given_settled (run both_expire p) in
    subst (SameGiven p) (sym (rounded-is p)) (rest.0 ∙ expired.0, rest.1 ∙ expired.1)

given_recovered : (p : PairState) → SameGiven p (recovered p)
given_recovered p =
    let f = given_settled p in
    let g = given_rounded (settled p) in
    let h = given_rounded (rounded (settled p)) in
    (h.0 ∙ g.0 ∙ f.0, h.1 ∙ g.1 ∙ f.1)

-- ---- a pair that has recovered

record IsWhole (p : PairState) : Type 0 where
  leads : IsRun p
  honest : p.honest ≡ true
  clean : is_clean p ≡ true
  sound_a : IsSound p.a.core.limits p.a.core.station
  sound_b : IsSound p.b.core.limits p.b.core.station
  closed_a : open_at_end p.a.core.limits.longest p.a.arrived ≡ 0
  closed_b : open_at_end p.b.core.limits.longest p.b.arrived ≡ 0
  same : p.a.core.limits.longest ≡ p.b.core.limits.longest
  done : IsDone p

whole_recovered : (p : PairState) → IsRun p → IsSound p.a.core.limits p.a.core.station
    → IsSound p.b.core.limits p.b.core.station → is_ready p ≡ true → IsWhole (recovered p)
whole_recovered p r a b e =
    let c = run-recovers p r a b e in
    let s = c.twice.kept.steady in
    record {
      leads = run-more (recovering p).events p (recovered p) (sym (recovering-state p)) r;
      honest = s.honest;
      clean = s.clean;
      sound_a = s.a.sound;
      sound_b = s.b.sound;
      closed_a = s.a.closed;
      closed_b = s.b.closed;
      same = s.same;
      done = c.done;
    }

ready_by : (honest clean : Bool) (p q : State) (m n j k : ℕ) → honest ≡ true → clean ≡ true
    → p ≡ Running
    → q ≡ Running → m ≡ 0 → n ≡ 0 → j ≡ k
    → ((honest && clean)
    && (((not (is_halted p) && (m == 0)) && (not (is_halted q) && (n == 0))) && (j == k)))
    ≡ true
ready_by honest clean p q m n j k h c e f x y z =
    let same : (k == k) ≡ true = grind (arith) in
    (λ i. (h i && c i)
    && (((not (is_halted (e i)) && (x i == 0)) && (not (is_halted (f i)) && (y i == 0)))
    && (z i == k)))
    ∙ same

ready_whole : (p : PairState) → IsWhole p → is_ready p ≡ true
ready_whole p w =
    ready_by p.honest (is_clean p)
    p.a.core.station.state p.b.core.station.state _ _ _ _ w.honest w.clean w.done.from_a.runs
    w.done.from_b.runs w.closed_a w.closed_b w.same

not_halted : (p : State) → p ≡ Running → p ≡ Halted → ⊥
not_halted p e z = let y = sym e ∙ z in cc

shows_a : (p : PairState) → IsWhole p → Shows p.a p.b
shows_a p w =
    kept.from_a p w.leads w.honest w.clean
    (record { a = not_halted _ w.done.from_a.runs; b = not_halted _ w.done.from_b.runs })

shows_b : (p : PairState) → IsWhole p → Shows p.b p.a
shows_b p w =
    kept.from_b p w.leads w.honest w.clean
    (record { a = not_halted _ w.done.from_a.runs; b = not_halted _ w.done.from_b.runs })

-- ---- it accepts messages

-- a station that keeps no message, and whose A is this
record IsOpen (l : Limits) (s : StationState) (given : ℕ) : Type 0 where
  runs : s.state ≡ Running
  none : length s.out ≡ 0
  a_is : s.a ≡ given % 256
  room : 1 ≤ l.window

open_end : (x y : EndState) → Shows x y → IsDelivered x y → IsSound x.core.limits x.core.station
    → IsOpen x.core.limits x.core.station (length x.given)
open_end x y s d h =
    let kept_is = ap length s.numbers.out_is ∙ length-drop x.acknowledged x.given in
    record {
      runs = d.runs;
      none = (let e = d.acknowledged in omega (arith, kept_is, e));
      a_is = s.numbers.a_is ∙ ap (λ n. n % 256) d.acknowledged;
      room = h.out_stored.limit_min;
    }

no_refusal : (window longest : ℕ) (s : StationState) (message : List ℕ) → length s.out ≡ 0
    → 1 ≤ window
    → 1 ≤ length message → length message ≤ longest
    → accept_refusal window longest (outgoing s) message ≡ None
no_refusal window longest s message none room some short = grind (arith)

not_refused : (l : Limits) (s : StationState) (given : ℕ) (message : List ℕ) → IsOpen l s given
    → 1 ≤ length message
    → length message ≤ l.longest → send_refusal l s message ≡ None
not_refused l s given message o some short =
    ap
    (λ p. cond (is_running p) (accept_refusal l.window l.longest (outgoing s) message)
    (Some WrongState)) o.runs
    ∙ no_refusal l.window l.longest s message o.none o.room some short

accepted_next : (l : Limits) (s : StationState) (given : ℕ) (message : List ℕ) → IsOpen l s given
    → 1 ≤ length message
    → length message ≤ l.longest
    → accepted (answer_to_send l s message) ≡ reply.Accepted (number ((given + 1) % 256))
accepted_next l s given message o some short =
    let none : length s.out ≡ 0 = o.none in
    let a : s.a ≡ given % 256 = o.a_is in
    let next : (s.a + (length s.out + 1)) % 256 ≡ (given + 1) % 256 = omega (arith, none, a) in
    ap (λ (x : Option SendRefusal). accepted (answer_unless x (number_accepted (outgoing s))))
    (not_refused l s given message o some short)
    ∙ ap (λ n. reply.Accepted (number n)) next

abbrev Short : End → List ℕ → PairState → Type 0
Short end message p = (1 ≤ length message) × (length message ≤ (at end p).core.limits.longest)

open_a : (p : PairState) → IsWhole p → IsOpen p.a.core.limits p.a.core.station (length p.a.given)
open_a p w = open_end p.a p.b (shows_a p w) w.done.from_a w.sound_a

open_b : (p : PairState) → IsWhole p → IsOpen p.b.core.limits p.b.core.station (length p.b.given)
open_b p w = open_end p.b p.a (shows_b p w) w.done.from_b w.sound_b

accepts : (end : End) (message : List ℕ) (p : PairState) → IsWhole p → Short end message p
    → Accepts end message p
unfolding reply_to
accepts A message p w s =
    accepted_next p.a.core.limits p.a.core.station (length p.a.given) message (open_a p w) s.0 s.1
accepts B message p w s =
    accepted_next p.b.core.limits p.b.core.station (length p.b.given) message (open_b p w) s.0 s.1

-- ---- and hands them over

-- an end that accepted this message
abbrev with_message : List ℕ → EndState → EndState
with_message message x =
    record (with_station (after_accept x.core.station message) x)
    { given = x.given ++ message ∷ [] }

sent_is : (message : List ℕ) (x : EndState) → may_send x.core.limits x.core.station message ≡ true
    → after_send_here message x ≡ with_message message x
sent_is message x e =
    ap
    (λ b. record (with_station (cond b (after_accept x.core.station message) x.core.station) x)
    { given = cond b (x.given ++ message ∷ []) x.given }) e

may_send_now : (l : Limits) (s : StationState) (given : ℕ) (message : List ℕ) → IsOpen l s given
    → 1 ≤ length message
    → length message ≤ l.longest → may_send l s message ≡ true
may_send_now l s given message o some short =
    let e = not_refused l s given message o some short in rw e refl

sent_from_a : (p : PairState) (message : List ℕ)
    → may_send p.a.core.limits p.a.core.station message ≡ true
    → after_event (event.Send A message) p ≡ record p { a = with_message message p.a }
unfolding after_event
sent_from_a p message e = ap (λ (x : EndState). record p { a = x }) (sent_is message p.a e)

sent_from_b : (p : PairState) (message : List ℕ)
    → may_send p.b.core.limits p.b.core.station message ≡ true
    → after_event (event.Send B message) p ≡ record p { b = with_message message p.b }
unfolding after_event
sent_from_b p message e = ap (λ (x : EndState). record p { b = x }) (sent_is message p.b e)

hands_over : (end : End) (message : List ℕ) (p : PairState) → IsWhole p → Short end message p
    → HandsOver end message p (sent_over end message p)
hands_over A message p w s =
    let may =
    may_send_now p.a.core.limits p.a.core.station (length p.a.given) message (open_a p w)
    s.0 s.1 in
    let q : PairState = record p { a = with_message message p.a } in
    let is : after_event (event.Send A message) p ≡ q = sent_from_a p message may in
    let z =
    whole_recovered q (run-event (event.Send A message) p q (sym is) w.leads)
    (sound_accepted p.a.core.limits p.a.core.station message may w.sound_a) w.sound_b
    (ready_whole p w) in
    let g = given_recovered q in
    subst (λ (x : PairState). HandsOver A message p (recovered x)) (sym is)
    (record {
      there =
          sym z.done.from_a.handed_up ∙ g.0
          ∙ ap (λ (x : List (List ℕ)). x ++ message ∷ []) w.done.from_a.handed_up;
      here = sym z.done.from_b.handed_up ∙ g.1 ∙ w.done.from_b.handed_up;
      done = z.done;
    })
hands_over B message p w s =
    let may =
    may_send_now p.b.core.limits p.b.core.station (length p.b.given) message (open_b p w)
    s.0 s.1 in
    let q : PairState = record p { b = with_message message p.b } in
    let is : after_event (event.Send B message) p ≡ q = sent_from_b p message may in
    let z =
    whole_recovered q (run-event (event.Send B message) p q (sym is) w.leads) w.sound_a
    (sound_accepted p.b.core.limits p.b.core.station message may w.sound_b) (ready_whole p w) in
    let g = given_recovered q in
    subst (λ (x : PairState). HandsOver B message p (recovered x)) (sym is)
    (record {
      there =
          sym z.done.from_b.handed_up ∙ g.1
          ∙ ap (λ (x : List (List ℕ)). x ++ message ∷ []) w.done.from_b.handed_up;
      here = sym z.done.from_a.handed_up ∙ g.0 ∙ w.done.from_a.handed_up;
      done = z.done;
    })

-- ---- of every run

limits_stay : (p : PairState) (end : End)
    → (at end (recovered p)).core.limits.longest ≡ (at end p).core.limits.longest
limits_stay p end =
    ap (λ (q : PairState). (at end q).core.limits.longest) (sym (recovering-state p))
    ∙ ap (λ (l : Limits). l.longest) (run-limits (recovering p).events p end)

short_still : (end : End) (message : List ℕ) (p : PairState) → 1 ≤ length message
    → length message ≤ (at end p).core.limits.longest → Short end message (recovered p)
short_still end message p some short =
    (some, subst (λ n. length message ≤ n) (sym (limits_stay p end)) short)

led : (first second : Config) (events : List Event) (p : PairState) → first_refusal first ≡ None
    → first_refusal second ≡ None → run events (new_pair first second) ≡ p → IsRun p
led first second events p f g leads = subst IsRun leads (run-of first second events f g)

pub accepts_recovered : (first second : Config) (events : List Event) (p : PairState) (end : End)
    (message : List ℕ)
    → first_refusal first ≡ None → first_refusal second ≡ None
    → run events (new_pair first second) ≡ p → IsSound p.a.core.limits p.a.core.station
    → IsSound p.b.core.limits p.b.core.station → is_ready p ≡ true
    → 1 ≤ length message → length message ≤ (at end p).core.limits.longest
    → Accepts end message (recovered p)
accepts_recovered first second events p end message f g leads a b e some short =
    accepts end message (recovered p)
    (whole_recovered p (led first second events p f g leads) a b e)
    (short_still end message p some short)

pub hands_over_recovered : (first second : Config) (events : List Event) (p : PairState) (end : End)
    (message : List ℕ)
    → first_refusal first ≡ None → first_refusal second ≡ None
    → run events (new_pair first second) ≡ p → IsSound p.a.core.limits p.a.core.station
    → IsSound p.b.core.limits p.b.core.station → is_ready p ≡ true
    → 1 ≤ length message → length message ≤ (at end p).core.limits.longest
    → HandsOver end message (recovered p) (sent_over end message (recovered p))
hands_over_recovered first second events p end message f g leads a b e some short =
    hands_over end message (recovered p)
    (whole_recovered p (led first second events p f g leads) a b e)
    (short_still end message p some short)

-- ---- from the first start

abbrev begun : Config → Config → PairState
begun first second = run both_start (new_pair first second)

sound_begun : (first second : Config) → first_refusal first ≡ None → first_refusal second ≡ None
    → IsSound (begun first second).a.core.limits (begun first second).a.core.station
    × IsSound (begun first second).b.core.limits (begun first second).b.core.station
unfolding run after_event
sound_begun first second f g =
    (sound_started _ _ refl (sound_made first f), sound_started _ _ refl (sound_made second g))

whole_begun : (first second : Config) → first_refusal first ≡ None → first_refusal second ≡ None
    → first.max ≡ second.max → IsWhole (recovered (begun first second))
whole_begun first second f g e =
    let s = sound_begun first second f g in
    whole_recovered (begun first second) (run-of first second both_start f g) s.0 s.1
    (ready_after_start first second e)

begun_longest : (first second : Config) (end : End)
    → (at end (begun first second)).core.limits.longest
    ≡ (at end (new_pair first second)).core.limits.longest
begun_longest first second end =
    ap (λ (l : Limits). l.longest) (run-limits both_start (new_pair first second) end)

none_given : (first second : Config) → SameGiven (new_pair first second) (begun first second)
unfolding run after_event
none_given first second = (refl, refl)

short_begun : (end : End) (message : List ℕ) (first second : Config) → 1 ≤ length message
    → length message ≤ (at end (new_pair first second)).core.limits.longest
    → Short end message (recovered (begun first second))
short_begun end message first second some short =
    short_still end message (begun first second) some
    (subst (λ n. length message ≤ n) (sym (begun_longest first second end)) short)

given_first : (first second : Config)
    → ((recovered (begun first second)).a.given ≡ [])
    × ((recovered (begun first second)).b.given ≡ [])
given_first first second =
    let f = given_recovered (begun first second) in
    let g = none_given first second in
    (f.0 ∙ g.0, f.1 ∙ g.1)

pub accepts_first : (first second : Config) (end : End) (message : List ℕ)
    → first_refusal first ≡ None
    → first_refusal second ≡ None → first.max ≡ second.max
    → 1 ≤ length message → length message ≤ first.max
    → reply_to (event.Send end message) (recovered (begun first second)) ≡ reply.Accepted (number 1)
accepts_first first second A message f g e some short =
    accepts A message (recovered (begun first second)) (whole_begun first second f g e)
    (short_begun A message first second some short)
    ∙ ap (λ (x : List (List ℕ)). reply.Accepted (number ((length x + 1) % 256)))
    (given_first first second).0
accepts_first first second B message f g e some short =
    accepts B message (recovered (begun first second)) (whole_begun first second f g e)
    (short_begun B message first second some (subst (λ n. length message ≤ n) e short))
    ∙ ap (λ (x : List (List ℕ)). reply.Accepted (number ((length x + 1) % 256)))
    (given_first first second).1

pub hands_over_first : (first second : Config) (end : End) (message : List ℕ)
    → first_refusal first ≡ None
    → first_refusal second ≡ None → first.max ≡ second.max
    → 1 ≤ length message → length message ≤ first.max
    → (handed_up (at (other end) (sent_over end message (recovered (begun first second))))
    ≡ message ∷ [])
    × (handed_up (at end (sent_over end message (recovered (begun first second)))) ≡ [])
hands_over_first first second A message f g e some short =
    let w = whole_begun first second f g e in
    let z = given_first first second in
    let h =
    hands_over A message (recovered (begun first second)) w
    (short_begun A message first second some short) in (
      h.there
          ∙ ap (λ (x : List (List ℕ)). x ++ message ∷ []) (sym w.done.from_a.handed_up ∙ z.0),
      h.here
          ∙ sym w.done.from_b.handed_up ∙ z.1,
    )
hands_over_first first second B message f g e some short =
    let w = whole_begun first second f g e in
    let z = given_first first second in
    let h =
    hands_over B message (recovered (begun first second)) w
    (short_begun B message first second some (subst (λ n. length message ≤ n) e short)) in (
      h.there
          ∙ ap (λ (x : List (List ℕ)). x ++ message ∷ []) (sym w.done.from_b.handed_up ∙ z.1),
      h.here
          ∙ sym w.done.from_a.handed_up ∙ z.0,
    )
