-- What a watch saw, part after part.
use Rattle.std.proofs.Common.{◌≡◌, ℕ, suc, ◌+◌, ◌-◌, ◌<◌, true, false, List, [], ◌∷◌, ◌++◌, refl}
use Rattle.std.proofs.Common.{sym, ◌∙◌, ap, subst, arith, append_assoc, append-nil}
use Rattle.std.specs.Prelude.{Option, Some, None}
use Rattle.ddcmp_io.specs.Device.{Logs}
use Rattle.ddcmp_io.specs.Ends.{other}
use Rattle.ddcmp_io.specs.declared.carrier.End.{End}
use Rattle.ddcmp_io.specs.declared.carrier.End.TheVariants.{A, B}
use Rattle.ddcmp_pair.specs.declared.event.Event.{Event}
use Rattle.ddcmp_pair.specs.declared.event.Event.TheVariants as event
use Rattle.ddcmp_pair.specs.declared.event.Reply.{Reply}
use Rattle.ddcmp_pair.specs.Run.{PairState, after_event, reply_to, run}
use Rattle.ddcmp_pair.specs.Settle.{counted, carried, exchange, either_writes, exchanges_within}
use Rattle.ddcmp_pair.specs.Settle.{mail_events, all_mail, most_exchanges, settling, settled}
use Rattle.ddcmp_pair.specs.Recovery.{both_expire, rounding, rounded, recovering}
use Rattle.ddcmp_pair.proofs.Runs.{run-append, run-one}
use Rattle.ddcmp_pair.proofs.Settles.{exchanged, quieted}
use Rattle.ddcmp_pair.proofs.Recoveries.{rounding-events}
use Rattle.ddcmp_pair.specs.Steps.{Step, steps_of}

logs-none : (a : Option (List Step)) → Logs a a []
logs-none None = tt
logs-none (Some xs) = sym (append-nil xs)

logs-then : (a b c : Option (List Step)) (xs ys : List Step) → Logs a b xs → Logs b c ys
    → Logs a c (xs ++ ys)
logs-then None b c xs ys p q = tt
logs-then (Some a) None c xs ys p q = absurd p
logs-then (Some a) (Some b) None xs ys p q = absurd q
logs-then (Some a) (Some b) (Some c) xs ys p q = q ∙ ap (λ t. t ++ ys) p ∙ append_assoc a xs ys

steps-append : (xs ys : List Event) (p : PairState)
    → steps_of (xs ++ ys) p ≡ steps_of xs p ++ steps_of ys (run xs p)
unfolding steps_of run
steps-append [] ys p = refl
steps-append (e ∷ xs) ys p =
    ap (λ t. record { event = e; reply = reply_to e p } ∷ t) (steps-append xs ys (after_event e p))

pub saw-none : (a : Option (List Step)) (p : PairState) → Logs a a (steps_of [] p)
unfolding steps_of
saw-none a p = logs-none a

pub saw-one : (a b : Option (List Step)) (e : Event) (r : Reply) (p : PairState) → r ≡ reply_to e p
    → Logs a b (record { event = e; reply = r } ∷ []) → Logs a b (steps_of (e ∷ []) p)
unfolding steps_of
saw-one a b e r p is seen = subst (λ t. Logs a b (record { event = e; reply = t } ∷ [])) is seen

pub saw-as : (a b : Option (List Step)) (xs ys : List Event) (p : PairState) → xs ≡ ys
    → Logs a b (steps_of xs p) → Logs a b (steps_of ys p)
saw-as a b xs ys p is seen = subst (λ t. Logs a b (steps_of t p)) is seen

-- what was seen of some events, and then of those that follow from where they led
pub saw-next : (a b c : Option (List Step)) (xs : List Event) (ys : PairState → List Event)
    (p q : PairState) → Logs a b (steps_of xs p) → q ≡ run xs p → Logs b c (steps_of (ys q) q)
    → Logs a c (steps_of (xs ++ ys (run xs p)) p)
saw-next a b c xs ys p q first is second =
    subst (Logs a c) (sym (steps-append xs (ys (run xs p)) p))
    (logs-then a b c (steps_of xs p) (steps_of (ys (run xs p)) (run xs p)) first
    (subst (λ t. Logs b c (steps_of (ys t) t)) is second))

-- the same of an event that follows
pub saw-event : (a b c : Option (List Step)) (xs : List Event) (e : Event) (p q : PairState)
    → Logs a b (steps_of xs p) → q ≡ run xs p → Logs b c (steps_of (e ∷ []) q)
    → Logs a c (steps_of (xs ++ e ∷ []) p)
saw-event a b c xs e p q first is second = saw-next a b c xs (λ t. e ∷ []) p q first is second

pub saw-carried : (a b c : Option (List Step)) (from : End) (bytes : List ℕ) (p q : PairState)
    → Logs a b (steps_of (event.Poll from ∷ []) p) → q ≡ after_event (event.Poll from) p
    → Logs b c (steps_of (event.Arrive (other from) bytes ∷ []) q)
    → Logs a c (steps_of (carried from bytes) p)
saw-carried a b c from bytes p q first is second =
    saw-event a b c (event.Poll from ∷ []) (event.Arrive (other from) bytes) p q first
    (is ∙ sym (run-one (event.Poll from) p)) second

-- ---- a settle

settling-is : (p : PairState)
    → (settling p).events
    ≡ all_mail p ++ (exchanges_within (most_exchanges p) (run (all_mail p) p)).events
unfolding settling
settling-is p = refl

none-left : (p : PairState) → (exchanges_within 0 p).events ≡ []
unfolding exchanges_within
none-left p = refl

-- what was seen of a settle of which so many exchanges were counted
pub record SawToSettle (a b : Option (List Step)) (p : PairState) (made : ℕ) (now : PairState)
    : Type 0 where
  pub done : List Event
  pub state : now ≡ run done p
  pub events : done ++ (exchanges_within (most_exchanges p - made) now).events
      ≡ (settling p).events
  pub seen : Logs a b (steps_of done p)

pub saw-mail : (a b c : Option (List Step)) (p q r : PairState)
    → Logs a b (steps_of (mail_events A p) p) → q ≡ run (mail_events A p) p
    → Logs b c (steps_of (mail_events B q) q) → r ≡ run (mail_events B q) q
    → SawToSettle a c p 0 r
saw-mail a b c p q r first is second later =
    let at : r ≡ run (all_mail p) p =
    later ∙ ap (λ t. run (mail_events B t) t) is ∙ sym (run-append (mail_events A p) _ p) in
    let all : most_exchanges p - 0 ≡ most_exchanges p = omega arith in
    record {
      done = all_mail p;
      state = at;
      events =
          ap (λ n. all_mail p ++ (exchanges_within n r).events) all
          ∙ ap (λ t. all_mail p ++ (exchanges_within (most_exchanges p) t).events) at
          ∙ sym (settling-is p);
      seen = saw-next a b c (mail_events A p) (λ t. mail_events B t) p q first is second;
    }

one-less : (most made : ℕ) → made < most → most - made ≡ suc (most - (made + 1))
one-less most made below = omega arith

pub saw-more : (a b c : Option (List Step)) (p : PairState) (made : ℕ) (now next : PairState)
    → SawToSettle a b p made now → made < most_exchanges p → either_writes now ≡ true
    → next ≡ run (exchange now) now → Logs b c (steps_of (exchange now) now)
    → SawToSettle a c p (made + 1) next
saw-more a b c p made now next l below wrote is seen =
    let k = most_exchanges p - (made + 1) in
    let all : exchanges_within (most_exchanges p - made) now
    ≡ counted (exchange now) (exchanges_within k next) =
    ap (λ n. exchanges_within n now) (one-less (most_exchanges p) made below)
    ∙ exchanged k now wrote
    ∙ ap (λ t. counted (exchange now) (exchanges_within k t)) (sym is) in
    record {
      done = l.done ++ exchange now;
      state = is ∙ ap (run (exchange now)) l.state ∙ sym (run-append l.done (exchange now) p);
      events =
          append_assoc l.done (exchange now) _ ∙ ap (λ s. l.done ++ s.events) (sym all) ∙ l.events;
      seen = saw-next a b c l.done (λ t. exchange now) p now l.seen l.state seen;
    }

pub saw-quiet : (a b c : Option (List Step)) (p : PairState) (made : ℕ) (now : PairState)
    → SawToSettle a b p made now → made < most_exchanges p → either_writes now ≡ false
    → Logs b c (steps_of (exchange now) now) → Logs a c (steps_of (settling p).events p)
saw-quiet a b c p made now l below wrote seen =
    let all =
    ap (λ n. exchanges_within n now) (one-less (most_exchanges p) made below)
    ∙ quieted (most_exchanges p - (made + 1)) now wrote in
    saw-as a c (l.done ++ exchange now) (settling p).events p
    (ap (λ s. l.done ++ s.events) (sym all) ∙ l.events)
    (saw-next a b c l.done (λ t. exchange now) p now l.seen l.state seen)

pub saw-busy : (a b : Option (List Step)) (p now : PairState)
    → SawToSettle a b p (most_exchanges p) now → Logs a b (steps_of (settling p).events p)
saw-busy a b p now l =
    let none : most_exchanges p - most_exchanges p ≡ 0 = omega arith in
    saw-as a b l.done (settling p).events p
    (sym (append-nil l.done)
    ∙ ap (λ t. l.done ++ t)
    (sym (ap (λ n. (exchanges_within n now).events) none ∙ none-left now)) ∙ l.events)
    l.seen

-- ---- a round, and a recovery

pub saw-round : (a b c d : Option (List Step)) (p q r : PairState)
    → Logs a b (steps_of (event.Expire A ∷ []) p) → q ≡ after_event (event.Expire A) p
    → Logs b c (steps_of (event.Expire B ∷ []) q) → r ≡ run both_expire p
    → Logs c d (steps_of (settling r).events r) → Logs a d (steps_of (rounding p).events p)
saw-round a b c d p q r first is second both third =
    saw-as a d _ _ p (sym (rounding-events p))
    (saw-next a c d both_expire (λ t. (settling t).events) p r
    (saw-event a b c (event.Expire A ∷ []) (event.Expire B) p q first
    (is ∙ sym (run-one (event.Expire A) p)) second)
    both third)

recovering-events : (p : PairState)
    → (recovering p).events
    ≡ (settling p).events
    ++ ((rounding (settled p)).events ++ (rounding (rounded (settled p))).events)
unfolding recovering
recovering-events p = refl

pub saw-recovery : (a b c d : Option (List Step)) (p x y : PairState)
    → Logs a b (steps_of (settling p).events p) → x ≡ settled p
    → Logs b c (steps_of (rounding x).events x) → y ≡ rounded x
    → Logs c d (steps_of (rounding y).events y) → Logs a d (steps_of (recovering p).events p)
saw-recovery a b c d p x y first is second then third =
    saw-as a d _ _ p (sym (recovering-events p))
    (saw-next a b d (settling p).events
    (λ t. (rounding t).events ++ (rounding (rounded t)).events) p x first is
    (saw-next b c d (rounding x).events (λ t. (rounding t).events) x y second then third))
