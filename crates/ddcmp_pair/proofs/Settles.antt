-- A settle, exchange after exchange.
use Rattle.std.proofs.Common.{◌≡◌, ℕ, suc, ◌+◌, ◌-◌, ◌<◌, Bool, true, false, List, [], ◌++◌, refl}
use Rattle.std.proofs.Common.{sym, ◌∙◌, ap, subst, arith, append_assoc, append-nil}
use Rattle.std.specs.Prelude.{if◌then◌else◌}
use Rattle.ddcmp_io.specs.declared.carrier.End.TheVariants.{A, B}
use Rattle.ddcmp_pair.specs.declared.event.Event.{Event}
use Rattle.ddcmp_pair.specs.Run.{PairState, run}
use Rattle.ddcmp_pair.specs.Settle.{Settling, counted, exchange, either_writes, exchanges_within}
use Rattle.ddcmp_pair.specs.Settle.{mail_events, all_mail, most_exchanges, settling, settled}
use Rattle.ddcmp_pair.specs.Settle.{WantsMemory}
use Rattle.ddcmp_pair.proofs.Runs.{run-append, wanted-first, wanted-later}

within-true : (b : Bool) (x y : Settling) → b ≡ true → (if b then x else y) ≡ x
within-true true x y e = refl
within-true false x y e = absurd (cc)

within-false : (b : Bool) (x y : Settling) → b ≡ false → (if b then x else y) ≡ y
within-false false x y e = refl
within-false true x y e = absurd (cc)

pub exchanged : (more : ℕ) (p : PairState) → either_writes p ≡ true
    → exchanges_within (suc more) p
    ≡ counted (exchange p) (exchanges_within more (run (exchange p) p))
unfolding exchanges_within
exchanged more p e = within-true (either_writes p) _ _ e

pub quieted : (more : ℕ) (p : PairState) → either_writes p ≡ false
    → exchanges_within (suc more) p ≡ record { events = exchange p; exchanges = 0; quiet = true }
unfolding exchanges_within
quieted more p e = within-false (either_writes p) _ _ e

ended : (p : PairState)
    → exchanges_within 0 p ≡ record { events = []; exchanges = 0; quiet = false }
unfolding exchanges_within
ended p = refl

-- what is to be done after some exchanges were counted is the rest of what was to be done
pub record LeftToSettle (most : ℕ) (first : PairState) (made : ℕ) (now : PairState) : Type 0 where
  pub done : List Event
  pub state : now ≡ run done first
  pub events : done ++ (exchanges_within (most - made) now).events
      ≡ (exchanges_within most first).events
  pub exchanges : made + (exchanges_within (most - made) now).exchanges
      ≡ (exchanges_within most first).exchanges
  pub quiet : (exchanges_within (most - made) now).quiet ≡ (exchanges_within most first).quiet

pub left-begun : (most : ℕ) (first : PairState) → LeftToSettle most first 0 first
unfolding run
left-begun most first =
    let e : most - 0 ≡ most = omega arith in
    let all = ap (λ n. exchanges_within n first) e in
    record {
      done = [];
      state = refl;
      events = ap (λ s. s.events) all;
      exchanges = (let z = ap (λ s. s.exchanges) all in omega (arith, z));
      quiet = ap (λ s. s.quiet) all;
    }

one-less : (most made : ℕ) → made < most → most - made ≡ suc (most - (made + 1))
one-less most made below = omega arith

pub left-more : (most : ℕ) (first : PairState) (made : ℕ) (now next : PairState)
    → LeftToSettle most first made now → made < most
    → either_writes now ≡ true → next ≡ run (exchange now) now
    → LeftToSettle most first (made + 1) next
left-more most first made now next l below wrote state =
    let k = most - (made + 1) in
    let all : exchanges_within (most - made) now
    ≡ counted (exchange now) (exchanges_within k next) =
    ap (λ n. exchanges_within n now) (one-less most made below) ∙ exchanged k now wrote
    ∙ ap (λ p. counted (exchange now) (exchanges_within k p)) (sym state) in
    record {
      done = l.done ++ exchange now;
      state =
          state ∙ ap (run (exchange now)) l.state ∙ sym (run-append l.done (exchange now) first);
      events =
          append_assoc l.done (exchange now) _ ∙ ap (λ s. l.done ++ s.events) (sym all) ∙ l.events;
      exchanges = (let z = ap (λ s. s.exchanges) all in let y = l.exchanges in omega (arith, z, y));
      quiet = ap (λ s. s.quiet) (sym all) ∙ l.quiet;
    }

pub record AllSettled (most : ℕ) (first last : PairState) (exchanges : ℕ) (quiet : Bool)
    : Type 0 where
  pub state : last ≡ run (exchanges_within most first).events first
  pub exchanges_are : exchanges ≡ (exchanges_within most first).exchanges
  pub quiet_is : quiet ≡ (exchanges_within most first).quiet

pub left-quiet : (most : ℕ) (first : PairState) (made : ℕ) (now next : PairState)
    → LeftToSettle most first made now → made < most
    → either_writes now ≡ false → next ≡ run (exchange now) now
    → AllSettled most first next made true
left-quiet most first made now next l below wrote state =
    let all =
    ap (λ n. exchanges_within n now) (one-less most made below)
    ∙ quieted (most - (made + 1)) now wrote in
    record {
      state = state ∙ ap (run (exchange now)) l.state ∙ sym (run-append l.done (exchange now) first)
          ∙ ap (λ t. run t first) (ap (λ s. l.done ++ s.events) (sym all) ∙ l.events);
      exchanges_are =
          (let z = ap (λ s. s.exchanges) all in let y = l.exchanges in omega (arith, z, y));
      quiet_is = sym (ap (λ s. s.quiet) all) ∙ l.quiet;
    }

pub left-busy : (most : ℕ) (first : PairState) (now : PairState) → LeftToSettle most first most now
    → AllSettled most first now most false
left-busy most first now l =
    let e : most - most ≡ 0 = omega arith in
    let all = ap (λ n. exchanges_within n now) e ∙ ended now in
    record {
      state =
          l.state
          ∙ ap (λ t. run t first)
          (sym (append-nil l.done) ∙ ap (λ s. l.done ++ s.events) (sym all) ∙ l.events);
      exchanges_are =
          (let z = ap (λ s. s.exchanges) all in let y = l.exchanges in omega (arith, z, y));
      quiet_is = sym (ap (λ s. s.quiet) all) ∙ l.quiet;
    }

-- ---- the events of an exchange come first of those that are left

exchange-first : (more : ℕ) (p : PairState) (b : Bool) → either_writes p ≡ b
    → (rest : List Event) × ((exchanges_within (suc more) p).events ≡ exchange p ++ rest)
exchange-first more p true e = (_, ap (λ s. s.events) (exchanged more p e))
exchange-first more p false e =
    ([], ap (λ s. s.events) (quieted more p e) ∙ sym (append-nil (exchange p)))

pub left-wanted : (most : ℕ) (first : PairState) (made : ℕ) (now last : PairState)
    → LeftToSettle most first made now → made < most
    → WantsMemory (exchange now) now last
    → WantsMemory (exchanges_within most first).events first last
left-wanted most first made now last l below s =
    let front = exchange-first (most - (made + 1)) now (either_writes now) refl in
    let all = ap (λ n. (exchanges_within n now).events) (one-less most made below) ∙ front.1 in
    subst (λ t. WantsMemory t first last) (ap (λ t. l.done ++ t) (sym all) ∙ l.events)
    (wanted-later l.done (exchange now ++ front.0) first last
    (subst (λ q. WantsMemory (exchange now ++ front.0) q last) l.state
    (wanted-first (exchange now) front.0 now last s)))

-- ---- a whole settle

settling-events : (p : PairState)
    → (settling p).events
    ≡ all_mail p ++ (exchanges_within (most_exchanges p) (run (all_mail p) p)).events
unfolding settling
settling-events p = refl

pub settling-exchanges : (p : PairState)
    → (settling p).exchanges ≡ (exchanges_within (most_exchanges p) (run (all_mail p) p)).exchanges
unfolding settling
settling-exchanges p = refl

pub settling-quiet : (p : PairState)
    → (settling p).quiet ≡ (exchanges_within (most_exchanges p) (run (all_mail p) p)).quiet
unfolding settling
settling-quiet p = refl

pub settled-is : (p q : PairState)
    → q ≡ run (exchanges_within (most_exchanges p) (run (all_mail p) p)).events (run (all_mail p) p)
    → q ≡ settled p
settled-is p q e =
    e ∙ sym (run-append (all_mail p) _ p) ∙ ap (λ t. run t p) (sym (settling-events p))

pub wanted-in-mail : (p q : PairState) → WantsMemory (all_mail p) p q
    → WantsMemory (settling p).events p q
wanted-in-mail p q s =
    subst (λ t. WantsMemory t p q) (sym (settling-events p)) (wanted-first (all_mail p) _ p q s)

pub wanted-after-mail : (p q : PairState)
    → WantsMemory (exchanges_within (most_exchanges p) (run (all_mail p) p)).events
    (run (all_mail p) p) q
    → WantsMemory (settling p).events p q
wanted-after-mail p q s =
    subst (λ t. WantsMemory t p q) (sym (settling-events p)) (wanted-later (all_mail p) _ p q s)

mailed : (p q r : PairState) → q ≡ run (mail_events A p) p → r ≡ run (mail_events B q) q
    → r ≡ run (all_mail p) p
mailed p q r first second =
    second ∙ ap (λ t. run (mail_events B t) t) first ∙ sym (run-append (mail_events A p) _ p)

pub settle-begun : (p q r : PairState) → q ≡ run (mail_events A p) p → r ≡ run (mail_events B q) q
    → LeftToSettle (most_exchanges p) (run (all_mail p) p) 0 r
settle-begun p q r first second =
    subst (LeftToSettle (most_exchanges p) (run (all_mail p) p) 0) (sym (mailed p q r first second))
    (left-begun (most_exchanges p) (run (all_mail p) p))

pub wanted-in-second-mail : (p q r : PairState) → q ≡ run (mail_events A p) p
    → WantsMemory (mail_events B q) q r → WantsMemory (settling p).events p r
wanted-in-second-mail p q r first s =
    wanted-in-mail p r
    (wanted-later (mail_events A p) _ p r
    (subst (λ t. WantsMemory (mail_events B t) t r) first s))
