-- Runs, part after part.
use Rattle.std.proofs.Common.{◌≡◌, ℕ, suc, ◌+◌, ◌-◌, ◌<◌, Bool, true, false, List, [], ◌∷◌, ◌++◌}
use Rattle.std.proofs.Common.{length, take, get_or, replicate, refl, sym, ◌∙◌, ap, arith, add-one}
use Rattle.std.proofs.Common.{append_assoc}
use Rattle.std.proofs.Math.Seq.{take-suc}
use Rattle.std.proofs.lemmas.List.{replicate-append-replicate}
use Rattle.ddcmp_pair.specs.declared.event.Event.{Event}
use Rattle.std.specs.Prelude.{Option, Some, None, Result, Ok, Err, OnErr}
use Rattle.ddcmp_io.specs.Ends.{other}
use Rattle.ddcmp_io.specs.declared.carrier.End.{End}
use Rattle.ddcmp_io.specs.declared.carrier.End.TheVariants.{A, B}
use Rattle.ddcmp_pair.specs.declared.event.Event.TheVariants as event
use Rattle.ddcmp_pair.specs.declared.event.Reply.TheVariants as reply
use Rattle.ddcmp_pair.specs.Run.{PairState, at, line_bytes, wrote, reply_to, after_event}
use Rattle.ddcmp_pair.specs.Run.{asks_memory, run}
use Rattle.ddcmp_pair.specs.Settle.{mail_events, carried, crossing_of, crossing, WantsMemory}

pub run-append : (xs ys : List Event) (p : PairState) → run (xs ++ ys) p ≡ run ys (run xs p)
unfolding run
run-append [] ys p = refl
run-append (e ∷ xs) ys p = run-append xs ys (after_event e p)

pub run-one : (e : Event) (p : PairState) → run (e ∷ []) p ≡ after_event e p
unfolding run
run-one e p = refl

pub run-none : (p : PairState) → run [] p ≡ p
unfolding run
run-none p = refl

-- ---- the same event again and again

pub run-again : (n : ℕ) (e : Event) (p : PairState)
    → run (replicate (n + 1) e) p ≡ after_event e (run (replicate n e) p)
run-again n e p =
    ap (λ t. run t p) (sym (replicate-append-replicate n 1 e))
    ∙ run-append (replicate n e) (e ∷ []) p ∙ run-one e (run (replicate n e) p)

-- ---- where a run stopped

-- ---- where a run wanted memory

-- an event was refused, and none is that asks for no memory: so it asks
refused-asks : (asks : Bool) → (asks ≡ false → false ≡ true) → asks ≡ true
refused-asks true never = refl
refused-asks false never = let z = never refl in absurd (cc)

-- an event that wasn't done, after some that were
pub wanted-at : (done : List Event) (next : Event) (rest events : List Event) (p q r : PairState)
    → done ++ next ∷ rest ≡ events
    → q ≡ run done p → r ≡ q → (asks_memory next q ≡ false → false ≡ true) → WantsMemory events p r
wanted-at done next rest events p q r events_are state same never = record {
  done = done;
  next = next;
  rest = rest;
  events_are = events_are;
  state = same ∙ state;
  asks = ap (asks_memory next) same ∙ refused-asks (asks_memory next q) never;
}

pub wanted-next : (next : Event) (rest events : List Event) (p q : PairState) → next ∷ rest ≡ events
    → q ≡ p
    → (asks_memory next p ≡ false → false ≡ true) → WantsMemory events p q
wanted-next next rest events p q events_are same never =
    wanted-at [] next rest events p p q events_are (sym (run-none p)) same never

pub wanted-second : (first next : Event) (rest events : List Event) (p q r : PairState)
    → first ∷ next ∷ rest ≡ events → q ≡ after_event first p → r ≡ q
    → (asks_memory next q ≡ false → false ≡ true) → WantsMemory events p r
wanted-second first next rest events p q r events_are state same never =
    wanted-at (first ∷ []) next rest events p q r events_are (state ∙ sym (run-one first p))
    same never

pub wanted-first : (a b : List Event) (p q : PairState) → WantsMemory a p q
    → WantsMemory (a ++ b) p q
wanted-first a b p q w = record {
  done = w.done;
  next = w.next;
  rest = w.rest ++ b;
  events_are = sym (append_assoc w.done (w.next ∷ w.rest) b) ∙ ap (λ t. t ++ b) w.events_are;
  state = w.state;
  asks = w.asks;
}

pub wanted-later : (a b : List Event) (p q : PairState) → WantsMemory b (run a p) q
    → WantsMemory (a ++ b) p q
wanted-later a b p q w = record {
  done = a ++ w.done;
  next = w.next;
  rest = w.rest;
  events_are = append_assoc a w.done (w.next ∷ w.rest) ∙ ap (λ t. a ++ t) w.events_are;
  state = w.state ∙ sym (run-append a w.done p);
  asks = w.asks;
}

again-after : (n k : ℕ) (e : Event) → k < n
    → replicate k e ++ e ∷ replicate (n - (k + 1)) e ≡ replicate n e
again-after n k e below =
    replicate-append-replicate k (suc (n - (k + 1))) e ∙ ap (λ m. replicate m e) (omega arith)

pub wanted-again : (n k : ℕ) (e : Event) (p q r : PairState) → k < n → q ≡ run (replicate k e) p
    → r ≡ q
    → (asks_memory e q ≡ false → false ≡ true) → WantsMemory (replicate n e) p r
wanted-again n k e p q r below state same never =
    wanted-at (replicate k e) e (replicate (n - (k + 1)) e) (replicate n e) p q r
    (again-after n k e below) state same never

-- ---- the first events of a list

pub run-next : (events : List Event) (k : ℕ) (d : Event) (p : PairState) → k < length events
    → run (take (k + 1) events) p ≡ after_event (get_or events k d) (run (take k events) p)
run-next events k d p below =
    ap (λ n. run (take n events) p) (add-one k) ∙ ap (λ t. run t p) (take-suc events k d below)
    ∙ run-append (take k events) (get_or events k d ∷ []) p
    ∙ run-one (get_or events k d) (run (take k events) p)

pub on-err : {A E P : Type 0} (answer : Result A E) → P → OnErr answer P
on-err (Ok a) p = tt
on-err (Err e) p = p

-- ---- a crossing

wrote-some : (o : Option (List ℕ)) (bytes : List ℕ) → wrote o ≡ reply.Wrote bytes → o ≡ Some bytes
wrote-some None bytes e = absurd (cc)
wrote-some (Some b) bytes e = let z : b ≡ bytes = cc in ap Some z

pub polled-some : (from : End) (p : PairState) (bytes : List ℕ)
    → reply_to (event.Poll from) p ≡ reply.Wrote bytes → line_bytes (at from p) ≡ Some bytes
unfolding reply_to
polled-some A p bytes e = wrote-some (line_bytes p.a) bytes e
polled-some B p bytes e = wrote-some (line_bytes p.b) bytes e

wrote-none : (o : Option (List ℕ)) → ((bytes : List ℕ) → wrote o ≡ reply.Wrote bytes → ⊥) → o ≡ None
wrote-none None n = refl
wrote-none (Some b) n = absurd (n b refl)

pub polled-none : (from : End) (p : PairState)
    → ((bytes : List ℕ) → reply_to (event.Poll from) p ≡ reply.Wrote bytes → ⊥)
    → line_bytes (at from p) ≡ None
unfolding reply_to
polled-none A p n = wrote-none (line_bytes p.a) n
polled-none B p n = wrote-none (line_bytes p.b) n

pub crossing-writes : (from : End) (p : PairState) (bytes : List ℕ)
    → line_bytes (at from p) ≡ Some bytes
    → crossing from p ≡ carried from bytes ++ mail_events (other from) (run (carried from bytes) p)
unfolding crossing
crossing-writes from p bytes e = ap (λ o. crossing_of from o p) e

pub crossing-idles : (from : End) (p : PairState) → line_bytes (at from p) ≡ None
    → crossing from p ≡ event.Poll from ∷ []
unfolding crossing
crossing-idles from p e = ap (λ o. crossing_of from o p) e

-- a crossing begins with a poll
polls-first : (from : End) (o : Option (List ℕ)) (p : PairState)
    → (rest : List Event) × (event.Poll from ∷ rest ≡ crossing_of from o p)
polls-first from None p = ([], refl)
polls-first from (Some bytes) p = (_, refl)

pub crossing-polls : (from : End) (p : PairState)
    → (rest : List Event) × (event.Poll from ∷ rest ≡ crossing from p)
unfolding crossing
crossing-polls from p = polls-first from (line_bytes (at from p)) p

pub run-carried : (from : End) (bytes : List ℕ) (p q r : PairState)
    → q ≡ after_event (event.Poll from) p → r ≡ after_event (event.Arrive (other from) bytes) q
    → r ≡ run (carried from bytes) p
unfolding run
run-carried from bytes p q r poll arrive =
    arrive ∙ ap (after_event (event.Arrive (other from) bytes)) poll
