-- What the events of a crossing do to both ends: a frame goes whole from one to the other.
use Rattle.std.proofs.Common.{◌≡◌, ℕ, List, [], ◌∷◌, ◌++◌, length, drop, replicate, Option, Some}
use Rattle.std.proofs.Common.{None, refl, sym, ap, ◌∙◌, append-nil}
use Rattle.std.specs.Prelude.{◌&&◌, ◌||◌, is_some, option_map}
use Rattle.ddcmp_io.specs.declared.carrier.End.TheVariants.{A, B}
use Rattle.ddcmp_pair.specs.declared.event.Event.TheVariants as event
use Rattle.ddcmp_core.specs.Table.{Frame, next_frame, next}
use Rattle.ddcmp_core.specs.Choosing.{after_take_all}
use Rattle.ddcmp_core.proofs.Taken.{take_all_after, take_all_none}
use Rattle.ddcmp_core.specs.Frames.{header_of}
use Rattle.ddcmp_proto.specs.Bytes.{frame_on_line}
use Rattle.ddcmp_pair.specs.Run.{EndState, PairState, with_station, after_poll_here}
use Rattle.ddcmp_pair.specs.Run.{after_arrival_here, after_take_here, is_honest_here, line_bytes}
use Rattle.ddcmp_pair.specs.Run.{after_event, run}
use Rattle.ddcmp_pair.specs.Settle.{mail_events, carried, crossing, exchange, either_writes}
use Rattle.ddcmp_pair.specs.Settle.{all_mail}
use Rattle.ddcmp_pair.proofs.Calls.{take-up}
use Rattle.ddcmp_pair.proofs.Lines.{nothing-polled}
use Rattle.ddcmp_pair.proofs.Runs.{run-append, crossing-writes, crossing-idles}

-- ---- mail

abbrev pub emptied : EndState → EndState
emptied x =
    record (with_station (after_take_all x.core.station) x) {
      taken = x.taken ++ x.core.station.inbox;
    }

pub emptied-after-take : (x : EndState) → emptied (after_take_here x) ≡ emptied x
emptied-after-take x = λ i.
    record (with_station (take_all_after x.core.station i) x) {
      taken = take-up x.taken x.core.station.inbox i;
    }

pub emptied-none : (x : EndState) → x.core.station.inbox ≡ [] → emptied x ≡ x
emptied-none x e =
    let t : x.taken ++ x.core.station.inbox ≡ x.taken =
    ap (λ l. x.taken ++ l) e ∙ append-nil x.taken in
    λ i. record (with_station (take_all_none x.core.station e i) x) { taken = t i }

taken-a : (inbox : List (List ℕ)) (p : PairState) → p.a.core.station.inbox ≡ inbox
    → run (replicate (length inbox) (event.Take A)) p ≡ record p { a = emptied p.a }
unfolding run after_event
taken-a [] p e = ap (λ x. record p { a = x }) (sym (emptied-none p.a e))
taken-a (m ∷ rest) p e =
    taken-a rest (after_event (event.Take A) p) (ap (drop 1) e)
    ∙ ap (λ x. record p { a = x }) (emptied-after-take p.a)

taken-b : (inbox : List (List ℕ)) (p : PairState) → p.b.core.station.inbox ≡ inbox
    → run (replicate (length inbox) (event.Take B)) p ≡ record p { b = emptied p.b }
unfolding run after_event
taken-b [] p e = ap (λ x. record p { b = x }) (sym (emptied-none p.b e))
taken-b (m ∷ rest) p e =
    taken-b rest (after_event (event.Take B) p) (ap (drop 1) e)
    ∙ ap (λ x. record p { b = x }) (emptied-after-take p.b)

pub mail-a : (p : PairState) → run (mail_events A p) p ≡ record p { a = emptied p.a }
mail-a p = taken-a p.a.core.station.inbox p refl

pub mail-b : (p : PairState) → run (mail_events B p) p ≡ record p { b = emptied p.b }
mail-b p = taken-b p.b.core.station.inbox p refl

-- all mail is taken at both ends
abbrev pub mailed : PairState → PairState
mailed p = record p { a = emptied p.a; b = emptied p.b }

pub all-mail : (p : PairState) → run (all_mail p) p ≡ mailed p
all-mail p =
    run-append (mail_events A p) _ p ∙ ap (λ q. run (mail_events B q) q) (mail-a p)
    ∙ mail-b (record p { a = emptied p.a })

-- ---- the ends turned round

abbrev pub turned : PairState → PairState
turned p = record { a = p.b; b = p.a; honest = p.honest }

-- from the first end to the second
abbrev pub crossed_by : Option (List ℕ) → PairState → PairState
crossed_by None p = p
crossed_by (Some bytes) p = record {
  a = after_poll_here p.a;
  b = emptied (after_arrival_here bytes p.b);
  honest = is_honest_here (event.Arrive B bytes) p.b (after_poll_here p.a).sent && p.honest;
}

abbrev pub crossed : PairState → PairState
crossed p = crossed_by (line_bytes p.a) p

-- a frame crosses, and the ends turn round
abbrev pub half : PairState → PairState
half p = turned (crossed p)

no-header : (x : EndState) → line_bytes x ≡ None
    → None ≡ option_map header_of (next_frame (next x.core.station))
no-header x e = by (next_frame (next x.core.station)) e
  where
    by : (o : Option Frame) → option_map (frame_on_line x.syn) o ≡ None
        → None ≡ option_map header_of o
    by None e = refl
    by (Some f) e = absurd (cc)

polled-none : (x : EndState) → line_bytes x ≡ None → after_poll_here x ≡ x
polled-none x e = nothing-polled x (no-header x e)

-- the events of a crossing from A, and from B
carried-a : (bytes : List ℕ) (p : PairState) → run (carried A bytes) p ≡ record {
  a = after_poll_here p.a;
  b = after_arrival_here bytes p.b;
  honest = is_honest_here (event.Arrive B bytes) p.b (after_poll_here p.a).sent && p.honest;
}
unfolding run after_event
carried-a bytes p = refl

carried-b : (bytes : List ℕ) (p : PairState) → run (carried B bytes) p ≡ record {
  a = after_arrival_here bytes p.a;
  b = after_poll_here p.b;
  honest = is_honest_here (event.Arrive A bytes) p.a (after_poll_here p.b).sent && p.honest;
}
unfolding run after_event
carried-b bytes p = refl

idle-a : (p : PairState) → line_bytes p.a ≡ None → run (event.Poll A ∷ []) p ≡ p
unfolding run after_event
idle-a p e = ap (λ x. record p { a = x }) (polled-none p.a e)

idle-b : (p : PairState) → line_bytes p.b ≡ None → run (event.Poll B ∷ []) p ≡ p
unfolding run after_event
idle-b p e = ap (λ x. record p { b = x }) (polled-none p.b e)

pub crossing-a : (p : PairState) → run (crossing A p) p ≡ crossed p
crossing-a p = by (line_bytes p.a) refl
  where
    by : (o : Option (List ℕ)) → line_bytes p.a ≡ o → run (crossing A p) p ≡ crossed_by o p
    by None e = ap (λ t. run t p) (crossing-idles A p e) ∙ idle-a p e
    by (Some bytes) e =
        ap (λ t. run t p) (crossing-writes A p bytes e) ∙ run-append (carried A bytes) _ p
        ∙ ap (λ q. run (mail_events B q) q) (carried-a bytes p) ∙ mail-b _

pub crossing-b : (p : PairState) → run (crossing B p) p ≡ turned (crossed (turned p))
crossing-b p = by (line_bytes p.b) refl
  where
    by : (o : Option (List ℕ)) → line_bytes p.b ≡ o
        → run (crossing B p) p ≡ turned (crossed_by o (turned p))
    by None e = ap (λ t. run t p) (crossing-idles B p e) ∙ idle-b p e
    by (Some bytes) e =
        ap (λ t. run t p) (crossing-writes B p bytes e) ∙ run-append (carried B bytes) _ p
        ∙ ap (λ q. run (mail_events A q) q) (carried-b bytes p) ∙ mail-a _

pub exchange-is : (p : PairState) → run (exchange p) p ≡ half (half p)
exchange-is p =
    run-append (crossing A p) _ p ∙ ap (λ q. run (crossing B q) q) (crossing-a p)
    ∙ crossing-b (crossed p)

pub either-is : (p : PairState)
    → either_writes p ≡ (is_some (line_bytes p.a) || is_some (line_bytes (half p).a))
either-is p =
    ap (λ (q : PairState). is_some (line_bytes p.a) || is_some (line_bytes q.b)) (crossing-a p)
