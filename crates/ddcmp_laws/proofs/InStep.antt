-- A recovery in lock step is a list of events on a line that loses nothing: a settle and two
-- rounds.
use Rattle.std.proofs.Common.{◌≡◌, ℕ, zero, suc, Bool, true, false, cond, List, [], ◌∷◌, ◌++◌}
use Rattle.std.proofs.Common.{length, drop, Option, Some, None, refl, sym, ap, ◌∙◌, subst}
use Rattle.std.proofs.Common.{append-nil}
use Rattle.std.specs.Prelude.{is_some, replicate}
use Rattle.ddcmp_core.specs.Core.{IsSound}
use Rattle.ddcmp_io.specs.declared.carrier.End.{End}
use Rattle.ddcmp_io.specs.declared.carrier.End.TheVariants.{A, B}
use Rattle.ddcmp_pair.specs.declared.event.Event.{Event}
use Rattle.ddcmp_pair.specs.declared.event.Event.TheVariants as event
use Rattle.ddcmp_pair.specs.Pairs.{IsRun}
use Rattle.ddcmp_pair.specs.Recovery.{both_expire, rounding, rounded, is_ready}
use Rattle.ddcmp_pair.specs.Run.{PairState, line_bytes, after_event, run}
use Rattle.ddcmp_pair.specs.Settle.{mail_events, carried, crossing_of, crossing, exchange}
use Rattle.ddcmp_pair.specs.Settle.{either_writes, counted, exchanges_within, most_exchanges}
use Rattle.ddcmp_pair.specs.Settle.{all_mail, settling, settled}
use Rattle.ddcmp_pair.proofs.Quiets.{Rests}
use Rattle.ddcmp_pair.proofs.Ready.{run-recovers}
use Rattle.ddcmp_pair.proofs.Recoveries.{rounding-events}
use Rattle.ddcmp_pair.proofs.Runs.{run-append}
use Rattle.ddcmp_laws.specs.LossFree.{Line, empty_line, bytes_or_none, after_on_line}
use Rattle.ddcmp_laws.specs.LossFree.{IsLossFree, run_on_line}
use Rattle.ddcmp_laws.specs.Rests.{GoesOn}
use Rattle.ddcmp_laws.specs.Delivers.{IsAtRest, runs_out, IsRoundInAnyOrder, IsTwoRounds}
use Rattle.ddcmp_laws.proofs.Settling.{drop_front}

-- ---- one list after another

pub goes-append : (first second : List Event) → GoesOn first → GoesOn second
    → GoesOn (first ++ second)
goes-append [] second g h = h
goes-append (event.Poll e ∷ rest) second g h = goes-append rest second g h
goes-append (event.Arrive e bytes ∷ rest) second g h = goes-append rest second g h
goes-append (event.Expire e ∷ rest) second g h = goes-append rest second g h
goes-append (event.Take e ∷ rest) second g h = goes-append rest second g h
goes-append (event.Send e m ∷ rest) second g h = goes-append rest second g h
goes-append (event.Start e ∷ rest) second g h = absurd g
goes-append (event.Halt e ∷ rest) second g h = absurd g
goes-append (event.Clear ∷ rest) second g h = goes-append rest second g h

pub loss-append : (first second : List Event) (l : Line) → IsLossFree first l
    → IsLossFree second (run_on_line first l) → IsLossFree (first ++ second) l
unfolding run_on_line
loss-append [] second l f g = g
loss-append (e ∷ first) second l f g = (f.0, loss-append first second (after_on_line e l) f.1 g)

pub line-append : (first second : List Event) (l : Line)
    → run_on_line (first ++ second) l ≡ run_on_line second (run_on_line first l)
unfolding run_on_line
line-append [] second l = refl
line-append (e ∷ first) second l = line-append first second (after_on_line e l)

-- these events leave nothing in flight
record Clears (events : List Event) (p : PairState) : Type 0 where
  goes : GoesOn events
  loss_free : IsLossFree events (empty_line p)
  leads : run_on_line events (empty_line p) ≡ empty_line (run events p)

clears-append : (first second : List Event) (p : PairState) → Clears first p
    → Clears second (run first p) → Clears (first ++ second) p
clears-append first second p c d = record {
  goes = goes-append first second c.goes d.goes;
  loss_free =
      loss-append first second (empty_line p) c.loss_free
      (subst (λ (l : Line). IsLossFree second l) (sym c.leads) d.loss_free);
  leads =
      line-append first second (empty_line p) ∙ ap (λ (l : Line). run_on_line second l) c.leads
      ∙ d.leads ∙ ap (λ (q : PairState). empty_line q) (sym (run-append first second p));
}

clears-none : (p : PairState) → Clears [] p
unfolding run run_on_line
clears-none p = record { goes = tt; loss_free = tt; leads = refl }

-- ---- mail

takes : (e : End) (n : ℕ) (p : PairState) → Clears (replicate n (event.Take e)) p
unfolding run run_on_line
takes e zero p = record { goes = tt; loss_free = tt; leads = refl }
takes e (suc n) p =
    let c = takes e n (after_event (event.Take e) p) in
    record { goes = c.goes; loss_free = (tt, c.loss_free); leads = c.leads }

mail : (e : End) (p : PairState) → Clears (mail_events e p) p
mail A p = takes A (length p.a.core.station.inbox) p
mail B p = takes B (length p.b.core.station.inbox) p

-- ---- half an exchange

all-gone : (bytes : List ℕ) → drop (length bytes) bytes ≡ []
all-gone bytes = ap (drop (length bytes)) (sym (append-nil bytes)) ∙ drop_front bytes []

carried-a : (bytes : List ℕ) (p : PairState) → line_bytes p.a ≡ Some bytes
    → Clears (carried A bytes) p
unfolding run run_on_line
carried-a bytes p e =
    let way : bytes_or_none (line_bytes p.a) ≡ bytes = ap bytes_or_none e in
    record {
      goes = tt;
      loss_free = (tt, (([], append-nil bytes ∙ sym way), tt));
      leads = (λ i. record {
        pair = after_event (event.Arrive B bytes) (after_event (event.Poll A) p);
        to_a = [];
        to_b = (ap (drop (length bytes)) way ∙ all-gone bytes) i;
      });
    }

carried-b : (bytes : List ℕ) (p : PairState) → line_bytes p.b ≡ Some bytes
    → Clears (carried B bytes) p
unfolding run run_on_line
carried-b bytes p e =
    let way : bytes_or_none (line_bytes p.b) ≡ bytes = ap bytes_or_none e in
    record {
      goes = tt;
      loss_free = (tt, (([], append-nil bytes ∙ sym way), tt));
      leads = (λ i. record {
        pair = after_event (event.Arrive A bytes) (after_event (event.Poll B) p);
        to_a = (ap (drop (length bytes)) way ∙ all-gone bytes) i;
        to_b = [];
      });
    }

idle-a : (p : PairState) → line_bytes p.a ≡ None → Clears (event.Poll A ∷ []) p
unfolding run run_on_line
idle-a p e =
    record {
      goes = tt;
      loss_free = (tt, tt);
      leads =
          (λ
          i. record {
            pair = after_event (event.Poll A) p;
            to_a = [];
            to_b = bytes_or_none (e i);
          });
    }

idle-b : (p : PairState) → line_bytes p.b ≡ None → Clears (event.Poll B ∷ []) p
unfolding run run_on_line
idle-b p e =
    record {
      goes = tt;
      loss_free = (tt, tt);
      leads =
          (λ
          i. record {
            pair = after_event (event.Poll B) p;
            to_a = bytes_or_none (e i);
            to_b = [];
          });
    }

crossing-a : (p : PairState) → Clears (crossing A p) p
unfolding crossing
crossing-a p = by (line_bytes p.a) refl
  where
    by : (o : Option (List ℕ)) → line_bytes p.a ≡ o → Clears (crossing_of A o p) p
    by None e = idle-a p e
    by (Some bytes) e =
        clears-append (carried A bytes) (mail_events B (run (carried A bytes) p)) p
        (carried-a bytes p e) (mail B (run (carried A bytes) p))

crossing-b : (p : PairState) → Clears (crossing B p) p
unfolding crossing
crossing-b p = by (line_bytes p.b) refl
  where
    by : (o : Option (List ℕ)) → line_bytes p.b ≡ o → Clears (crossing_of B o p) p
    by None e = idle-b p e
    by (Some bytes) e =
        clears-append (carried B bytes) (mail_events A (run (carried B bytes) p)) p
        (carried-b bytes p e) (mail A (run (carried B bytes) p))

-- ---- exchanges, a settle and a round

exchanges : (p : PairState) → Clears (exchange p) p
exchanges p =
    clears-append (crossing A p) (crossing B (run (crossing A p) p)) p (crossing-a p)
    (crossing-b (run (crossing A p) p))

within : (n : ℕ) (p : PairState) → Clears (exchanges_within n p).events p
unfolding exchanges_within
within zero p = clears-none p
within (suc n) p = by (either_writes p) (within n (run (exchange p) p))
  where
    by : (b : Bool) → Clears (exchanges_within n (run (exchange p) p)).events (run (exchange p) p)
        → Clears
        (cond b (counted (exchange p) (exchanges_within n (run (exchange p) p)))
        (record { events = exchange p; exchanges = 0; quiet = true })).events p
    by true c =
        clears-append (exchange p) (exchanges_within n (run (exchange p) p)).events p (exchanges p)
        c
    by false c = exchanges p

all-mail : (p : PairState) → Clears (all_mail p) p
all-mail p =
    clears-append (mail_events A p) (mail_events B (run (mail_events A p) p)) p (mail A p)
    (mail B (run (mail_events A p) p))

settle : (p : PairState) → Clears (settling p).events p
unfolding settling
settle p =
    let q = run (all_mail p) p in
    clears-append (all_mail p) (exchanges_within (most_exchanges p) q).events p (all-mail p)
    (within (most_exchanges p) q)

expire : (p : PairState) → Clears both_expire p
unfolding run run_on_line
expire p = record { goes = tt; loss_free = (tt, (tt, tt)); leads = refl }

round : (p : PairState) → Clears (rounding p).events p
round p =
    subst (λ e. Clears e p) (sym (rounding-events p))
    (clears-append both_expire (settling (run both_expire p)).events p (expire p)
    (settle (run both_expire p)))

expires : (e : End) (p : PairState) → runs_out e (rounding p).events ≡ true
unfolding runs_out
expires A p = ap (runs_out A) (rounding-events p)
expires B p = ap (runs_out B) (rounding-events p)

-- ---- at rest

no-bytes : (o : Option (List ℕ)) → is_some o ≡ false → o ≡ None
no-bytes None e = refl
no-bytes (Some bytes) e = absurd (cc e)

at-rest : (p : PairState) → Rests p → IsAtRest (empty_line p)
at-rest p r =
    record {
      none_to_a = refl;
      none_to_b = refl;
      idle_a = no-bytes (line_bytes p.a) r.a;
      idle_b = no-bytes (line_bytes p.b) r.b;
    }

a-round : (p : PairState) → Rests (rounded p) → IsRoundInAnyOrder (rounding p).events (empty_line p)
a-round p r =
    let c = round p in
    record {
      goes_on = c.goes;
      loss_free = c.loss_free;
      expires_a = expires A p;
      expires_b = expires B p;
      rests = subst (λ (l : Line). IsAtRest l) (sym c.leads) (at-rest (rounded p) r);
    }

pub two-rounds : (p : PairState) → IsRun p → IsSound p.a.core.limits p.a.core.station
    → IsSound p.b.core.limits p.b.core.station → is_ready p ≡ true → IsTwoRounds p
two-rounds p r a b e =
    let h = run-recovers p r a b e in
    let s = settle p in
    record {
      goes_on = s.goes;
      loss_free = s.loss_free;
      settles = s.leads;
      rests = at-rest (settled p) h.settles.rests;
      once = a-round (settled p) h.once.rests;
      leads = (round (settled p)).leads;
      twice = a-round (rounded (settled p)) h.twice.rests;
      ends = (round (rounded (settled p))).leads;
    }
