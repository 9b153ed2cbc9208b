-- Parts of turns keep a driven station and an end of the model the same.
use Rattle.std.proofs.Common.{◌≡◌, ℕ, ◌+◌, Bool, true, false, cond, List, [], ◌∷◌, ◌++◌}
use Rattle.std.proofs.Common.{refl, sym, ◌∙◌, ap, subst, arith, append_assoc}
use Rattle.std.proofs.Common.{append-nil, Option, Some, None}
use Rattle.std.specs.Prelude.{option_map}
use Rattle.ddcmp_core.specs.Table.{Frame, next, next_frame, may_send, after_accept}
use Rattle.ddcmp_core.proofs.Sent.{sending}
use Rattle.ddcmp_proto.specs.Bytes.{frame_on_line, after_poll}
use Rattle.ddcmp_station.specs.UserCalls.{UserCall, calls_of_offer, is_user_asked}
use Rattle.ddcmp_station.specs.Driving.{DriveTurn, Driving, deadline_at, core_after_take_arm}
use Rattle.ddcmp_station.specs.Driving.{core_at_deadline, core_after_message, frame_bytes}
use Rattle.ddcmp_station.specs.Driving.{after_read}
use Rattle.ddcmp_io.specs.declared.carrier.End.{End}
use Rattle.ddcmp_io.specs.declared.carrier.End.TheVariants.{A, B}
use Rattle.ddcmp_pair.specs.Run.{EndState, PairState, line_bytes, run}
use Rattle.ddcmp_pair.proofs.Runs.{run-append}
use Rattle.ddcmp_pair.proofs.Steady.{inbox-sent}
use Rattle.ddcmp_laws.specs.LossFree.{bytes_or_none}
use Rattle.ddcmp_laws.specs.PairCalls.{Call, Send, Poll, Arm, after_arm_here}
use Rattle.ddcmp_laws.specs.PairCalls.{after_call, after_calls_here, run_calls, noted}
use Rattle.ddcmp_laws.specs.PairCalls.{events_in}
use Rattle.ddcmp_laws.specs.Driven.{shown_in, accepted_of, handed_of, accepted_from, handed_to}
use Rattle.ddcmp_laws.specs.Driven.{acknowledged_to, calls_of_timer, calls_of_read}
use Rattle.ddcmp_laws.specs.DrivenSweeps.{TurnPart, Writes, Reads, Again, DrivenEnd, after_part}
use Rattle.ddcmp_laws.specs.DrivenSweeps.{calls_of_accepted, calls_of_part}
use Rattle.ddcmp_laws.proofs.PairCallLaws.{run_same}
use Rattle.ddcmp_laws.proofs.Stations.{frame_armed}
use Rattle.ddcmp_laws.proofs.Seen.{send_given, handed_of_offer, told_of_offer, lists_more}
use Rattle.ddcmp_laws.proofs.Seen.{counts_more, seen_given, seen_taken, seen_acknowledged}
use Rattle.ddcmp_laws.proofs.Turning.{at_end, timer_done, went_read}
use Rattle.ddcmp_laws.proofs.Delivery.{taken_timer, taken_message}
use Rattle.ddcmp_laws.proofs.InTurn.{at_one}
use Rattle.ddcmp_laws.proofs.LinkRecovery.{events-append}

-- ---- calls at one end

pub at-append : (end : End) (a b : List Call) → at_one end (a ++ b) ≡ at_one end a ++ at_one end b
at-append end [] b = refl
at-append end (c ∷ a) b = ap (λ y. (end, c) ∷ y) (at-append end a b)

pub at-run : (end : End) (a b : List Call) (q : PairState)
    → run (events_in (at_one end (a ++ b))) q
    ≡ run (events_in (at_one end b)) (run (events_in (at_one end a)) q)
at-run end a b q =
    ap (λ cs. run (events_in cs) q) (at-append end a b)
    ∙ ap (λ es. run es q) (events-append (at_one end a) (at_one end b))
    ∙ run-append (events_in (at_one end a)) (events_in (at_one end b)) q

here-a : (calls : List Call) (p : PairState)
    → (run_calls (at_one A calls) p).a ≡ after_calls_here calls p.a
unfolding run_calls after_calls_here
here-a [] p = refl
here-a (c ∷ calls) p = here-a calls (after_call A c p)

there-a : (calls : List Call) (p : PairState) → (run_calls (at_one A calls) p).b ≡ p.b
unfolding run_calls
there-a [] p = refl
there-a (c ∷ calls) p = there-a calls (after_call A c p)

here-b : (calls : List Call) (p : PairState)
    → (run_calls (at_one B calls) p).b ≡ after_calls_here calls p.b
unfolding run_calls after_calls_here
here-b [] p = refl
here-b (c ∷ calls) p = here-b calls (after_call B c p)

there-b : (calls : List Call) (p : PairState) → (run_calls (at_one B calls) p).a ≡ p.a
unfolding run_calls
there-b [] p = refl
there-b (c ∷ calls) p = there-b calls (after_call B c p)

-- ---- what a turn does, one after another

pub data Act : Type 0 where
  Looks : (now : ℕ) → Act
  Offers : (message : List ℕ) → Act
  Polls : Act
  Gets : (came : List ℕ) → Act
  Forgets : Act

abbrev pub due : ℕ → DrivenEnd → Option ℕ
due now d = deadline_at d.milliseconds now d.driving.core.station.timer d.driving.deadline

abbrev pub after_act : Act → DrivenEnd → DrivenEnd
after_act (Looks now) d = record d {
  driving = record d.driving {
    core = core_at_deadline now (due now d) (core_after_take_arm d.driving.core);
    deadline = due now d;
  };
}
after_act (Offers m) d = record d {
  driving = record d.driving {
    core = core_after_message m d.driving.core;
    seen = d.driving.seen ++ calls_of_offer d.driving.core m;
  };
}
after_act Polls d = record d {
  driving = record d.driving {
    core = after_poll d.driving.core;
    written = d.driving.written
        ++ frame_bytes d.syn (next_frame (next d.driving.core.station));
  };
}
after_act (Gets came) d = record d { driving = after_read came d.driving }
after_act Forgets d = record d { driving = record d.driving { deadline = None } }

abbrev pub calls_of_act : Act → DrivenEnd → List Call
calls_of_act (Looks now) d =
    Arm ∷ calls_of_timer now (due now d) (core_after_take_arm d.driving.core)
calls_of_act (Offers m) d = calls_of_accepted m d.driving.core
calls_of_act Polls d = Poll ∷ []
calls_of_act (Gets came) d = calls_of_read came d.driving
calls_of_act Forgets d = []

-- ---- an end and a driven station are the same

pub record IsDrivenEnd (x : EndState) (d : DrivenEnd) : Type 0 where
  pub milliseconds : ℕ
  pub deadline : Option ℕ
  pub before : List ℕ
  pub seen : List UserCall
  pub is : d
      ≡ record {
        milliseconds = milliseconds;
        syn = x.syn;
        driving = at_end x deadline before seen;
      }
  pub given : x.given ≡ accepted_from seen
  pub taken : x.taken ≡ handed_to seen
  pub acknowledged : x.acknowledged ≡ acknowledged_to seen
  pub no_mail : x.core.station.inbox ≡ []

no-more : (n k : ℕ) → k ≡ 0 → n ≡ n + k
no-more n k e = omega (arith, e)

told-more : (a b : List UserCall)
    → acknowledged_to a + acknowledged_to b ≡ acknowledged_to (a ++ b)
told-more a b = let e = counts_more 0 a b in omega (arith, e)

module _ (ms : ℕ) (x : EndState) (deadline : Option ℕ) (before : List ℕ) (seen : List UserCall)
    (g : x.given ≡ accepted_from seen) (t : x.taken ≡ handed_to seen)
    (k : x.acknowledged ≡ acknowledged_to seen) (n : x.core.station.inbox ≡ []) where
  abbrev d : DrivenEnd
  d = record { milliseconds = ms; syn = x.syn; driving = at_end x deadline before seen }

  -- ---- the timer

  looks-done : (now : ℕ) → after_calls_here (calls_of_act (Looks now) d) x
      ≡ record x { core = core_at_deadline now (due now d) (core_after_take_arm x.core) }
  unfolding after_calls_here
  looks-done now = timer_done now (due now d) (after_arm_here x)

  looks : (now : ℕ)
      → IsDrivenEnd (after_calls_here (calls_of_act (Looks now) d) x) (after_act (Looks now) d)
  looks now =
      subst (λ (y : EndState). IsDrivenEnd y (after_act (Looks now) d)) (sym (looks-done now))
      (record {
        milliseconds = ms;
        deadline = due now d;
        before = before;
        seen = seen;
        is = refl;
        given = g;
        taken = t;
        acknowledged = k;
        no_mail = taken_timer now (due now d) (core_after_take_arm x.core) n;
      })

  -- ---- the message

  abbrev offered : List ℕ → Bool → EndState
  offered m b = record x {
    core = record x.core {
      station = cond b (after_accept x.core.station m) x.core.station;
    };
    given = cond b (x.given ++ m ∷ []) x.given;
  }

  offers-done : (m : List ℕ) → after_calls_here (calls_of_act (Offers m) d) x
      ≡ offered m (may_send x.core.limits x.core.station m)
  unfolding after_calls_here
  offers-done m = by (may_send x.core.limits x.core.station m) refl
    where
      by : (b : Bool) → may_send x.core.limits x.core.station m ≡ b
          → after_calls_here (cond b (Send m ∷ []) []) x ≡ offered m b
      by true e = ap (λ b. offered m b) e
      by false e = refl

  offers : (m : List ℕ)
      → IsDrivenEnd (after_calls_here (calls_of_act (Offers m) d) x) (after_act (Offers m) d)
  offers m =
      subst (λ (y : EndState). IsDrivenEnd y (after_act (Offers m) d)) (sym (offers-done m))
      (record {
        milliseconds = ms;
        deadline = deadline;
        before = before;
        seen = seen ++ calls_of_offer x.core m;
        is = refl;
        given =
            send_given x.core.limits x.core.station x.given m
            ∙ ap (λ y. y ++ accepted_from (calls_of_offer x.core m)) g
            ∙ lists_more accepted_of [] seen (calls_of_offer x.core m);
        taken =
            t ∙ sym (append-nil (handed_to seen))
            ∙ ap (λ y. handed_to seen ++ y)
            (sym (handed_of_offer (is_user_asked x.core) x.core.limits.longest m))
            ∙ lists_more handed_of [] seen (calls_of_offer x.core m);
        acknowledged =
            k
            ∙ no-more (acknowledged_to seen) (acknowledged_to (calls_of_offer x.core m))
            (told_of_offer (is_user_asked x.core) x.core.limits.longest m)
            ∙ told-more seen (calls_of_offer x.core m);
        no_mail = taken_message m x.core n;
      })

  -- ---- the frame

  polls : IsDrivenEnd (after_calls_here (calls_of_act Polls d) x) (after_act Polls d)
  unfolding after_calls_here
  polls = record {
    milliseconds = ms;
    deadline = deadline;
    before = before ++ frame_bytes x.syn (next_frame (next x.core.station));
    seen = seen;
    is = refl;
    given = g;
    taken = t;
    acknowledged = k;
    no_mail = inbox-sent x.core.station (next x.core.station) (sending x.core.station) ∙ n;
  }

  -- ---- the read

  gets : (came : List ℕ)
      → IsDrivenEnd (after_calls_here (calls_of_act (Gets came) d) x) (after_act (Gets came) d)
  gets came =
      let calls = calls_of_act (Gets came) d in
      let w = went_read came x deadline before seen in
      record {
        milliseconds = ms;
        deadline = w.deadline;
        before = before ++ w.more;
        seen = seen ++ shown_in calls x;
        is = λ i. record { milliseconds = ms; syn = sym w.syn i; driving = w.is i };
        given =
            seen_given calls x
            ∙ ap (λ y. y ++ accepted_from (shown_in calls x)) g
            ∙ lists_more accepted_of [] seen (shown_in calls x);
        taken =
            seen_taken calls x
            ∙ ap (λ y. y ++ handed_to (shown_in calls x)) t
            ∙ lists_more handed_of [] seen (shown_in calls x);
        acknowledged =
            seen_acknowledged calls x
            ∙ ap (λ y. y + acknowledged_to (shown_in calls x)) k
            ∙ told-more seen (shown_in calls x);
        no_mail = sym (ap (λ (e : Driving). e.core.station.inbox) w.is);
      }

  -- ---- another call

  forgets : IsDrivenEnd (after_calls_here (calls_of_act Forgets d) x) (after_act Forgets d)
  unfolding after_calls_here
  forgets = record {
    milliseconds = ms;
    deadline = None;
    before = before;
    seen = seen;
    is = refl;
    given = g;
    taken = t;
    acknowledged = k;
    no_mail = n;
  }

  acts : (act : Act) → IsDrivenEnd (after_calls_here (calls_of_act act d) x) (after_act act d)
  acts (Looks now) = looks now
  acts (Offers m) = offers m
  acts Polls = polls
  acts (Gets came) = gets came
  acts Forgets = forgets

act-on : (act : Act) (x : EndState) (d : DrivenEnd) → IsDrivenEnd x d
    → IsDrivenEnd (after_calls_here (calls_of_act act d) x) (after_act act d)
act-on act x d w =
    subst
    (λ (e : DrivenEnd). IsDrivenEnd (after_calls_here (calls_of_act act e) x) (after_act act e))
    (sym w.is)
    (acts w.milliseconds x w.deadline w.before w.seen w.given w.taken w.acknowledged w.no_mail act)

-- ---- two ends, but that one may know of a started timer

pub record Tied (q : PairState) (a b : DrivenEnd) : Type 0 where
  pub p : PairState
  pub at_a : IsDrivenEnd p.a a
  pub at_b : IsDrivenEnd p.b b
  pub noted_same : noted p ≡ noted q

act-a : (act : Act) (q : PairState) (a b : DrivenEnd) → Tied q a b
    → Tied (run (events_in (at_one A (calls_of_act act a))) q) (after_act act a) b
act-a act q a b t =
    let calls = calls_of_act act a in
    record {
      p = run_calls (at_one A calls) t.p;
      at_a =
          subst (λ (y : EndState). IsDrivenEnd y (after_act act a)) (sym (here-a calls t.p))
          (act-on act t.p.a a t.at_a);
      at_b = subst (λ (y : EndState). IsDrivenEnd y b) (sym (there-a calls t.p)) t.at_b;
      noted_same = run_same (at_one A calls) t.p q t.noted_same;
    }

act-b : (act : Act) (q : PairState) (a b : DrivenEnd) → Tied q a b
    → Tied (run (events_in (at_one B (calls_of_act act b))) q) a (after_act act b)
act-b act q a b t =
    let calls = calls_of_act act b in
    record {
      p = run_calls (at_one B calls) t.p;
      at_a = subst (λ (y : EndState). IsDrivenEnd y a) (sym (there-b calls t.p)) t.at_a;
      at_b =
          subst (λ (y : EndState). IsDrivenEnd y (after_act act b)) (sym (here-b calls t.p))
          (act-on act t.p.b b t.at_b);
      noted_same = run_same (at_one B calls) t.p q t.noted_same;
    }

-- up to the frame of a turn
pub framed-a : (turn : DriveTurn) (q : PairState) (a b : DrivenEnd) → Tied q a b
    → Tied
    (run (events_in (at_one A (calls_of_act (Looks turn.now) a
    ++ calls_of_act (Offers turn.offered) (after_act (Looks turn.now) a)))) q)
    (after_act (Offers turn.offered) (after_act (Looks turn.now) a)) b
framed-a turn q a b t =
    let c = calls_of_act (Looks turn.now) a in
    let a' = after_act (Looks turn.now) a in
    let d = calls_of_act (Offers turn.offered) a' in
    subst (λ (r : PairState). Tied r (after_act (Offers turn.offered) a') b)
    (sym (at-run A c d q))
    (act-a (Offers turn.offered) (run (events_in (at_one A c)) q) a' b
    (act-a (Looks turn.now) q a b t))

pub framed-b : (turn : DriveTurn) (q : PairState) (a b : DrivenEnd) → Tied q a b
    → Tied
    (run (events_in (at_one B (calls_of_act (Looks turn.now) b
    ++ calls_of_act (Offers turn.offered) (after_act (Looks turn.now) b)))) q)
    a (after_act (Offers turn.offered) (after_act (Looks turn.now) b))
framed-b turn q a b t =
    let c = calls_of_act (Looks turn.now) b in
    let b' = after_act (Looks turn.now) b in
    let d = calls_of_act (Offers turn.offered) b' in
    subst (λ (r : PairState). Tied r a (after_act (Offers turn.offered) b'))
    (sym (at-run B c d q))
    (act-b (Offers turn.offered) (run (events_in (at_one B c)) q) a b'
    (act-b (Looks turn.now) q a b t))

pub part-a : (part : TurnPart) (q : PairState) (a b : DrivenEnd) → Tied q a b
    → Tied (run (events_in (at_one A (calls_of_part part a))) q) (after_part part a) b
part-a (Writes turn) q a b t =
    let c = calls_of_act (Looks turn.now) a in
    let d = calls_of_act (Offers turn.offered) (after_act (Looks turn.now) a) in
    let a' = after_act (Offers turn.offered) (after_act (Looks turn.now) a) in
    subst (λ (r : PairState). Tied r (after_act Polls a') b)
    (sym
    (ap (λ cs. run (events_in (at_one A cs)) q) (sym (append_assoc c d (Poll ∷ [])))
    ∙ at-run A (c ++ d) (Poll ∷ []) q))
    (act-a Polls (run (events_in (at_one A (c ++ d))) q) a' b (framed-a turn q a b t))
part-a (Reads came) q a b t = act-a (Gets came) q a b t
part-a Again q a b t = act-a Forgets q a b t

pub part-b : (part : TurnPart) (q : PairState) (a b : DrivenEnd) → Tied q a b
    → Tied (run (events_in (at_one B (calls_of_part part b))) q) a (after_part part b)
part-b (Writes turn) q a b t =
    let c = calls_of_act (Looks turn.now) b in
    let d = calls_of_act (Offers turn.offered) (after_act (Looks turn.now) b) in
    let b' = after_act (Offers turn.offered) (after_act (Looks turn.now) b) in
    subst (λ (r : PairState). Tied r a (after_act Polls b'))
    (sym
    (ap (λ cs. run (events_in (at_one B cs)) q) (sym (append_assoc c d (Poll ∷ [])))
    ∙ at-run B (c ++ d) (Poll ∷ []) q))
    (act-b Polls (run (events_in (at_one B (c ++ d))) q) a b' (framed-b turn q a b t))
part-b (Reads came) q a b t = act-b (Gets came) q a b t
part-b Again q a b t = act-b Forgets q a b t

-- ---- the frame of an end

put : (n : ℕ) (f : Option Frame)
    → bytes_or_none (option_map (frame_on_line n) f) ≡ frame_bytes n f
put n None = refl
put n (Some f) = refl

pub bytes-are : (x y : EndState) (d : DrivenEnd) → IsDrivenEnd x d
    → after_arm_here x ≡ after_arm_here y
    → bytes_or_none (line_bytes y)
    ≡ frame_bytes d.syn (next_frame (next d.driving.core.station))
bytes-are x y d s e =
    put y.syn (next_frame (next y.core.station))
    ∙ ap (λ f. frame_bytes y.syn f) (frame_armed y.core.station)
    ∙ sym (ap (λ (z : EndState). frame_bytes z.syn (next_frame (next z.core.station))) e)
    ∙ ap (λ f. frame_bytes x.syn f) (sym (frame_armed x.core.station))
    ∙ sym
    (ap (λ (c : DrivenEnd). frame_bytes c.syn (next_frame (next c.driving.core.station))) s.is)
