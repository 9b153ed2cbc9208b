-- Every honest and clean run is a run of two links.
use Rattle.std.proofs.Common.{◌≡◌, ℕ, ◌≤◌, Bool, true, false, List, [], ◌∷◌, ◌++◌, length, refl}
use Rattle.std.proofs.Common.{sym, ap, ◌∙◌, subst, arith, Option, Some, None}
use Rattle.std.specs.Prelude.{◌&&◌, ◌==◌, if◌then◌else◌, nat_le, Result, Ok, Err, IsOk, IfOk, OnErr}
use Rattle.std.proofs.lemmas.Bool.{eqb-true}
use Rattle.ddcmp_frame.specs.Reading.{items, good_frames, good_frames_in}
use Rattle.ddcmp_frame.proofs.ReadingLaws.{items-nothing}
use Rattle.ddcmp_core.specs.declared.state.State.{State}
use Rattle.ddcmp_core.specs.declared.state.State.TheVariants.{Halted, IStart, AStart, Running}
use Rattle.ddcmp_core.specs.declared.state.State.TheVariants.{Maintenance}
use Rattle.ddcmp_core.specs.Limits.{MAX_WINDOW}
use Rattle.ddcmp_proto.specs.declared.config.TheConstants.{MAX_INBOX}
use Rattle.ddcmp_core.specs.Seq.{Seq}
use Rattle.ddcmp_core.specs.SendRefusal.{SendRefusal}
use Rattle.ddcmp_core.specs.Store.{first_message}
use Rattle.ddcmp_core.specs.Table.{Limits, is_halted, answer_to_start, answer_to_send}
use Rattle.ddcmp_proto.specs.Bytes.{items_added}
use Rattle.ddcmp_proto.proofs.FeedLaws.{after_items-limits}
use Rattle.ddcmp_core.specs.declared.station_core.StartRefusal.{StartRefusal}
use Rattle.ddcmp_core.specs.declared.station_core.StartRefusal.TheVariants.{NotHalted, Untaken}
use Rattle.ddcmp_proto.specs.Config.{first_refusal, is_size}
use Rattle.ddcmp_proto.specs.declared.config.Config.{Config}
use Rattle.ddcmp_proto.specs.declared.config.ConfigRefusal.TheVariants.{Window, Inbox}
use Rattle.ddcmp_io.specs.declared.carrier.End.{End}
use Rattle.ddcmp_io.specs.declared.carrier.End.TheVariants.{A, B}
use Rattle.ddcmp_pair.specs.declared.event.Event.{Event}
use Rattle.ddcmp_pair.specs.declared.event.Event.TheVariants as event
use Rattle.ddcmp_pair.specs.declared.event.Reply.{Reply}
use Rattle.ddcmp_pair.specs.InOrder.{Delivers, IsInOrder, IsLink, NoRestart}
use Rattle.ddcmp_pair.specs.Choices.{after_choice}
use Rattle.ddcmp_pair.specs.Pairs.{new_pair_by, IsRun, IsRunBy}
use Rattle.ddcmp_pair.specs.Link.{IsReached, link_of}
use Rattle.ddcmp_pair.specs.Place.{WholeFrame, place_of}
use Rattle.ddcmp_pair.specs.Run.{EndState, PairState, handed_up, after_event_here, is_honest_here}
use Rattle.ddcmp_pair.specs.Run.{clear_refusal, cleared, after_clear_by, end_of, after_event_at}
use Rattle.ddcmp_pair.specs.Run.{after_event, reply_here, reply_at, reply_to, reply_to_clear}
use Rattle.ddcmp_pair.specs.Run.{started, accepted, wrote, took, line_bytes, run, new_end, new_pair}
use Rattle.ddcmp_pair.specs.Run.{is_clean}
use Rattle.ddcmp_pair.proofs.Reached.{reached-new, reached-in-order, reached-counts}
use Rattle.ddcmp_pair.proofs.Places.{place_of-none}
use Rattle.ddcmp_pair.proofs.Relation.{face, no_wire, not_begun, Fits, Mail}
use Rattle.ddcmp_pair.proofs.Startups.{starting-nothing}
use Rattle.ddcmp_pair.proofs.Arrivals.{on_the_way, Related}
use Rattle.ddcmp_pair.proofs.Linked.{Linked, linked-turned, linked-event, linked-arrival}
use Rattle.ddcmp_pair.proofs.Linked.{starts-grow, linked-choose}
use Rattle.ddcmp_pair.proofs.Runs.{run-append, run-one}

-- ---- the invariant of a run

pub record Holds (p : PairState) : Type 0 where
  pub small : p.a.core.limits.window ≤ 255
  pub small' : p.b.core.limits.window ≤ 255
  pub room : p.a.core.limits.room ≤ 255
  pub room' : p.b.core.limits.room ≤ 255
  pub linked : p.honest ≡ true → is_clean p ≡ true → Linked p.a p.b

both : (a b : Bool) → (a && b) ≡ true → (a ≡ true) × (b ≡ true)
both true b h = (refl, h)
both false b h = absurd (cc)

pub clean-means : (m n : ℕ) → (nat_le m 1 && nat_le n 1) ≡ true → (m ≤ 1) × (n ≤ 1)
clean-means m n c = let z = both (nat_le m 1) (nat_le n 1) c in (grind (arith, z), grind (arith, z))

clean-is : (m n : ℕ) → m ≤ 1 → n ≤ 1 → (nat_le m 1 && nat_le n 1) ≡ true
clean-is m n h g = grind (arith)

limits-stay : (e : Event) (x : EndState) → (after_event_here e x).core.limits ≡ x.core.limits
limits-stay e x = by e
  where
    by : (e : Event) → (after_event_here e x).core.limits ≡ x.core.limits
    by (event.Start e) = refl
    by (event.Halt e) = refl
    by (event.Send e message) = refl
    by (event.Poll e) = refl
    by (event.Arrive e bytes) =
        after_items-limits (items_added x.core.limits.longest x.arrived bytes) x.core
    by (event.Expire e) = refl
    by (event.Take e) = refl
    by event.Clear = refl

-- ---- an empty line

-- an end that is halted and has no mail, and whose histories begin
pub record IsFresh (x : EndState) : Type 0 where
  pub small : x.core.limits.window ≤ 255
  pub room : x.core.limits.room ≤ 255
  pub halted : x.core.station.state ≡ Halted
  pub inbox : x.core.station.inbox ≡ []
  pub given : x.given ≡ []
  pub taken : x.taken ≡ []
  pub sent : x.sent ≡ []
  pub arrived : x.arrived ≡ []
  pub acknowledged : x.acknowledged ≡ 0
  pub starts : x.starts ≡ 0

fresh-up : (x : EndState) → IsFresh x → handed_up x ≡ []
fresh-up x f = ap (λ (e : List (List ℕ) × List (List ℕ)). e.0 ++ e.1) (λ i. (f.taken i, f.inbox i))

fresh-link : (x y : EndState) → IsFresh x → IsFresh y
    → IsReached x.core.limits.window (link_of x.given x.acknowledged 0 (handed_up y) [] [])
fresh-link x y f g =
    let u = fresh-up y g in
    subst
    (λ (e : List (List ℕ) × ℕ × List (List ℕ)). IsReached x.core.limits.window
    (link_of e.0 e.1 0 e.2 [] []))
    (λ i. (sym f.given i, sym f.acknowledged i, sym u i)) (reached-new x.core.limits.window)

fresh-place : (x y : EndState) → IsFresh x → IsFresh y
    → place_of (good_frames x.core.limits.longest x.arrived) y.sent ≡ Some 0
unfolding good_frames_in
fresh-place x y f g =
    ap (λ t. place_of (good_frames_in t) y.sent)
    (ap (items x.core.limits.longest) f.arrived ∙ items-nothing x.core.limits.longest)
    ∙ place_of-none y.sent

fresh-mail : (x : EndState) → IsFresh x → Mail (face x)
fresh-mail x f =
    record { room = f.room; inbox = (let z = ap length f.inbox in omega (arith, z)) }

fresh-fits : (x y : EndState) → IsFresh x → IsFresh y → Fits (face x) (face y) [] []
fresh-fits x y f g = record {
  sent = 0;
  next = 0;
  forward = [];
  back = [];
  sent' = 0;
  next' = 0;
  forward' = [];
  back' = [];
  small = f.small;
  small' = g.small;
  reached = fresh-link x y f g;
  reached' = fresh-link y x g f;
  stands = not_begun f.starts f.halted f.given (fresh-up x f);
  stands' = not_begun g.starts g.halted g.given (fresh-up y g);
  wire = no_wire;
  wire' = no_wire;
  mail = fresh-mail x f;
  mail' = fresh-mail y g;
  rising = (let z = f.acknowledged in omega (arith, z));
  rising' = (let z = g.acknowledged in omega (arith, z));
}

pub fresh-linked : (x y : EndState) → IsFresh x → IsFresh y → Linked x y
fresh-linked x y f g = record {
  there = 0;
  here = 0;
  there_is = fresh-place y x g f;
  here_is = fresh-place x y f g;
  there_within = omega arith;
  here_within = omega arith;
  related =
      subst
      (λ (e : List WholeFrame × List WholeFrame). Related (face x) (face y) (on_the_way 0 e.0)
      (on_the_way 0 e.1))
      (λ i. (sym f.sent i, sym g.sent i))
      (record {
        fits = fresh-fits x y f g;
        there = starting-nothing (face x) (face y) g.halted;
        here = starting-nothing (face y) (face x) f.halted;
      });
}

holds-fresh : (p : PairState) → IsFresh p.a → IsFresh p.b → Holds p
holds-fresh p f g =
    record {
      small = f.small;
      small' = g.small;
      room = f.room;
      room' = g.room;
      linked = λ h c. fresh-linked p.a p.b f g;
    }

-- ---- new pairs, and a line that is cleared

window-small : (config : Config) → first_refusal config ≡ None → config.window ≤ 255
window-small config e = by (is_size MAX_WINDOW config.window) refl e
  where
    by : (b : Bool) → is_size MAX_WINDOW config.window ≡ b → first_refusal config ≡ None
        → config.window ≤ 255
    by true s e = grind (arith)
    by false s e = absurd (let z = sym (refused s) ∙ e in cc)
      where
        refused : is_size MAX_WINDOW config.window ≡ false → first_refusal config ≡ Some Window
        refused s = rw s refl

room-small : (config : Config) → first_refusal config ≡ None → config.inbox ≤ 255
room-small config e =
    by (is_size MAX_WINDOW config.window) refl (is_size MAX_INBOX config.inbox) refl e
  where
    by : (b : Bool) → is_size MAX_WINDOW config.window ≡ b → (d : Bool)
        → is_size MAX_INBOX config.inbox ≡ d → first_refusal config ≡ None → config.inbox ≤ 255
    by b s true z e = grind (arith)
    by true s false z e = absurd (let y = sym (refused s z) ∙ e in cc)
      where
        refused : is_size MAX_WINDOW config.window ≡ true → is_size MAX_INBOX config.inbox ≡ false
            → first_refusal config ≡ Some Inbox
        refused s z = rw (s, z) refl
    by false s false z e = absurd (let y = sym (refused s) ∙ e in cc)
      where
        refused : is_size MAX_WINDOW config.window ≡ false → first_refusal config ≡ Some Window
        refused s = rw s refl

pub fresh-new : (config : Config) → first_refusal config ≡ None → IsFresh (new_end config)
fresh-new config e = record {
  small = window-small config e;
  room = room-small config e;
  halted = refl;
  inbox = refl;
  given = refl;
  taken = refl;
  sent = refl;
  arrived = refl;
  acknowledged = refl;
  starts = refl;
}

pub holds-new : (first second : Config) → first_refusal first ≡ None → first_refusal second ≡ None
    → Holds (new_pair first second)
holds-new first second f g =
    holds-fresh (new_pair first second) (fresh-new first f) (fresh-new second g)

is-halted : (s : State) → is_halted s ≡ true → s ≡ Halted
is-halted Halted e = refl
is-halted IStart e = absurd (cc)
is-halted AStart e = absurd (cc)
is-halted Running e = absurd (cc)
is-halted Maintenance e = absurd (cc)

is-empty : (inbox : List (List ℕ)) → (length inbox == 0) ≡ true → inbox ≡ []
is-empty [] e = refl
is-empty (m ∷ inbox) e =
    let z : length (m ∷ inbox) ≡ 0 = eqb-true _ _ e in absurd (omega (arith, z))

pub fresh-cleared : (x : EndState) → x.core.limits.window ≤ 255 → x.core.limits.room ≤ 255
    → is_halted x.core.station.state ≡ true
    → (length x.core.station.inbox == 0) ≡ true → IsFresh (cleared x)
fresh-cleared x small room h i = record {
  small = small;
  room = room;
  halted = is-halted x.core.station.state h;
  inbox = is-empty x.core.station.inbox i;
  given = refl;
  taken = refl;
  sent = refl;
  arrived = refl;
  acknowledged = refl;
  starts = refl;
}

pub record MayClear (p : PairState) : Type 0 where
  pub halted : is_halted p.a.core.station.state ≡ true
  pub halted' : is_halted p.b.core.station.state ≡ true
  pub inbox : (length p.a.core.station.inbox == 0) ≡ true
  pub inbox' : (length p.b.core.station.inbox == 0) ≡ true

pub may-clear : (p : PairState) → clear_refusal p ≡ None → MayClear p
may-clear p e = at (is_halted p.a.core.station.state && is_halted p.b.core.station.state) refl
    (length p.a.core.station.inbox == 0 && length p.b.core.station.inbox == 0) refl e
  where
    at : (b : Bool) → (is_halted p.a.core.station.state && is_halted p.b.core.station.state) ≡ b
        → (c : Bool)
        → (length p.a.core.station.inbox == 0 && length p.b.core.station.inbox == 0) ≡ c
        → (if b then (if c then None else Some Untaken) else Some NotHalted) ≡ None → MayClear p
    at true h true i e =
        let hs = both _ _ h in let is = both _ _ i in
        record { halted = hs.0; halted' = hs.1; inbox = is.0; inbox' = is.1 }
    at true h false i e = absurd (cc)
    at false h c i e = absurd (cc)

holds-clear : (o : Option StartRefusal) (p : PairState) → clear_refusal p ≡ o → Holds p
    → Holds (after_clear_by o p)
holds-clear (Some refusal) p e h = h
holds-clear None p e h =
    let m = may-clear p e in
    holds-fresh _ (fresh-cleared p.a h.small h.room m.halted m.inbox)
    (fresh-cleared p.b h.small' h.room' m.halted' m.inbox')

-- ---- each event

pub holds-at : (o : Option End) (e : Event) (p : PairState) → Holds p → Holds (after_event_at o e p)
holds-at (Some A) e p h = record {
  small = subst (λ (l : Limits). l.window ≤ 255) (sym (limits-stay e p.a)) h.small;
  small' = h.small';
  room = subst (λ (l : Limits). l.room ≤ 255) (sym (limits-stay e p.a)) h.room;
  room' = h.room';
  linked = λ honest clean.
      let f = both _ _ honest in
      let c = clean-means _ _ clean in
      linked-event e p.a p.b c.0 f.0
      (h.linked f.1 (clean-is p.a.starts p.b.starts (starts-grow e p.a c.0) c.1));
}
holds-at (Some B) e p h = record {
  small = h.small;
  small' = subst (λ (l : Limits). l.window ≤ 255) (sym (limits-stay e p.b)) h.small';
  room = h.room;
  room' = subst (λ (l : Limits). l.room ≤ 255) (sym (limits-stay e p.b)) h.room';
  linked = λ honest clean.
      let f = both _ _ honest in
      let c = clean-means _ _ clean in
      linked-turned _ _
      (linked-event e p.b p.a c.1 f.0
      (linked-turned _ _
      (h.linked f.1 (clean-is p.a.starts p.b.starts c.0 (starts-grow e p.b c.1)))));
}
holds-at None e p h = holds-clear (clear_refusal p) p refl h

pub holds-after : (e : Event) (p : PairState) → Holds p → Holds (after_event e p)
unfolding after_event
holds-after e p h = holds-at (end_of e) e p h

holds-run : (events : List Event) (p : PairState) → Holds p → Holds (run events p)
unfolding run
holds-run [] p h = h
holds-run (e ∷ events) p h = holds-run events (after_event e p) (holds-after e p h)

-- a choice at an end
pub holds-choice : (end : End) (by_user : Bool) (p : PairState) → Holds p
    → Holds (after_choice end by_user p)
holds-choice A by_user p h = record {
  small = h.small;
  small' = h.small';
  room = h.room;
  room' = h.room';
  linked = λ honest clean. linked-choose by_user p.a p.b (h.linked honest clean);
}
holds-choice B by_user p h = record {
  small = h.small;
  small' = h.small';
  room = h.room;
  room' = h.room';
  linked = λ honest clean.
      linked-turned _ _
      (linked-choose by_user p.b p.a (linked-turned p.a p.b (h.linked honest clean)));
}

pub run-holds : {by_user : Bool} (p : PairState) → IsRunBy by_user p → Holds p
run-holds {by_user} p r =
    subst Holds r.leads
    (holds-run r.events (new_pair_by by_user r.first r.second)
    (holds-choice B by_user _
    (holds-choice A by_user _ (holds-new r.first r.second r.first_made r.second_made))))

-- ---- what follows of it

pub holds-linked : (p : PairState) → Holds p → p.honest ≡ true → is_clean p ≡ true
    → IsLink p.a p.b × IsLink p.b p.a
holds-linked p r h c =
    let f = (r.linked h c).related.fits in (
      record { sent = f.sent; forward = f.forward; back = f.back; is_reached = f.reached },
      record { sent = f.sent'; forward = f.forward'; back = f.back'; is_reached = f.reached' },
    )

pub run-linked : {by_user : Bool} (p : PairState) → IsRunBy by_user p → p.honest ≡ true
    → is_clean p ≡ true → IsLink p.a p.b × IsLink p.b p.a
run-linked p r h c = holds-linked p (run-holds p r) h c

pub delivers : (from to : EndState) → IsLink from to → Delivers from to
delivers from to l =
    record {
      order = reached-in-order _ _ l.is_reached;
      acknowledged = (reached-counts _ _ l.is_reached).0;
    }

pub holds-in-order : (p : PairState) → Holds p → IsInOrder p
holds-in-order p r = record {
  where_clean = λ h c. let linked = holds-linked p r h c in record {
    a_to_b = delivers p.a p.b linked.0;
    b_to_a = delivers p.b p.a linked.1;
  };
}

pub run-in-order : {by_user : Bool} (p : PairState) → IsRunBy by_user p → IsInOrder p
run-in-order p r = holds-in-order p (run-holds p r)

-- ---- more events of a run

pub run-begun : (by_user : Bool) (first second : Config) → first_refusal first ≡ None
    → first_refusal second ≡ None → (p : PairState) → p ≡ new_pair_by by_user first second
    → IsRunBy by_user p
unfolding run
run-begun by_user first second f g p e =
    record {
      first = first;
      second = second;
      first_made = f;
      second_made = g;
      events = [];
      leads = sym e;
    }

pub run-new : (first second : Config) → first_refusal first ≡ None → first_refusal second ≡ None
    → (p : PairState) → p ≡ new_pair first second → IsRun p
run-new first second f g p e = run-begun false first second f g p e

pub run-of : (first second : Config) (events : List Event) → first_refusal first ≡ None
    → first_refusal second ≡ None → IsRun (run events (new_pair first second))
run-of first second events f g =
    record {
      first = first;
      second = second;
      first_made = f;
      second_made = g;
      events = events;
      leads = refl;
    }

pub run-more : {by_user : Bool} (events : List Event) (p q : PairState) → q ≡ run events p
    → IsRunBy by_user p → IsRunBy by_user q
run-more {by_user} events p q e r = record {
  first = r.first;
  second = r.second;
  first_made = r.first_made;
  second_made = r.second_made;
  events = r.events ++ events;
  leads =
      run-append r.events events (new_pair_by by_user r.first r.second)
      ∙ ap (run events) r.leads ∙ sym e;
}

pub run-event : {by_user : Bool} (e : Event) (p q : PairState) → q ≡ after_event e p
    → IsRunBy by_user p → IsRunBy by_user q
run-event e p q a r = run-more (e ∷ []) p q (a ∙ sym (run-one e p)) r

-- after an event that was done, or for which there was no memory
pub stepped : {X E : Type 0} {by_user : Bool} (answer : Result X E) (e : Event) (p q : PairState)
    → (IsOk answer → q ≡ after_event e p) → OnErr answer (q ≡ p) → IsRunBy by_user p
    → IsRunBy by_user q
stepped (Ok x) e p q done same r = run-event e p q (done refl) r
stepped {X} {E} {by_user} (Err f) e p q done same r =
    subst (λ (t : PairState). IsRunBy by_user t) (sym same) r

pub made : {X E : Type 0} (refusal : Option E) (answer : Result X E) (x : X)
    → ((f : E) → refusal ≡ Some f → answer ≡ Err f) → answer ≡ Ok x → refusal ≡ None
made None answer x refused e = refl
made (Some f) answer x refused e = absurd (let z = sym (refused f refl) ∙ e in cc)

-- ---- no restart

none-started : (answer : Result ℕ StartRefusal) → NoRestart (started answer)
none-started (Ok dropped) = tt
none-started (Err refusal) = tt

none-accepted : (answer : Result Seq SendRefusal) → NoRestart (accepted answer)
none-accepted (Ok number) = tt
none-accepted (Err refusal) = tt

none-wrote : (bytes : Option (List ℕ)) → NoRestart (wrote bytes)
none-wrote None = tt
none-wrote (Some bytes) = tt

none-took : (message : Option (List ℕ)) → NoRestart (took message)
none-took None = tt
none-took (Some message) = tt

none-here : (e : Event) (x y : EndState) → x.starts ≤ 1 → is_honest_here e x y.sent ≡ true
    → Linked x y → NoRestart (reply_here e x)
none-here (event.Arrive e bytes) x y once f h = (linked-arrival bytes x y once f h).quiet
none-here (event.Start e) x y once f h = none-started (answer_to_start x.core.station)
none-here (event.Halt e) x y once f h = tt
none-here (event.Send e message) x y once f h =
    none-accepted (answer_to_send x.core.limits x.core.station message)
none-here (event.Poll e) x y once f h = none-wrote (line_bytes x)
none-here (event.Expire e) x y once f h = tt
none-here (event.Take e) x y once f h = none-took (first_message x.core.station.inbox)
none-here event.Clear x y once f h = tt

none-cleared : (refusal : Option StartRefusal) → NoRestart (reply_to_clear refusal)
none-cleared None = tt
none-cleared (Some refusal) = tt

pub none-at : (o : Option End) (e : Event) (p : PairState) → Holds p → is_clean p ≡ true
    → (after_event_at o e p).honest ≡ true → NoRestart (reply_at o e p)
none-at (Some A) e p h c honest =
    let f = both _ _ honest in
    none-here e p.a p.b (clean-means _ _ c).0 f.0 (h.linked f.1 c)
none-at (Some B) e p h c honest =
    let f = both _ _ honest in
    none-here e p.b p.a (clean-means _ _ c).1 f.0 (linked-turned _ _ (h.linked f.1 c))
none-at None e p h c honest = none-cleared (clear_refusal p)

pub no-restart : {by_user : Bool} (e : Event) (p : PairState) → IsRunBy by_user p
    → is_clean p ≡ true → (after_event e p).honest ≡ true → NoRestart (reply_to e p)
unfolding after_event reply_to
no-restart e p r c h = none-at (end_of e) e p (run-holds p r) c h

pub stepped-quiet : {E : Type 0} {by_user : Bool} (answer : Result Reply E) (e : Event)
    (p q : PairState) → (IsOk answer → q ≡ after_event e p)
    → IfOk answer (λ reply. reply ≡ reply_to e p) → IsRunBy by_user p → is_clean p ≡ true
    → q.honest ≡ true → IfOk answer NoRestart
stepped-quiet (Ok reply) e p q done told r c h =
    subst NoRestart (sym told)
    (no-restart e p r c (sym (ap (λ (p : PairState). p.honest) (done refl)) ∙ h))
stepped-quiet (Err f) e p q done told r c h = tt
