-- What holds of each end by itself, whatever comes from the line: its timer, and that an end which
-- begins for the first time since the line was cleared has delivered nothing.
use Rattle.std.proofs.Common.{◌≡◌, ℕ, ◌+◌, ◌≤◌, Bool, true, false, cond, List, [], ◌∷◌, ◌++◌}
use Rattle.std.proofs.Common.{length, drop, Option, Some, None, refl, sym, ap, ◌∙◌, subst, arith}
use Rattle.std.specs.Prelude.{◌&&◌, ◌==◌, is_none, option_to_list, if◌then◌else◌}
use Rattle.std.proofs.lemmas.List.Sums.{sum_by-append}
use Rattle.ddcmp_frame.specs.Reading.{ReadItem}
use Rattle.ddcmp_core.specs.declared.notice.Notice.TheVariants as notice
use Rattle.ddcmp_core.specs.declared.state.State.{State}
use Rattle.ddcmp_core.specs.declared.state.State.TheVariants.{Halted, IStart, AStart, Running}
use Rattle.ddcmp_core.specs.declared.state.State.TheVariants.{Maintenance}
use Rattle.ddcmp_core.specs.declared.state.Timer.TheVariants.{Off}
use Rattle.ddcmp_core.specs.declared.station_core.StartRefusal.TheVariants.{NotHalted, Untaken}
use Rattle.ddcmp_core.specs.Numbers.{next_number, is_within}
use Rattle.ddcmp_core.specs.Store.{first_message}
use Rattle.ddcmp_core.specs.Table.{Limits, StationState, Data, Acked, Naked, Strt, Stack, Maint}
use Rattle.ddcmp_core.specs.Table.{Received, Good, on_by, on, notice_by, notice_of, may_restart}
use Rattle.ddcmp_core.specs.Table.{after_restart, after_halt, after_ack, after_startup, on_data}
use Rattle.ddcmp_core.specs.Table.{may_start, after_start, may_send, after_accept, is_starting}
use Rattle.ddcmp_core.specs.Table.{is_halted, next}
use Rattle.ddcmp_core.specs.Counting.{count_plus}
use Rattle.ddcmp_core.specs.Core.{CoreView, IsTimed}
use Rattle.ddcmp_core.proofs.StartLaws.{next_state, expired_state}
use Rattle.ddcmp_core.proofs.Sent.{sending}
use Rattle.ddcmp_core.proofs.TimedLaws.{timed_on, timed_next, timed_new, timed_started}
use Rattle.ddcmp_core.proofs.TimedLaws.{timed_halted, timed_accepted, timed_taken, timed_expired}
use Rattle.ddcmp_core.proofs.TimedLaws.{timed_chosen}
use Rattle.ddcmp_core.specs.Choosing.{after_choose}
use Rattle.ddcmp_pair.specs.Choices.{Act, Happens, Chooses, after_choice_here, after_act}
use Rattle.ddcmp_proto.specs.Bytes.{received_of, after_item, after_items, notices_of_item}
use Rattle.ddcmp_proto.specs.Bytes.{notices_of_items, items_added}
use Rattle.ddcmp_proto.specs.declared.config.Config.{Config}
use Rattle.ddcmp_io.specs.declared.carrier.End.{End}
use Rattle.ddcmp_io.specs.declared.carrier.End.TheVariants.{A, B}
use Rattle.ddcmp_pair.specs.declared.event.Event.{Event}
use Rattle.ddcmp_pair.specs.declared.event.Event.TheVariants as event
use Rattle.ddcmp_pair.specs.Run.{EndState, PairState, restarts_by, restarts_in, after_event_here}
use Rattle.ddcmp_pair.specs.Run.{after_start_here, after_send_here, after_poll_here}
use Rattle.ddcmp_pair.specs.Run.{after_arrival_here, after_expire_here, after_take_here}
use Rattle.ddcmp_pair.specs.Run.{clear_refusal, cleared, after_clear_by, end_of, after_event_at}
use Rattle.ddcmp_pair.specs.Run.{after_event, run, new_end, new_pair}
use Rattle.ddcmp_pair.proofs.WholeArrivals.{restarts_told, restarts-one}
use Rattle.ddcmp_pair.proofs.Steady.{inbox-sent, expired-inbox}

-- nothing was delivered
abbrev Nothing : List (List ℕ) → List (List ℕ) → Type 0
Nothing taken inbox = (taken ≡ []) × (inbox ≡ [])

-- a station that began so often since the line was cleared
pub record IsAlone (s : StationState) (taken : List (List ℕ)) (starts : ℕ) : Type 0 where
  pub timed : IsTimed s
  pub idle : starts ≡ 0 → (s.state ≡ Halted) × (taken ≡ []) × (s.inbox ≡ [])
  pub young : starts ≤ 1 → is_starting s.state ≡ true → (taken ≡ []) × (s.inbox ≡ [])

-- ---- something comes

module _ (l : Limits) (s : StationState) (taken : List (List ℕ)) (n : ℕ) (h : IsAlone s taken n)
  where
    halted-by : (p : State) → p ≡ Halted → (e : Received) → (on_by p l s e) ≡ s
    halted-by Halted z e = refl
    halted-by IStart z e = absurd (cc z)
    halted-by AStart z e = absurd (cc z)
    halted-by Running z e = absurd (cc z)
    halted-by Maintenance z e = absurd (cc z)

    abbrev Young : State → Received → Type 0
    Young p e =
        n + restarts_told (notice_by p l s e) ≤ 1 → is_starting (on_by p l s e).state ≡ true
        → (taken ≡ []) × ((on_by p l s e).inbox ≡ [])

    same-young : (p : State) → s.state ≡ p → is_starting p ≡ true → n ≤ 1
        → (taken ≡ []) × (s.inbox ≡ [])
    same-young p e f m = h.young m (ap is_starting e ∙ f)

    -- a state that doesn't start
    not-starting : (p : State) → s.state ≡ p → is_starting p ≡ false → is_starting s.state ≡ true
        → (taken ≡ []) × (s.inbox ≡ [])
    not-starting p e f t = let z = ap is_starting e in absurd (cc (z, f, t))

    young-by : (p : State) → s.state ≡ p → (e : Received) → Young p e
    young-by Halted z e m t = not-starting Halted z refl t
    young-by IStart z (Good Strt) m t = same-young IStart z refl (omega (arith, m))
    young-by IStart z (Good Stack) m t = absurd (cc t)
    young-by IStart z e m t = same-young IStart z refl (omega (arith, m))
    young-by AStart z (Good Stack) m t = absurd (cc t)
    young-by AStart z (Good Strt) m t = same-young AStart z refl (omega (arith, m))
    young-by AStart z (Good (Acked resp)) m t = by (resp == 0) t
      where
        by : (b : Bool) → is_starting (cond b (after_startup s) s).state ≡ true
            → (taken ≡ []) × ((cond b (after_startup s) s).inbox ≡ [])
        by true t = absurd (cc t)
        by false t = same-young AStart z refl (omega (arith, m))
    young-by AStart z (Good (Data resp num message)) m t = by (resp == 0) t
      where
        by : (b : Bool)
            → is_starting (cond b (on_data l (after_startup s) resp num message) s).state ≡ true
            → (taken ≡ []) × ((cond b (on_data l (after_startup s) resp num message) s).inbox ≡ [])
        by true t = absurd (cc t)
        by false t = same-young AStart z refl (omega (arith, m))
    young-by AStart z e m t = same-young AStart z refl (omega (arith, m))
    young-by Running z (Good Strt) m t = by (may_restart l s) m t
      where
        by : (b : Bool)
            → n
            + restarts_told
            (Some (cond b (notice.Restarted (length s.out)) notice.PeerRestarted))
            ≤ 1 → is_starting (cond b (after_restart s) (after_halt s)).state ≡ true
            → (taken ≡ []) × ((cond b (after_restart s) (after_halt s)).inbox ≡ [])
        by true m t =
            let none : n ≡ 0 = omega (arith, m) in let off = (h.idle none).0 in absurd (cc (z, off))
        by false m t = absurd (cc t)
    young-by Running z (Good (Naked why resp)) m t = by (is_within s.a resp s.n) t
      where
        by : (b : Bool)
            → is_starting
            (cond b
            (record (after_ack s resp)
            { t = next_number (after_ack s resp).a; rep = false; timer = Off }) s).state ≡ true
            → (taken ≡ [])
            × ((cond b
            (record (after_ack s resp)
            { t = next_number (after_ack s resp).a; rep = false; timer = Off }) s).inbox ≡ [])
        by true t = let y = ap is_starting z in absurd (cc (y, t))
        by false t = not-starting Running z refl t
    young-by Running z (Good (Data resp num message)) m t =
        let y = ap is_starting z in absurd (cc (y, t))
    young-by Running z e m t = let y = ap is_starting z in absurd (cc (y, t))
    young-by Maintenance z (Good (Maint message)) m t =
        let y = ap is_starting z in absurd (cc (y, t))
    young-by Maintenance z e m t = let y = ap is_starting z in absurd (cc (y, t))

    pub alone-on : (e : Received) → IsAlone (on l s e) taken (n + restarts_told (notice_of l s e))
    unfolding on notice_of
    alone-on e = record {
      timed = timed_on l s e h.timed;
      idle = λ z.
          let none : n ≡ 0 = omega (arith, z) in
          let off = h.idle none in
          subst (λ (u : StationState). (u.state ≡ Halted) × (taken ≡ []) × (u.inbox ≡ []))
          (sym (halted-by s.state off.0 e)) off;
      young = λ m t. young-by s.state refl e m t;
    }

-- ---- items come

alone-items : (given : List ReadItem) (k : CoreView) (taken : List (List ℕ)) (n : ℕ)
    → IsAlone k.station taken n
    → IsAlone (after_items given k).station taken (n + restarts_in (notices_of_items given k))
unfolding after_items notices_of_items
alone-items [] k taken n h =
    subst (λ m. IsAlone k.station taken m) (let e : n ≡ n + 0 = omega arith in e) h
alone-items (g ∷ rest) k taken n h =
    let sum =
    sum_by-append restarts_by (notices_of_item g k) (notices_of_items rest (after_item g k)) in
    let one = restarts-one (notice_of k.limits k.station (received_of g)) in
    let i =
    alone-items rest (after_item g k) taken
    (n + restarts_told (notice_of k.limits k.station (received_of g)))
    (alone-on k.limits k.station taken n h (received_of g)) in
    subst (λ m. IsAlone (after_items rest (after_item g k)).station taken m)
    (let e : n + restarts_told (notice_of k.limits k.station (received_of g))
    + restarts_in (notices_of_items rest (after_item g k))
    ≡ n + restarts_in (notices_of_items (g ∷ rest) k) = omega (arith, sum, one) in e) i

-- the number of starts stays at its largest value
alone-counted : (s : StationState) (taken : List (List ℕ)) (n r : ℕ) → IsAlone s taken (n + r)
    → IsAlone s taken (count_plus n r)
alone-counted s taken n r h = record {
  timed = h.timed;
  idle = λ z. h.idle (omega (arith, z));
  young = λ m. h.young (omega (arith, m));
}

-- ---- each event

abbrev pub Alone : EndState → Type 0
Alone x = IsAlone x.core.station x.taken x.starts

alone-start : (x : EndState) → Alone x → Alone (after_start_here x)
alone-start x h = by (may_start x.core.station) refl
  where
    empty : (inbox : List (List ℕ)) → (length inbox == 0) ≡ true → inbox ≡ []
    empty [] e = refl
    empty (m ∷ inbox) e =
        absurd (let z : length (m ∷ inbox) ≡ 0 = grind (arith) in omega (arith, z))

    no-mail : (b d : Bool) → (length x.core.station.inbox == 0) ≡ d
        → is_none (if b then (if d then None else Some Untaken) else Some NotHalted) ≡ true
        → x.core.station.inbox ≡ []
    no-mail true true d e = empty x.core.station.inbox d
    no-mail true false d e = absurd (cc e)
    no-mail false b d e = absurd (cc e)

    by : (b : Bool) → may_start x.core.station ≡ b
        → IsAlone (cond b (after_start x.core.station) x.core.station) x.taken
        (cond b (count_plus x.starts 1) x.starts)
    by false e = h
    by true e =
        let i =
        no-mail (is_halted x.core.station.state) (length x.core.station.inbox == 0) refl e in
        record {
          timed = timed_started x.core.station;
          idle = λ z. absurd (omega (arith, z));
          young = λ m t. ((h.idle (omega (arith, m))).1, i);
        }

alone-send : (message : List ℕ) (x : EndState) → Alone x → Alone (after_send_here message x)
alone-send message x h = by (may_send x.core.limits x.core.station message)
  where
    by : (b : Bool)
        → IsAlone (cond b (after_accept x.core.station message) x.core.station) x.taken x.starts
    by false = h
    by true =
        record {
          timed = timed_accepted x.core.station message h.timed;
          idle = h.idle;
          young = h.young;
        }

alone-poll : (x : EndState) → Alone x → Alone (after_poll_here x)
alone-poll x h =
    let s = x.core.station in
    let e = next_state s in
    let i = inbox-sent s (next s) (sending s) in
    record {
      timed = timed_next s h.timed;
      idle = λ z. (let o = h.idle z in (e ∙ o.0, o.1, i ∙ o.2));
      young = λ m t. (let o = h.young m (sym (ap is_starting e) ∙ t) in (o.0, i ∙ o.1));
    }

alone-expire : (x : EndState) → Alone x → Alone (after_expire_here x)
alone-expire x h =
    let s = x.core.station in
    let e = expired_state s in
    let i = expired-inbox s in
    record {
      timed = timed_expired s h.timed;
      idle = λ z. (let o = h.idle z in (e ∙ o.0, o.1, i ∙ o.2));
      young = λ m t. (let o = h.young m (sym (ap is_starting e) ∙ t) in (o.0, i ∙ o.1));
    }

-- nothing is taken where there is no mail
taken-none : (taken inbox : List (List ℕ)) → (taken ≡ []) × (inbox ≡ [])
    → (taken ++ option_to_list (first_message inbox) ≡ []) × (drop 1 inbox ≡ [])
taken-none taken inbox (e, f) = (λ i. e i ++ option_to_list (first_message (f i)), ap (drop 1) f)

alone-take : (x : EndState) → Alone x → Alone (after_take_here x)
alone-take x h = record {
  timed = timed_taken x.core.station h.timed;
  idle =
      λ z. (let o = h.idle z in
      (let t = taken-none x.taken x.core.station.inbox (o.1, o.2) in (o.0, t.0, t.1)));
  young = λ m t. taken-none x.taken x.core.station.inbox (h.young m t);
}

alone-choice : (by_user : Bool) (x : EndState) → Alone x → Alone (after_choice_here by_user x)
alone-choice by_user x h = by (may_start x.core.station)
  where
    by : (b : Bool)
        → IsAlone (cond b (after_choose by_user x.core.station) x.core.station) x.taken x.starts
    by false = h
    by true = record {
      timed = timed_chosen x.core.station by_user h.timed;
      idle = h.idle;
      young = h.young;
    }

alone-halt : (x : EndState) → Alone x → Alone (after_event_here (event.Halt A) x)
alone-halt x h =
    record {
      timed = timed_halted x.core.station;
      idle = λ z. (let o = h.idle z in (refl, o.1, o.2));
      young = λ m t. absurd (cc t);
    }

alone-arrive : (bytes : List ℕ) (x : EndState) → Alone x → Alone (after_arrival_here bytes x)
alone-arrive bytes x h =
    alone-counted _ x.taken x.starts _
    (alone-items (items_added x.core.limits.longest x.arrived bytes) x.core x.taken x.starts h)

alone-event : (e : Event) (x : EndState) → Alone x → Alone (after_event_here e x)
alone-event (event.Start e) x h = alone-start x h
alone-event (event.Halt e) x h = alone-halt x h
alone-event (event.Send e message) x h = alone-send message x h
alone-event (event.Poll e) x h = alone-poll x h
alone-event (event.Arrive e bytes) x h = alone-arrive bytes x h
alone-event (event.Expire e) x h = alone-expire x h
alone-event (event.Take e) x h = alone-take x h
alone-event event.Clear x h = h

-- ---- a cleared line

alone-cleared : (x : EndState) → is_halted x.core.station.state ≡ true
    → (length x.core.station.inbox == 0) ≡ true → Alone x → Alone (cleared x)
alone-cleared x e i h =
    let halted = is-halted x.core.station.state e in
    let none = empty x.core.station.inbox i in
    record {
      timed = h.timed;
      idle = λ z. (halted, refl, none);
      young = λ m t. (refl, none);
    }
  where
    is-halted : (p : State) → is_halted p ≡ true → p ≡ Halted
    is-halted Halted e = refl
    is-halted IStart e = absurd (cc e)
    is-halted AStart e = absurd (cc e)
    is-halted Running e = absurd (cc e)
    is-halted Maintenance e = absurd (cc e)

    empty : (inbox : List (List ℕ)) → (length inbox == 0) ≡ true → inbox ≡ []
    empty [] e = refl
    empty (m ∷ inbox) e =
        absurd (let z : length (m ∷ inbox) ≡ 0 = grind (arith) in omega (arith, z))

pub record BothAlone (p : PairState) : Type 0 where
  pub a : Alone p.a
  pub b : Alone p.b

alone-clear : (p : PairState) → BothAlone p → BothAlone (after_clear_by (clear_refusal p) p)
alone-clear p h =
    by (is_halted p.a.core.station.state) refl (is_halted p.b.core.station.state) refl
    (length p.a.core.station.inbox == 0) refl (length p.b.core.station.inbox == 0) refl
  where
    by : (ha : Bool) → is_halted p.a.core.station.state ≡ ha → (hb : Bool)
        → is_halted p.b.core.station.state ≡ hb
        → (ia : Bool) → (length p.a.core.station.inbox == 0) ≡ ia → (ib : Bool)
        → (length p.b.core.station.inbox == 0) ≡ ib
        → BothAlone
        (after_clear_by
        (if ha && hb then (if ia && ib then None else Some Untaken) else Some NotHalted) p)
    by true e true f true i true j =
        record { a = alone-cleared p.a e i h.a; b = alone-cleared p.b f j h.b }
    by true e true f true i false j = h
    by true e true f false i b j = h
    by true e false f a i b j = h
    by false e b f a i c j = h

alone-at : (o : Option End) (e : Event) (p : PairState) → BothAlone p
    → BothAlone (after_event_at o e p)
alone-at (Some A) e p h = record { a = alone-event e p.a h.a; b = h.b }
alone-at (Some B) e p h = record { a = h.a; b = alone-event e p.b h.b }
alone-at None e p h = alone-clear p h

pub alone-after : (e : Event) (p : PairState) → BothAlone p → BothAlone (after_event e p)
unfolding after_event
alone-after e p h = alone-at (end_of e) e p h

pub alone-run : (events : List Event) (p : PairState) → BothAlone p → BothAlone (run events p)
unfolding run
alone-run [] p h = h
alone-run (e ∷ events) p h = alone-run events (after_event e p) (alone-after e p h)

pub alone-act : (act : Act) (p : PairState) → BothAlone p → BothAlone (after_act act p)
alone-act (Happens e) p h = alone-after e p h
alone-act (Chooses A by_user) p h = record { a = alone-choice by_user p.a h.a; b = h.b }
alone-act (Chooses B by_user) p h = record { a = h.a; b = alone-choice by_user p.b h.b }

alone-new : (config : Config) → Alone (new_end config)
alone-new config =
    record { timed = timed_new; idle = λ z. (refl, refl, refl); young = λ m t. (refl, refl) }

pub alone-begun : (first second : Config) → BothAlone (new_pair first second)
alone-begun first second = record { a = alone-new first; b = alone-new second }
